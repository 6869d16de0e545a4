-- Laws of `specs/Override.antt`. What is said of an option is said once, over its bit. No contract cites this file. Assumes nothing.
--     has_bit-zero                                 the option number 0 chooses none
--     given-unchosen, given-legal                  an option that is not chosen gives none; one that is gives K, C or none
--     place-next                                   dividing once more brings the next place lowest
--     overriding-chosen, overriding-unchosen       one option more
--     overriding-same                              options that give the same, bit by bit, give the same together
--     overriding-none                              none where no option gives a letter
--     overriding-clean, overriding-keep            C where one gives C; K where one gives K and none gives C
--     row_of-dates                                 A7: no row has C in Modified Dates' column and in another
use mathlib.Core.Path.{◌≡◌, refl, sym, ◌∙◌}
use mathlib.Core.Logic.{⊎_elim}
use mathlib.Core.Bool.{Bool, true, false, not, ◌||◌, or-false}
use mathlib.Core.List.{List, [], ◌∷◌}
use Rattle.std.specs.Prelude.{Some}
use Prim.Native.Nat.{ℕ, zero, suc, ◌+◌, ◌/◌, ◌%◌, ◌^◌, ◌<◌}
use native.Mathlib.Nat.{le_of_suc-le-suc, not-suc-le-zero, eq-or-lt_of_le, zero-div, div-div-eq-div-mul, pow-suc, le_refl, le_step}
use native.Mathlib.Numerals.{add-one}
use lib.Dec.{T, eqb, eqb→eq}
use lib.ListN.{length}
use borrow.Author.Tests.{eq-eqb, ne_eqb, eqb-true}
use Rattle.basis.specs.Choice.{pick, every, among}
use Rattle.basis.specs.Bytes.{has_bit}
use Rattle.table.specs.Rows.{table}
use Rattle.table.specs.Table.{no_letter, K, C, overrides, letter_of, columns, row_of, legal}
use Rattle.table.specs.Override.{option_count, modified_dates, given, stronger, overriding}
use Rattle.table.proofs.Truth.{every-at, every-among}
use Rattle.table.proofs.TableLaws.{row_of-every, columns-at, legal-letter}

-- ---- has_bit

-- the option number 0 chooses none
pub has_bit-zero : (bit : ℕ) → has_bit 0 bit ≡ false
has_bit-zero bit = rw (zero-div (2 ^ bit))

-- ---- given

pub given-unchosen : (options row bit : ℕ) → has_bit options bit ≡ false → given options row bit ≡ no_letter
given-unchosen options row bit e = rw e

pub given-legal : (options row bit : ℕ) → T (legal row) → bit < option_count → T (among (given options row bit) overrides)
unfolding among
given-legal options row bit t h = go (has_bit options bit)
  where
    go : (b : Bool) → T (among (pick b (letter_of row bit) no_letter) overrides)
    go true = legal-letter row bit t (le_step h)
    go false = tt

-- ---- stronger

stronger-clean : (letter : ℕ) → stronger letter C ≡ C
stronger-clean letter = go (eqb letter C)
  where
    go : (b : Bool) → pick b C C ≡ C
    go true = refl
    go false = refl

stronger-none : (letter : ℕ) → stronger letter no_letter ≡ letter
stronger-none letter = go (eqb letter C) refl
  where
    go : (b : Bool) → eqb letter C ≡ b → pick b C letter ≡ letter
    go true e = sym (eqb-true letter C e)
    go false e = refl

-- a letter that is K or none
abbrev mild : List ℕ
mild = no_letter ∷ K ∷ []

mild-is : (letter : ℕ) → T (among letter overrides) → (letter ≡ C → ⊥) → T (among letter mild)
unfolding every among
mild-is letter t n = rw (ne_eqb letter C n) at (every-among (λ letter. eqb letter C || among letter mild) overrides tt letter t)

stronger-mild : (letter next : ℕ) → T (among letter mild) → T (among next mild) → T (among (stronger letter next) mild)
unfolding every among
stronger-mild letter next l n =
    every-among (λ next. among (stronger letter next) mild) mild
    (every-among (λ letter. every (λ next. among (stronger letter next) mild) mild) mild tt letter l) next n

stronger-keep-left : (next : ℕ) → T (among next mild) → stronger K next ≡ K
unfolding every
stronger-keep-left next n = eqb→eq _ _ (every-among (λ next. eqb (stronger K next) K) mild tt next n)

stronger-keep-right : (letter : ℕ) → T (among letter mild) → stronger letter K ≡ K
unfolding every
stronger-keep-right letter l = eqb→eq _ _ (every-among (λ letter. eqb (stronger letter K) K) mild tt letter l)

-- ---- overriding

-- one option more: its bit and its letter are lowest once those before it are divided off
pub place-next : (n base bit : ℕ) → n / base ^ bit / base ≡ n / base ^ (bit + 1)
place-next n base bit = rw (add-one, pow-suc) (div-div-eq-div-mul n (base ^ bit) base)

-- .. and then it is taken in, or passed over where it is not chosen
module _ (options row bit : ℕ) {letter left letters : ℕ}
    (l : left ≡ options / 2 ^ bit) (m : letters ≡ row / 16 ^ bit) (e : letter ≡ overriding options row bit) where
  pub overriding-chosen : left % 2 ≡ 1 → stronger letter (letters % 16) ≡ overriding options row (bit + 1)
  unfolding overriding
  overriding-chosen h = rw (add-one, m, e, ← l, eq-eqb _ _ h)

  pub overriding-unchosen : (left % 2 ≡ 1 → ⊥) → letter ≡ overriding options row (bit + 1)
  unfolding overriding
  overriding-unchosen h = rw (add-one, ← l, ne_eqb _ _ h) (e ∙ sym (stronger-none (overriding options row bit)))

pub overriding-same : (o p r s n : ℕ) → ((bit : ℕ) → bit < n → given o r bit ≡ given p s bit) → overriding o r n ≡ overriding p s n
unfolding overriding
overriding-same o p r s zero e = refl
overriding-same o p r s (suc n) e =
    rw (overriding-same o p r s n (λ bit l. e bit (le_step l)), e n (le_refl (suc n)))

module _ (options row : ℕ) where
  pub overriding-none : (n : ℕ) → ((bit : ℕ) → bit < n → given options row bit ≡ no_letter) → overriding options row n ≡ no_letter
  unfolding overriding
  overriding-none zero e = refl
  overriding-none (suc n) e = rw (overriding-none n (λ bit l. e bit (le_step l)), e n (le_refl (suc n)))

  -- C wins, whichever option gives it
  pub overriding-clean : (n bit : ℕ) → bit < n → given options row bit ≡ C → overriding options row n ≡ C
  unfolding overriding
  overriding-clean zero bit l e = absurd (not-suc-le-zero l)
  overriding-clean (suc n) bit l e =
      ⊎_elim
      (λ m. let f : given options row n ≡ C = rw (← m) e in rw f (stronger-clean (overriding options row n)))
      (λ m. rw (overriding-clean n bit m e))
      (eq-or-lt_of_le (le_of_suc-le-suc l))

  overriding-mild : (n : ℕ) → ((bit : ℕ) → bit < n → T (among (given options row bit) mild)) → T (among (overriding options row n) mild)
  unfolding overriding among
  overriding-mild zero m = tt
  overriding-mild (suc n) m =
      stronger-mild (overriding options row n) (given options row n) (overriding-mild n (λ bit l. m bit (le_step l))) (m n (le_refl (suc n)))

  mild-keep : (n bit : ℕ) → bit < n → given options row bit ≡ K
      → ((other : ℕ) → other < n → T (among (given options row other) mild)) → overriding options row n ≡ K
  unfolding overriding
  mild-keep zero bit l e m = absurd (not-suc-le-zero l)
  mild-keep (suc n) bit l e m =
      ⊎_elim
      (λ q.
      let f : given options row n ≡ K = rw (← q) e in
      rw f (stronger-keep-right (overriding options row n) (overriding-mild n (λ other k. m other (le_step k)))))
      (λ q. rw (mild-keep n bit q e (λ other k. m other (le_step k))) (stronger-keep-left (given options row n) (m n (le_refl (suc n)))))
      (eq-or-lt_of_le (le_of_suc-le-suc l))

  -- K stands where no option gives C
  pub overriding-keep : (bit : ℕ) → T (legal row) → bit < option_count → given options row bit ≡ K
      → ((other : ℕ) → other < option_count → given options row other ≡ C → ⊥) → overriding options row option_count ≡ K
  overriding-keep bit t l e n =
      mild-keep option_count bit l e (λ other k. mild-is (given options row other) (given-legal options row other t k) (n other k))

-- ---- cleans_dates

-- A7: beside Modified Dates' C the other columns have none
abbrev alone : ℕ → Bool
alone row = not (eqb (letter_of row modified_dates) C) || every (λ bit. eqb bit modified_dates || not (eqb (letter_of row bit) C)) columns

alone-at : (row bit : ℕ) → bit < length columns → T (alone row) → letter_of row modified_dates ≡ C → letter_of row bit ≡ C → bit ≡ modified_dates
alone-at row bit h t e f =
    let other : (ℕ → Bool) = λ bit. eqb bit modified_dates || not (eqb (letter_of row bit) C) in
    let all : T (every other columns) = rw (eq-eqb (letter_of row modified_dates) C e) at t in
    let here : T (other bit) = rw (columns-at bit h) at (every-at other columns all bit h) in
    eqb→eq bit modified_dates (rw (eq-eqb (letter_of row bit) C f, or-false (eqb bit modified_dates)) at here)

-- THE TEST for A7, computed over the whole table
every-alone : T (every alone table)
unfolding table every
every-alone = tt

pub row_of-dates : (tag row bit : ℕ) → bit < length columns → row_of tag ≡ Some row
    → letter_of row modified_dates ≡ C → letter_of row bit ≡ C → bit ≡ modified_dates
row_of-dates tag row bit h is e f = alone-at row bit h (row_of-every alone every-alone tag row is).1 e f
