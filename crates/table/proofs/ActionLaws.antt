-- Laws of `specs/Action.antt`. What is said of an option is said once, over its bit. No contract cites this file. Assumes nothing.
--     letter_for-action_for                              a letter's action has that letter
--     on_row-dates, on_row-letter                        one for each branch of `on_row`
--     on_row-clean, on_row-keep, on_row-basic            8th sentence: C wins; K overrides; else the basic action
--     on_row-same, on_row-unchosen                       rows with the same basic action and the same letters for the chosen options order the same
--     action_of-ruled, action_of-row, action_of-found    a rule decides; else the row; and where there is a row, the row
--     action_of-basic                                    with no option chosen a row's basic action
--     action_of-rowless                                  K where no rule and no row speaks
--     reserved-removed, reserved-kept                    the four reserved tags are X at the top level and K in an item, under every option number
--     action_of-level                                    any other tag has the same action at every level
--     action_of-chosen                                   the action hangs on which options are chosen, and on no more of the option number
--     action_of-dates                                    without Modified Dates no action is its C
use mathlib.Core.Path.{◌≡◌, refl, sym, ap, ◌∙◌}
use mathlib.Core.Bool.{Bool, true, false, false≢true}
use mathlib.Core.List.{[], ◌∷◌}
use Rattle.std.specs.Prelude.{Option, None, Some}
use Prim.Native.Nat.{ℕ, ◌<◌}
use lib.Dec.{T, eqb, eqb→eq, lit<}
use borrow.Author.Tests.{ne_eqb}
use Rattle.basis.specs.Choice.{pick, fork, every, among}
use Rattle.basis.specs.Bytes.{has_bit}
use Rattle.table.specs.Table.{no_letter, X, Z, U, K, C, D, basic_of, letter_of, row_of, legal}
use Rattle.table.specs.Rules.{reserved, ruled}
use Rattle.table.specs.Override.{option_count, modified_dates, given, over, overriding, cleans_dates}
use Rattle.table.specs.Action.{letter_for, action_for, on_row, ordered, action_of}
use Rattle.table.specs.declared.Action.{Action}
use Rattle.table.specs.declared.Action.TheVariants.{Remove, Keep, Empty, Dummy, Rename, Clean, CleanDates}
use Rattle.table.proofs.Truth.{every-among, pick-left}
use Rattle.table.proofs.RulesLaws.{ruled-reserved, row_of-unruled, reserved-free}
use Rattle.table.proofs.OverrideLaws.{has_bit-zero, given-unchosen, overriding-same, overriding-none, overriding-clean, overriding-keep}

-- ---- letter_for, action_for

pub letter_for-action_for : (letter : ℕ) → T (among letter (X ∷ Z ∷ D ∷ U ∷ K ∷ C ∷ [])) → letter_for (action_for letter) ≡ letter
unfolding action_for every
letter_for-action_for letter t =
    eqb→eq _ _ (every-among (λ letter. eqb (letter_for (action_for letter)) letter) (X ∷ Z ∷ D ∷ U ∷ K ∷ C ∷ []) tt letter t)

abbrev is_clean_dates : Action → Bool
is_clean_dates Remove = false
is_clean_dates Keep = false
is_clean_dates Empty = false
is_clean_dates Dummy = false
is_clean_dates Rename = false
is_clean_dates Clean = false
is_clean_dates CleanDates = true

pick-is : {A : Type 0} (f : A → Bool) (b : Bool) (x y : A) → f x ≡ false → f y ≡ false → f (pick b x y) ≡ false
pick-is f true x y e g = e
pick-is f false x y e g = g

fork-is : {A : Type 0} (f : A → Bool) (b : Bool) (x y : Unit {0} → A) → f (x tt) ≡ false → f (y tt) ≡ false → f (fork b x y) ≡ false
fork-is f true x y e g = e
fork-is f false x y e g = g

action_for-plain : (letter : ℕ) → is_clean_dates (action_for letter) ≡ false
unfolding action_for
action_for-plain letter =
    pick-is is_clean_dates (eqb letter X) _ _ refl
    (pick-is is_clean_dates (eqb letter Z) _ _ refl
    (pick-is is_clean_dates (eqb letter D) _ _ refl
    (pick-is is_clean_dates (eqb letter U) _ _ refl
    (pick-is is_clean_dates (eqb letter C) _ _ refl refl))))

-- ---- on_row

pub on_row-same : (o p r s : ℕ) → basic_of r ≡ basic_of s
    → ((bit : ℕ) → bit < option_count → given o r bit ≡ given p s bit) → on_row o r ≡ on_row p s
unfolding on_row
on_row-same o p r s b g = rw (b, g modified_dates (lit< tt), overriding-same o p r s option_count g)

pub on_row-unchosen : (options r s : ℕ) → basic_of r ≡ basic_of s
    → ((bit : ℕ) → bit < option_count → has_bit options bit ≡ true → letter_of r bit ≡ letter_of s bit) → on_row options r ≡ on_row options s
on_row-unchosen options r s b g =
    on_row-same options options r s b (λ bit l. pick-left (has_bit options bit) (letter_of r bit) (letter_of s bit) no_letter (g bit l))

on_row-plain : (options row : ℕ) → has_bit options modified_dates ≡ false → is_clean_dates (on_row options row) ≡ false
unfolding on_row
on_row-plain options row e = rw e (action_for-plain _)

module _ (options row : ℕ) where
  pub on_row-dates : given options row modified_dates ≡ C → on_row options row ≡ CleanDates
  unfolding on_row
  on_row-dates e = rw e

  pub on_row-letter : cleans_dates options row ≡ false → {letter : ℕ} → letter ≡ overriding options row option_count
      → on_row options row ≡ action_for (over (basic_of row) letter)
  unfolding on_row
  on_row-letter e f = rw (e, f)

  pub on_row-clean : (bit : ℕ) → bit < option_count → given options row bit ≡ C → letter_for (on_row options row) ≡ C
  unfolding on_row action_for
  on_row-clean bit l e = rw (overriding-clean options row option_count bit l e) (go (cleans_dates options row))
    where
      go : (b : Bool) → letter_for (pick b CleanDates Clean) ≡ C
      go true = refl
      go false = refl

  pub on_row-basic : ((bit : ℕ) → bit < option_count → given options row bit ≡ no_letter) → on_row options row ≡ action_for (basic_of row)
  unfolding on_row
  on_row-basic e = rw (e modified_dates (lit< tt), overriding-none options row option_count e)

  pub on_row-keep : (bit : ℕ) → T (legal row) → bit < option_count → given options row bit ≡ K
      → ((other : ℕ) → other < option_count → given options row other ≡ C → ⊥) → on_row options row ≡ Keep
  unfolding on_row action_for
  on_row-keep bit t l e n =
      rw (ne_eqb (given options row modified_dates) C (n modified_dates (lit< tt)), overriding-keep options row bit t l e n)

-- ---- ordered

ordered-same : (o p : ℕ) → ((bit : ℕ) → bit < option_count → has_bit o bit ≡ has_bit p bit) → (row : Option ℕ) → ordered o row ≡ ordered p row
ordered-same o p e None = refl
ordered-same o p e (Some row) =
    on_row-same o p row row refl (λ bit l. ap (λ (b : Bool). pick b (letter_of row bit) no_letter) (e bit l))

ordered-plain : (options : ℕ) → has_bit options modified_dates ≡ false → (row : Option ℕ) → is_clean_dates (ordered options row) ≡ false
ordered-plain options e None = refl
ordered-plain options e (Some row) = on_row-plain options row e

-- ---- action_of

module _ (options : ℕ) (top : Bool) (tag : ℕ) where
  pub action_of-ruled : ruled top tag ≡ true → action_of options top tag ≡ Remove
  unfolding action_of
  action_of-ruled e = rw e

  pub action_of-row : ruled top tag ≡ false → action_of options top tag ≡ ordered options (row_of tag)
  unfolding action_of
  action_of-row e = rw e

  -- K where no rule and no row speaks
  pub action_of-rowless : ruled top tag ≡ false → row_of tag ≡ None → action_of options top tag ≡ Keep
  action_of-rowless e n = action_of-row e ∙ ap (ordered options) n

  -- where there is a row, it decides: no rule speaks of its tag
  pub action_of-found : (row : ℕ) → row_of tag ≡ Some row → action_of options top tag ≡ on_row options row
  action_of-found row is = action_of-row (row_of-unruled top tag row is) ∙ ap (ordered options) is

pub action_of-basic : (top : Bool) (tag row : ℕ) → row_of tag ≡ Some row → action_of 0 top tag ≡ action_for (basic_of row)
action_of-basic top tag row is =
    action_of-found 0 top tag row is ∙ on_row-basic 0 row (λ bit _. given-unchosen 0 row bit (has_bit-zero bit))

pub reserved-removed : (options tag : ℕ) → among tag reserved ≡ true → action_of options true tag ≡ Remove
reserved-removed options tag e = action_of-ruled options true tag (ruled-reserved tag e)

pub reserved-kept : (options tag : ℕ) → among tag reserved ≡ true → action_of options false tag ≡ Keep
reserved-kept options tag e = action_of-rowless options false tag (reserved-free tag e).0 (reserved-free tag e).1

-- any other tag has the same action at every level
pub action_of-level : (options : ℕ) (top : Bool) (tag : ℕ) → among tag reserved ≡ false → action_of options top tag ≡ action_of options false tag
unfolding action_of ruled
action_of-level options true tag e = rw e
action_of-level options false tag e = refl

-- an option that is not chosen does not matter
pub action_of-chosen : (o p : ℕ) (top : Bool) (tag : ℕ) → ((bit : ℕ) → bit < option_count → has_bit o bit ≡ has_bit p bit)
    → action_of o top tag ≡ action_of p top tag
unfolding action_of
action_of-chosen o p top tag e = ap (λ (a : Action). fork (ruled top tag) (λ _. Remove) (λ _. a)) (ordered-same o p e (row_of tag))

-- without Modified Dates no action is its C
pub action_of-dates : (options : ℕ) (top : Bool) (tag : ℕ) → has_bit options modified_dates ≡ false → action_of options top tag ≡ CleanDates → ⊥
unfolding action_of
action_of-dates options top tag e f =
    let plain = fork-is is_clean_dates (ruled top tag) (λ _. Remove) (λ _. ordered options (row_of tag)) refl (ordered-plain options e (row_of tag)) in
    false≢true (sym plain ∙ ap is_clean_dates f)
