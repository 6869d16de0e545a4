-- Laws of `specs/Text.antt`. No contract cites this file. Assumes nothing.
--     two-text, text-two      two digits and the number that they spell, both ways
--     date-text, text-date    eight digits and the date that they spell, both ways
--     NoDigit c, text-free    the byte c is no digit; it is in no date's text
--     right-long              a piece of the right length has room for a date
--     moved-date-is           what `moved_date` says; `is-moved-date` the other way
--     length-shifted_piece    a shifted piece is as long as it was
--     shifted_piece-free      it has no byte that it had not, but digits; `shifted_piece-tight`: in a DA value it has digits alone
--     shifted_piece-back      a shift and the opposite one give the piece again
--     shifted_piece-zero      a shift by 0 leaves it as it is
use mathlib.Core.Path.{◌≡◌, refl, sym, ap, ◌∙◌, subst}
use mathlib.Core.Bool.{Bool, true, false, ◌&&◌, false≢true}
use Rattle.std.specs.Prelude.{Option, None, Some}
use Rattle.std.proofs.lemmas.Option.{none-some, same_Some}
use mathlib.Core.List.{List, ◌∷◌, ◌++◌}
use Prim.Native.Nat.{ℕ, ◌+◌, ◌-◌, ◌*◌, ◌/◌, ◌%◌, ◌≤◌, ◌<◌}
use native.Mathlib.Omega.{arith}
use lib.Dec.{leb}
use lib.IntN.{ℤ, pos, neg_ℤ}
use lib.ListN.{length, drop, get_or, length-append, length-drop, drop_of_length-le}
use lib.Seq.{drop-cons}
use borrow.Author.Tests.{le-leb, leb-true, eqb-true}
use Rattle.basis.specs.Choice.{pick, fork, then, is_some}
use Rattle.basis.specs.Text.{digit0, digit9}
use Rattle.basis.proofs.PiecesLaws.{Free, free-append, free-drop}
use Rattle.calendar.specs.Dates.{moved}
use Rattle.calendar.specs.Text.{date_length, two_digits, two_at, date_at, two_text, date_text, right_length, moved_date, with_date, shifted_piece}
use Rattle.calendar.specs.declared.Date.{Date}
use Rattle.calendar.proofs.Closed.{month-short}
use Rattle.calendar.proofs.DatesLaws.{Real, real-month, moved-is, moved-back, moved-zero}

-- ---- two_digits

pub two-text : (n : ℕ) → n ≤ 99 → two_digits (digit0 + n / 10 % 10) (digit0 + n % 10) ≡ Some n
unfolding two_digits
two-text n h =
    let a : digit0 + n / 10 % 10 ≤ digit9 = omega arith in
    let b : digit0 + n % 10 ≤ digit9 = omega arith in
    let e : 10 * (digit0 + n / 10 % 10 - digit0) + (digit0 + n % 10 - digit0) ≡ n = omega arith in
    rw (le-leb digit0 (digit0 + n / 10 % 10) (omega arith), le-leb _ _ a, le-leb digit0 (digit0 + n % 10) (omega arith), le-leb _ _ b) (ap Some e)

pub record Spells (x y n : ℕ) : Type 0 where
  pub small : n ≤ 99
  pub tens : digit0 + n / 10 % 10 ≡ x
  pub units : digit0 + n % 10 ≡ y

pub text-two : (x y n : ℕ) → two_digits x y ≡ Some n → Spells x y n
unfolding two_digits
text-two x y n e = go (leb digit0 x) (leb x digit9) (leb digit0 y) (leb y digit9) refl refl refl refl e
  where
    is : 48 ≤ x → x ≤ 57 → 48 ≤ y → y ≤ 57 → 10 * (x - 48) + (y - 48) ≡ n → Spells x y n
    is a b c d e = record { small = omega arith; tens = omega arith; units = omega arith }

    go : (a b c d : Bool) → leb digit0 x ≡ a → leb x digit9 ≡ b → leb digit0 y ≡ c → leb y digit9 ≡ d
        → ◌≡◌ {A = Option ℕ} (pick (a && b && (c && d)) (Some (10 * (x - digit0) + (y - digit0))) None) (Some n) → Spells x y n
    go true true true true a b c d e = is (leb-true _ _ a) (leb-true _ _ b) (leb-true _ _ c) (leb-true _ _ d) (same_Some _ n e)
    go true true true false a b c d e = absurd (none-some n e)
    go true true false q a b c d e = absurd (none-some n e)
    go true false p q a b c d e = absurd (none-some n e)
    go false o p q a b c d e = absurd (none-some n e)

-- ---- date_at and date_text

pub date-text : (d : Date) (rest : List ℕ) → Real d → date_at (date_text d ++ rest) 0 ≡ Some d
unfolding date_at
date-text d rest r =
    let m = real-month d r in
    let y : 100 * (d.year / 100) + d.year % 100 ≡ d.year = omega arith in
    rw (
      two-text (d.year / 100) (omega (arith, r.yₙ)),
      two-text (d.year % 100) (omega arith),
      two-text d.month (omega (arith, m.1)),
      two-text d.day (omega (arith, r.dₙ, month-short d.year d.month m.1)),
    )
    (λ j. Some (record { year = y j; month = d.month; day = d.day }))

record Digits (u : List ℕ) (d : Date) : Type 0 where
  pub c : ℕ
  pub y : ℕ
  pub century : Spells (get_or u 0 0) (get_or u 1 0) c
  pub years : Spells (get_or u 2 0) (get_or u 3 0) y
  pub months : Spells (get_or u 4 0) (get_or u 5 0) d.month
  pub days : Spells (get_or u 6 0) (get_or u 7 0) d.day
  pub year-is : 100 * c + y ≡ d.year

digits : (u : List ℕ) (d : Date) → date_at u 0 ≡ Some d → Digits u d
unfolding date_at
digits u x e = go (two_at u 0 1) (two_at u 2 3) (two_at u 4 5) (two_at u 6 7) refl refl refl refl e
  where
    go : (c y m d : Option ℕ) → two_at u 0 1 ≡ c → two_at u 2 3 ≡ y → two_at u 4 5 ≡ m → two_at u 6 7 ≡ d
        → then c (λ c. then y (λ y. then m (λ m. then d (λ d. Some (record { year = 100 * c + y; month = m; day = d }))))) ≡ Some x → Digits u x
    go (Some c) (Some y) (Some m) (Some d) f g h i e =
        let q : record { year = 100 * c + y; month = m; day = d } ≡ x = same_Some _ x e in
        record {
          c = c;
          y = y;
          century = text-two _ _ c f;
          years = text-two _ _ y g;
          months = text-two _ _ _ (h ∙ ap (λ z. Some z.month) q);
          days = text-two _ _ _ (i ∙ ap (λ z. Some z.day) q);
          year-is = ap (λ z. z.year) q;
        }
    go (Some c) (Some y) (Some m) None f g h i e = absurd (none-some x e)
    go (Some c) (Some y) None d f g h i e = absurd (none-some x e)
    go (Some c) None m d f g h i e = absurd (none-some x e)
    go None y m d f g h i e = absurd (none-some x e)

-- a list of eight or more by its first eight
eight : (u : List ℕ) → date_length ≤ length u
    → get_or u 0 0 ∷ get_or u 1 0 ∷ get_or u 2 0 ∷ get_or u 3 0 ∷ get_or u 4 0 ∷ get_or u 5 0 ∷ get_or u 6 0 ∷ get_or u 7 0 ∷ drop date_length u ≡ u
eight u h =
    rw (
      ← drop-cons u 7 0 (omega arith),
      ← drop-cons u 6 0 (omega arith),
      ← drop-cons u 5 0 (omega arith),
      ← drop-cons u 4 0 (omega arith),
      ← drop-cons u 3 0 (omega arith),
      ← drop-cons u 2 0 (omega arith),
      ← drop-cons u 1 0 (omega arith),
      ← drop-cons u 0 0 (omega arith),
    )
    refl

pub text-date : (u : List ℕ) (d : Date) → date_length ≤ length u → date_at u 0 ≡ Some d → date_text d ++ drop date_length u ≡ u
text-date u d h e =
    let s : Digits u d = digits u d e in
    let c : d.year / 100 ≡ s.c = omega (arith, s.year-is, s.years.small) in
    let y : d.year % 100 ≡ s.y = omega (arith, s.year-is, s.years.small) in
    rw (c, y, s.century.tens, s.century.units, s.years.tens, s.years.units, s.months.tens, s.months.units, s.days.tens, s.days.units)
    (eight u h)

-- a byte that is no digit
abbrev pub NoDigit : ℕ → Type 0
NoDigit c = (n : ℕ) → n < 10 → digit0 + n ≡ c → ⊥

two-free : (c n : ℕ) → NoDigit c → Free c (two_text n)
two-free c n h = (h (n / 10 % 10) (omega arith), (h (n % 10) (omega arith), tt))

text-free : (c : ℕ) (d : Date) → NoDigit c → Free c (date_text d)
text-free c d h =
    let y₁ = two_text (d.year / 100) in
    let y₂ = two_text (d.year % 100) in
    let m = two_text d.month in
    free-append c (y₁ ++ y₂ ++ m) (two_text d.day)
    (free-append c (y₁ ++ y₂) m (free-append c y₁ y₂ (two-free c (d.year / 100) h) (two-free c (d.year % 100) h)) (two-free c d.month h))
    (two-free c d.day h)

-- ---- moved_date

pub right-long : (da : Bool) (n : ℕ) → right_length da n ≡ true → date_length ≤ n
right-long true n e = omega (arith, eqb-true n date_length e)
right-long false n e = leb-true date_length n e

pub record IsMovedDate (da : Bool) (days : ℤ) (u : List ℕ) (e : Date) : Type 0 where
  pub right : right_length da (length u) ≡ true
  pub d : Date
  pub read : date_at u 0 ≡ Some d
  pub moves : moved d days ≡ Some e

pub moved-date-is : (da : Bool) (days : ℤ) (u : List ℕ) (e : Date) → moved_date da days u ≡ Some e → IsMovedDate da days u e
unfolding moved_date
moved-date-is da days u e f = go (right_length da (length u)) (date_at u 0) refl refl f
  where
    go : (b : Bool) (d : Option Date) → right_length da (length u) ≡ b → date_at u 0 ≡ d
        → fork b (λ _. then d (λ d. moved d days)) (λ _. None) ≡ Some e → IsMovedDate da days u e
    go true (Some d) g h f = record { right = g; d = d; read = h; moves = f }
    go true None g h f = absurd (none-some e f)
    go false d g h f = absurd (none-some e f)

pub is-moved-date : (da : Bool) (days : ℤ) (u : List ℕ) (e : Date) → IsMovedDate da days u e → moved_date da days u ≡ Some e
unfolding moved_date
is-moved-date da days u e m = rw (m.right, m.read) m.moves

-- ---- shifted_piece

-- a piece with another date, where it has one
length-with : (u : List ℕ) (e : Date) → date_length ≤ length u → length (date_text e ++ drop date_length u) ≡ length u
length-with u e h = omega (arith, length-append (date_text e) (drop date_length u), length-drop date_length u)

pub length-shifted_piece : (da : Bool) (days : ℤ) (u : List ℕ) → length (shifted_piece da days u) ≡ length u
length-shifted_piece da days u = go (moved_date da days u) refl
  where
    go : (o : Option Date) → moved_date da days u ≡ o → length (with_date u o) ≡ length u
    go None e = refl
    go (Some d) e = length-with u d (right-long da (length u) (moved-date-is da days u d e).right)

pub shifted_piece-free : (c : ℕ) (da : Bool) (days : ℤ) (u : List ℕ) → NoDigit c → Free c u → Free c (shifted_piece da days u)
shifted_piece-free c da days u h f = go (moved_date da days u)
  where
    go : (o : Option Date) → Free c (with_date u o)
    go None = f
    go (Some d) = free-append c (date_text d) (drop date_length u) (text-free c d h) (free-drop c date_length u f)

-- the date of a DA value is the whole piece
pub shifted_piece-tight : (c : ℕ) (days : ℤ) (u : List ℕ) → NoDigit c → is_some (moved_date true days u) ≡ true → Free c (shifted_piece true days u)
shifted_piece-tight c days u h f = go (moved_date true days u) refl f
  where
    go : (o : Option Date) → moved_date true days u ≡ o → is_some o ≡ true → Free c (with_date u o)
    go None e g = absurd (false≢true g)
    go (Some d) e g =
        let n : length u ≡ date_length = eqb-true _ _ (moved-date-is true days u d e).right in
        free-append c (date_text d) (drop date_length u) (text-free c d h) (subst (Free c) (sym (drop_of_length-le u {i = date_length} (omega arith))) tt)

pub record Again (da : Bool) (days : ℤ) (w u : List ℕ) : Type 0 where
  pub moves : is_some (moved_date da days w) ≡ true
  pub gives : shifted_piece da days w ≡ u

again : (da : Bool) (days : ℤ) (w u : List ℕ) (d : Date) → IsMovedDate da days w d → date_text d ++ drop date_length w ≡ u → Again da days w u
again da days w u d m e =
    let f : moved_date da days w ≡ Some d = is-moved-date da days w d m in
    record { moves = ap is_some f; gives = ap (with_date w) f ∙ e }

pub shifted_piece-back : (da : Bool) (days : ℤ) (u : List ℕ) → is_some (moved_date da days u) ≡ true → Again da (neg_ℤ days) (shifted_piece da days u) u
shifted_piece-back da days u f = go (moved_date da days u) refl f
  where
    go : (o : Option Date) → moved_date da days u ≡ o → is_some o ≡ true → Again da (neg_ℤ days) (with_date u o) u
    go None e g = absurd (false≢true g)
    go (Some y) e g =
        let m : IsMovedDate da days u y = moved-date-is da days u y e in
        let l : date_length ≤ length u = right-long da (length u) m.right in
        again da (neg_ℤ days) (date_text y ++ drop date_length u) u m.d
        (record {
          right = ap (right_length da) (length-with u y l) ∙ m.right;
          d = y;
          read = date-text y (drop date_length u) (moved-is m.d days y m.moves).to;
          moves = moved-back m.d days y m.moves;
        })
        (text-date u m.d l m.read)

pub shifted_piece-zero : (da : Bool) (days : ℤ) (u : List ℕ) → is_some (moved_date da days u) ≡ true → Again da (pos 0) u u
shifted_piece-zero da days u f = go (moved_date da days u) refl f
  where
    go : (o : Option Date) → moved_date da days u ≡ o → is_some o ≡ true → Again da (pos 0) u u
    go None e g = absurd (false≢true g)
    go (Some y) e g =
        let m : IsMovedDate da days u y = moved-date-is da days u y e in
        again da (pos 0) u u m.d
        (record { right = m.right; d = m.d; read = m.read; moves = moved-zero m.d (moved-is m.d days y m.moves).from })
        (text-date u m.d (right-long da (length u) m.right) m.read)
