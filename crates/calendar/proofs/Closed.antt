-- The days before a year and before a month by formulas, as the code has them. No contract cites this file. Assumes nothing.
--     before-year     the days before a year
--     year-high       at most a quarter of a day more than 365 for each year
--     first-days      the days before the first year
--     year-long       a year has at most 366 days
--     month-none      there is no such month, so it has no day; `month-short` bounds the days of a month by 31
--     before-month    the days before a month; `month-high` bounds them by 31 for each month
--     whole-year      the months make the year
--     month-below, month-in    the month of a day of the year is one of the twelve
use mathlib.Core.Path.{◌≡◌, refl, sym, ap, ◌∙◌}
use mathlib.Core.Bool.{Bool, true, false, ◌&&◌, and-eq-true_iff}
use mathlib.Core.Logic.{⊎_elim}
use Prim.Native.Nat.{ℕ, zero, suc, ◌+◌, ◌-◌, ◌*◌, ◌/◌, ◌%◌, ◌≤◌, ◌<◌}
use native.Mathlib.Nat.{eq-or-lt_of_le, le_of_suc-le-suc, not-suc-le-zero}
use native.Mathlib.Omega.{arith}
use native.Mathlib.Numerals.{add-one}
use lib.Dec.{eqb, leb, ltb}
use lib.ListN.{get_or, get_or-eq_default}
use borrow.Author.Tests.{eqb-true, eqb-false, leb-true}
use Rattle.basis.specs.Choice.{pick}
use Rattle.calendar.specs.Spans.{before, InSpan}
use Rattle.calendar.specs.Dates.{first_year, leap, year_len, month_len, month_lens}
use Rattle.calendar.proofs.SpansLaws.{in_span-below}

-- ---- years

abbrev closed : ℕ → ℕ
closed y = 365 * y + (y + 3) / 4 + (y + 399) / 400 - (y + 99) / 100

-- what one more year adds to each quotient
four-yes : (y : ℕ) → y % 4 ≡ 0 → (y + 1 + 3) / 4 ≡ (y + 3) / 4 + 1
four-yes y h = omega arith

four-no : (y : ℕ) → (y % 4 ≡ 0 → ⊥) → (y + 1 + 3) / 4 ≡ (y + 3) / 4 + 0
four-no y h = omega arith

cent-yes : (y : ℕ) → y % 100 ≡ 0 → (y + 1 + 99) / 100 ≡ (y + 99) / 100 + 1
cent-yes y h = omega arith

cent-no : (y : ℕ) → (y % 100 ≡ 0 → ⊥) → (y + 1 + 99) / 100 ≡ (y + 99) / 100 + 0
cent-no y h = omega arith

full-yes : (y : ℕ) → y % 400 ≡ 0 → (y + 1 + 399) / 400 ≡ (y + 399) / 400 + 1
full-yes y h = omega arith

full-no : (y : ℕ) → (y % 400 ≡ 0 → ⊥) → (y + 1 + 399) / 400 ≡ (y + 399) / 400 + 0
full-no y h = omega arith

fewer : (y : ℕ) → (y + 99) / 100 ≤ (y + 3) / 4
fewer y = omega arith

fewest : (y : ℕ) → (y + 399) / 400 ≤ (y + 99) / 100
fewest y = omega arith

-- with the quotients as unknowns, and what each gains
sum : (y a c b a' c' b' i j k n : ℕ) → b ≤ a → a' ≡ a + i → c' ≡ c + j → b' ≡ b + k → i + j + 365 ≡ n + k
    → 365 * (y + 1) + a' + c' - b' ≡ 365 * y + a + c - b + n
sum y a c b a' c' b' i j k n h p q r s = omega arith

closed-one : (y : ℕ) → closed (y + 1) ≡ closed y + year_len y
unfolding leap
closed-one y = go (eqb (y % 400) 0) refl (eqb (y % 100) 0) refl (eqb (y % 4) 0) refl
  where
    go : (a : Bool) → eqb (y % 400) 0 ≡ a → (b : Bool) → eqb (y % 100) 0 ≡ b → (d : Bool) → eqb (y % 4) 0 ≡ d
        → closed (y + 1) ≡ closed y + pick (pick a true (pick b false d)) 366 365
    go true e b f d g =
        let h : y % 400 ≡ 0 = eqb-true _ _ e in
        let i : y % 100 ≡ 0 = omega arith in
        let j : y % 4 ≡ 0 = omega arith in
        sum y _ _ _ _ _ _ 1 1 1 366 (fewer y) (four-yes y j) (full-yes y h) (cent-yes y i) refl
    go false e true f d g =
        let i : y % 100 ≡ 0 = eqb-true _ _ f in
        let j : y % 4 ≡ 0 = omega arith in
        sum y _ _ _ _ _ _ 1 0 1 365 (fewer y) (four-yes y j) (full-no y (eqb-false _ _ e)) (cent-yes y i) refl
    go false e false f true g =
        sum y _ _ _ _ _ _ 1 0 0 366 (fewer y) (four-yes y (eqb-true _ _ g)) (full-no y (eqb-false _ _ e)) (cent-no y (eqb-false _ _ f)) refl
    go false e false f false g =
        sum y _ _ _ _ _ _ 0 0 0 365 (fewer y) (four-no y (eqb-false _ _ g)) (full-no y (eqb-false _ _ e)) (cent-no y (eqb-false _ _ f)) refl

pub before-year : (y : ℕ) → before year_len y ≡ closed y
unfolding before
before-year zero = refl
before-year (suc y) = rw (before-year y, ← add-one y) (sym (closed-one y))

pub year-high : (y : ℕ) → before year_len y ≤ 365 * y + (y + 3) / 4
year-high y = rw (before-year y) (omega (arith, fewest y))

pub first-days : before year_len first_year ≡ 366
first-days = before-year first_year

pub year-long : (y : ℕ) → year_len y ≤ 366
year-long y = go (leap y)
  where
    go : (l : Bool) → pick l 366 365 ≤ 366
    go true = omega arith
    go false = omega arith

-- ---- months: a test for each of the months, computed

below : (ℕ → Bool) → ℕ → Bool
below p zero = true
below p (suc n) = p n && below p n

below-at : (p : ℕ → Bool) (n k : ℕ) → below p n ≡ true → k < n → p k ≡ true
unfolding below
below-at p zero k e l = absurd (not-suc-le-zero l)
below-at p (suc n) k e l =
    let s = (and-eq-true_iff (p n) (below p n)).0 e in
    ⊎_elim (λ f. ap p f ∙ s.0) (λ m. below-at p n k s.1 m) (eq-or-lt_of_le (le_of_suc-le-suc l))

abbrev lens : Bool → ℕ → ℕ
lens l m = get_or (month_lens l) m 0

pub month-none : (y m : ℕ) → 12 < m → month_len y m ≡ 0
unfolding month_len
month-none y m h = get_or-eq_default (month_lens (leap y)) 0 h

pub month-short : (y m : ℕ) → m ≤ 12 → month_len y m ≤ 31
unfolding month_len below
month-short y m h = leb-true _ _ (below-at (λ k. leb (lens (leap y) k) 31) 13 m (all (leap y)) (omega arith))
  where
    all : (l : Bool) → below (λ k. leb (lens l k) 31) 13 ≡ true
    all true = refl
    all false = refl

abbrev pub months_closed : Bool → ℕ → ℕ
months_closed l m = pick (ltb m 3) (31 * (m - 1)) ((153 * m - 162) / 5 + pick l 1 0)

pub before-month : (y m : ℕ) → m ≤ 13 → before (month_len y) m ≡ months_closed (leap y) m
unfolding month_len below before
before-month y m h = eqb-true _ _ (below-at (λ k. eqb (before (lens (leap y)) k) (months_closed (leap y) k)) 14 m (all (leap y)) (omega arith))
  where
    all : (l : Bool) → below (λ k. eqb (before (lens l) k) (months_closed l k)) 14 ≡ true
    all true = refl
    all false = refl

pub month-high : (y m : ℕ) → m ≤ 13 → before (month_len y) m ≤ 31 * (m - 1)
unfolding month_len below before
month-high y m h = leb-true _ _ (below-at (λ k. leb (before (lens (leap y)) k) (31 * (k - 1))) 14 m (all (leap y)) (omega arith))
  where
    all : (l : Bool) → below (λ k. leb (before (lens l) k) (31 * (k - 1))) 14 ≡ true
    all true = refl
    all false = refl

pub whole-year : (y : ℕ) → before (month_len y) 13 ≡ year_len y
whole-year y = before-month y 13 (omega arith) ∙ go (leap y)
  where
    go : (l : Bool) → months_closed l 13 ≡ pick l 366 365
    go true = refl
    go false = refl

pub month-below : (y n m : ℕ) → n ≤ year_len y → before (month_len y) m < n → m < 13
month-below y n m h l = in_span-below (month_len y) n m 13 l (omega (arith, whole-year y))

pub month-in : (y n m : ℕ) → 1 ≤ n → n ≤ year_len y → InSpan (month_len y) n m → (1 ≤ m) × (m ≤ 12)
month-in y n m l h w =
    let a : 1 < m + 1 = in_span-below (month_len y) n 1 (m + 1) (omega (arith, month-high y 1 (omega arith))) w.1 in
    (omega arith, omega (arith, month-below y n m h w.0))
