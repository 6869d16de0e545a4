-- Laws of `specs/Dates.antt`. No contract cites this file. Assumes nothing.
--     real-is, is-real           what `real` says, both ways
--     real-month                 a real day's month is one of the twelve
--     number-small               bounds of a real day's number
--     date-within                the date whose year has the day, and whose month has what is left of it
--     date-number, number-date   a day's number and its date are inverse to each other
--     real-date                  the numbers of real days: those from the first day of the first year to the last of the last
--     low-date, high-date        and no others
--     later-back                 a number moved on, and back again
--     moved-is, is-moved         what `moved` says, both ways
--     moved-in, moved-low, moved-high    one for each way through `Date::shifted` of a real day
--     moved-back, moved-zero     a shift and the opposite one; a shift by 0
--     moved-injective            two dates that one shift takes to one date are one date
--     refusal-moved              where an answer is refusal 12
use mathlib.Core.Path.{◌≡◌, refl, sym, ap, ap₂, ◌∙◌, subst}
use mathlib.Core.Bool.{Bool, true, false, ◌&&◌, false≢true, and-eq-true_iff}
use mathlib.Core.Logic.{⊎_elim}
use Rattle.std.specs.Prelude.{Option, None, Some}
use Rattle.std.proofs.lemmas.Option.{none-some, same_Some}
use Prim.Native.Nat.{ℕ, zero, suc, ◌+◌, ◌-◌, ◌≤◌, ◌<◌, ◌^◌}
use native.Mathlib.Omega.{arith}
use lib.Dec.{leb}
use lib.IntN.{ℤ, pos, negsuc, neg_ℤ}
use borrow.Author.Tests.{leb-true, le-leb}
use Rattle.basis.specs.Choice.{pick, then}
use Rattle.calendar.specs.Spans.{before, InSpan, span_at}
use Rattle.calendar.specs.Dates.{first_year, last_year, year_len, month_len, day_number, date_of, real, only_real, later, moved, refusal_in}
use Rattle.calendar.specs.declared.Date.{Date}
use Rattle.calendar.proofs.SpansLaws.{lt-or-le, before-none, before-one, before-mono, in_span-below, span_at-found, span_at-is, span_at-first, span_at-past}
use Rattle.calendar.proofs.Closed.{year-high, year-long, month-none, whole-year}

-- ---- real

pub record Real (x : Date) : Type 0 where
  pub y₁ : first_year ≤ x.year
  pub yₙ : x.year ≤ last_year
  pub d₁ : 1 ≤ x.day
  pub dₙ : x.day ≤ month_len x.year x.month

pub real-is : (x : Date) → real x ≡ true → Real x
unfolding real
real-is x e =
    let c = (and-eq-true_iff (leb first_year x.year && leb x.year last_year && leb 1 x.day) _).0 e in
    let b = (and-eq-true_iff (leb first_year x.year && leb x.year last_year) _).0 c.0 in
    let a = (and-eq-true_iff (leb first_year x.year) _).0 b.0 in
    record { y₁ = leb-true _ _ a.0; yₙ = leb-true _ _ a.1; d₁ = leb-true _ _ b.1; dₙ = leb-true _ _ c.1 }

pub is-real : (x : Date) → Real x → real x ≡ true
unfolding real
is-real x r = rw (le-leb _ _ r.y₁, le-leb _ _ r.yₙ, le-leb _ _ r.d₁, le-leb _ _ r.dₙ) refl

pub real-month : (x : Date) → Real x → (1 ≤ x.month) × (x.month ≤ 12)
unfolding month_len
real-month x r = (first x.month r.dₙ, last)
  where
    first : (m : ℕ) → x.day ≤ month_len x.year m → 1 ≤ m
    first zero h = absurd (omega (arith, r.d₁))
    first (suc m) h = omega arith

    last : x.month ≤ 12
    last = ⊎_elim (λ l. omega arith)
        (λ l. absurd (omega (arith, r.d₁, r.dₙ, month-none x.year x.month l))) (lt-or-le x.month 13)

-- a real day's place in its year
in-year : (x : Date) → Real x → before (month_len x.year) x.month + x.day ≤ year_len x.year
in-year x r =
    let y = x.year in
    let m = x.month in
    omega (arith, r.dₙ, before-one (month_len y) m, before-mono (month_len y) (m + 1) 13 (omega (arith, (real-month x r).1)), whole-year y)

pub number-small : (x : Date) → Real x → (before (month_len x.year) x.month + x.day ≤ 366) × (day_number x < 2 ^ 31)
number-small x r = (
  omega (arith, in-year x r, year-long x.year),
  omega (arith, in-year x r, year-long x.year, year-high x.year, r.yₙ),
)

number-high : (x : Date) → Real x → day_number x ≤ before year_len (last_year + 1)
number-high x r =
    omega (arith, in-year x r, before-one year_len x.year, before-mono year_len (x.year + 1) (last_year + 1) (omega (arith, r.yₙ)))

-- ---- date_of

-- the date of a number is known by its year and its day of the year, and these by the days before them
pub date-is : (n : ℕ) (x : Date) (i : ℕ) → n ≤ before year_len (last_year + 1)
    → before year_len x.year + i ≡ n → 1 ≤ i → i ≤ year_len x.year
    → before (month_len x.year) x.month + x.day ≡ i → 1 ≤ x.day → x.day ≤ month_len x.year x.month → date_of n ≡ x
unfolding date_of
date-is n x i h e l u f m v =
    let a : span_at year_len (last_year + 1) 0 n ≡ (x.year, i) = span_at-is year_len (last_year + 1) n x.year i h e l u in
    let b : span_at (month_len x.year) 13 0 i ≡ (x.month, x.day) = span_at-is (month_len x.year) 13 i x.month x.day (rw (whole-year x.year) u) f m v in
    rw (a, b) refl

pub date-within : (n i : ℕ) (x : Date) → n ≤ before year_len (last_year + 1) → InSpan year_len n x.year → i ≡ n - before year_len x.year
    → InSpan (month_len x.year) i x.month → x.day ≡ i - before (month_len x.year) x.month → x ≡ date_of n
date-within n i x h v e w f =
    sym (date-is n x i h (omega arith) (omega arith) (omega (arith, before-one year_len x.year)) (omega arith) (omega arith)
    (omega (arith, before-one (month_len x.year) x.month)))

pub date-number : (x : Date) → Real x → date_of (day_number x) ≡ x
date-number x r = date-is (day_number x) x _ (number-high x r) refl (omega (arith, r.d₁)) (in-year x r) refl r.d₁ r.dₙ

record Dated (n : ℕ) (x : Date) : Type 0 where
  pub year-is : InSpan year_len n x.year
  pub number-is : day_number x ≡ n
  pub d₁ : 1 ≤ x.day
  pub dₙ : x.day ≤ month_len x.year x.month

dated : (n : ℕ) → 1 ≤ n → n ≤ before year_len (last_year + 1) → Dated n (date_of n)
unfolding date_of
dated n l h =
    let p = span_at-found year_len (last_year + 1) 0 n n (omega (arith, before-none year_len)) l h in
    let y = (span_at year_len (last_year + 1) 0 n).0 in
    let i = (span_at year_len (last_year + 1) 0 n).1 in
    let j : 1 ≤ i = omega (arith, p.within.0, p.day) in
    let k : i ≤ before (month_len y) 13 = omega (arith, p.within.1, p.day, before-one year_len y, whole-year y) in
    let q = span_at-found (month_len y) 13 0 i i (omega (arith, before-none (month_len y))) j k in
    let m = (span_at (month_len y) 13 0 i).0 in
    record {
      year-is = p.within;
      number-is = omega (arith, p.day, q.day);
      d₁ = omega (arith, q.day, q.within.0);
      dₙ = omega (arith, q.day, q.within.1, before-one (month_len y) m);
    }

pub number-date : (n : ℕ) → 1 ≤ n → n ≤ before year_len (last_year + 1) → day_number (date_of n) ≡ n
number-date n l h = (dated n l h).number-is

-- ---- the numbers of real days

pub real-date : (n : ℕ) → before year_len first_year < n → n ≤ before year_len (last_year + 1) → Real (date_of n)
real-date n l h =
    let d : Dated n (date_of n) = dated n (omega arith) h in
    let y : ℕ = (date_of n).year in
    let a : first_year < y + 1 = in_span-below year_len n first_year (y + 1) l d.year-is.1 in
    let b : y < last_year + 1 = in_span-below year_len n y (last_year + 1) d.year-is.0 h in
    record { y₁ = omega arith; yₙ = omega arith; d₁ = d.d₁; dₙ = d.dₙ }

not-real : (x : Date) → (Real x → ⊥) → real x ≡ false
not-real x f = step (real x) refl
  where
    step : (b : Bool) → real x ≡ b → b ≡ false
    step true e = absurd (f (real-is x e))
    step false e = refl

year-zero : (n : ℕ) → n ≤ before year_len first_year → (date_of n).year ≡ 0
unfolding date_of
year-zero n h = span_at-first year_len last_year n (omega (arith, before-one year_len 0, before-none year_len))

pub low-date : (n : ℕ) → n ≤ before year_len first_year → real (date_of n) ≡ false
low-date n h = not-real (date_of n) (λ r. omega (arith, r.y₁, year-zero n h))

year-past : (n : ℕ) → before year_len (last_year + 1) < n → (date_of n).year ≡ last_year + 1
unfolding date_of
year-past n h = span_at-past year_len (last_year + 1) 0 n (omega (arith, before-none year_len))

pub high-date : (n : ℕ) → before year_len (last_year + 1) < n → real (date_of n) ≡ false
high-date n h = not-real (date_of n) (λ r. omega (arith, r.yₙ, year-past n h))

date-bounds : (n : ℕ) → real (date_of n) ≡ true → (before year_len first_year < n) × (n ≤ before year_len (last_year + 1))
date-bounds n e = (
  ⊎_elim (λ l. l) (λ l. absurd (false≢true (sym (low-date n l) ∙ e))) (lt-or-le (before year_len first_year) n),
  ⊎_elim (λ l. absurd (false≢true (sym (high-date n l) ∙ e))) (λ l. l) (lt-or-le (before year_len (last_year + 1)) n),
)

-- ---- later

pub later-back : (n : ℕ) (z : ℤ) → 1 ≤ later n z → later (later n z) (neg_ℤ z) ≡ n
later-back n (pos zero) h = omega arith
later-back n (pos (suc k)) h = omega arith
later-back n (negsuc k) h = omega arith

-- ---- moved

pub record IsMoved (x : Date) (z : ℤ) (y : Date) : Type 0 where
  pub from : Real x
  pub to : Real y
  pub by : day_number y ≡ later (day_number x) z

pub moved-is : (x : Date) (z : ℤ) (y : Date) → moved x z ≡ Some y → IsMoved x z y
moved-is x z y e = start (real x) refl e
  where
    end : (n : ℕ) → n ≡ later (day_number x) z → (b : Bool) → real (date_of n) ≡ b → real x ≡ true
        → ◌≡◌ {A = Option Date} (pick b (Some (date_of n)) None) (Some y) → IsMoved x z y
    end n q true f g e =
        let s : date_of n ≡ y = same_Some (date_of n) y e in
        let b = date-bounds n f in
        record {
          from = real-is x g;
          to = subst Real s (real-is (date_of n) f);
          by = ap day_number (sym s) ∙ number-date n (omega (arith, b.0)) b.1 ∙ q;
        }
    end n q false f g e = absurd (none-some y e)

    start : (b : Bool) → real x ≡ b → then (pick b (Some x) None) (λ d. only_real (date_of (later (day_number d) z))) ≡ Some y → IsMoved x z y
    start true f e = end (later (day_number x) z) refl (real (date_of (later (day_number x) z))) refl f e
    start false f e = absurd (none-some y e)

pub is-moved : (x : Date) (z : ℤ) (y : Date) → IsMoved x z y → moved x z ≡ Some y
is-moved x z y m =
    rw (is-real x m.from, ap date_of (sym m.by) ∙ date-number y m.to, is-real y m.to) refl

-- one for each way through `Date::shifted` of a real day
module _ (x : Date) (z : ℤ) {z' : ℤ} {m n : ℕ} (same : z' ≡ z) (f : m ≡ day_number x) (h : n ≡ later m z') {t : Bool} (r : t ≡ real x) (yes : t ≡ true) where
  number-is : later (day_number x) z ≡ n
  number-is = sym (h ∙ ap₂ later f same)

  pub moved-in : before year_len first_year < n → n ≤ before year_len (last_year + 1) → Some (date_of n) ≡ moved x z
  moved-in l u = rw (sym r ∙ yes, number-is, is-real (date_of n) (real-date n l u)) refl

  pub moved-low : n ≤ before year_len first_year → None ≡ moved x z
  moved-low l = rw (sym r ∙ yes, number-is, low-date n l) refl

  pub moved-high : before year_len (last_year + 1) < n → None ≡ moved x z
  moved-high u = rw (sym r ∙ yes, number-is, high-date n u) refl

pub moved-back : (x : Date) (z : ℤ) (y : Date) → moved x z ≡ Some y → moved y (neg_ℤ z) ≡ Some x
moved-back x z y e =
    let m : IsMoved x z y = moved-is x z y e in
    let p : 1 ≤ later (day_number x) z = omega (arith, m.by, m.to.d₁) in
    is-moved y (neg_ℤ z) x (record {
      from = m.to;
      to = m.from;
      by = sym (ap (λ n. later n (neg_ℤ z)) m.by ∙ later-back (day_number x) z p);
    })

pub moved-zero : (x : Date) → Real x → moved x (pos 0) ≡ Some x
moved-zero x r = is-moved x (pos 0) x (record { from = r; to = r; by = omega arith })

pub moved-injective : (x y e : Date) (z : ℤ) → moved x z ≡ Some e → moved y z ≡ Some e → x ≡ y
moved-injective x y e z p q = same_Some x y (sym (moved-back x z e p) ∙ moved-back y z e q)

-- ---- refusal_in

-- an answer that gives what `moved` gives is refusal 12 exactly where `moved` gives nothing
pub refusal-moved : (r : Option Date) (x : Date) (z : ℤ) → r ≡ moved x z → (refusal_in r ≡ 12 → moved x z ≡ None) × (moved x z ≡ None → refusal_in r ≡ 12)
refusal-moved (Some d) x z e = (λ f. absurd (omega arith), λ f. absurd (none-some d (sym (e ∙ f))))
refusal-moved None x z e = (λ _. sym e, λ _. refl)
