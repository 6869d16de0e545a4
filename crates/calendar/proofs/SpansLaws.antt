-- Laws of `specs/Spans.antt`, for spans of any lengths: the years and the months are two uses of them. Assumes nothing.
--     before-one, before-mono      one span more; more spans have more days
--     in_span-below                the span of a day that the first f spans have is one of them
--     span_at-found, span_at-is    what `span_at` finds has the day, and nothing else does
--     span_at-first, span_at-past  it finds the first span where that has the day, and the one after all where none has it
use mathlib.Core.Path.{◌≡◌, refl, sym, ap, ◌∙◌}
use mathlib.Core.Logic.{◌⊎◌, inl, inr, ⊎_elim}
use mathlib.Core.Bool.{Bool, true, false}
use Prim.Native.Nat.{ℕ, zero, suc, ◌+◌, ◌-◌, ◌≤◌, ◌<◌}
use native.Mathlib.Nat.{add-zero, le_refl, eq-or-lt_of_le, le_of_suc-le-suc, not-suc-le-zero}
use native.Mathlib.Numerals.{add-one}
use native.Mathlib.Omega.{arith}
use lib.Dec.{ltb}
use borrow.Author.Tests.{ltb-true, ltb-false, le-leb, lt-leb}
use Rattle.calendar.specs.Spans.{before, InSpan, span_at}

pub lt-or-le : (a b : ℕ) → (a < b) ⊎ (b ≤ a)
lt-or-le a b = go (ltb a b) refl
  where
    go : (t : Bool) → ltb a b ≡ t → (a < b) ⊎ (b ≤ a)
    go true e = inl (ltb-true a b e)
    go false e = inr (ltb-false a b e)

sum : (f k : ℕ) → suc k + f ≡ k + suc f
sum f k = omega arith

module _ (len : ℕ → ℕ) where
  -- ---- before

  pub before-none : before len 0 ≡ 0
  unfolding before
  before-none = refl

  pub before-one : (k : ℕ) → before len (k + 1) ≡ before len k + len k
  unfolding before
  before-one k = rw (add-one k) refl

  next : (k : ℕ) → before len (suc k) ≡ before len k + len k
  unfolding before
  next k = refl

  -- a span before another ends before it begins
  before-past : (a b : ℕ) → a < b → before len (a + 1) ≤ before len b
  unfolding before
  before-past a zero l = absurd (not-suc-le-zero l)
  before-past a (suc b) l =
      ⊎_elim (λ e. omega (arith, ap (before len) e, ap len e, before-one a)) (λ m. omega (arith, before-past a b m)) (eq-or-lt_of_le (le_of_suc-le-suc l))

  pub before-mono : (a b : ℕ) → a ≤ b → before len a ≤ before len b
  before-mono a b l = ⊎_elim (λ e. rw e (le_refl _)) (λ m. omega (arith, before-past a b m, before-one a)) (eq-or-lt_of_le l)

  -- ---- InSpan

  pub in_span-below : (n k f : ℕ) → before len k < n → n ≤ before len f → k < f
  in_span-below n k f w h = ⊎_elim (λ l. l) (λ l. absurd (omega (arith, before-mono f k l))) (lt-or-le k f)

  in_span-unique : (n a b : ℕ) → InSpan len n a → InSpan len n b → a ≡ b
  in_span-unique n a b v w =
      let p : a < b + 1 = in_span-below n a (b + 1) v.0 w.1 in
      let q : b < a + 1 = in_span-below n b (a + 1) w.0 v.1 in
      omega arith

  -- ---- place

  pub record Found (n k i : ℕ) : Type 0 where
    pub within : InSpan len n k
    pub day : before len k + i ≡ n

  span_at-here : (f k i : ℕ) → i ≤ len k → span_at len (suc f) k i ≡ (k, i)
  unfolding span_at
  span_at-here f k i h = rw (le-leb i (len k) h) refl

  span_at-on : (f k i : ℕ) → len k < i → span_at len (suc f) k i ≡ span_at len f (suc k) (i - len k)
  unfolding span_at
  span_at-on f k i h = rw (lt-leb i (len k) h) refl

  pub span_at-found : (f k i n : ℕ) → before len k + i ≡ n → 1 ≤ i → n ≤ before len (k + f) → Found n (span_at len f k i).0 (span_at len f k i).1
  span_at-found zero k i n e l h = absurd (omega (arith, ap (before len) (add-zero k)))
  span_at-found (suc f) k i n e l h =
      ⊎_elim
      (λ m. rw (span_at-on f k i m) (span_at-found f (suc k) (i - len k) n (omega (arith, next k)) (omega arith) (omega (arith, ap (before len) (sum f k)))))
      (λ m. rw (span_at-here f k i m) (record { within = (omega arith, omega (arith, before-one k)); day = e }))
      (lt-or-le (len k) i)

  -- so it finds the one span, and the place in it
  pub span_at-is : (f n k i : ℕ) → n ≤ before len f → before len k + i ≡ n → 1 ≤ i → i ≤ len k → span_at len f 0 n ≡ (k, i)
  span_at-is f n k i h e l u =
      let z : 0 + f ≡ f = omega arith in
      let p : Found n (span_at len f 0 n).0 (span_at len f 0 n).1 = span_at-found f 0 n n (omega (arith, before-none)) (omega arith) (rw z h) in
      let s : (span_at len f 0 n).0 ≡ k = in_span-unique n _ k p.within (omega arith, omega (arith, before-one k)) in
      let t : (span_at len f 0 n).1 ≡ i = omega (arith, p.day, ap (before len) s) in
      λ j. (s j, t j)

  pub span_at-first : (f i : ℕ) → i ≤ len 0 → (span_at len (suc f) 0 i).0 ≡ 0
  span_at-first f i h = ap (λ p. p.0) (span_at-here f 0 i h)

  pub span_at-past : (f k i : ℕ) → before len (k + f) < before len k + i → (span_at len f k i).0 ≡ k + f
  unfolding span_at
  span_at-past zero k i h = sym (add-zero k)
  span_at-past (suc f) k i h =
      let m : len k < i = omega (arith, before-one k, before-mono (k + 1) (k + suc f) (omega arith)) in
      ap (λ p. p.0) (span_at-on f k i m)
      ∙ span_at-past f (suc k) (i - len k) (omega (arith, next k, ap (before len) (sum f k))) ∙ sum f k
