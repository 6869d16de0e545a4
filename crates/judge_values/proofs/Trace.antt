-- A loop that goes through a tree's bytes and finds something of the tree. `D k x` is what the definition reads at the fuel k and the place x,
-- `left x` bounds the turns that are left at x, and `W i t` is what is to be found of the tree t under i. `Trace D left W x y`, the invariant of a
-- loop that went from x to y: whatever tree stands at x, some tree stands at y, and what is to be found of the two is the same.
--     trace-start    where the loop begins
--     trace-turn     a turn from y to z
--     trace-stop     the last turn
-- Assumes nothing.
use mathlib.Core.Path.{◌≡◌, refl, sym, subst, ◌∙◌}
use Prim.Native.Nat.{ℕ, zero, suc, ◌≤◌, ◌<◌}
use native.Mathlib.Omega.{arith}
use Rattle.layout.specs.Read.{Result, good}

pub record Trace {I X T A : Type 0} (D : ℕ → X → Result T) (left : X → ℕ) (W : I → T → A) (x y : X) : Type 0 where
  pub run : (i : I) (k : ℕ) (t : T) (p : ℕ) → left x < k → D k x ≡ good t p
      → (j : ℕ) × (u : T) × (left y < j) × (D j y ≡ good u p) × (W i t ≡ W i u)

module _ {I X T A : Type 0} {D : ℕ → X → Result T} {left : X → ℕ} {W : I → T → A} {x : X} where
  pub trace-start : Trace D left W x x
  trace-start = record { run = λ i k t p lt e. (k, t, lt, e, refl) }

  module _ {y : X} (tr : Trace D left W x y) where
    pub trace-turn : (z : X) → left z < left y
        → ((i : I) (j : ℕ) (t : T) (p : ℕ) → left y ≤ j → D (suc j) y ≡ good t p → (u : T) × (D j z ≡ good u p) × (W i t ≡ W i u))
        → Trace D left W x z
    trace-turn z falls f = record {
      run = λ i k t p lt e. let r = tr.run i k t p lt e in go i p (W i t) r.0 r.1 r.2 r.3 r.4;
    }
      where
        go : (i : I) (p : ℕ) (v : A) (j : ℕ) (t : T) → left y < j → D j y ≡ good t p → v ≡ W i t
            → (j' : ℕ) × (u : T) × (left z < j') × (D j' z ≡ good u p) × (v ≡ W i u)
        go i p v zero t lt e q = absurd (omega arith)
        go i p v (suc j) t lt e q = let r = f i j t p (omega arith) e in (j, r.0, omega arith, r.1, q ∙ r.2)

    pub trace-stop : (G : A → ℕ → Type 0)
        → ((i : I) (j : ℕ) (t : T) (p : ℕ) → left y ≤ j → D (suc j) y ≡ good t p → G (W i t) p)
        → (i : I) (k : ℕ) (t : T) (p : ℕ) → left x < k → D k x ≡ good t p → G (W i t) p
    trace-stop G f i k t p lt e = let r = tr.run i k t p lt e in go (W i t) r.0 r.1 r.2 r.3 r.4
      where
        go : (v : A) (j : ℕ) (t : T) → left y < j → D j y ≡ good t p → v ≡ W i t → G v p
        go v zero t lt e q = absurd (omega arith)
        go v (suc j) t lt e q = subst (λ z. G z p) (sym q) (f i j t p (omega arith) e)
