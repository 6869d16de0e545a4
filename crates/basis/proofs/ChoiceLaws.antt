-- Laws of `specs/Choice.antt`, in the form in which the arms of a `match` on a number ask for them. No contract cites this file.
-- Assumes nothing.
--     pick-map      a function of a choice is the choice of its values
--     pick-case     what holds of x where the test holds, and of y where it does not, holds of pick b x y
--     both-true, both-false    what a test of two says of each
--     every-append  what a test says of two lists, one after the other
--     arm           what f is at each pattern of an arm, it is in the arm: the test over all of them is computed
--     among-each    what f is at each of some numbers, it is at a number among them
--     among-none    a number that is none of the patterns is not among them
--     among-join    nor among two lists joined, where it is among neither
--     among-less    nor among fewer numbers than those that it is not among
--     eqb-less      nor is it one of those
use mathlib.Core.Path.{◌≡◌, refl, sym, ap, ◌∙◌}
use mathlib.Core.Logic.{⊎_elim, inl, inr}
use mathlib.Core.Bool.{Bool, true, false, ◌&&◌, ◌||◌, false≢true}
use mathlib.Core.List.{List, [], ◌∷◌, ◌++◌, map, head-eq_of_cons-eq, tail-eq_of_cons-eq}
use Prim.Native.Nat.{ℕ}
use lib.ListN.{length, replicate}
use types.Run.{OneOf}
use lib.Dec.{eqb}
use borrow.Author.Tests.{ne_eqb, eqb-true}
use Rattle.basis.specs.Choice.{pick, every, among}

-- ---- pick

-- a function of a choice is the choice of its values
pub pick-map : {A B : Type 0} (f : A → B) (b : Bool) (x y : A) → f (pick b x y) ≡ pick b (f x) (f y)
pick-map f true x y = refl
pick-map f false x y = refl

pub pick-case : {A : Type 0} (P : A → Type 0) (b : Bool) (x y : A) → (b ≡ true → P x) → (b ≡ false → P y) → P (pick b x y)
pick-case P true x y f g = f refl
pick-case P false x y f g = g refl

pub both-true : (a b : Bool) → (a && b) ≡ true → (a ≡ true) × (b ≡ true)
both-true true b e = (refl, e)
both-true false b e = absurd (false≢true e)

pub both-false : (a b : Bool) → (a && b) ≡ false → a ≡ true → b ≡ false
both-false true b e h = e
both-false false b e h = absurd (false≢true h)

-- ---- every

pub every-append : {A : Type 0} (p : A → Bool) (us ws : List A) → every p (us ++ ws) ≡ every p us && every p ws
unfolding every
every-append p [] ws = refl
every-append p (u ∷ us) ws = step (p u) (every-append p us ws)
  where
    step : (b : Bool) → every p (us ++ ws) ≡ every p us && every p ws → b && every p (us ++ ws) ≡ (b && every p us) && every p ws
    step true ih = ih
    step false ih = refl

-- ---- the arms of a `match`

arm-from : {A : Type 0} (f : ℕ → A) (c : A) (x k : ℕ) (ks : List ℕ)
    → map f (k ∷ ks) ≡ replicate (length (k ∷ ks)) c → OneOf (k ∷ ks) x → f x ≡ c
arm-from f c x k [] h e = ap f e ∙ head-eq_of_cons-eq h
arm-from f c x k (l ∷ ks) h s =
    ⊎_elim (λ e. ap f e ∙ head-eq_of_cons-eq h) (λ r. arm-from f c x l ks (tail-eq_of_cons-eq h) r) s

pub arm : {A : Type 0} (f : ℕ → A) (c : A) (x : ℕ) (ks : List ℕ) → map f ks ≡ replicate (length ks) c → OneOf ks x → f x ≡ c
arm f c x [] h s = absurd s
arm f c x (k ∷ ks) h s = arm-from f c x k ks h s

-- ---- among

pub among-each : {A : Type 0} (f : ℕ → A) (c : A) (x : ℕ) (ks : List ℕ) → map f ks ≡ replicate (length ks) c → among x ks ≡ true
    → f x ≡ c
unfolding among
among-each f c x [] h is = absurd (false≢true is)
among-each f c x (k ∷ ks) h is = step (eqb x k) refl is (λ e. among-each f c x ks (tail-eq_of_cons-eq h) e)
  where
    step : (b : Bool) → eqb x k ≡ b → (b || among x ks) ≡ true → (among x ks ≡ true → f x ≡ c) → f x ≡ c
    step true e is rest = ap f (eqb-true x k e) ∙ head-eq_of_cons-eq h
    step false e is rest = rest is

among-none-from : (x k : ℕ) (ks : List ℕ) → (OneOf (k ∷ ks) x → ⊥) → among x (k ∷ ks) ≡ false
unfolding among
among-none-from x k [] n = simp (ne_eqb x k n)
among-none-from x k (l ∷ ks) n = simp (ne_eqb x k (λ e. n (inl e))) (among-none-from x l ks (λ r. n (inr r)))

pub among-none : (x : ℕ) (ks : List ℕ) → (OneOf ks x → ⊥) → among x ks ≡ false
unfolding among
among-none x [] n = refl
among-none x (k ∷ ks) n = among-none-from x k ks n

pub among-join : (x : ℕ) (ks ls : List ℕ) → among x ks ≡ false → among x ls ≡ false → among x (ks ++ ls) ≡ false
unfolding among
among-join x [] ls h l = l
among-join x (k ∷ ks) ls h l = step (eqb x k) h (λ e. among-join x ks ls e l)
  where
    step : (b : Bool) → (b || among x ks) ≡ false → (among x ks ≡ false → among x (ks ++ ls) ≡ false)
        → (b || among x (ks ++ ls)) ≡ false
    step true e f = e
    step false e f = f e

pub eqb-less : (x k : ℕ) (all : List ℕ) → among k all ≡ true → among x all ≡ false → eqb x k ≡ false
eqb-less x k all is isnt = ne_eqb x k (λ e. false≢true (sym isnt ∙ ap (λ n. among n all) e ∙ is))

pub among-less : (x : ℕ) (ks all : List ℕ) → map (λ k. among k all) ks ≡ replicate (length ks) true → among x all ≡ false
    → among x ks ≡ false
unfolding among
among-less x [] all h isnt = refl
among-less x (k ∷ ks) all h isnt =
    rw (eqb-less x k all (head-eq_of_cons-eq h) isnt) (among-less x ks all (tail-eq_of_cons-eq h) isnt)
