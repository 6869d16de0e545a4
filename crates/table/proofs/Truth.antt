-- Small facts on tests, and how a test of many numbers is carried to one of them. No contract cites this file. Assumes nothing.
--     T-false, T-true          a test that fails is false; one that is true holds
--     both                     two tests that hold together hold each
--     or-right                 one test or another is true where the other is
--     every-at, every-among    a test of every number holds of the one at an index, and of one that is among them
--     pick-left                which x stands in a choice matters only where the choice is x
use mathlib.Core.Path.{◌≡◌, refl}
use mathlib.Core.Bool.{Bool, true, false, not, ◌&&◌, ◌||◌}
use mathlib.Core.List.{List, [], ◌∷◌}
use Prim.Native.Nat.{ℕ, zero, suc, ◌<◌}
use native.Mathlib.Nat.{le_of_suc-le-suc, not-suc-le-zero}
use lib.Dec.{T, eqb}
use lib.ListN.{length, get_or}
use borrow.Author.Tests.{eqb-true}
use Rattle.basis.specs.Choice.{pick, every, among}

pub T-false : (b : Bool) → T (not b) → b ≡ false
T-false true t = absurd t
T-false false t = refl

pub T-true : (b : Bool) → b ≡ true → T b
T-true b e = rw e tt

pub both : (a b : Bool) → T (a && b) → T a × T b
both true b t = (tt, t)
both false b t = absurd t

pub or-right : (a b : Bool) → b ≡ true → (a || b) ≡ true
or-right true b e = refl
or-right false b e = e

pub every-at : (p : ℕ → Bool) (xs : List ℕ) → T (every p xs) → (k : ℕ) → k < length xs → T (p (get_or xs k 0))
unfolding every
every-at p [] t k h = absurd (not-suc-le-zero h)
every-at p (x ∷ xs) t zero h = (both (p x) (every p xs) t).0
every-at p (x ∷ xs) t (suc k) h = every-at p xs (both (p x) (every p xs) t).1 k (le_of_suc-le-suc h)

pub every-among : (p : ℕ → Bool) (xs : List ℕ) → T (every p xs) → (n : ℕ) → T (among n xs) → T (p n)
unfolding every among
every-among p [] t n m = absurd m
every-among p (x ∷ xs) t n m = go (eqb n x) refl m (every-among p xs (both (p x) (every p xs) t).1 n)
  where
    go : (b : Bool) → eqb n x ≡ b → T (b || among n xs) → (T (among n xs) → T (p n)) → T (p n)
    go true e m rest = rw (eqb-true n x e) (both (p x) (every p xs) t).0
    go false e m rest = rest m

pub pick-left : {A : Type 0} (b : Bool) (x y z : A) → (b ≡ true → x ≡ y) → pick b x z ≡ pick b y z
pick-left true x y z e = e refl
pick-left false x y z e = refl
