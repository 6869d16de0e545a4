-- UIDs and the numbers that they get by first appearance: document 01, "UIDs, dates, lists", 5th and 7th sentence. X stands for UIDs:
-- the UID itself in kept content, its slot in lent bytes; `same` tells whether two are one, and `proofs/SlotLaws.antt` says that the numbers
-- of both agree. Laws: `proofs/FirstMetLaws.antt`, `proofs/RenameLaws.antt`. Assumes nothing.
--     first_at same l u     where u stands first in l, counted from 0; the length of l where it does not stand there
--     number_of same l u    the number of u: counted from 1
--     learn same l u        l, and after it u where l does not have it
--     learns same l us      l after all of us were met, one after the other
--     numbers same l us     the numbers that us get as they are met, one after the other, from l on
--     same_uid x y          two UIDs, or two slots, as bytes, are one or are not; both_same, of two that begin with a byte each
use Rattle.std.specs.Prelude.{◌≡◌, refl, ℕ, zero, suc}
use Rattle.std.proofs.Common.{ap₂}
use Rattle.std.proofs.Math.Logic.{ite}
use mathlib.Core.List.{List, [], ◌∷◌, nil≢cons, cons≢nil, head-eq_of_cons-eq, tail-eq_of_cons-eq}
use Rattle.std.proofs.Math.Decide.{ℕ_discrete}

module _ {X : Type 0} (same : Discrete X) where
  -- Document 01, UIDs, 5th sentence: the first slot that holds it
  unfoldable pub first_at : List X → X → ℕ
  first_at [] u = zero
  first_at (x ∷ xs) u = ite (same x u) zero (suc (first_at xs u))

  unfoldable pub number_of : List X → X → ℕ
  number_of l u = suc (first_at l u)

  -- Document 01, UIDs, 5th sentence: a UID that is not found is the next
  unfoldable pub learn : List X → X → List X
  learn [] u = u ∷ []
  learn (x ∷ xs) u = x ∷ ite (same x u) xs (learn xs u)

  unfoldable pub learns : List X → List X → List X
  learns l [] = l
  learns l (u ∷ us) = learns (learn l u) us

  -- Document 01, UIDs, 7th sentence: each UID is learnt where it is met first, us being in output order (U10)
  unfoldable pub numbers : List X → List X → List ℕ
  numbers l [] = []
  numbers l (u ∷ us) = number_of (learn l u) u ∷ numbers (learn l u) us

-- two that begin with x and y, where it is known whether x and y, and whether the rests, are one
abbrev pub both_same : {x y : ℕ} {xs ys : List ℕ} → Dec (x ≡ y) → Dec (xs ≡ ys) → Dec (◌≡◌ {A = List ℕ} (x ∷ xs) (y ∷ ys))
both_same (yes p) (yes q) = yes (ap₂ ◌∷◌ p q)
both_same (yes p) (no n) = no (λ e. n (tail-eq_of_cons-eq e))
both_same (no n) d = no (λ e. n (head-eq_of_cons-eq e))

unfoldable pub same_uid : Discrete (List ℕ)
same_uid [] [] = yes refl
same_uid [] (y ∷ ys) = no nil≢cons
same_uid (x ∷ xs) [] = no cons≢nil
same_uid (x ∷ xs) (y ∷ ys) = both_same (ℕ_discrete x y) (same_uid xs ys)
