-- Laws of `specs/Pieces.antt`. No contract cites this file. Assumes nothing.
--     Free c v, FreeAll c us     the byte c does not stand in v; nor in any of us
--     free-append                nor in two lists, one after the other
--     free-drop                  nor in the rest of a list
--     free-get_or                nor at any place of it
--     pieces-some                there is a piece, also of nothing
--     pieces-one                 what has no backslash is one piece
--     pieces-cut                 and so is what stands before the first backslash
--     pieces-free                no piece has a backslash
--     pieces-joined              pieces that were joined are found again
--     joined-pieces              cutting loses nothing
--     joined-one, joined-more    one piece; a piece and others
use mathlib.Core.Path.{◌≡◌, refl, ap, ◌∙◌}
use mathlib.Core.Bool.{Bool, true, false}
use mathlib.Core.Logic.{◌≢◌}
use mathlib.Core.List.{List, [], ◌∷◌, ◌++◌, append-nil}
use Prim.Native.Nat.{ℕ, zero, suc, ◌<◌}
use native.Mathlib.Omega.{arith}
use borrow.Author.Tests.{eqb-true, eqb-false, ne_eqb}
use lib.Dec.{eqb}
use lib.ListN.{length, drop, get_or}
use Rattle.basis.specs.Choice.{fork}
use Rattle.basis.specs.Pieces.{backslash, on_first, pieces, after, joined}

-- ---- Free

abbrev pub Free : ℕ → List ℕ → Type 0
Free c [] = Unit {0}
Free c (x ∷ xs) = (x ≢ c) × Free c xs

abbrev pub FreeAll : ℕ → List (List ℕ) → Type 0
FreeAll c [] = Unit {0}
FreeAll c (u ∷ us) = Free c u × FreeAll c us

pub free-append : (c : ℕ) (a b : List ℕ) → Free c a → Free c b → Free c (a ++ b)
free-append c [] b f g = g
free-append c (x ∷ a) b f g = (f.0, free-append c a b f.1 g)

pub free-drop : (c n : ℕ) (u : List ℕ) → Free c u → Free c (drop n u)
free-drop c zero u f = f
free-drop c (suc n) [] f = tt
free-drop c (suc n) (x ∷ u) f = free-drop c n u f.1

pub free-get_or : (c d : ℕ) (u : List ℕ) (i : ℕ) → d ≢ c → Free c u → get_or u i d ≢ c
free-get_or c d [] i h f = h
free-get_or c d (x ∷ u) zero h f = f.0
free-get_or c d (x ∷ u) (suc i) h f = free-get_or c d u i h f.1

-- ---- pieces

pub pieces-some : (v : List ℕ) → 0 < length (pieces v)
unfolding pieces
pieces-some [] = omega arith
pieces-some (x ∷ v) = step (eqb x backslash) (pieces v)
  where
    step : (b : Bool) (us : List (List ℕ)) → 0 < length (fork b (λ _. [] ∷ us) (λ _. on_first x us))
    step true us = omega arith
    step false [] = omega arith
    step false (u ∷ us) = omega arith

pub pieces-one : (u : List ℕ) → Free backslash u → pieces u ≡ u ∷ []
unfolding pieces
pieces-one [] f = refl
pieces-one (x ∷ u) f = rw (ne_eqb x backslash f.0) (ap (on_first x) (pieces-one u f.1))

pub pieces-cut : (u r : List ℕ) → Free backslash u → pieces (u ++ backslash ∷ r) ≡ u ∷ pieces r
unfolding pieces
pieces-cut [] r f = refl
pieces-cut (x ∷ u) r f = rw (ne_eqb x backslash f.0) (ap (on_first x) (pieces-cut u r f.1))

pub pieces-free : (v : List ℕ) → FreeAll backslash (pieces v)
unfolding pieces
pieces-free [] = (tt, tt)
pieces-free (x ∷ v) = step (eqb x backslash) refl (pieces v) (pieces-free v)
  where
    step : (b : Bool) → eqb x backslash ≡ b → (us : List (List ℕ)) → FreeAll backslash us → FreeAll backslash (fork b (λ _. [] ∷ us) (λ _. on_first x us))
    step true e us f = (tt, f)
    step false e [] f = ((eqb-false x backslash e, tt), tt)
    step false e (u ∷ us) f = ((eqb-false x backslash e, f.0), f.1)

-- ---- joined

pub joined-one : (u : List ℕ) → joined (u ∷ []) ≡ u
unfolding joined after
joined-one u = append-nil u

pub joined-more : (u w : List ℕ) (us : List (List ℕ)) → joined (u ∷ w ∷ us) ≡ u ++ backslash ∷ joined (w ∷ us)
unfolding joined after
joined-more u w us = refl

pub pieces-joined : (u : List ℕ) (us : List (List ℕ)) → FreeAll backslash (u ∷ us) → pieces (joined (u ∷ us)) ≡ u ∷ us
pieces-joined u [] f = ap pieces (joined-one u) ∙ pieces-one u f.0
pieces-joined u (w ∷ us) f =
    ap pieces (joined-more u w us) ∙ pieces-cut u (joined (w ∷ us)) f.0 ∙ ap (λ ws. u ∷ ws) (pieces-joined w us f.1)

pub joined-pieces : (v : List ℕ) → joined (pieces v) ≡ v
unfolding pieces joined after
joined-pieces [] = refl
joined-pieces (x ∷ v) = step (eqb x backslash) refl (pieces v) (pieces-some v) (joined-pieces v)
  where
    step : (b : Bool) → eqb x backslash ≡ b → (us : List (List ℕ)) → 0 < length us → joined us ≡ v → joined (fork b (λ _. [] ∷ us) (λ _. on_first x us)) ≡ x ∷ v
    step b e [] h is = absurd (omega arith)
    step true e (u ∷ us) h is = let f : x ≡ backslash = eqb-true x backslash e in rw f (ap (λ w. backslash ∷ w) is)
    step false e (u ∷ us) h is = ap (λ w. x ∷ w) is
