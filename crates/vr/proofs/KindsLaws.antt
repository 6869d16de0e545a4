-- Laws of `specs/Kinds.antt`. No contract cites this file. Assumes nothing.
--     tried first r n              a test: r has the right two bits for each of the first n second letters
--     tried-kinds, kinds-none      r holds the kinds where it passes for all 32; 0 does where no VR has the first letter
--     kind_of-letters              what has no second letter from 64 to 95 is unknown
use mathlib.Core.Path.{◌≡◌, refl, sym, ◌∙◌}
use mathlib.Core.Logic.{⊎_elim}
use mathlib.Core.Bool.{Bool, true, false, ◌&&◌}
use mathlib.Core.List.{List, [], ◌∷◌}
use Rattle.std.specs.Prelude.{None}
use Prim.Native.Nat.{ℕ, zero, suc, ◌+◌, ◌*◌, ◌/◌, ◌%◌, ◌^◌, ◌<◌, ◌≤◌}
use native.Mathlib.Nat.{le_of_suc-le-suc, not-suc-le-zero, eq-or-lt_of_le, zero-div}
use native.Mathlib.Omega.{arith}
use lib.Dec.{eqb, leb, leb→le}
use borrow.Author.Tests.{eqb-true}
use Rattle.basis.specs.Choice.{among}
use Rattle.basis.proofs.ChoiceLaws.{both-true}
use Rattle.vr.specs.Vr.{all_vrs, kind_of}
use Rattle.vr.specs.Kinds.{kind_number, KindsAfter}
use Rattle.vr.proofs.VrLaws.{all_vrs-each, kind_of-unknown}

-- ---- KindsAfter

-- the two bits, and what they have to be
abbrev pub right : ℕ → ℕ → ℕ → Bool
right first r letter = eqb (r / 2 ^ (2 * letter) % 4) (kind_number (kind_of (first + 256 * (64 + letter))))

unfoldable pub tried : ℕ → ℕ → ℕ → Bool
tried first r zero = true
tried first r (suc n) = right first r n && tried first r n

tried-at : (first r n : ℕ) → tried first r n ≡ true → (letter : ℕ) → letter < n → right first r letter ≡ true
unfolding tried
tried-at first r zero t letter h = absurd (not-suc-le-zero h)
tried-at first r (suc n) t letter h =
    let parts = both-true (right first r n) (tried first r n) t in
    ⊎_elim (λ same. rw same parts.0) (tried-at first r n parts.1 letter) (eq-or-lt_of_le (le_of_suc-le-suc h))

pub tried-kinds : (first k r : ℕ) → first ≡ k → tried k r 32 ≡ true → KindsAfter first r
tried-kinds first k r same t = rw same (λ letter h. eqb-true _ _ (tried-at k r 32 t letter h))

-- the first letters of the VRs
abbrev pub firsts : List ℕ
firsts = 0x41 ∷ 0x43 ∷ 0x44 ∷ 0x46 ∷ 0x49 ∷ 0x4C ∷ 0x4F ∷ 0x50 ∷ 0x53 ∷ 0x54 ∷ 0x55 ∷ []

outside : (vr : ℕ) → (among vr all_vrs ≡ true → ⊥) → kind_of vr ≡ None
outside vr n = step (among vr all_vrs) refl
  where
    step : (b : Bool) → among vr all_vrs ≡ b → kind_of vr ≡ None
    step true e = absurd (n e)
    step false e = kind_of-unknown vr e

first-all_vrs : (vr : ℕ) → among vr all_vrs ≡ true → among (vr % 256) firsts ≡ true
unfolding among
first-all_vrs = all_vrs-each (λ v. among (v % 256) firsts) true refl

pub kinds-none : (first : ℕ) → first < 256 → among first firsts ≡ false → KindsAfter first 0
kinds-none first h none letter l =
    let same : (first + 256 * (64 + letter)) % 256 ≡ first = omega arith in
    let unknown = outside (first + 256 * (64 + letter)) (λ e. let z : true ≡ false = sym (rw same at (first-all_vrs _ e)) ∙ none in absurd (no z)) in
    rw (zero-div, unknown) refl
  where
    no : true ≡ false → ⊥
    no e = let z : ◌≡◌ {A = ℕ} 0 1 = cc in omega arith

-- ---- kind_of

second-all_vrs : (vr : ℕ) → among vr all_vrs ≡ true → (leb 64 (vr / 256) && leb (vr / 256) 95) ≡ true
second-all_vrs = all_vrs-each (λ v. leb 64 (v / 256) && leb (v / 256) 95) true refl

pub kind_of-letters : (vr : ℕ) → (64 ≤ vr / 256 → vr / 256 ≤ 95 → ⊥) → kind_of vr ≡ None
kind_of-letters vr n =
    outside vr (λ e.
    let b = both-true (leb 64 (vr / 256)) (leb (vr / 256) 95) (second-all_vrs vr e) in
    n (leb→le 64 (vr / 256) (rw b.0 tt)) (leb→le (vr / 256) 95 (rw b.1 tt)))
