-- Laws of `specs/Vr.antt`. What holds of the VRs is proved once over the VR, by one computed test over the 34.
-- No contract cites this file. Assumes nothing.
--     all_vrs-spelt      each name is the number that its own letters spell
--     all_vrs-each       what f is at each of the 34, it is at every one of them
--     kind_of-unknown      what is not among the 34 is unknown
--     kind_of-all_vrs    what has a kind is among them
--     kind_of-sequence   SQ alone is Sequence
--     all_vrs-two        the letters of a VR are two bytes
--     dummy_of-short     a dummy has at most 14 bytes, whatever the VR is
--     dummy_of-front     what `dummy_of` hands over begins with the dummy
use mathlib.Core.Path.{◌≡◌, refl}
use mathlib.Core.Bool.{Bool, true, false}
use mathlib.Core.List.{[], ◌∷◌, map}
use Rattle.std.specs.Prelude.{None, Some}
use Prim.Native.Nat.{ℕ, ◌-◌, ◌≤◌, ◌<◌}
use native.Mathlib.Omega.{arith}
use lib.Dec.{eqb, ltb, ltb→lt}
use lib.ListN.{length, take, replicate}
use borrow.Author.Tests.{eqb-true}
use Rattle.std.proofs.lemmas.Bool.Decides.{nat_tests}
use Rattle.std.proofs.lemmas.List.{take_at}
use Rattle.basis.specs.Choice.{pick, among}
use Rattle.basis.specs.Bytes.{le2}
use Rattle.basis.specs.Text.{ascii}
use Rattle.basis.proofs.ChoiceLaws.{among-each, among-less, eqb-less}
use Rattle.vr.specs.Names.{SQ}
use Rattle.vr.specs.Vr.{all_vrs, long, kind_of, dummy_of, in_room}
use Rattle.vr.specs.declared.Kind.TheVariants.{Short, Long, Sequence}

-- ---- known

pub all_vrs-spelt : all_vrs ≡ map (λ t. le2 (ascii t) 0) ("AE" ∷ "AS" ∷ "AT" ∷ "CS" ∷ "DA" ∷ "DS" ∷ "DT" ∷ "FD" ∷ "FL" ∷ "IS" ∷ "LO" ∷ "LT" ∷ "OB" ∷ "OD" ∷ "OF" ∷ "OL" ∷ "OV" ∷ "OW" ∷ "PN" ∷ "SH" ∷ "SL" ∷ "SQ" ∷ "SS" ∷ "ST" ∷ "SV" ∷ "TM" ∷ "UC" ∷ "UI" ∷ "UL" ∷ "UN" ∷ "UR" ∷ "US" ∷ "UT" ∷ "UV" ∷ [])
all_vrs-spelt = refl

pub all_vrs-each : {A : Type 0} (f : ℕ → A) (c : A) → map f all_vrs ≡ replicate 34 c → (vr : ℕ) → among vr all_vrs ≡ true → f vr ≡ c
all_vrs-each f c h vr is = among-each f c vr all_vrs h is

pub all_vrs-two : (vr : ℕ) → among vr all_vrs ≡ true → vr < 65536
all_vrs-two vr is = ltb→lt vr 65536 (rw (all_vrs-each (λ v. ltb v 65536) true refl vr is) tt)

-- ---- kind_of

sq-all_vrs : among SQ all_vrs ≡ true
unfolding among
sq-all_vrs = refl

long-all_vrs : map (λ v. among v all_vrs) long ≡ replicate 13 true
unfolding among
long-all_vrs = refl

pub kind_of-unknown : (vr : ℕ) → among vr all_vrs ≡ false → kind_of vr ≡ None
unfolding kind_of
kind_of-unknown vr none = rw (eqb-less vr SQ all_vrs sq-all_vrs none, among-less vr long all_vrs long-all_vrs none, none)

pub kind_of-all_vrs : (vr : ℕ) → (kind_of vr ≡ None → ⊥) → among vr all_vrs ≡ true
kind_of-all_vrs vr n = step (among vr all_vrs) refl
  where
    step : (b : Bool) → among vr all_vrs ≡ b → b ≡ true
    step true e = refl
    step false e = absurd (n (kind_of-unknown vr e))

pub kind_of-sequence : (vr : ℕ) → kind_of vr ≡ Some Sequence → vr ≡ SQ
unfolding kind_of
kind_of-sequence vr e = step (eqb vr SQ) (among vr long) (among vr all_vrs) refl e
  where
    step : (a b c : Bool) → eqb vr SQ ≡ a → pick a (Some Sequence) (pick b (Some Long) (pick c (Some Short) None)) ≡ Some Sequence → vr ≡ SQ
    step true b c q e = eqb-true vr SQ q
    step false true c q e = absurd (let z : ◌≡◌ {A = ℕ} 0 1 = cc in omega arith)
    step false false true q e = absurd (let z : ◌≡◌ {A = ℕ} 0 1 = cc in omega arith)
    step false false false q e = absurd (let z : ◌≡◌ {A = ℕ} 0 1 = cc in omega arith)

-- ---- dummy_of

pub dummy_of-short : (vr : ℕ) → length (dummy_of vr) ≤ 14
unfolding dummy_of among
dummy_of-short vr = grind (arith, nat_tests)

pub dummy_of-front : (vr : ℕ) → take (length (dummy_of vr)) (in_room (dummy_of vr)) ≡ dummy_of vr
dummy_of-front vr = take_at (dummy_of vr) (replicate (14 - length (dummy_of vr)) 0) (length (dummy_of vr)) refl
