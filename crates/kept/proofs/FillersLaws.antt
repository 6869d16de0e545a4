-- Laws of `specs/Fillers.antt`. No contract cites this file. Assumes nothing.
--     spaced-even, spaced-length     what is spaced has an even length, at most one more
--     lengths_below-value, lengths_below-known, lengths_below-other
--                                a known VR other than SQ takes 65,535 bytes;
--                                a VR that takes any length is known, and is not SQ
--     listed-length                  a list value has at most 64 bytes
--     value-made                     a short value, spaced, fits every known VR other than SQ
--     emptied_as-made, dummied_as-made what stands in the place of a value is well-made, one item deep
use mathlib.Core.Path.{◌≡◌, refl, ap, ◌∙◌}
use mathlib.Core.Logic.{◌≢◌, ◌⊎◌, inl, inr, ⊎_elim}
use mathlib.Core.Bool.{Bool, true, false}
use mathlib.Core.List.{List, [], ◌∷◌, ◌++◌}
use Rattle.std.specs.Prelude.{Option, None, Some}
use Rattle.std.proofs.lemmas.Option.{none-some}
use Prim.Native.Nat.{ℕ, ◌+◌, ◌%◌, ◌≤◌, ◌<◌}
use native.Mathlib.Omega.{arith}
use lib.Dec.{eqb}
use lib.ListN.{length, length-append}
use borrow.Author.Tests.{eqb-true, eqb-false, ne_eqb}
use Rattle.basis.specs.Choice.{pick, among}
use Rattle.basis.proofs.ChoiceLaws.{pick-case}
use Rattle.vr.specs.Names.{SQ}
use Rattle.vr.specs.Vr.{all_vrs, long, kind_of, served_by_lists, dummy_of}
use Rattle.vr.specs.declared.Kind.TheVariants.{Short, Long, Sequence}
use Rattle.vr.proofs.VrLaws.{kind_of-all_vrs, dummy_of-short}
use Rattle.layout.specs.Tree.{value, items, nil, none as no_item, item}
use Rattle.layout.specs.Made.{lengths_below, Made, MadeField}
use Rattle.layout.proofs.LiesLaws.{lengths_below-unknown, lengths_below-sequence, lengths_below-short, lengths_below-long}
use Rattle.lists.specs.Lists.{most_value}
use Rattle.lists.specs.Lookup.{asked}
use Rattle.lists.proofs.LookupLaws.{asked-length}
use Rattle.treatment.specs.Settings.{Settings}
use Rattle.kept.specs.Fillers.{spaced, listed, or, emptied_as, dummied_as}

-- ---- spaced

pub spaced-even : (t : List ℕ) → length (spaced t) % 2 ≡ 0
unfolding spaced
spaced-even t =
    pick-case (λ u. length u % 2 ≡ 0) (eqb (length t % 2) 0) t (t ++ 0x20 ∷ []) (λ e. eqb-true (length t % 2) 0 e)
    (λ e. let n : length t % 2 ≢ 0 = eqb-false (length t % 2) 0 e in omega (arith, length-append t (0x20 ∷ [])))

pub spaced-length : (t : List ℕ) → length (spaced t) ≤ length t + 1
unfolding spaced
spaced-length t =
    pick-case (λ u. length u ≤ length t + 1) (eqb (length t % 2) 0) t (t ++ 0x20 ∷ []) (λ e. omega arith)
    (λ e. omega (arith, length-append t (0x20 ∷ [])))

-- ---- lengths_below, of `layout`

kind_of-value : (vr : ℕ) → among vr all_vrs ≡ true → vr ≢ SQ → (kind_of vr ≡ Some Long) ⊎ (kind_of vr ≡ Some Short)
unfolding kind_of
kind_of-value vr is n = rw (ne_eqb vr SQ n, is) (step (among vr long))
  where
    step : (b : Bool) → (pick b (Some Long) (Some Short) ≡ Some Long) ⊎ (pick b (Some Long) (Some Short) ≡ Some Short)
    step true = inl refl
    step false = inr refl

pub lengths_below-value : (vr : ℕ) → among vr all_vrs ≡ true → vr ≢ SQ → 65536 ≤ lengths_below vr
lengths_below-value vr is n = ⊎_elim (λ e. rw (lengths_below-long vr e) (omega arith)) (λ e. rw (lengths_below-short vr e) (omega arith)) (kind_of-value vr is n)

pub lengths_below-known : (vr n : ℕ) → n < lengths_below vr → among vr all_vrs ≡ true
lengths_below-known vr n h = kind_of-all_vrs vr (λ e. let z : n < 0 = rw (lengths_below-unknown vr e) at h in omega arith)

sq-sequence : kind_of SQ ≡ Some Sequence
unfolding kind_of
sq-sequence = refl

pub lengths_below-other : (vr n : ℕ) → n < lengths_below vr → vr ≢ SQ
lengths_below-other vr n h e = let z : n < 0 = rw (ap lengths_below e ∙ lengths_below-sequence SQ sq-sequence) at h in omega arith

-- ---- listed

pub listed-length : (s : Settings) (tag vr : ℕ) (v : List ℕ) → listed s tag vr ≡ Some v → length v ≤ most_value
unfolding listed
listed-length s tag vr v e = step (served_by_lists vr) e
  where
    step : (b : Bool) → pick b (asked s.study s.site tag) None ≡ Some v → length v ≤ most_value
    step true e = (asked-length s.study s.site tag v e).1
    step false e = absurd (none-some v e)

or-length : (o : Option (List ℕ)) (t : List ℕ) (n : ℕ) → ((v : List ℕ) → o ≡ Some v → length v ≤ n) → length t ≤ n → length (or o t) ≤ n
or-length None t n f h = h
or-length (Some v) t n f h = f v refl

-- ---- emptied_as, dummied_as

pub value-made : (depth vr : ℕ) (t : List ℕ) → among vr all_vrs ≡ true → vr ≢ SQ → length t ≤ most_value → MadeField {L = Unit {0}} depth vr (value (spaced t))
unfolding Made
value-made depth vr t is n h = (spaced-even t, omega (arith, spaced-length t, lengths_below-value vr is n))

module _ (s : Settings) (tag vr depth : ℕ) (is : among vr all_vrs ≡ true) where
  pub emptied_as-made : MadeField depth vr (emptied_as s tag vr)
  unfolding emptied_as Made
  emptied_as-made =
      pick-case (MadeField depth vr) (eqb vr SQ) (items no_item) (value (spaced (or (listed s tag vr) []))) (λ e. (eqb-true vr SQ e, tt))
      (λ e. value-made depth vr (or (listed s tag vr) []) is (eqb-false vr SQ e) (or-length (listed s tag vr) [] most_value (listed-length s tag vr) (omega arith)))

  pub dummied_as-made : 0 < depth → MadeField depth vr (dummied_as s tag vr)
  unfolding dummied_as Made
  dummied_as-made pos =
      pick-case (MadeField depth vr) (eqb vr SQ) (items (item nil no_item)) (value (spaced (or (listed s tag vr) (dummy_of vr)))) (λ e. (eqb-true vr SQ e, (pos, tt, tt)))
      (λ e. value-made depth vr (or (listed s tag vr) (dummy_of vr)) is (eqb-false vr SQ e)
      (or-length (listed s tag vr) (dummy_of vr) most_value (listed-length s tag vr) (omega (arith, dummy_of-short vr))))
