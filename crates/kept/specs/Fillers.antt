-- What stands in the place of a replaced value: document 01, "What each action writes", the lines for Z and D and the paragraph on
-- list values and dummies; readings W1 to W3, W10 to W13. It hangs on the settings, tag and VR alone. Laws: `proofs/FillersLaws.antt`.
-- Assumes nothing.
--     spaced t               t, with one space where its length would be odd
--     listed s tag vr        the list value for the tag, if lists serve the VR and one has it: the study's first
--     emptied_as s tag vr    what an element holds after Z
--     dummied_as s tag vr    what it holds after D
--     filler s φ tag vr      what it holds after the fate φ
use Rattle.std.specs.Prelude.{List, [], ◌∷◌, ◌++◌, ℕ, ◌%◌, eqb, length, Option, None, Some}
use Rattle.basis.specs.Choice.{pick}
use Rattle.vr.specs.Names.{SQ}
use Rattle.vr.specs.Vr.{served_by_lists, dummy_of}
use Rattle.layout.specs.Tree.{Field, value, items, nil, none as no_item, item}
use Rattle.lists.specs.Lookup.{asked}
use Rattle.treatment.specs.Settings.{Settings}
use Rattle.treatment.specs.declared.Fate.{Fate}
use Rattle.treatment.specs.declared.Fate.TheVariants.{Removed, Kept, Walked, Emptied, Dummied, Renamed, Shifted, Wrong}

unfoldable pub spaced : List ℕ → List ℕ
spaced t = pick (eqb (length t % 2) 0) t (t ++ 0x20 ∷ [])

unfoldable pub listed : Settings → ℕ → ℕ → Option (List ℕ)
listed s tag vr = pick (served_by_lists vr) (asked s.study s.site tag) None

abbrev pub or : Option (List ℕ) → List ℕ → List ℕ
or None t = t
or (Some v) t = v

unfoldable pub emptied_as : Settings → ℕ → ℕ → Field (Unit {0})
emptied_as s tag vr = pick (eqb vr SQ) (items no_item) (value (spaced (or (listed s tag vr) [])))

unfoldable pub dummied_as : Settings → ℕ → ℕ → Field (Unit {0})
dummied_as s tag vr = pick (eqb vr SQ) (items (item nil no_item)) (value (spaced (or (listed s tag vr) (dummy_of vr))))

-- no other fate leaves an element blank
abbrev pub filler : Settings → Fate → ℕ → ℕ → Field (Unit {0})
filler s Removed tag vr = value []
filler s Kept tag vr = value []
filler s Walked tag vr = value []
filler s Emptied tag vr = emptied_as s tag vr
filler s Dummied tag vr = dummied_as s tag vr
filler s Renamed tag vr = value []
filler s Shifted tag vr = value []
filler s Wrong tag vr = value []
