-- What is written of kept content once its names are numbers: document 01, "What each action writes". Laws: `proofs/WrittenLaws.antt`.
-- Assumes nothing.
--     shifted_as s vr v       a DA or DT value, shifted
--     value_as s φ vr v       what is written of a value that is shown
--     written_of c s level    the elements that are written of the content c of a level
--     export s c              the data set that is written: the content of the top level, and what that level gains
--     written s c             its bytes
use Rattle.std.specs.Prelude.{List, ℕ, eqb}
use Rattle.vr.specs.Names.{DA}
use Rattle.layout.specs.Tree.{Field, value, items, nil, elem, Items, none as no_item, item, Data}
use Rattle.layout.specs.Write.{bytes_of}
use Rattle.uid.specs.NewUid.{uids_text}
use Rattle.calendar.specs.Values.{shifted_value}
use Rattle.treatment.specs.Settings.{Settings}
use Rattle.treatment.specs.Fates.{fate, below}
use Rattle.treatment.specs.declared.Level.{Level}
use Rattle.treatment.specs.declared.Level.TheVariants.{Top}
use Rattle.treatment.specs.declared.Fate.{Fate}
use Rattle.treatment.specs.declared.Fate.TheVariants.{Removed, Kept, Walked, Emptied, Dummied, Renamed, Shifted, Wrong}
use Rattle.kept.specs.Content.{Body, shown, blank, uids, walk, Content, end, keep, Walks, last, each}
use Rattle.kept.specs.Fillers.{or, filler}
use Rattle.kept.specs.Markers.{with_markers}

unfoldable pub shifted_as : Settings → ℕ → List ℕ → List ℕ
shifted_as s vr v = or (shifted_value (eqb vr DA) s.shift v) v

abbrev pub value_as : Settings → Fate → ℕ → List ℕ → List ℕ
value_as s Removed vr v = v
value_as s Kept vr v = v
value_as s Walked vr v = v
value_as s Emptied vr v = v
value_as s Dummied vr v = v
value_as s Renamed vr v = v
value_as s Shifted vr v = shifted_as s vr v
value_as s Wrong vr v = v

unfoldable mutual
  pub written_field : Body ℕ → Settings → Level → ℕ → ℕ → Field (Unit {0})
  written_field (shown v) s level tag vr = value (value_as s (fate s level tag vr) vr v)
  written_field blank s level tag vr = filler s (fate s level tag vr) tag vr
  written_field (uids ns) s level tag vr = value (uids_text s.root ns)
  written_field (walk ws) s level tag vr = items (written_items ws s (below (fate s level tag vr) level))

  pub written_of : Content ℕ → Settings → Level → Data
  written_of end s level = nil
  written_of (keep tag vr b c) s level = elem tt tag vr (written_field b s level tag vr) (written_of c s level)

  pub written_items : Walks ℕ → Settings → Level → Items (Unit {0})
  written_items last s level = no_item
  written_items (each c ws) s level = item (written_of c s level) (written_items ws s level)

unfoldable pub export : Settings → Content ℕ → Data
export s c = with_markers s.options (written_of c s Top)

unfoldable pub written : Settings → Content ℕ → List ℕ
written s c = bytes_of (export s c)
