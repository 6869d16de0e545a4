-- The kept content of a data set: document 01, "Kept content and the four counts", 1st paragraph; readings K1 to K6.
-- Laws: `proofs/KeptLaws.antt`. Assumes nothing.
--     Uid                   a UID, as its characters
--     held_uids v           the UIDs of a value that obeys its rule
--     kept_of es s level    the kept content of the elements es, which stand on this level, under the settings s
use Rattle.std.specs.Prelude.{List, [], ℕ, Option, None, Some}
use Rattle.basis.specs.Choice.{pick}
use Rattle.layout.specs.Tree.{Field, value, items, Elements, nil, elem, Items, none as no_item, item}
use Rattle.uid.specs.Value.{uids_of}
use Rattle.treatment.specs.Settings.{Settings}
use Rattle.treatment.specs.Fates.{fate, leaves_out, walks_into, below}
use Rattle.treatment.specs.declared.Level.{Level}
use Rattle.treatment.specs.declared.Fate.{Fate}
use Rattle.treatment.specs.declared.Fate.TheVariants.{Removed, Kept, Walked, Emptied, Dummied, Renamed, Shifted, Wrong}
use Rattle.kept.specs.Content.{Body, shown, blank, uids, walk, Content, end, keep, Walks, last, each}

abbrev pub Uid : Type 0
Uid = List ℕ

abbrev pub or_none : Option (List Uid) → List Uid
or_none None = []
or_none (Some us) = us

abbrev pub held_uids : List ℕ → List Uid
held_uids v = or_none (uids_of v)

-- what is shown of a value, by the element's fate: a shifted one as it came in (K1)
abbrev pub kept_value : List ℕ → Fate → Body Uid
kept_value v Removed = blank
kept_value v Kept = shown v
kept_value v Walked = blank
kept_value v Emptied = blank
kept_value v Dummied = blank
kept_value v Renamed = uids (held_uids v)
kept_value v Shifted = shown v
kept_value v Wrong = blank

-- what is shown of a sequence: its items where it is walked into, else nothing (K5)
abbrev pub kept_sequence : Walks Uid → Fate → Body Uid
kept_sequence ws φ = pick (walks_into φ) (walk ws) blank

-- an element appears unless it is removed
abbrev pub entry : Fate → ℕ → ℕ → (Fate → Body Uid) → Content Uid → Content Uid
entry φ tag vr b c = pick (leaves_out φ) c (keep tag vr (b φ) c)

unfoldable mutual
  pub kept_field : {L : Type 0} → Field L → Settings → Level → Fate → Body Uid
  kept_field (value v) s level φ = kept_value v φ
  kept_field (items is) s level φ = kept_sequence (kept_items is s (below φ level)) φ

  pub kept_of : {L : Type 0} → Elements L → Settings → Level → Content Uid
  kept_of nil s level = end
  kept_of (elem l tag vr f es) s level = entry (fate s level tag vr) tag vr (λ φ. kept_field f s level φ) (kept_of es s level)

  pub kept_items : {L : Type 0} → Items L → Settings → Level → Walks Uid
  kept_items no_item s level = last
  kept_items (item es is) s level = each (kept_of es s level) (kept_items is s level)
