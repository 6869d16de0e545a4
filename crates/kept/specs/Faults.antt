-- The first fault among the values, front to back: document 01, refusals 11 and 12, and their order; readings W9, R4, R5, D1, D6.
-- Nothing inside what is removed, emptied or dummied is judged. Laws: `proofs/FaultsLaws.antt`. Assumes nothing.
--     value_fault s φ vr v     the refusal of an element with this fate and value, if there is one
--     at r offset              the fault at this offset, where there is a refusal
--     first_fault es s level   the first fault of the elements es of a level, with the items that are walked into
use Rattle.std.specs.Prelude.{List, ℕ, eqb, Option, None, Some}
use Rattle.basis.specs.Choice.{pick, is_none}
use Rattle.refusals.specs.declared.Refusal.{Refusal}
use Rattle.refusals.specs.declared.Refusal.TheVariants.{BadUids, BadDates}
use Rattle.refusals.specs.declared.Fault.{Fault}
use Rattle.vr.specs.Names.{DA}
use Rattle.layout.specs.Tree.{Field, value, items, Elements, nil, elem, Items, none as no_item, item, Place}
use Rattle.uid.specs.Value.{uids_fault}
use Rattle.calendar.specs.Values.{shifted_value}
use Rattle.treatment.specs.Settings.{Settings}
use Rattle.treatment.specs.Fates.{fate, walks_into, below}
use Rattle.treatment.specs.declared.Level.{Level}
use Rattle.treatment.specs.declared.Fate.{Fate}
use Rattle.treatment.specs.declared.Fate.TheVariants.{Removed, Kept, Walked, Emptied, Dummied, Renamed, Shifted, Wrong}

abbrev pub value_fault : Settings → Fate → ℕ → List ℕ → Option Refusal
value_fault s Removed vr v = None
value_fault s Kept vr v = None
value_fault s Walked vr v = None
value_fault s Emptied vr v = None
value_fault s Dummied vr v = None
value_fault s Renamed vr v = pick (uids_fault v) (Some BadUids) None
value_fault s Shifted vr v = pick (is_none (shifted_value (eqb vr DA) s.shift v)) (Some BadDates) None
value_fault s Wrong vr v = Some BadUids

abbrev pub at : Option Refusal → ℕ → Option Fault
at None offset = None
at (Some r) offset = Some (record { refusal = r; offset = offset })

abbrev pub first : Option Fault → Option Fault → Option Fault
first None y = y
first (Some x) y = Some x

-- a sequence is judged inside where it is walked into; none has a fault of its own, since U walks into it
abbrev pub sequence_fault : Option Fault → Fate → Option Fault
sequence_fault inside φ = pick (walks_into φ) inside None

unfoldable mutual
  pub field_fault : Field Place → Settings → Level → Fate → ℕ → ℕ → Option Fault
  field_fault (value v) s level φ vr offset = at (value_fault s φ vr v) offset
  field_fault (items is) s level φ vr offset = sequence_fault (items_fault is s (below φ level)) φ

  pub first_fault : Elements Place → Settings → Level → Option Fault
  first_fault nil s level = None
  first_fault (elem p tag vr f es) s level = first (field_fault f s level (fate s level tag vr) vr p.at) (first_fault es s level)

  pub items_fault : Items Place → Settings → Level → Option Fault
  items_fault no_item s level = None
  items_fault (item es is) s level = first (first_fault es s level) (items_fault is s level)
