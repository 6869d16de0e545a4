-- What happens to an element: document 01, "What each action writes". Under given settings it follows from the element's level, tag and
-- VR alone, never from its value (K4). `Level` and `Fate` are the code's own enums, `src/lib.rt`, which says what each case is.
-- Laws: `proofs/FatesLaws.antt`. Assumes nothing.
--     is_top level                a test: the level is the top one
--     as_d vr                     the fate that D gives
--     by_action a vr              the fate that an action gives an element of this VR, one line for each action
--     fate_of options level tag vr the fate of an element under the option number
--     fate s level tag vr         the same under the settings s
--     leaves_out φ                a test: an element of this fate is left out
--     walks_into φ                a test: a sequence of this fate is walked into
--     below φ level               the level of what stands in the items of a sequence of this fate
use Rattle.std.specs.Prelude.{Bool, true, false, [], ◌∷◌, ℕ, eqb}
use Rattle.basis.specs.Choice.{pick, among}
use Rattle.vr.specs.Names.{DA, DT, SQ, TM, UI}
use Rattle.table.specs.Action.{action_of}
use Rattle.table.specs.declared.Action.{Action}
use Rattle.table.specs.declared.Action.TheVariants.{Remove, Keep, Empty, Dummy, Rename, Clean, CleanDates}
use Rattle.treatment.specs.declared.Level.{Level}
use Rattle.treatment.specs.declared.Level.TheVariants.{Top, Inner, Under}
use Rattle.treatment.specs.declared.Fate.{Fate}
use Rattle.treatment.specs.declared.Fate.TheVariants.{Removed, Kept, Walked, Emptied, Dummied, Renamed, Shifted, Wrong}
use Rattle.treatment.specs.Settings.{Settings}

abbrev pub is_top : Level → Bool
is_top Top = true
is_top Inner = false
is_top Under = false

-- D: a UI is treated as U
abbrev pub as_d : ℕ → Fate
as_d vr = pick (eqb vr UI) Renamed Dummied

-- X, K, Z, D, U, C, and C in Modified Dates' column
abbrev pub by_action : Action → ℕ → Fate
by_action Remove vr = Removed
by_action Keep vr = pick (eqb vr SQ) Walked Kept
by_action Empty vr = Emptied
by_action Dummy vr = as_d vr
by_action Rename vr = pick (eqb vr UI) Renamed (pick (eqb vr SQ) Walked Wrong)
by_action Clean vr = pick (eqb vr SQ) Walked (as_d vr)
by_action CleanDates vr = pick (eqb vr SQ) Walked (pick (among vr (DA ∷ DT ∷ [])) Shifted (pick (eqb vr TM) Kept (as_d vr)))

unfoldable pub fate_of : ℕ → Level → ℕ → ℕ → Fate
fate_of options level tag vr = by_action (action_of options (is_top level) tag) vr

abbrev pub fate : Settings → Level → ℕ → ℕ → Fate
fate s level tag vr = fate_of s.options level tag vr

-- X
abbrev pub leaves_out : Fate → Bool
leaves_out Removed = true
leaves_out Kept = false
leaves_out Walked = false
leaves_out Emptied = false
leaves_out Dummied = false
leaves_out Renamed = false
leaves_out Shifted = false
leaves_out Wrong = false

-- K, U and C on a sequence
abbrev pub walks_into : Fate → Bool
walks_into Removed = false
walks_into Kept = false
walks_into Walked = true
walks_into Emptied = false
walks_into Dummied = false
walks_into Renamed = false
walks_into Shifted = false
walks_into Wrong = false

-- an item's, whatever the fate; request No. 3 will lead from a D sequence to the third level
abbrev pub below : Fate → Level → Level
below φ Top = Inner
below φ Inner = Inner
below φ Under = Under
