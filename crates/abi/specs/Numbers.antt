-- The numbers that the C interface hands back. Assumes nothing.
--     view_numbers a      the five numbers of `corravisk_view`: refusal, offset, found, start, length
--     report_numbers r    the eight numbers of `corravisk_deidentify`: refusal, offset, length, count in use, kept, replaced, renamed, removed
--     fate_number f       the number of a fate
--     level_meant n       the level that the number means: 1 is the top
--     action_numbers      the one number of `corravisk_action`: the fate of an element by the option number, its level (1 is the top), tag and VR
use Rattle.std.specs.Prelude.{List, [], ◌∷◌, ℕ, eqb, Option, Result}
use Rattle.view.specs.declared.Part.{Part}
use Rattle.basis.specs.Choice.{pick}
use Rattle.refusals.specs.declared.Fault.{Fault}
use Rattle.view.specs.View.{refusal_of, offset_of, found_of, start_of, length_of}
use Rattle.outcome.specs.Outcome.{Report}
use Rattle.treatment.specs.Fates.{fate_of}
use Rattle.treatment.specs.declared.Level.{Level}
use Rattle.treatment.specs.declared.Level.TheVariants.{Top, Inner}
use Rattle.treatment.specs.declared.Fate.{Fate}
use Rattle.treatment.specs.declared.Fate.TheVariants.{Removed, Kept, Walked, Emptied, Dummied, Renamed, Shifted, Wrong}

abbrev pub view_numbers : Result (Option Part) Fault → List ℕ
view_numbers a = refusal_of a ∷ offset_of a ∷ found_of a ∷ start_of a ∷ length_of a ∷ []

abbrev pub report_numbers : Report → List ℕ
report_numbers r =
    r.refusal ∷ r.offset ∷ r.written ∷ r.used
    ∷ r.counts.stayed ∷ r.counts.replaced ∷ r.counts.renamings ∷ r.counts.removals ∷ []

abbrev pub fate_number : Fate → ℕ
fate_number Removed = 0
fate_number Kept = 1
fate_number Walked = 2
fate_number Emptied = 3
fate_number Dummied = 4
fate_number Renamed = 5
fate_number Shifted = 6
fate_number Wrong = 7

abbrev pub level_meant : ℕ → Level
level_meant top = pick (eqb top 1) Top Inner

abbrev pub action_numbers : ℕ → ℕ → ℕ → ℕ → List ℕ
action_numbers options top tag vr = fate_number (fate_of options (level_meant top) tag vr) ∷ []
