-- What the steps of the entry promise, one after the other. An entry for another kind of input takes the same steps; the entry's own
-- contract cites `Entry.antt` and `outcome` alone. Assumes nothing.
--     early n s ledger used  the refusal of the first of the conditions 1 to 5 that holds, of an input of n bytes under the settings s, if one does
--     judged_as w r          the first fault of what was read, of its shape or else among its values; or none
--     Judged n x r           the answer r is that of the data set x, for all settings with the numbers n
--     zeroed out, left l used  what a refusal leaves of the output and of the ledger l
--     Counted l walk         the walk's count in use is at most the slots
--     finished, finished_output, finished_ledger    the answer after the walk that writes, and what it leaves
use Rattle.std.specs.Prelude.{◌≡◌, not, ◌&&◌, List, [], ℕ, ◌*◌, ◌≤◌, ltb, length, take, None, Some, Option, Result as Answer, Ok, Err}
use Rattle.basis.specs.Choice.{pick}
use Rattle.buffer.specs.Buffer.{cleared}
use Rattle.refusals.specs.Refusals.{as_fault}
use Rattle.refusals.specs.declared.Refusal.{Refusal}
use Rattle.refusals.specs.declared.Refusal.TheVariants.{BadSettings, BadRoot, BadCount, BadList, TooLong, NoSlot, NoRoom}
use Rattle.refusals.specs.declared.Fault.{Fault}
use Rattle.layout.specs.Limits.{deepest, longest}
use Rattle.layout.specs.Source.{Source}
use Rattle.layout.specs.Tree.{Elements, Place}
use Rattle.layout.specs.Read.{Result, good, fault, read}
use Rattle.uid.specs.Uid.{is_root}
use Rattle.ledger.specs.Slots.{slot_size, slots_of}
use Rattle.lists.specs.Lists.{list_ok}
use Rattle.options.specs.Settings.{settings_fault}
use Rattle.treatment.specs.Settings.{Settings, Given}
use Rattle.treatment.specs.declared.SettingNumbers.{SettingNumbers}
use Rattle.treatment.specs.declared.Level.TheVariants.{Top}
use Rattle.kept.specs.Faults.{first_fault}
use Rattle.outcome.specs.Outcome.{filled_up}
use Rattle.judge_values.specs.Judged.{judged}
use Rattle.write_state.specs.Wrote.{Walk}
use Rattle.write_state.specs.declared.Progress.{Progress}

unfoldable pub early : ℕ → Settings → List ℕ → ℕ → Option Refusal
early n s ledger used =
    pick (settings_fault s.options s.shift) (Some BadSettings)
    (pick (not (is_root s.root)) (Some BadRoot)
    (pick (ltb (slots_of ledger) used) (Some BadCount)
    (pick (not (list_ok s.study && list_ok s.site)) (Some BadList)
    (pick (ltb longest n) (Some TooLong) None))))

abbrev pub judged_as : Settings → Result (Elements Place) → Answer ℕ Fault
judged_as w (good es past) = judged (first_fault es w Top) past
judged_as w (fault r offset) = Err (record { refusal = r; offset = offset })

pub record Judged (n : SettingNumbers) (x : Source) (r : Answer ℕ Fault) : Type 0 where
  pub right : (w : Settings) → Given n w → r ≡ judged_as w (read deepest x)

abbrev pub zeroed : List ℕ → List ℕ
zeroed out = filled_up (length out) []

abbrev pub left : List ℕ → ℕ → List ℕ
left l used = pick (ltb (slots_of l) used) l (filled_up (length l) (take (slot_size * used) l))

abbrev pub Counted : List ℕ → Walk → Type 0
Counted l None = Unit {0}
Counted l (Some (past, t)) = t.used ≤ slots_of l

abbrev pub finished : List ℕ → Walk → Answer Progress Fault
finished out None = Err (as_fault NoSlot)
finished out (Some (past, t)) = pick (ltb (length out) t.pos) (Err (as_fault NoRoom)) (Ok t)

abbrev pub finished_output : List ℕ → Walk → List ℕ
finished_output out None = zeroed out
finished_output out (Some (past, t)) = pick (ltb (length out) t.pos) (zeroed out) (cleared out t.pos)

abbrev pub finished_ledger : List ℕ → List ℕ → ℕ → Walk → List ℕ
finished_ledger out l used None = left l used
finished_ledger out l used (Some (past, t)) = pick (ltb (length out) t.pos) (left l used) (cleared l (slot_size * t.used))
