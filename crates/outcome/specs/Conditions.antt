-- The fourteen conditions of document 01, "When the station says no": the offset at which each holds, or that it does not. Of 6 to 10,
-- and of 11 and 12, the condition is that the first fault, front to back, has this number. The order in which they are tried is the order of `conditions`. Assumes nothing.
--     Condition I       a refusal's number and its condition on inputs of the kind I: the offset at which it holds, or that it does not
--     at_start b        the offset 0 where the test b holds
--     condition1 to condition5, shape_condition n (6 to 10), value_condition n (11 and 12), condition13, condition14    one for each line
--     conditions        all of them, with their numbers, in order
use Rattle.std.specs.Prelude.{Bool, true, false, not, ◌&&◌, List, [], ◌∷◌, ℕ, eqb, ltb, length, Option, None, Some}
use Rattle.basis.specs.Choice.{pick}
use Rattle.refusals.specs.Refusals.{number, bad_settings, bad_root, bad_count, bad_list, too_long, cut_short, bad_tag, bad_vr, bad_length, too_deep, bad_uids, bad_dates, no_slot, no_room}
use Rattle.refusals.specs.declared.Fault.{Fault}
use Rattle.layout.specs.Limits.{longest}
use Rattle.layout.specs.Tree.{Elements, Place}
use Rattle.layout.specs.Read.{Result, good, fault}
use Rattle.uid.specs.Uid.{is_root}
use Rattle.ledger.specs.Slots.{slots_of}
use Rattle.lists.specs.Lists.{list_ok}
use Rattle.options.specs.Settings.{settings_fault}
use Rattle.treatment.specs.declared.Level.TheVariants.{Top}
use Rattle.kept.specs.Faults.{first_fault}
use Rattle.outcome.specs.Input.{Input, read_as, tree_of, slots_after, bytes_for}

abbrev pub Condition : Type 0 → Type 0
Condition I = ℕ × (I → Option ℕ)

abbrev pub at_start : Bool → Option ℕ
at_start true = Some 0
at_start false = None

-- option number above 63; both date options; shift out of range, or not zero without Modified Dates
unfoldable pub condition1 : Input → Option ℕ
condition1 i = at_start (settings_fault i.settings.options i.settings.shift)

-- the root is no UID, or longer than a root may be
unfoldable pub condition2 : Input → Option ℕ
condition2 i = at_start (not (is_root i.settings.root))

-- more slots in use than there are
unfoldable pub condition3 : Input → Option ℕ
condition3 i = at_start (ltb (slots_of i.ledger) i.used)

-- a list breaks its rule
unfoldable pub condition4 : Input → Option ℕ
condition4 i = at_start (not (list_ok i.settings.study && list_ok i.settings.site))

-- the data set is too long
unfoldable pub condition5 : Input → Option ℕ
condition5 i = at_start (ltb longest (length i.lent.bytes))

-- the first fault of shape, front to back, has this number
abbrev pub fault_is : ℕ → Result (Elements Place) → Option ℕ
fault_is n (good es past) = None
fault_is n (fault r offset) = pick (eqb (number r) n) (Some offset) None

unfoldable pub shape_condition : ℕ → Input → Option ℕ
shape_condition n i = fault_is n (read_as i)

-- the first fault among the values, front to back, has this number
abbrev pub value_is : ℕ → Option Fault → Option ℕ
value_is n None = None
value_is n (Some f) = pick (eqb (number f.refusal) n) (Some f.offset) None

unfoldable pub value_condition : ℕ → Input → Option ℕ
value_condition n i = value_is n (first_fault (tree_of i) i.settings Top)

-- more new UIDs than free slots
unfoldable pub condition13 : Input → Option ℕ
condition13 i = at_start (ltb (slots_of i.ledger) (length (slots_after i)))

-- the output is longer than its buffer
unfoldable pub condition14 : Input → Option ℕ
condition14 i = at_start (ltb i.room (length (bytes_for i)))

abbrev pub conditions : List (Condition Input)
conditions =
    (bad_settings, condition1)
    ∷ (bad_root, condition2)
    ∷ (bad_count, condition3)
    ∷ (bad_list, condition4)
    ∷ (too_long, condition5)
    ∷ (cut_short, shape_condition cut_short)
    ∷ (bad_tag, shape_condition bad_tag)
    ∷ (bad_vr, shape_condition bad_vr)
    ∷ (bad_length, shape_condition bad_length)
    ∷ (too_deep, shape_condition too_deep)
    ∷ (bad_uids, value_condition bad_uids)
    ∷ (bad_dates, value_condition bad_dates)
    ∷ (no_slot, condition13)
    ∷ (no_room, condition14)
    ∷ []
