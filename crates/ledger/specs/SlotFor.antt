-- What the ledger's routines answer and leave: document 01, "UIDs, dates, lists", 5th sentence, in bytes, and refusal 13.
-- Laws: `proofs/SlotForLaws.antt`. Assumes nothing.
--     holds d                 whether the decision d is yes
--     slots_with l used x     the slots in use, with x among them, once it was asked for, of a ledger l with `used` slots in use
--     find l used x           the place of the slot x, counted from 0, among the `used` slots in use of l; nothing where it is none of them
--     numbered k m            the slot of the number k, where m slots are in use then
--     slot_for l used x       the number of the slot x and the new count; nothing where l has no slot left for it
--     ledger_for l used x     the ledger afterwards: the slots in use from its start on, all else as it was
use Rattle.std.specs.Prelude.{Bool, true, false, List, ℕ, leb, ltb, length, Option, None, Some}
use Rattle.basis.specs.Choice.{pick}
use Rattle.buffer.specs.Buffer.{laid}
use Rattle.ledger.specs.FirstMet.{first_at, learn, number_of, same_uid}
use Rattle.ledger.specs.Slots.{slots_of, slots_in, flat}
use Rattle.ledger.specs.declared.Slot.{Slot}

abbrev pub holds : {P : Type 0} → Dec P → Bool
holds (yes p) = true
holds (no n) = false

-- a slot is compared on all its bytes, so one with garbage behind its UID is another UID (U6)
abbrev pub slots_with : List ℕ → ℕ → List ℕ → List (List ℕ)
slots_with l used x = learn same_uid (slots_in l used) x

unfoldable pub find : List ℕ → ℕ → List ℕ → Option ℕ
find l used x = pick (ltb (first_at same_uid (slots_in l used) x) used) (Some (first_at same_uid (slots_in l used) x)) None

abbrev pub numbered : ℕ → ℕ → Option Slot
numbered k m = Some (record { number = k; used = m })

unfoldable pub slot_for : List ℕ → ℕ → List ℕ → Option Slot
slot_for l used x = pick (leb (length (slots_with l used x)) (slots_of l)) (numbered (number_of same_uid (slots_with l used x) x) (length (slots_with l used x))) None

unfoldable pub ledger_for : List ℕ → ℕ → List ℕ → List ℕ
ledger_for l used x = pick (leb (length (slots_with l used x)) (slots_of l)) (laid l 0 (flat (slots_with l used x))) l
