-- What the renaming of a UI element hands over: document 01, "UIDs, dates, lists", first paragraph, and refusal 13; readings U6 to
-- U10 and W19. The contract of `put_renamed` cites `RenamedValue`. Laws: `proofs/Whole.antt`. Assumes nothing.
--     slots_once_met l used us            the slots in use once the UIDs us were met, of a ledger l with `used` slots in use
--     renamed_text root l used us       the value that holds the new UIDs of us
--     renamed_element tag root l used us the bytes of the whole element
--     Renaming                          how a renaming ended: no slot was free for a UID; or the output's next place, and the new count of slots in use
--     RenamedRightly out out' pos xs l l' ks r     r is the right answer where the output out is to gain the bytes xs at pos and the ledger l the
--                                       slots ks: out' and l' are what they are left as. `None` is right only where ks are too many
--     Bounds pos more used most r       whatever the value is: where r may lie, and how many slots may be in use
--     RenamedValue                      all that a caller is told
-- The numbers of `bounds`: a header of 8 bytes and one that pads; for each piece, of which there are at most one more than bytes, a UID of
-- 64, a backslash and one to spare. The longest root leaves room for a dot and the digits of every slot (U4).
-- That the value keeps the rule for UIDs is a premise of `right`: for another value the answer is safe, and says nothing.
use Rattle.std.specs.Prelude.{◌≡◌, List, map, ℕ, ◌+◌, ◌*◌, ◌≤◌, ◌<◌, length, take, Option, None, Some}
use Rattle.buffer.specs.Buffer.{laid}
use Rattle.vr.specs.Names.{UI}
use Rattle.layout.specs.Tree.{value}
use Rattle.uid.specs.Value.{uids_of}
use Rattle.uid.specs.NewUid.{uids_text}
use Rattle.ledger.specs.FirstMet.{learns, numbers, same_uid}
use Rattle.ledger.specs.Slots.{slot_size, slots_of, slot_of, slots_in, flat}
use Rattle.write_values.specs.Element.{element_bytes}

abbrev pub slots_once_met : List ℕ → ℕ → List (List ℕ) → List (List ℕ)
slots_once_met l used us = learns same_uid (slots_in l used) (map slot_of us)

abbrev pub renamed_text : List ℕ → List ℕ → ℕ → List (List ℕ) → List ℕ
renamed_text root l used us = uids_text root (numbers same_uid (slots_in l used) (map slot_of us))

abbrev pub renamed_element : ℕ → List ℕ → List ℕ → ℕ → List (List ℕ) → List ℕ
renamed_element tag root l used us = element_bytes tag UI (value (renamed_text root l used us))

abbrev pub Renaming : Type 0
Renaming = Option (ℕ × ℕ)

abbrev pub RenamedRightly : List ℕ → List ℕ → ℕ → List ℕ → List ℕ → List ℕ → List (List ℕ) → Renaming → Type 0
RenamedRightly out out' pos xs l l' ks None = slots_of l < length ks
RenamedRightly out out' pos xs l l' ks (Some (p, m)) =
    (p ≡ pos + length xs) × (out' ≡ laid out pos xs) × (m ≡ length ks) × (slots_in l' m ≡ ks) × (l' ≡ laid l 0 (flat ks))

abbrev pub Bounds : ℕ → ℕ → ℕ → ℕ → Renaming → Type 0
Bounds pos more used most None = Unit {0}
Bounds pos more used most (Some (p, m)) = (pos ≤ p) × (p ≤ pos + more) × (used ≤ m) × (m ≤ most)

pub record RenamedValue (tag : ℕ) (v root l l' : List ℕ) (used : ℕ) (out out' : List ℕ) (pos : ℕ) (r : Renaming) : Type 0 where
  pub out_size : length out' ≡ length out
  pub ledger_size : length l' ≡ length l
  pub kept : take (slot_size * used) l' ≡ take (slot_size * used) l
  pub bounds : Bounds pos (9 + 66 * (length v + 1)) used (slots_of l) r
  pub right : (us : List (List ℕ)) → uids_of v ≡ Some us
      → RenamedRightly out out' pos (renamed_element tag root l used us) l l' (slots_once_met l used us) r
