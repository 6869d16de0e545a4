-- What the steps inside `put_renamed` hand over; each is short for words of the other files. Inner contracts cite this file, no
-- promise does. Laws: `proofs/Turns.antt`, `proofs/Whole.antt`. Assumes nothing.
--     SlotFound             a UID got its slot as the ledger has it; a text that is too long for a slot got none, and the ledger stayed
--     text_of root ks us    the new UIDs of us with backslashes between them, numbered from the names ks on
--     Texted                the text of a value was written, where its pieces are UIDs
--     Finished              a text that stands eight bytes on was made a whole UI element: a zero byte where its length is odd, and the header
use Rattle.std.specs.Prelude.{◌≡◌, true, List, ◌++◌, map, ℕ, ◌+◌, ◌*◌, ◌≤◌, ◌<◌, length, take, Option, None}
use Rattle.basis.specs.Pieces.{pieces, joined}
use Rattle.basis.specs.Choice.{every}
use Rattle.buffer.specs.Buffer.{laid}
use Rattle.vr.specs.Names.{UI}
use Rattle.layout.specs.Tree.{value}
use Rattle.uid.specs.Uid.{is_uid}
use Rattle.uid.specs.Value.{zero_pad}
use Rattle.uid.specs.NewUid.{new_uid}
use Rattle.ledger.specs.FirstMet.{numbers, same_uid}
use Rattle.ledger.specs.Slots.{slot_size, slots_of, slot_of, slots_in}
use Rattle.ledger.specs.SlotFor.{slot_for, ledger_for}
use Rattle.ledger.specs.declared.Slot.{Slot}
use Rattle.write_values.specs.Element.{element_bytes}
use Rattle.write_uids.specs.Renamed.{Renaming, slots_once_met, RenamedRightly, Bounds}

pub record SlotFound (u l l' : List ℕ) (used : ℕ) (r : Option Slot) : Type 0 where
  pub short : length u ≤ slot_size → (r ≡ slot_for l used (slot_of u)) × (l' ≡ ledger_for l used (slot_of u))
  pub long : slot_size < length u → (r ≡ None) × (l' ≡ l)

abbrev pub text_of : List ℕ → List (List ℕ) → List (List ℕ) → List ℕ
text_of root ks us = joined (map (new_uid root) (numbers same_uid ks (map slot_of us)))

pub record Texted (v root l l' : List ℕ) (used : ℕ) (out out' : List ℕ) (pos : ℕ) (r : Renaming) : Type 0 where
  pub out_size : length out' ≡ length out
  pub ledger_size : length l' ≡ length l
  pub kept : take (slot_size * used) l' ≡ take (slot_size * used) l
  pub bounds : Bounds pos (66 * (length v + 1)) used (slots_of l) r
  pub right : every is_uid (pieces v) ≡ true
      → RenamedRightly out out' pos (text_of root (slots_in l used) (pieces v)) l l' (slots_once_met l used (pieces v)) r

pub record Finished (out out' : List ℕ) (tag pos p r : ℕ) : Type 0 where
  pub out_size : length out' ≡ length out
  pub upto : (p ≤ r) × (r ≤ p + 1)
  pub whole : (out₀ text : List ℕ) → out ≡ laid out₀ (pos + 8) text → p ≡ pos + 8 + length text
      → (r ≡ pos + length (element_bytes tag UI (value (text ++ zero_pad text)))) × (out' ≡ laid out₀ pos (element_bytes tag UI (value (text ++ zero_pad text))))
