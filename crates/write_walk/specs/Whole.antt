-- What the walk over a whole data set promises: document 01, "What each action writes", "UIDs, dates, lists", and "Kept content and the
-- four counts". Every part is a definition of `outcome` or `kept`. Laws: `proofs/WholeLaws.antt`. Assumes nothing.
--     Ended i es past out out' l l' pos r    r, the output out' and the ledger l', which were out and l, are right for the input i: all was written from
--                            the place pos on, clipped at the room, and every UID has its slot, and the walk ended where the data set does; or none, only
--                            where there are more UIDs than slots
--     Whole                  all that a caller is told: sizes and the slots in use stay whatever the bytes are, and where the data set has
--                            its shape and no fault among its values, the answer is right
use Rattle.std.specs.Prelude.{◌≡◌, List, ℕ, ◌+◌, ◌*◌, ◌≤◌, ◌<◌, length, take, None, Some}
use Rattle.buffer.specs.Buffer.{laid}
use Rattle.layout.specs.Source.{Source}
use Rattle.layout.specs.Tree.{Elements, Place}
use Rattle.layout.specs.Read.{good}
use Rattle.ledger.specs.Slots.{slot_size, slots_of, flat}
use Rattle.treatment.specs.Settings.{Settings}
use Rattle.treatment.specs.declared.Level.TheVariants.{Top}
use Rattle.kept.specs.Counts.{counts, counts_of}
use Rattle.kept.specs.Faults.{first_fault}
use Rattle.outcome.specs.Input.{Input, read_as, slots_after, bytes_for}
use Rattle.write_state.specs.Wrote.{Walk}

abbrev pub Ended : Input → Elements Place → ℕ → List ℕ → List ℕ → List ℕ → List ℕ → ℕ → Walk → Type 0
Ended i es past out out' l l' pos None = slots_of l < length (slots_after i)
Ended i es past out out' l l' pos (Some (to, t)) =
    (t.pos ≡ pos + length (bytes_for i)) × (out' ≡ laid out pos (bytes_for i))
    × (t.used ≡ length (slots_after i)) × (l' ≡ laid l 0 (flat (slots_after i)))
    × (counts t.kept t.replaced t.renamed t.removed ≡ counts_of es i.settings Top) × (t.used ≤ slots_of l)
    × (to ≡ past)

pub record Whole (w : Settings) (x : Source) (l l' : List ℕ) (used : ℕ) (out out' : List ℕ) (pos : ℕ) (r : Walk) : Type 0 where
  pub out_size : length out' ≡ length out
  pub ledger_size : length l' ≡ length l
  pub slots_kept : take (slot_size * used) l' ≡ take (slot_size * used) l
  pub right : (i : Input) → i.settings ≡ w → i.lent ≡ x → i.ledger ≡ l → i.used ≡ used
      → (es : Elements Place) (past : ℕ) → read_as i ≡ good es past → first_fault es i.settings Top ≡ None → Ended i es past out out' l l' pos r
