-- Laws of what is left: a buffer that is cleared from a place on is what stands before that place, filled up with zeros.
-- No contract cites this file. Assumes nothing.
--     cleared-filled     of any buffer, from a place within it on
--     cleared-zeroed     all of it
--     left-cleared, left-whole    the ledger after a refusal, by its two cases
--     slots-same         the slots of a ledger hang on its length alone
--     left-same          what is left hangs on the ledger's length and its slots in use alone
use mathlib.Core.Path.{◌≡◌, sym, ap, ap₂, ◌∙◌}
use mathlib.Core.List.{List, []}
use Prim.Native.Nat.{ℕ, ◌*◌, ◌/◌, ◌≤◌, ◌<◌, min}
use native.Mathlib.Omega.{arith}
use lib.ListN.{length, take}
use lib.Seq.{length-take-le}
use borrow.Author.Tests.{lt-ltb, le-ltb}
use Rattle.buffer.specs.Buffer.{cleared}
use Rattle.buffer.proofs.Laws.{cleared-laid, laid-none}
use Rattle.ledger.specs.Slots.{slot_size, most_slots, slots_of}
use Rattle.ledger.proofs.LaidLaws.{laid-same}
use Rattle.ledger.proofs.SlotLaws.{slots_of-fits}
use Rattle.outcome.specs.Outcome.{filled_up}
use Rattle.station.specs.Steps.{zeroed, left}

pub cleared-filled : (o : List ℕ) (p : ℕ) → p ≤ length o → cleared o p ≡ filled_up (length o) (take p o)
cleared-filled o p h =
    let n : length (take p o) ≡ p = length-take-le p o h in
    ap₂ cleared (sym (laid-same o p)) (sym n) ∙ cleared-laid o (take p o) (omega arith)

pub cleared-zeroed : (o : List ℕ) → cleared o 0 ≡ zeroed o
cleared-zeroed o = ap (λ z. cleared z 0) (sym (laid-none o 0)) ∙ cleared-laid o [] (omega arith)

module _ (l : List ℕ) (used : ℕ) where
  pub left-whole : slots_of l < used → l ≡ left l used
  left-whole h = rw (lt-ltb (slots_of l) used h)

  pub left-cleared : used ≤ slots_of l → cleared l (slot_size * used) ≡ left l used
  left-cleared h = rw (le-ltb (slots_of l) used h) (cleared-filled l (slot_size * used) (slots_of-fits l used h))

-- the slots of a ledger hang on its length alone
pub slots-same : (l l₁ : List ℕ) → length l₁ ≡ length l → slots_of l₁ ≡ slots_of l
slots-same l l₁ e = ap (λ k. min (k / slot_size) most_slots) e

pub left-same : (l l₁ : List ℕ) (used : ℕ) → length l₁ ≡ length l → take (slot_size * used) l₁ ≡ take (slot_size * used) l → used ≤ slots_of l
    → left l₁ used ≡ left l used
left-same l l₁ used n e h =
    let s : slots_of l₁ ≡ slots_of l = slots-same l l₁ n in
    rw (le-ltb (slots_of l) used h, le-ltb (slots_of l₁) used (omega arith)) (ap₂ filled_up n e)
