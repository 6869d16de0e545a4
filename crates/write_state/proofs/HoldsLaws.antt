-- What the output, the ledger and the progress hold, as the walk goes on: laws of `Holds` in `specs/Wrote.antt`. Assumes nothing.
--     holds-say       bytes were written at the walk's place
--     holds-count     an element was counted
--     slots-same      the slots in use are the same bytes, over two steps
use mathlib.Core.Path.{◌≡◌, sym, ap, ◌∙◌}
use mathlib.Core.List.{List}
use Prim.Native.Nat.{ℕ, ◌+◌, ◌*◌, ◌≤◌}
use native.Mathlib.Omega.{arith}
use lib.ListN.{length, take, length-append}
use lib.Seq.{take-take}
use Rattle.buffer.specs.Buffer.{laid}
use Rattle.buffer.proofs.Laws.{laid-more}
use Rattle.ledger.specs.Slots.{slot_size}
use Rattle.kept.specs.Counts.{Counts, counts, plus}
use Rattle.write_state.specs.Passed.{State, say, count}
use Rattle.write_state.specs.Steps.{at_place}
use Rattle.write_state.specs.Wrote.{Holds}
use Rattle.write_state.specs.declared.Progress.{Progress}

module _ {out₀ l₀ : List ℕ} {base : ℕ} {out l : List ℕ} {t : Progress} {st : State} (h : Holds out₀ l₀ base out l t st) where
  pub holds-say : (xs : List ℕ) {out' : List ℕ} {p : ℕ} → out' ≡ laid out t.pos xs → p ≡ t.pos + length xs
      → Holds out₀ l₀ base out' l (at_place t p) (say st xs)
  holds-say xs e q = record {
    pos_is = omega (arith, q, h.pos_is, length-append st.bytes xs);
    out_is = laid-more out₀ base st.bytes xs h.out_is h.pos_is e;
    used_is = h.used_is;
    slots_are = h.slots_are;
    ledger_is = h.ledger_is;
    counts_are = h.counts_are;
  }

  pub holds-count : (u : Progress) (c : Counts) → u.pos ≡ t.pos → u.used ≡ t.used
      → counts u.kept u.replaced u.renamed u.removed ≡ plus (counts t.kept t.replaced t.renamed t.removed) c
      → Holds out₀ l₀ base out l u (count st c)
  holds-count u c p q e = record {
    pos_is = p ∙ h.pos_is;
    out_is = h.out_is;
    used_is = q ∙ h.used_is;
    slots_are = rw q h.slots_are;
    ledger_is = h.ledger_is;
    counts_are = e ∙ ap (λ a. plus a c) h.counts_are;
  }

pub slots-same : (n m : ℕ) → n ≤ m → (l l₁ l₂ : List ℕ) → take (slot_size * n) l₁ ≡ take (slot_size * n) l → take (slot_size * m) l₂ ≡ take (slot_size * m) l₁
    → take (slot_size * n) l₂ ≡ take (slot_size * n) l
slots-same n m le l l₁ l₂ e f = shorter l₂ ∙ ap (take (slot_size * n)) f ∙ sym (shorter l₁) ∙ e
  where
    shorter : (k : List ℕ) → take (slot_size * n) k ≡ take (slot_size * n) (take (slot_size * m) k)
    shorter k = sym (take-take (slot_size * n) (slot_size * m) k (omega arith))
