-- Laws of what follows the walk that writes, by what the walk came to. No contract cites this file. Assumes nothing.
--     Finished              the three claims of `finish`
--     no-slot, no-room, all-well     13, 14, done
--     few-bytes             the slots in use have few bytes
use Rattle.refusals.specs.Refusals.{as_fault}
use Rattle.std.specs.Prelude.{None, Some, Result, Ok, Err}
use mathlib.Core.Path.{◌≡◌, subst}
use mathlib.Core.List.{List}
use Prim.Native.Nat.{ℕ, ◌*◌, ◌≤◌, ◌<◌, ◌^◌}
use native.Mathlib.Omega.{arith}
use lib.ListN.{length}
use borrow.Author.Tests.{lt-ltb, le-ltb}
use Rattle.refusals.specs.declared.Refusal.TheVariants.{NoSlot, NoRoom}
use Rattle.refusals.specs.declared.Fault.{Fault}
use Rattle.buffer.specs.Buffer.{cleared}
use Rattle.ledger.specs.Slots.{slot_size, slots_of}
use Rattle.ledger.proofs.SlotLaws.{slots_of-most}
use Rattle.write_state.specs.declared.Progress.{Progress}
use Rattle.write_state.specs.Wrote.{Walk}
use Rattle.station.specs.Steps.{zeroed, left, Counted, finished, finished_output, finished_ledger}

abbrev pub Finished : List ℕ → List ℕ → ℕ → Walk → Result Progress Fault → List ℕ → List ℕ → Type 0
Finished o l used walk r o' l' = (r ≡ finished o walk) × ((o' ≡ finished_output o walk) × (l' ≡ finished_ledger o l used walk))

module _ (o l : List ℕ) (used : ℕ) {walk : Walk} {r : Result Progress Fault} {o' l' : List ℕ} where
  pub no-slot : walk ≡ None → r ≡ Err (as_fault NoSlot) → o' ≡ zeroed o → l' ≡ left l used → Finished o l used walk r o' l'
  no-slot w a b c = rw w (a, (b, c))

  module _ (p : ℕ) (t : Progress) (w : walk ≡ Some (p, t)) where
    pub no-room : length o < t.pos → r ≡ Err (as_fault NoRoom) → o' ≡ zeroed o → l' ≡ left l used → Finished o l used walk r o' l'
    no-room h a b c = rw (w, lt-ltb (length o) t.pos h) (a, (b, c))

    pub all-well : t.pos ≤ length o → r ≡ Ok t → o' ≡ cleared o t.pos → l' ≡ cleared l (slot_size * t.used) → Finished o l used walk r o' l'
    all-well h a b c = rw (w, le-ltb (length o) t.pos h) (a, (b, c))

pub few-bytes : (l : List ℕ) {walk : Walk} (p : ℕ) (t : Progress) → walk ≡ Some (p, t) → Counted l walk → slot_size * t.used < 2 ^ 64
few-bytes l p t w h = let u : t.used ≤ slots_of l = subst (Counted l) w h in omega (arith, slots_of-most l)
