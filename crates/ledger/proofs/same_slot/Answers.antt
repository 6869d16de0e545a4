-- `same_slot` meets its contract: one law for each way on in its loop or out of it. Assumes nothing.
use native.Mathlib.Omega.{arith}
use Rattle.ledger.proofs.SearchTurns.{compared-start, compared-differ, compared-equal, compared-end}
use Rattle.ledger.proofs.same_slot.Goals as goal
use Rattle.ledger.proofs.same_slot.Goals.{then-slot-i, else-slot-i}

pub loop-i-init : goal.loop-i-init
loop-i-init c = compared-start _ _

pub loop-i-preserved : goal.loop-i-preserved
loop-i-preserved c =
    elim c.if-slot-i.branch [
      | then-slot-i w ↦ compared-differ c.loop-i.invariant w.if-slot-i.true w.same-is
      | else-slot-i w ↦ compared-equal c.loop-i.invariant w.if-slot-i.false w.same-is
    ]

pub returns : goal.returns
returns c = compared-end c.loop-i.invariant (omega arith) (omega arith)
