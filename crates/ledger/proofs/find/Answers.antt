-- `find` meets its contract: one law for each way on in its loop or out of it. Assumes nothing.
use native.Mathlib.Omega.{arith}
use Rattle.ledger.proofs.SearchTurns.{searched-start, searched-found, searched-more, searched-end}
use Rattle.ledger.proofs.find.Goals as goal

pub loop-i-init : goal.loop-i-init
loop-i-init c = searched-start _ _ _

pub returns-then-same_slot : goal.returns-then-same_slot
returns-then-same_slot c = searched-found c.loop-i.invariant c.loop-i-test.true _ (omega arith) c.same_slot.ensures c.if-same_slot.true

pub loop-i-preserved : goal.loop-i-preserved
loop-i-preserved c = searched-more c.loop-i.invariant c.loop-i-test.true _ (omega arith) c.same_slot.ensures c.if-same_slot.false

pub returns : goal.returns
returns c = searched-end c.loop-i.invariant (omega arith)
