-- What the loop of `same_slot` keeps.
use Rattle.ledger.proofs.SearchTurns.{Compared}
use Rattle.ledger.proofs.same_slot.Given as goal

abbrev pub invariant-loop-i : goal.invariant-loop-i
invariant-loop-i l = Compared l.slot l.key l.i l.same
