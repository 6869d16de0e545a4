-- What the loop of `find` keeps.
use Rattle.ledger.proofs.SearchTurns.{Searched}
use Rattle.ledger.proofs.find.Given as goal

abbrev pub invariant-loop-i : goal.invariant-loop-i
invariant-loop-i l = Searched l.ledger l.used l.key l.i
