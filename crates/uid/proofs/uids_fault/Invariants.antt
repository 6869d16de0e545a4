-- What the loop of `uids_fault` keeps.
use Rattle.uid.proofs.FaultTurns.{Judging}
use Rattle.uid.proofs.uids_fault.Given as goal

abbrev pub invariant-loop : goal.invariant-loop
invariant-loop l = Judging l.value l.rest l.counter
