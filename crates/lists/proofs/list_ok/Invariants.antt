-- The loop of `lists::list_ok`. The invariant is `Judging`: the entries that are left say the whole.
use Rattle.lists.proofs.ListsLaws.{Judging}
use Rattle.lists.proofs.list_ok.Given as goal

abbrev pub invariant-loop : goal.invariant-loop
invariant-loop l = Judging l.s l.at l.counter l.low
