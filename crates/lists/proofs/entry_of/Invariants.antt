-- The loop of `lists::entry_of`. The invariant is `Seeking`: the entries that are left say what is found.
use Rattle.lists.proofs.LookupLaws.{Seeking}
use Rattle.lists.proofs.entry_of.Given as goal

abbrev pub invariant-loop : goal.invariant-loop
invariant-loop l = Seeking l.s l.tag l.at l.counter
