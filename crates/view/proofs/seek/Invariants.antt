-- What the loop of `view::seek` keeps, and what falls at each turn.
use Prim.Native.Nat.{◌-◌}
use lib.ListN.{length}
use Rattle.view.proofs.SearchLaws.{Seeking}
use Rattle.view.proofs.seek.Given as goal

abbrev pub invariant-loop-head : goal.invariant-loop-head
invariant-loop-head l = Seeking l.s l.wanted l.at l.low l.found

abbrev pub decreases-loop-head : goal.decreases-loop-head
decreases-loop-head l = length l.s - l.at
