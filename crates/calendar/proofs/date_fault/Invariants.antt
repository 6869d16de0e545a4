-- The loop of `calendar::date_fault`. The invariant is `Judging`: the value is refused exactly where one of the pieces left is. The measure: what is left
-- of the value.
use Prim.Native.Nat.{◌-◌}
use Rattle.calendar.proofs.Judging.{Judging}
use Rattle.calendar.proofs.date_fault.Given as goal

abbrev pub invariant-loop-da : goal.invariant-loop-da
invariant-loop-da l = Judging l.da l.value l.days l.stop l.from

abbrev pub decreases-loop-da : goal.decreases-loop-da
decreases-loop-da l = l.stop - l.from
