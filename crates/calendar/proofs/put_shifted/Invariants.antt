-- The loop of `calendar::put_shifted`. The invariant is `Writing`: what is written and the pieces left make the text. The measure: what is left of the
-- value.
use Prim.Native.Nat.{◌-◌}
use Rattle.calendar.proofs.Writing.{Writing}
use Rattle.calendar.proofs.put_shifted.Given as goal

abbrev pub invariant-loop-out : goal.invariant-loop-out
invariant-loop-out l = Writing l.da l.value l.days l.stop l.initial.out l.pos l.out l.from l.at

abbrev pub decreases-loop-out : goal.decreases-loop-out
decreases-loop-out l = l.stop - l.from
