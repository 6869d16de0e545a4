-- The loop of `calendar::month_of`. The invariant: the month begins before the day, and so is one of the twelve. The measure: the months left.
use Prim.Native.Nat.{◌<◌, ◌-◌, ◌≤◌}
use Rattle.calendar.specs.Spans.{before}
use Rattle.calendar.specs.Dates.{month_len}
use Rattle.calendar.proofs.month_of.Given as goal

abbrev pub invariant-loop-m : goal.invariant-loop-m
invariant-loop-m l = (1 ≤ l.m) × (before (month_len l.y) l.m < l.n) × (l.m ≤ 12)

abbrev pub decreases-loop-m : goal.decreases-loop-m
decreases-loop-m l = 13 - l.m
