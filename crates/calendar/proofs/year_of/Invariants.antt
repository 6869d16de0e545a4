-- The loop of `calendar::year_of`. The invariant: the year begins before the day, and so is one of the years. The measure: the years left.
use Prim.Native.Nat.{◌<◌, ◌≤◌, ◌+◌, ◌-◌}
use Rattle.calendar.specs.Spans.{before}
use Rattle.calendar.specs.Dates.{last_year, year_len}
use Rattle.calendar.proofs.year_of.Given as goal

abbrev pub invariant-loop-y : goal.invariant-loop-y
invariant-loop-y l = (before year_len l.y < l.n) × (l.y ≤ last_year)

abbrev pub decreases-loop-y : goal.decreases-loop-y
decreases-loop-y l = last_year + 1 - l.y
