-- The loop of `table::row_of`. The invariant: if a row has the tag, it is among those that are left. The measure is how many they are.
use Prim.Native.Nat.{◌-◌}
use Rattle.table.proofs.SearchLaws.{Left}
use Rattle.table.proofs.row_of.Given as goal

abbrev pub invariant-loop-low : goal.invariant-loop-low
invariant-loop-low l = Left l.tag l.low l.high

abbrev pub decreases-loop-low : goal.decreases-loop-low
decreases-loop-low l = l.high - l.low
