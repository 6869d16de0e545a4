-- What the loop of `uid_len` keeps, and what falls at each turn.
use lib.ListN.{length}
use Prim.Native.Nat.{◌-◌}
use Rattle.uid.proofs.UidTurns.{Onward}
use Rattle.uid.proofs.uid_len.Given as goal

abbrev pub invariant-loop-i : goal.invariant-loop-i
invariant-loop-i l = Onward l.v l.i

abbrev pub decreases-loop-i : goal.decreases-loop-i
decreases-loop-i l = length l.v - l.i
