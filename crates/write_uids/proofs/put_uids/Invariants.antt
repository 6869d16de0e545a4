-- What the loop of `write_uids::put_uids` keeps, and what falls at each turn.
use Prim.Native.Nat.{◌-◌}
use lib.ListN.{length}
use Rattle.write_uids.proofs.Turns.{Going}
use Rattle.write_uids.proofs.put_uids.Given as goal

abbrev pub invariant-loop-slot : goal.invariant-loop-slot
invariant-loop-slot l = Going l.uids l.root l.initial.ledger l.used l.initial.out l.pos l.ledger l.out l.from l.place l.count

abbrev pub decreases-loop-slot : goal.decreases-loop-slot
decreases-loop-slot l = length l.uids - l.from
