-- What the loops of the cycle keep, and what falls at each turn and with each call.
use Rattle.layout.specs.Source.{explicitly}
use Rattle.layout.proofs.WalkLaws.{Going, GoingItems}
use Prim.Native.Nat.{◌+◌, ◌-◌, ◌*◌}
use Rattle.layout.proofs.+elements_item_items_sequence.Given as goal

abbrev pub decreases-elements : goal.decreases-elements
decreases-elements l = 4 * (l.c.end - l.c.from)

abbrev pub decreases-item : goal.decreases-item
decreases-item l = 4 * (l.c.end - l.c.from) + 1

abbrev pub decreases-items : goal.decreases-items
decreases-items l = 4 * (l.c.end - l.c.from) + 2

abbrev pub invariant-elements-loop-head : goal.invariant-elements-loop-head
invariant-elements-loop-head l = Going (explicitly l.s) l.c l.at l.low

abbrev pub decreases-elements-loop-head : goal.decreases-elements-loop-head
decreases-elements-loop-head l = l.c.end - l.at

abbrev pub invariant-items-loop-spot : goal.invariant-items-loop-spot
invariant-items-loop-spot l = GoingItems (explicitly l.s) l.c l.at

abbrev pub decreases-items-loop-spot : goal.decreases-items-loop-spot
decreases-items-loop-spot l = l.c.end - l.at

abbrev pub decreases-sequence : goal.decreases-sequence
decreases-sequence l = 4 * (l.c.end - l.c.from) + 3
