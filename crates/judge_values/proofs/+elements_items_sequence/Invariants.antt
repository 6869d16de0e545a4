-- What the loops of the cycle keep, and what falls at each turn and with each call.
use Rattle.layout.specs.Source.{explicitly}
use Rattle.judge_values.proofs.JudgeLaws.{Going, GoingItems}
use Prim.Native.Nat.{◌+◌, ◌-◌, ◌*◌}
use Rattle.judge_values.proofs.+elements_items_sequence.Given as goal

abbrev pub decreases-elements : goal.decreases-elements
decreases-elements l = 3 * (l.c.end - l.c.from)

abbrev pub decreases-items : goal.decreases-items
decreases-items l = 3 * (l.c.end - l.c.from) + 1

abbrev pub decreases-sequence : goal.decreases-sequence
decreases-sequence l = 3 * (l.c.end - l.c.from) + 2

abbrev pub invariant-elements-loop-number : goal.invariant-elements-loop-number
invariant-elements-loop-number l = Going l.n (explicitly l.s) l.c l.level l.at l.low

abbrev pub decreases-elements-loop-number : goal.decreases-elements-loop-number
decreases-elements-loop-number l = l.c.end - l.at

abbrev pub invariant-items-loop-number : goal.invariant-items-loop-number
invariant-items-loop-number l = GoingItems l.n (explicitly l.s) l.c l.level l.at

abbrev pub decreases-items-loop-number : goal.decreases-items-loop-number
decreases-items-loop-number l = l.c.end - l.at
