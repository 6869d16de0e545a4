-- What the loops of the cycle keep, and what falls at each turn and with each call.
use Rattle.layout.specs.Source.{explicitly}
use Rattle.treatment.specs.Settings.{settings_in}
use Rattle.write_state.specs.Wrote.{ElementsPass, ItemsPass}
use Rattle.write_walk.proofs.WroteLaws.{Going}
use Rattle.write_walk.proofs.SplitLaws.{onward}
use Prim.Native.Nat.{◌+◌, ◌-◌, ◌*◌}
use Rattle.write_walk.proofs.+elements_item_items_sequence_walked.Given as goal

abbrev pub decreases-elements : goal.decreases-elements
decreases-elements l = 5 * (l.c.end - l.c.from)

abbrev pub decreases-item : goal.decreases-item
decreases-item l = 5 * (l.c.end - l.c.from) + 1

abbrev pub decreases-items : goal.decreases-items
decreases-items l = 5 * (l.c.end - l.c.from) + 2

abbrev pub decreases-sequence : goal.decreases-sequence
decreases-sequence l = 5 * (l.c.end - l.c.from) + 4

abbrev pub decreases-walked : goal.decreases-walked
decreases-walked l = 5 * (l.c.end - l.c.from) + 3

abbrev pub invariant-elements-loop-head : goal.invariant-elements-loop-head
invariant-elements-loop-head l = Going (ElementsPass (settings_in l.rules.numbers l.texts) (explicitly l.s) l.c l.level 0) (ElementsPass (settings_in l.rules.numbers l.texts) (explicitly l.s) (onward l.c l.at) l.level l.low) l.c.from l.at l.c.end l.initial.out l.out l.initial.ledger l.ledger l.initial.t l.t

abbrev pub decreases-elements-loop-head : goal.decreases-elements-loop-head
decreases-elements-loop-head l = l.c.end - l.at

abbrev pub invariant-items-loop-spot : goal.invariant-items-loop-spot
invariant-items-loop-spot l = Going (ItemsPass (settings_in l.rules.numbers l.texts) (explicitly l.s) l.c l.level) (ItemsPass (settings_in l.rules.numbers l.texts) (explicitly l.s) (onward l.c l.at) l.level) l.c.from l.at l.c.end l.initial.out l.out l.initial.ledger l.ledger l.initial.t l.t

abbrev pub decreases-items-loop-spot : goal.decreases-items-loop-spot
decreases-items-loop-spot l = l.c.end - l.at
