-- `station::refuse` meets its contract. Assumes nothing.
use mathlib.Core.Path.{◌∙◌}
use Rattle.station.proofs.LeftLaws.{cleared-zeroed, left-whole, left-cleared}
use native.Mathlib.Omega.{arith}
use Rattle.station.proofs.refuse.Goals as goal
use Rattle.station.proofs.refuse.Goals.{then-used-slots, else-used-slots}

pub returns-clause-output : goal.returns-clause-output
returns-clause-output g c = c.zero_from.ensures ∙ cleared-zeroed _

pub returns-clause-ledger : goal.returns-clause-ledger
returns-clause-ledger g c =
    elim c.if-used-slots.branch [
      | then-used-slots w ↦ w.ledger-is ∙ w.zero_rest.ensures ∙ left-cleared _ _ (omega (arith, c.slots.ensures, w.if-used-slots.true))
      | else-used-slots w ↦ w.ledger-is ∙ left-whole _ _ (omega (arith, c.slots.ensures, w.if-used-slots.false))
    ]
