-- `write_uids::finish` meets its contract: the text's length is odd; it is even. Assumes nothing.
use mathlib.Core.Path.{◌∙◌}
use native.Mathlib.Omega.{arith}
use Rattle.write_uids.proofs.Whole.{finish-even, finish-odd}
use Rattle.write_uids.proofs.finish.Goals.{then-pad-eq1, else-pad-eq1}
use Rattle.write_uids.proofs.finish.Goals as goal

pub returns : goal.returns
returns c = elim c.if-pad-eq1.branch [
  | then-pad-eq1 w ↦ finish-odd c.requires.0 w.if-pad-eq1.true (w.out-is ∙ w.put.ensures) c.put_header.ensures.1
  | else-pad-eq1 w ↦ finish-even c.requires.0 (omega arith) w.out-is c.put_header.ensures.1
]
