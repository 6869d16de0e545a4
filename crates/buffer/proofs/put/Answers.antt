-- `buffer::put` meets its contract. Assumes nothing.
use Rattle.buffer.proofs.Laws.{laid-set, laid-past}
use mathlib.Core.Path.{sym}
use Rattle.buffer.proofs.put.Goals as goal

pub returns-then-pos-out : goal.returns-then-pos-out
returns-then-pos-out c = laid-set _ _ _ c.if-pos-out.true

pub returns-else-pos-out : goal.returns-else-pos-out
returns-else-pos-out c = sym (laid-past _ _ _ c.if-pos-out.false)
