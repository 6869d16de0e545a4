-- `buffer::zero_from` meets its contract. Assumes nothing.
use native.Mathlib.Omega.{arith}
use Rattle.buffer.proofs.Laws.{cleared-part, cleared-past}
use Rattle.buffer.proofs.zero_from.Goals as goal

pub returns-then-pos-out : goal.returns-then-pos-out
returns-then-pos-out c = cleared-part _ _ _ (omega arith) (c.fill.ensures.after (λ y e. e))

pub returns-else-pos-out : goal.returns-else-pos-out
returns-else-pos-out c = cleared-past _ _ c.if-pos-out.false
