-- `buffer::copy_block` meets its contract. Assumes nothing.
use mathlib.Core.Path.{refl, sym, ◌∙◌}
use native.Mathlib.Omega.{arith}
use Rattle.buffer.proofs.Laws.{laid-fits, laid-past}
use Rattle.buffer.proofs.copy_block.Goals as goal
use Rattle.buffer.proofs.copy_block.Goals.{then-pos-out+then-bytes-room, then-pos-out+else-bytes-room, else-pos-out}

pub returns : goal.returns
returns c = (
  refl,
  elim c.if-pos-out.branch [
    | then-pos-out+then-bytes-room w ↦ w.out-is ∙ w.copy.ensures
    | then-pos-out+else-bytes-room w ↦ w.out-is ∙ w.copy-else-bytes-room.ensures ∙ laid-fits _ _ _ c.args.bytes.now (omega arith)
    | else-pos-out w ↦ w.out-is ∙ sym (laid-past _ _ _ w.if-pos-out.false)
  ],
)
