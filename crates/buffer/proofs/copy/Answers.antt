-- `buffer::copy` meets its contract. Assumes nothing.
use mathlib.Core.Path.{sym, ap, ◌∙◌}
use lib.ListN.{length, get_or, set}
use lib.Seq.{take_all}
use Prim.Native.Nat.{◌+◌}
use Rattle.buffer.specs.Buffer.{laid}
use Rattle.buffer.proofs.Laws.{laid-none, length-laid, block-more}
use native.Mathlib.Omega.{arith}
use Rattle.buffer.proofs.copy.Goals as goal

pub loop-i-init : goal.loop-i-init
loop-i-init c = sym (laid-none _ _)

pub bounds-out-pos : goal.bounds-out-pos
bounds-out-pos c = let e = ap length c.loop-i.invariant ∙ length-laid _ _ _ in omega (arith, e)

pub loop-i-preserved : goal.loop-i-preserved
loop-i-preserved c =
    let a = c.args in let i = c.loop-i.i in
    ap (λ z. set z (a.pos + i) (get_or a.bytes.now i 0)) c.loop-i.invariant ∙ block-more a.out.now a.bytes.now a.pos i (omega arith) (omega arith)

pub returns : goal.returns
returns c = c.loop-i.invariant ∙ ap (laid _ _) (take_all _ _ (omega arith))
