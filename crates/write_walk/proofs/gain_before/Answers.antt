-- `write_walk::gain_before` meets its contract: outside the top level nothing is gained. Assumes nothing.
use mathlib.Core.Path.{◌≡◌, refl, sym, ◌∙◌}
use mathlib.Core.Bool.{false}
use Prim.Native.Nat.{◌+◌}
use Rattle.buffer.proofs.Laws.{laid-none}
use Rattle.treatment.specs.Fates.{is_top}
use Rattle.write_markers.specs.Gains.{gained_if}
use native.Mathlib.Omega.{arith}
use Rattle.write_walk.proofs.gain_before.Goals as goal

pub returns : goal.returns
unfolding gained_if
returns c =
    let inner : is_top c.args.level ≡ false = sym c.is_top.ensures ∙ c.if-is_top.false in
    let stays : c.args.t.pos + 0 ≡ c.args.t.pos = omega arith in
    rw (inner, stays) (refl, sym (laid-none _ _))
