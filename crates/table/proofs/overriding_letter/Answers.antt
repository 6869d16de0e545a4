-- `table::overriding_letter` meets its contract. Assumes nothing.
use mathlib.Core.Path.{refl, sym, ◌∙◌, ap}
use Prim.Native.Nat.{◌/◌}
use native.Mathlib.Nat.{div-one, le_antisymm}
use Rattle.table.specs.Override.{overriding}
use Rattle.table.proofs.OverrideLaws.{place-next, overriding-chosen, overriding-unchosen}
use Rattle.table.proofs.overriding_letter.Goals as goal
use Rattle.table.proofs.overriding_letter.Goals.{then-left-eq1, else-left-eq1}

pub loop-init : goal.loop-init
unfolding overriding
loop-init c = (sym (div-one _), sym (div-one _), refl)

pub loop-preserved : goal.loop-preserved
loop-preserved c =
    let a = c.args in
    let v = c.loop.invariant in
    let bit = c.loop.counter in (
      ap (λ n. n / 2) v.0 ∙ place-next a.options 2 bit,
      ap (λ n. n / 16) v.1 ∙ place-next a.row 16 bit,
      elim c.if-left-eq1.branch [
        | then-left-eq1 w ↦ w.letter-is ∙ w.stronger_of-letter.ensures ∙ overriding-chosen a.options a.row bit v.0 v.1 v.2 w.if-left-eq1.true
        | else-left-eq1 w ↦ w.letter-is ∙ overriding-unchosen a.options a.row bit v.0 v.1 v.2 w.if-left-eq1.false
      ],
    )

pub returns : goal.returns
returns c =
    let e = le_antisymm c.loop.auto.counter-end c.loop-test.false in
    rw (← e) c.loop.invariant.2
