-- `uid_len` meets its contract: one law for each way on or out of its loop. Assumes nothing.
use native.Mathlib.Omega.{arith}
use Rattle.uid.proofs.UidTurns.{onward-start, onward-upto, onward-none, onward-whole, onward-slash, onward-other, onward-go}
use Rattle.uid.proofs.uid_len.Goals as goal
use Rattle.uid.proofs.uid_len.Goals.{then-i-v-via-then-i-v, then-i-v-via-else-i-v+then-v-i-eq-BACKSLASH}

pub loop-i-init : goal.loop-i-init
loop-i-init c = onward-start _

pub returns-then-n-eq0 : goal.returns-then-n-eq0
returns-then-n-eq0 c = onward-none c.loop-i.invariant c.component_len-n.ensures c.if-n-eq0.true

pub overflow_add-i : goal.overflow_add-i
overflow_add-i c = omega (arith, onward-upto c.loop-i.invariant c.component_len-n.ensures)

pub bounds-v-i : goal.bounds-v-i
bounds-v-i c = omega (arith, onward-upto c.loop-i.invariant c.component_len-n.ensures)

pub returns-then-i-v : goal.returns-then-i-v
returns-then-i-v c =
    elim c.then-i-v.branch [
      | then-i-v-via-then-i-v w ↦ onward-whole c.loop-i.invariant c.component_len-n.ensures c.if-n-eq0.false w.if-i-v.true
      | then-i-v-via-else-i-v+then-v-i-eq-BACKSLASH w ↦
          onward-slash c.loop-i.invariant c.component_len-n.ensures c.if-n-eq0.false w.if-i-v.false w.if-v-i-eq-BACKSLASH.true
    ]

pub bounds-v-i-in-loop-i : goal.bounds-v-i-in-loop-i
bounds-v-i-in-loop-i c = omega (arith, onward-upto c.loop-i.invariant c.component_len-n.ensures)

pub returns-then-v-i-ne-DOT : goal.returns-then-v-i-ne-DOT
returns-then-v-i-ne-DOT c =
    onward-other c.loop-i.invariant c.component_len-n.ensures c.if-n-eq0.false c.if-i-v.false
    c.if-v-i-eq-BACKSLASH.false c.if-v-i-ne-DOT.true

pub loop-i-preserved : goal.loop-i-preserved
loop-i-preserved c =
    onward-go c.loop-i.invariant c.component_len-n.ensures c.if-n-eq0.false c.if-i-v.false c.if-v-i-ne-DOT.false
