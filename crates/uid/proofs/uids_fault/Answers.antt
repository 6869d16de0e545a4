-- `uids_fault` meets its contract: one law for each way before its loop, on in it or out of it. Assumes nothing.
use mathlib.Core.Path.{◌∙◌, sym}
use borrow.Author.Tests.{eqb-true, eqb-false}
use lib.ListN.{length}
use native.Mathlib.Omega.{arith}
use Rattle.uid.proofs.FaultTurns.{fault-none, fault-odd, fault-start, fault-over, fault-bad, fault-long, fault-last, fault-inside, fault-go}
use Rattle.uid.proofs.uids_fault.Goals as goal
use Rattle.uid.proofs.uids_fault.Goals.{then-n-eq0-via-then-n-eq0, then-n-eq0-via-else-n-eq0+then-n-gt-LONGEST_UID}

pub returns-then-is_empty : goal.returns-then-is_empty
returns-then-is_empty c = fault-none _ (eqb-true _ _ (sym c.is_empty.ensures ∙ c.if-is_empty.true))

pub returns-then-value-ne0 : goal.returns-then-value-ne0
returns-then-value-ne0 c = fault-odd _ c.if-value-ne0.true

pub loop-init : goal.loop-init
loop-init c = fault-start _ _ (omega (arith, eqb-false (length c.args.value.now) 0 (sym c.is_empty.ensures ∙ c.if-is_empty.false))) c.if-value-ne0.false c.trimmed-rest.ensures.bytes

pub returns-then-n-eq0 : goal.returns-then-n-eq0
returns-then-n-eq0 c =
    elim c.then-n-eq0.branch [
      | then-n-eq0-via-then-n-eq0 w ↦ fault-bad c.loop.invariant c.uid_len-n.ensures w.if-n-eq0.true
      | then-n-eq0-via-else-n-eq0+then-n-gt-LONGEST_UID w ↦ fault-long c.loop.invariant c.uid_len-n.ensures w.if-n-gt-LONGEST_UID.true
    ]

pub returns-then-n-rest : goal.returns-then-n-rest
returns-then-n-rest c = fault-last c.loop.invariant c.uid_len-n.ensures c.if-n-eq0.false c.if-n-gt-LONGEST_UID.false (omega arith) c.if-n-rest.true

pub slice_bounds-rest-count : goal.slice_bounds-rest-count
slice_bounds-rest-count c = omega (arith, fault-inside c.loop.invariant c.uid_len-n.ensures c.if-n-eq0.false c.if-n-gt-LONGEST_UID.false (omega arith) c.if-n-rest.false)

pub slice_bounds-rest-start : goal.slice_bounds-rest-start
slice_bounds-rest-start c = omega (arith, fault-inside c.loop.invariant c.uid_len-n.ensures c.if-n-eq0.false c.if-n-gt-LONGEST_UID.false (omega arith) c.if-n-rest.false)

pub loop-preserved : goal.loop-preserved
loop-preserved c = fault-go c.loop.invariant c.uid_len-n.ensures c.if-n-eq0.false c.if-n-gt-LONGEST_UID.false (omega arith) c.if-n-rest.false

pub returns : goal.returns
returns c = fault-over c.loop.invariant (omega arith)
