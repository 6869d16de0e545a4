-- `write_uids::put_renamed` meets its contract: no byte in the value; no slot left; the whole element. Assumes nothing.
use mathlib.Core.Path.{sym, ap, ◌∙◌}
use native.Mathlib.Omega.{arith}
use lib.ListN.{length}
use Rattle.uid.proofs.PadLaws.{length-trimmed}
use Rattle.write_uids.proofs.Whole.{empty-value, stopped, finished}
use Rattle.write_uids.proofs.put_renamed.Goals as goal

pub returns-then-is_empty : goal.returns-then-is_empty
returns-then-is_empty c = empty-value c.requires.1 (sym c.is_empty.ensures ∙ c.if-is_empty.true) c.put_header-past.ensures

pub put_uids-requires : goal.put_uids-requires
put_uids-requires c = omega (arith, ap length c.trimmed-uids.ensures.bytes, length-trimmed c.args.value.now)

pub returns-in_err-end : goal.returns-in_err-end
returns-in_err-end c = rw c.from_residual.ensures (stopped (sym c.is_empty.ensures ∙ c.if-is_empty.false) c.trimmed-uids.ensures.bytes (rw c.in_err-end.was at c.put_uids.ensures))

pub finish-requires : goal.finish-requires
finish-requires c =
    let q = rw c.in_ok-end.was at c.put_uids.ensures.bounds in
    omega (arith, q, ap length c.trimmed-uids.ensures.bytes, length-trimmed c.args.value.now)

pub returns : goal.returns
returns c = finished (sym c.is_empty.ensures ∙ c.if-is_empty.false) c.trimmed-uids.ensures.bytes (rw c.in_ok-end.was at c.put_uids.ensures) c.finish.ensures
