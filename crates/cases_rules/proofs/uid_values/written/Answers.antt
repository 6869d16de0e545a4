-- `cases_rules::uid_values::written` is safe: a short root and a number of few digits. Assumes nothing.
use Rattle.uid.proofs.NewUidLaws.{length-new_uid, decimal-short}
use native.Mathlib.Omega.{arith}
use Rattle.cases_rules.proofs.uid_values.written.Goals as goal

pub put_uid-to-requires : goal.put_uid-to-requires
put_uid-to-requires o c =
    omega (arith, length-new_uid c.args.root.now c.args.n, decimal-short 3 c.args.n (omega arith))
