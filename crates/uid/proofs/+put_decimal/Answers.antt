-- `put_decimal` meets its contract. Assumes nothing.
use mathlib.Core.Path.{◌∙◌}
use Rattle.uid.proofs.NewUidLaws.{length-decimal-small, length-decimal-more}
use Rattle.uid.proofs.PutLaws.{put-small, put-more}
use native.Mathlib.Omega.{arith}
use Rattle.uid.proofs.+put_decimal.Goals as goal
use Rattle.uid.proofs.+put_decimal.Goals.{in-0, in_default}

pub put_decimal-p-requires : goal.put_decimal-p-requires
put_decimal-p-requires t c = omega (arith, length-decimal-more c.args.n (omega arith))

pub overflow_add-result : goal.overflow_add-result
overflow_add-result t c =
    elim c.match-n-div10.branch [
      | in-0 w ↦ omega (arith, length-decimal-small c.args.n (omega arith))
      | in_default w ↦ omega (arith, length-decimal-more c.args.n (omega arith), w.put_decimal-p.ensures.0)
    ]

pub returns : goal.returns
returns t c =
    elim c.match-n-div10.branch [
      | in-0 w ↦ put-small _ _ _ (omega arith) w.p-is w.out-is c.put.ensures
      | in_default w ↦ put-more _ _ _ (omega arith) (w.p-is ∙ w.put_decimal-p.ensures.0) (w.out-is ∙ w.put_decimal-p.ensures.1) c.put.ensures
    ]
