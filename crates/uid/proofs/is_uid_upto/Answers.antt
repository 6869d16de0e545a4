-- `is_uid_upto` meets its contract: one law for each way out. Assumes nothing.
use mathlib.Core.Path.{◌∙◌, sym, ap}
use borrow.Author.Tests.{eqb-true, eqb-false}
use lib.Dec.{eqb}
use lib.ListN.{length}
use native.Mathlib.Omega.{arith}
use Rattle.uid.proofs.UidTurns.{upto-long, upto-none, upto-span}
use Rattle.uid.proofs.is_uid_upto.Goals as goal
use Rattle.uid.proofs.is_uid_upto.Goals.{then-is_empty-via-then-is_empty, then-is_empty-via-else-is_empty+then-longest-v}

pub returns-then-is_empty : goal.returns-then-is_empty
returns-then-is_empty c =
    elim c.then-is_empty.branch [
      | then-is_empty-via-then-is_empty w ↦ upto-none _ _ (eqb-true _ _ (sym c.is_empty.ensures ∙ w.if-is_empty.true))
      | then-is_empty-via-else-is_empty+then-longest-v w ↦ upto-long _ _ w.if-longest-v.true
    ]

pub returns : goal.returns
returns c =
    ap (λ n. eqb n (length c.args.v.now)) c.uid_len.ensures
    ∙ upto-span _ _ (omega (arith, eqb-false (length c.args.v.now) 0 (sym c.is_empty.ensures ∙ c.if-is_empty.false))) c.if-longest-v.false
