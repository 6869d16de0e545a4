-- `write_markers::put_due` meets its contract: the three, one after the other. Assumes nothing.
use mathlib.Core.Path.{sym, ◌∙◌}
use Rattle.write_markers.proofs.PutLaws.{put-in, put-out, put-due}
use Rattle.write_markers.proofs.put_due.Goals as goal
use Rattle.write_markers.proofs.put_due.Goals.{then-is_due, else-is_due, then-is_due-2, else-is_due-2}

pub returns-then-is_due-3 : goal.returns-then-is_due-3
returns-then-is_due-3 c =
    put-due _ _ c.args.options c.args.low c.args.high c.if-is_due.out c.if-is_due.p c.if-is_due-2.out c.if-is_due-2.p
    (elim c.if-is_due.branch [
      | then-is_due w ↦ rw (w.p-is, w.out-is) (put-in _ _ _ _ _ _ _ (sym c.is_due.ensures ∙ w.if-is_due.true) w.put_text-p.ensures)
      | else-is_due w ↦ rw (w.p-is, w.out-is) (put-out _ _ _ _ _ _ _ (sym c.is_due.ensures ∙ w.if-is_due.false))
    ])
    (elim c.if-is_due-2.branch [
      | then-is_due-2 w ↦ rw (w.p-is, w.out-is) (put-in _ _ _ _ _ _ _ (sym c.is_due-2.ensures ∙ w.if-is_due-2.true) w.put_codes-p.ensures)
      | else-is_due-2 w ↦ rw (w.p-is, w.out-is) (put-out _ _ _ _ _ _ _ (sym c.is_due-2.ensures ∙ w.if-is_due-2.false))
    ])
    (put-in _ _ _ _ _ _ _ (sym c.is_due-3.ensures ∙ c.if-is_due-3.true) (rw c.date_word-word.ensures at c.put_text-p-then-is_due-3.ensures))

pub returns-else-is_due-3 : goal.returns-else-is_due-3
returns-else-is_due-3 c =
    put-due _ _ c.args.options c.args.low c.args.high c.if-is_due.out c.if-is_due.p c.if-is_due-2.out c.if-is_due-2.p
    (elim c.if-is_due.branch [
      | then-is_due w ↦ rw (w.p-is, w.out-is) (put-in _ _ _ _ _ _ _ (sym c.is_due.ensures ∙ w.if-is_due.true) w.put_text-p.ensures)
      | else-is_due w ↦ rw (w.p-is, w.out-is) (put-out _ _ _ _ _ _ _ (sym c.is_due.ensures ∙ w.if-is_due.false))
    ])
    (elim c.if-is_due-2.branch [
      | then-is_due-2 w ↦ rw (w.p-is, w.out-is) (put-in _ _ _ _ _ _ _ (sym c.is_due-2.ensures ∙ w.if-is_due-2.true) w.put_codes-p.ensures)
      | else-is_due-2 w ↦ rw (w.p-is, w.out-is) (put-out _ _ _ _ _ _ _ (sym c.is_due-2.ensures ∙ w.if-is_due-2.false))
    ])
    (put-out _ _ _ _ _ _ _ (sym c.is_due-3.ensures ∙ c.if-is_due-3.false))
