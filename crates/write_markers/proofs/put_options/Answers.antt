-- `write_markers::put_options` meets its contract. Assumes nothing.
use mathlib.Core.Path.{sym, ◌∙◌}
use Rattle.write_markers.proofs.PutLaws.{left-yes, left-no, on}
use Rattle.write_markers.proofs.put_options.Goals as goal
use Rattle.write_markers.proofs.put_options.Goals.{in-Some, in_default}

pub loop-bit-preserved : goal.loop-bit-preserved
loop-bit-preserved c =
    let k = c.loop-bit.bit in
    elim c.match-at.branch [
      | in-Some w ↦ rw (w.p-is, w.out-is)
          (on _ _ _ _ (rw (w.code.ensures, w.meaning.ensures) at w.put_code-p.ensures)
          (rw (left-yes c.args.options k _ (sym c.at.ensures ∙ w.in-Some.is)) at c.loop-bit.invariant))
      | in_default w ↦ rw (w.p-is, w.out-is, sym (left-no c.args.options k (sym c.at.ensures ∙ w.in_default.is))) c.loop-bit.invariant
    ]
