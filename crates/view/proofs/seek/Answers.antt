-- `view::seek` meets its contract: each way through the loop is a law of `proofs/SearchLaws.antt`. Assumes nothing.
use mathlib.Core.Path.{◌≡◌}
use native.Mathlib.Omega.{arith}
use Rattle.std.specs.Prelude.{Ok}
use Rattle.std.proofs.lemmas.Result.{err_from_is_err_and}
use Rattle.layout.specs.declared.Head.TheVariants.{Seq}
use Rattle.view.proofs.SearchLaws.{stop-bad, stop-end, go-plain, stop-seq, go-seq}
use Rattle.view.proofs.seek.Goals as goal
use Rattle.view.proofs.seek.Goals.{in-Plain, in-Seq+in_ok-sequence-in-Seq}

pub returns-in_err-head : goal.returns-in_err-head
returns-in_err-head c =
    let p = err_from_is_err_and c.from_residual.result c.from_residual.ensures.1 in
    rw (p.1, p.2) (stop-bad c.loop-head.invariant c.element_head.ensures.value c.element_head.ensures.inside _ (grind arith) (grind arith))

pub returns-in-End : goal.returns-in-End
returns-in-End c = stop-end c.loop-head.invariant c.element_head.ensures.value c.element_head.ensures.inside c.in-End.field-0 (grind arith)

pub returns-in_err-sequence-in-Seq : goal.returns-in_err-sequence-in-Seq
returns-in_err-sequence-in-Seq c =
    let p = err_from_is_err_and c.from_residual-in_err-sequence-in-Seq.result c.from_residual-in_err-sequence-in-Seq.ensures.1 in
    let e : c.element_head.result ≡ Ok (Seq c.in-Seq.tag c.in-Seq.body c.in-Seq.stop c.in-Seq.unstated) = grind arith in
    rw (p.1, p.2) (stop-seq c.loop-head.invariant c.element_head.ensures.value c.element_head.ensures.inside e c.sequence.ensures _ c.in_err-sequence-in-Seq.was)

pub loop-head-preserved : goal.loop-head-preserved
loop-head-preserved c = elim c.match-head.branch [
  | in-Plain w ↦ rw w.tag-is (go-plain c.loop-head.invariant c.element_head.ensures.value c.element_head.ensures.inside _ _ _ _ (grind arith) (rw w.tag-is at c.met-found.ensures))
  | in-Seq+in_ok-sequence-in-Seq w ↦
      let e : c.element_head.result ≡ Ok (Seq w.in-Seq.tag w.in-Seq.body w.in-Seq.stop w.in-Seq.unstated) = grind arith in
      rw w.tag-is (go-seq c.loop-head.invariant c.element_head.ensures.value c.element_head.ensures.inside e w.sequence.ensures _ w.in_ok-sequence-in-Seq.was (rw w.tag-is at c.met-found.ensures))
]
