-- The cycle of `judge_values::elements`, `judge_values::items`, `judge_values::sequence` meets its contracts. Assumes nothing.
use mathlib.Core.Path.{◌≡◌}
use Rattle.std.specs.Prelude.{Ok}
use Rattle.std.proofs.lemmas.Result.{err_from_is_err_and}
use Rattle.layout.specs.declared.Head.TheVariants.{Plain, Seq}
use Rattle.judge_values.proofs.JudgeLaws.{stop-bad, stop-end, stop-plain, go-plain, stop-seq, go-seq, stop-wrong, stop-over, stop-item, go-item, goes-in, passes}
use native.Mathlib.Omega.{arith}
use Rattle.judge_values.proofs.+elements_items_sequence.Goals as goal
use Rattle.judge_values.proofs.+elements_items_sequence.Goals.{elements-in-Plain+in_ok-located-in-Plain, elements-in-Seq+in_ok-sequence-in-Seq}

pub elements-returns-in_err-head : goal.elements-returns-in_err-head
elements-returns-in_err-head t c =
    let p = err_from_is_err_and c.from_residual.result c.from_residual.ensures.1 in
    rw (p.1, p.2) (stop-bad c.loop-head.invariant c.element_head.ensures.value c.element_head.ensures.inside _ (grind arith))

pub elements-returns-in-End : goal.elements-returns-in-End
elements-returns-in-End t c = stop-end c.loop-head.invariant c.element_head.ensures.value c.element_head.ensures.inside _ (grind arith)

pub elements-returns-in_err-located-in-Plain : goal.elements-returns-in_err-located-in-Plain
elements-returns-in_err-located-in-Plain t c =
    let p = err_from_is_err_and c.from_residual-in_err-located-in-Plain.result c.from_residual-in_err-located-in-Plain.ensures.1 in
    let e : c.element_head.result ≡ Ok (Plain c.in-Plain.tag c.in-Plain.vr c.in-Plain.body c.in-Plain.past) = grind arith in
    rw (p.1, p.2) (stop-plain c.loop-head.invariant c.element_head.ensures.value c.element_head.ensures.inside e c.check_element.ensures _ (grind arith) (grind arith))

pub elements-returns-in_err-sequence-in-Seq : goal.elements-returns-in_err-sequence-in-Seq
elements-returns-in_err-sequence-in-Seq t c =
    let p = err_from_is_err_and c.from_residual-in_err-sequence-in-Seq.result c.from_residual-in_err-sequence-in-Seq.ensures.1 in
    let e : c.element_head.result ≡ Ok (Seq c.in-Seq.tag c.in-Seq.body c.in-Seq.stop c.in-Seq.unstated) = grind arith in
    rw (p.1, p.2) (stop-seq c.loop-head.invariant c.element_head.ensures.value c.element_head.ensures.inside e c.sequence.ensures _ c.in_err-sequence-in-Seq.was)

pub elements-loop-head-preserved : goal.elements-loop-head-preserved
elements-loop-head-preserved t c = elim c.match-head.branch [
  | elements-in-Plain+in_ok-located-in-Plain w ↦
      let e : c.element_head.result ≡ Ok (Plain w.in-Plain.tag w.in-Plain.vr w.in-Plain.body w.in-Plain.past) = grind arith in
      rw w.tag-is (go-plain c.loop-head.invariant c.element_head.ensures.value c.element_head.ensures.inside e w.check_element.ensures (grind arith))
  | elements-in-Seq+in_ok-sequence-in-Seq w ↦
      let e : c.element_head.result ≡ Ok (Seq w.in-Seq.tag w.in-Seq.body w.in-Seq.stop w.in-Seq.unstated) = grind arith in
      rw w.tag-is (go-seq c.loop-head.invariant c.element_head.ensures.value c.element_head.ensures.inside e w.sequence.ensures _ w.in_ok-sequence-in-Seq.was)
]

pub items-returns-in_err-spot : goal.items-returns-in_err-spot
items-returns-in_err-spot t c =
    let p = err_from_is_err_and c.from_residual.result c.from_residual.ensures.1 in
    rw (p.1, p.2) (stop-wrong c.loop-spot.invariant c.item_head.ensures.value c.item_head.ensures.within _ (grind arith))

pub items-returns-in-Over : goal.items-returns-in-Over
items-returns-in-Over t c = stop-over c.loop-spot.invariant c.item_head.ensures.value c.item_head.ensures.within _ (grind arith)

pub items-returns-in_err-at-in-Item : goal.items-returns-in_err-at-in-Item
items-returns-in_err-at-in-Item t c =
    let p = err_from_is_err_and c.from_residual-in_err-at-in-Item.result c.from_residual-in_err-at-in-Item.ensures.1 in
    rw (p.1, p.2) (stop-item c.loop-spot.invariant c.item_head.ensures.value c.item_head.ensures.within (grind arith) c.elements.ensures _ c.in_err-at-in-Item.was)

pub items-loop-spot-preserved : goal.items-loop-spot-preserved
items-loop-spot-preserved t c = go-item c.loop-spot.invariant c.item_head.ensures.value c.item_head.ensures.within (grind arith) c.elements.ensures _ c.in_ok-at-in-Item.was

pub sequence-returns-then-walks_into : goal.sequence-returns-then-walks_into
sequence-returns-then-walks_into t c = goes-in c.fate_of-fate.ensures c.walks_into.ensures c.if-walks_into.true c.below-inner.ensures c.items.ensures

pub sequence-returns : goal.sequence-returns
sequence-returns t c = passes c.fate_of-fate.ensures c.walks_into.ensures c.if-walks_into.false c.sequence.ensures
