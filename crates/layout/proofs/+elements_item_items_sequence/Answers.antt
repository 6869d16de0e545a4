-- The cycle of `layout::elements`, `layout::item`, `layout::items`, `layout::sequence` meets its contracts. Assumes nothing.
use mathlib.Core.Path.{◌≡◌}
use native.Mathlib.Omega.{arith}
use Rattle.std.specs.Prelude.{Ok}
use Rattle.std.proofs.lemmas.Result.{err_from_is_err_and}
use Rattle.layout.specs.declared.Head.TheVariants.{Seq}
use Rattle.layout.proofs.WalkLaws.{start-items, stop-bad, stop-end, go-plain, stop-seq, go-seq, stop-wrong, stop-over, stop-item, go-item}
use Rattle.layout.proofs.+elements_item_items_sequence.Goals as goal

pub elements-returns-in_err-head : goal.elements-returns-in_err-head
elements-returns-in_err-head t c =
    let p = err_from_is_err_and c.from_residual.result c.from_residual.ensures.1 in
    rw (p.1, p.2) (stop-bad c.loop-head.invariant c.element_head.ensures.value c.element_head.ensures.inside _ (grind arith) (grind arith))

pub elements-returns-in-End : goal.elements-returns-in-End
elements-returns-in-End t c = stop-end c.loop-head.invariant c.element_head.ensures.value c.element_head.ensures.inside _ (grind arith)

pub elements-returns-in_err-sequence-in-Seq : goal.elements-returns-in_err-sequence-in-Seq
elements-returns-in_err-sequence-in-Seq t c =
    let p = err_from_is_err_and c.from_residual-in_err-sequence-in-Seq.result c.from_residual-in_err-sequence-in-Seq.ensures.1 in
    let e : c.element_head.result ≡ Ok (Seq c.in-Seq.tag c.in-Seq.body c.in-Seq.stop c.in-Seq.unstated) = grind arith in
    rw (p.1, p.2) (stop-seq c.loop-head.invariant c.element_head.ensures.value c.element_head.ensures.inside e c.sequence.ensures _ c.in_err-sequence-in-Seq.was)

pub elements-loop-head-preserved-in-Plain : goal.elements-loop-head-preserved-in-Plain
elements-loop-head-preserved-in-Plain t c = go-plain c.loop-head.invariant c.element_head.ensures.value c.element_head.ensures.inside _ c.in-Plain.vr c.in-Plain.body _ (grind arith)

pub elements-loop-head-preserved : goal.elements-loop-head-preserved
elements-loop-head-preserved t c =
    let e : c.element_head.result ≡ Ok (Seq c.in-Seq.tag c.in-Seq.body c.in-Seq.stop c.in-Seq.unstated) = grind arith in
    go-seq c.loop-head.invariant c.element_head.ensures.value c.element_head.ensures.inside e c.sequence.ensures _ c.in_ok-sequence-in-Seq.was

pub sequence-returns-in_err-spot : goal.sequence-returns-in_err-spot
sequence-returns-in_err-spot t c =
    let p = err_from_is_err_and c.from_residual.result c.from_residual.ensures.1 in
    rw (p.1, p.2) (stop-wrong (start-items c.requires.rises) c.item_head.ensures.value c.item_head.ensures.within _ (grind arith) (grind arith))

pub sequence-returns-in-Over : goal.sequence-returns-in-Over
sequence-returns-in-Over t c = stop-over (start-items c.requires.rises) c.item_head.ensures.value c.item_head.ensures.within _ (grind arith)

pub items-returns-in_err-spot : goal.items-returns-in_err-spot
items-returns-in_err-spot t c =
    let p = err_from_is_err_and c.from_residual.result c.from_residual.ensures.1 in
    rw (p.1, p.2) (stop-wrong c.loop-spot.invariant c.item_head.ensures.value c.item_head.ensures.within _ (grind arith) (grind arith))

pub items-returns-in-Over : goal.items-returns-in-Over
items-returns-in-Over t c = stop-over c.loop-spot.invariant c.item_head.ensures.value c.item_head.ensures.within _ (grind arith)

pub items-returns-in_err-at-in-Item : goal.items-returns-in_err-at-in-Item
items-returns-in_err-at-in-Item t c =
    let p = err_from_is_err_and c.from_residual-in_err-at-in-Item.result c.from_residual-in_err-at-in-Item.ensures.1 in
    rw (p.1, p.2) (stop-item c.loop-spot.invariant c.item_head.ensures.value c.item_head.ensures.within (grind arith) c.item.ensures _ c.in_err-at-in-Item.was)

pub items-loop-spot-preserved : goal.items-loop-spot-preserved
items-loop-spot-preserved t c = go-item c.loop-spot.invariant c.item_head.ensures.value c.item_head.ensures.within (grind arith) c.item.ensures _ c.in_ok-at-in-Item.was
