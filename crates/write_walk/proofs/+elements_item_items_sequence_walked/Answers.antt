-- The cycle of the writing walk: the elements of a container, a sequence, one that is walked into, its items, an item. Each answer is a law of
-- `proofs/SplitLaws.antt` or `proofs/StepLaws.antt`, or arithmetic on the bounds that the loops keep. Assumes nothing.
use mathlib.Core.Path.{◌≡◌, ap, sym, ◌∙◌}
use Rattle.vr.specs.Names.{SQ}
use Rattle.layout.specs.Heads.{undefined}
use Rattle.layout.specs.Walks.{Inside, Within}
use Rattle.std.specs.Prelude.{Some, Ok}
use Rattle.layout.specs.declared.Head.TheVariants.{End, Plain, Seq}
use Rattle.layout.specs.declared.Spot.TheVariants.{Over, Item}
use Rattle.treatment.specs.Fates.{is_top}
use Rattle.write_markers.proofs.PartLaws.{gained-length}
use Rattle.write_values.proofs.ElementLaws.{length-header}
use Rattle.write_state.specs.Wrote.{met}
use Rattle.write_walk.proofs.WroteLaws.{err-of, ok-of, going-start, going-turn, going-end, wrote-stop}
use Rattle.write_walk.proofs.SplitLaws.{split-plain, split-seq, split-item, wrote-bad, wrote-end, wrote-wrong, wrote-over}
use Rattle.write_walk.proofs.StepLaws.{sequence-walked, sequence-shut, walked-wrong, walked-over, walked-item, item-stop, item-done}
use Prim.Native.Nat.{◌+◌}
use native.Mathlib.Omega.{arith}
use Rattle.write_walk.proofs.+elements_item_items_sequence_walked.Goals as goal

pub elements-loop-head-init : goal.elements-loop-head-init
elements-loop-head-init t c = going-start c.requires.lies.rises c.requires.ready.slots_fit

pub elements-gain-u-requires : goal.elements-gain-u-requires
elements-gain-u-requires t c = omega (arith, c.loop-head.invariant.ge, c.loop-head.invariant.le, c.loop-head.invariant.bound, c.requires.ready.room)

pub elements-returns-in-End : goal.elements-returns-in-End
elements-returns-in-End t c =
    let e : c.element_head.result ≡ Ok (End c.in-End.past) = ok-of c.element_head.result _ (sym c.ok.ensures.value ∙ c.in_ok-head.was ∙ ap Some c.in-End.is) in
    going-end c.loop-head.invariant (wrote-end c.args.c c.element_head.ensures.value c.element_head.ensures.inside _ e c.gain-u.ensures.0 c.gain-u.ensures.1 (gained-length _ _ _ _) c.loop-head.invariant.fits)

pub elements-returns-in_err-next-in-Plain : goal.elements-returns-in_err-next-in-Plain
elements-returns-in_err-next-in-Plain t c =
    let e : c.element_head.result ≡ Ok (Plain c.in-Plain.tag c.in-Plain.vr c.in-Plain.body c.in-Plain.past) = ok-of c.element_head.result _ (sym c.ok.ensures.value ∙ c.in_ok-head.was ∙ ap Some c.in-Plain.is) in
    rw c.from_residual-in_err-next-in-Plain.ensures (going-end c.loop-head.invariant (wrote-stop (split-plain c.args.c c.element_head.ensures.value c.element_head.ensures.inside _ _ _ _ e) c.plain.ensures c.in_err-next-in-Plain.was))

pub elements-loop-head-preserved-in-Plain : goal.elements-loop-head-preserved-in-Plain
elements-loop-head-preserved-in-Plain t c =
    let e : c.element_head.result ≡ Ok (Plain c.in-Plain.tag c.in-Plain.vr c.in-Plain.body c.in-Plain.past) = ok-of c.element_head.result _ (sym c.ok.ensures.value ∙ c.in_ok-head.was ∙ ap Some c.in-Plain.is) in
    let v : Inside c.loop-head.at c.args.c.end (Ok (Plain c.in-Plain.tag c.in-Plain.vr c.in-Plain.body c.in-Plain.past)) = rw e at c.element_head.ensures.inside in
    going-turn c.loop-head.invariant (split-plain c.args.c c.element_head.ensures.value c.element_head.ensures.inside _ _ _ _ e) c.plain.ensures _ _ c.in_ok-next-in-Plain.was (omega (arith, v)) (omega (arith, v)) (omega (arith, v)) (omega (arith, v))

pub elements-returns-in_err-next-in-Seq : goal.elements-returns-in_err-next-in-Seq
elements-returns-in_err-next-in-Seq t c =
    let e : c.element_head.result ≡ Ok (Seq c.in-Seq.tag c.in-Seq.body c.in-Seq.stop c.in-Seq.unstated) = ok-of c.element_head.result _ (sym c.ok.ensures.value ∙ c.in_ok-head.was ∙ ap Some c.in-Seq.is) in
    rw c.from_residual-in_err-next-in-Seq.ensures (going-end c.loop-head.invariant (wrote-stop (split-seq c.args.c c.element_head.ensures.value c.element_head.ensures.inside _ _ _ _ e) c.sequence.ensures c.in_err-next-in-Seq.was))

pub elements-loop-head-preserved : goal.elements-loop-head-preserved
elements-loop-head-preserved t c =
    let e : c.element_head.result ≡ Ok (Seq c.in-Seq.tag c.in-Seq.body c.in-Seq.stop c.in-Seq.unstated) = ok-of c.element_head.result _ (sym c.ok.ensures.value ∙ c.in_ok-head.was ∙ ap Some c.in-Seq.is) in
    let v : Inside c.loop-head.at c.args.c.end (Ok (Seq c.in-Seq.tag c.in-Seq.body c.in-Seq.stop c.in-Seq.unstated)) = rw e at c.element_head.ensures.inside in
    going-turn c.loop-head.invariant (split-seq c.args.c c.element_head.ensures.value c.element_head.ensures.inside _ _ _ _ e) c.sequence.ensures _ _ c.in_ok-next-in-Seq.was (omega (arith, v)) (omega (arith, v)) (omega (arith, v)) (omega (arith, v))

pub item-put_mark-pos-requires : goal.item-put_mark-pos-requires
item-put_mark-pos-requires t c = omega (arith, c.requires.ready.room)

pub item-returns-in_err-past : goal.item-returns-in_err-past
item-returns-in_err-past t c = rw c.from_residual.ensures (item-stop c.at_place-t.ensures c.put_mark-pos.ensures c.elements.ensures c.in_err-past.was)

pub item-returns : goal.item-returns
item-returns t c = item-done c.at_place-t.ensures c.put_mark-pos.ensures c.elements.ensures _ _ _ _ c.in_ok-past.was c.at_place-v.ensures c.put_mark-after.ensures

pub items-loop-spot-init : goal.items-loop-spot-init
items-loop-spot-init t c = going-start c.requires.lies.rises c.requires.ready.slots_fit

pub items-put_mark-pos-requires : goal.items-put_mark-pos-requires
items-put_mark-pos-requires t c = omega (arith, c.loop-spot.invariant.ge, c.loop-spot.invariant.le, c.loop-spot.invariant.bound, c.requires.ready.room)

pub items-returns-in-Over : goal.items-returns-in-Over
items-returns-in-Over t c =
    let e : c.item_head.result ≡ Ok (Over c.in-Over.past) = ok-of c.item_head.result _ (sym c.ok.ensures.value ∙ c.in_ok-spot.was ∙ ap Some c.in-Over.is) in
    going-end c.loop-spot.invariant (wrote-over c.args.c c.item_head.ensures.value c.item_head.ensures.within _ e c.at_place-u.ensures c.put_mark-pos.ensures.0 c.put_mark-pos.ensures.1 c.loop-spot.invariant.fits)

pub items-returns-in_err-next-in-Item : goal.items-returns-in_err-next-in-Item
items-returns-in_err-next-in-Item t c =
    let e : c.item_head.result ≡ Ok (Item c.in-Item.body c.in-Item.stop c.in-Item.unstated) = ok-of c.item_head.result _ (sym c.ok.ensures.value ∙ c.in_ok-spot.was ∙ ap Some c.in-Item.is) in
    rw c.from_residual-in_err-next-in-Item.ensures (going-end c.loop-spot.invariant (wrote-stop (split-item c.args.c c.item_head.ensures.value c.item_head.ensures.within _ _ _ e) c.item.ensures c.in_err-next-in-Item.was))

pub items-loop-spot-preserved : goal.items-loop-spot-preserved
items-loop-spot-preserved t c =
    let e : c.item_head.result ≡ Ok (Item c.in-Item.body c.in-Item.stop c.in-Item.unstated) = ok-of c.item_head.result _ (sym c.ok.ensures.value ∙ c.in_ok-spot.was ∙ ap Some c.in-Item.is) in
    let v : Within c.loop-spot.at c.args.c.end c.args.c.depth (Ok (Item c.in-Item.body c.in-Item.stop c.in-Item.unstated)) = rw e at c.item_head.ensures.within in
    going-turn c.loop-spot.invariant (split-item c.args.c c.item_head.ensures.value c.item_head.ensures.within _ _ _ e) c.item.ensures _ _ c.in_ok-next-in-Item.was (omega (arith, v)) (omega (arith, v)) (omega (arith, v)) (omega (arith, v))

pub sequence-overflow_add-tag : goal.sequence-overflow_add-tag
sequence-overflow_add-tag t c = omega (arith, c.requires.tag)

pub sequence-gain-t-requires : goal.sequence-gain-t-requires
sequence-gain-t-requires t c = omega (arith, c.requires.ready.room)

pub sequence-returns-then-walks_into : goal.sequence-returns-then-walks_into
sequence-returns-then-walks_into t c = sequence-walked c.args.at.low c.fate_of-fate.result c.gain-t.ensures (gained-length _ _ _ _) c.fate_of-fate.ensures (sym c.walks_into.ensures ∙ c.if-walks_into.true) c.walked.ensures

pub sequence-returns : goal.sequence-returns
sequence-returns t c = sequence-shut c.args.at.low c.fate_of-fate.result c.gain-t.ensures (gained-length _ _ _ _) c.fate_of-fate.ensures (sym c.walks_into.ensures ∙ c.if-walks_into.false) c.shut.ensures

pub walked-put_header-pos-requires : goal.walked-put_header-pos-requires
walked-put_header-pos-requires t c = omega (arith, c.requires.ready.room)

pub walked-one_kept-requires : goal.walked-one_kept-requires
walked-one_kept-requires t c = record { countable = omega (arith, c.requires.countable.countable) }

pub walked-put_header-pos-requires-in-Item : goal.walked-put_header-pos-requires-in-Item
walked-put_header-pos-requires-in-Item t c = omega (arith, c.requires.ready.room)

pub walked-one_kept-u-requires : goal.walked-one_kept-u-requires
walked-one_kept-u-requires t c = record { countable = omega (arith, c.requires.countable.countable) }

pub walked-returns-in-Over : goal.walked-returns-in-Over
walked-returns-in-Over t c =
    let e : c.item_head.result ≡ Ok (Over c.in-Over.past) = ok-of c.item_head.result _ (sym c.ok.ensures.value ∙ c.in_ok-spot.was ∙ ap Some c.in-Over.is) in
    walked-over c.item_head.ensures.value c.item_head.ensures.within _ e c.one_kept.ensures c.put_header-pos.ensures c.requires.ready.slots_fit

pub walked-returns-in-Item : goal.walked-returns-in-Item
walked-returns-in-Item t c =
    let e : c.item_head.result ≡ Ok (Item c.in-Item.body c.in-Item.stop c.in-Item.unstated) = ok-of c.item_head.result _ (sym c.ok.ensures.value ∙ c.in_ok-spot.was ∙ ap Some c.in-Item.is) in
    walked-item c.item_head.ensures.value c.item_head.ensures.within _ _ _ e c.one_kept-u.ensures c.put_header-pos-in-Item.ensures c.below-lower.ensures c.items.ensures

pub sequence-walked-requires : goal.sequence-walked-requires
sequence-walked-requires t c =
    let short = gained-length (is_top c.args.at.level) c.args.rules.numbers.options c.args.at.low (c.args.tag + 1) in
    let e = ap (λ v. v.pos) c.gain-t.ensures.0 in (
      omega arith,
      (
        c.requires.lies,
        (
          record { root_fits = c.requires.ready.root_fits; slots_fit = omega (arith, ap (λ v. v.used) c.gain-t.ensures.0, c.requires.ready.slots_fit); room = omega (arith, short, e, c.requires.ready.room) },
          record { countable = omega (arith, ap met c.gain-t.ensures.0, c.requires.countable.countable) },
        ),
      ),
    )

pub sequence-shut-requires-clause-ready : goal.sequence-shut-requires-clause-ready
sequence-shut-requires-clause-ready t c =
    let short = gained-length (is_top c.args.at.level) c.args.rules.numbers.options c.args.at.low (c.args.tag + 1) in
    record { root_fits = c.requires.ready.root_fits; slots_fit = omega (arith, ap (λ v. v.used) c.gain-t.ensures.0, c.requires.ready.slots_fit); room = omega (arith, short, ap (λ v. v.pos) c.gain-t.ensures.0, c.requires.ready.room) }

pub walked-items-requires : goal.walked-items-requires
walked-items-requires t c = (
  omega arith,
  (
    c.requires.lies,
    (
      record { root_fits = c.requires.ready.root_fits; slots_fit = omega (arith, ap (λ v. v.used) c.one_kept-u.ensures, c.requires.ready.slots_fit); room = omega (arith, length-header c.args.tag SQ undefined, ap (λ v. v.pos) c.one_kept-u.ensures, c.put_header-pos-in-Item.ensures.0, c.requires.ready.room) },
      record { countable = omega (arith, ap met c.one_kept-u.ensures, c.requires.countable.countable) },
    ),
  ),
)

pub elements-returns-in_err-head : goal.elements-returns-in_err-head
elements-returns-in_err-head t c =
    let p = err-of c.element_head.result (sym c.ok.ensures.value ∙ c.in_err-head.was) in
    rw c.from_residual.ensures (going-end c.loop-head.invariant (wrote-bad c.args.c c.element_head.ensures.value c.element_head.ensures.inside p.0 p.1))

pub items-returns-in_err-spot : goal.items-returns-in_err-spot
items-returns-in_err-spot t c =
    let p = err-of c.item_head.result (sym c.ok.ensures.value ∙ c.in_err-spot.was) in
    rw c.from_residual.ensures (going-end c.loop-spot.invariant (wrote-wrong c.args.c c.item_head.ensures.value c.item_head.ensures.within p.0 p.1))

pub walked-returns-in_err-spot : goal.walked-returns-in_err-spot
walked-returns-in_err-spot t c =
    let p = err-of c.item_head.result (sym c.ok.ensures.value ∙ c.in_err-spot.was) in
    rw c.from_residual.ensures (walked-wrong c.item_head.ensures.value c.item_head.ensures.within p.0 p.1)
