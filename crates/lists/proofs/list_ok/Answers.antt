-- `lists::list_ok` meets its contract. Assumes nothing.
use mathlib.Core.Path.{sym, ◌∙◌}
use Rattle.lists.proofs.ListsLaws.{entry_at-within, judging-start, judging-end, judging-last, judging-broken, judging-falls, judging-odd, judging-next}
use native.Mathlib.Omega.{arith}
use Rattle.lists.proofs.list_ok.Goals as goal
use Rattle.lists.proofs.list_ok.Goals.{then-e-low-via-then-e-low, then-e-low-via-else-e-low+then-not-all_printable}

pub loop-init : goal.loop-init
loop-init c = judging-start _

pub returns-then-s-at : goal.returns-then-s-at
returns-then-s-at c = sym (judging-end c.loop.invariant c.if-s-at.true)

pub returns-in_default : goal.returns-in_default
returns-in_default c = sym (judging-broken c.loop.invariant c.if-s-at.false c.loop-test.true (sym c.in_default.ensures))

pub slice_bounds-all_printable-count : goal.slice_bounds-all_printable-count
slice_bounds-all_printable-count c = omega (arith, (entry_at-within _ _ _ (sym c.in-Some.ensures)).some-bytes)

pub slice_bounds-all_printable-start : goal.slice_bounds-all_printable-start
slice_bounds-all_printable-start c = omega (arith, (entry_at-within _ _ _ (sym c.in-Some.ensures)).some-bytes)

pub slice_bounds-all_printable-end : goal.slice_bounds-all_printable-end
slice_bounds-all_printable-end c = (entry_at-within _ _ _ (sym c.in-Some.ensures)).whole

pub returns-then-e-low : goal.returns-then-e-low
returns-then-e-low c =
    elim c.then-e-low.branch [
      | then-e-low-via-then-e-low w ↦ sym (judging-falls c.loop.invariant c.if-s-at.false c.loop-test.true (sym c.in-Some.ensures) w.if-e-low.true)
      | then-e-low-via-else-e-low+then-not-all_printable w ↦ sym (judging-odd c.loop.invariant c.if-s-at.false c.loop-test.true (sym c.in-Some.ensures) (sym w.all_printable.ensures ∙ w.if-not-all_printable.true))
    ]

pub overflow_add-low : goal.overflow_add-low
overflow_add-low c = omega (arith, (entry_at-within _ _ _ (sym c.in-Some.ensures)).tag)

pub loop-preserved : goal.loop-preserved
loop-preserved c = judging-next c.loop.invariant c.if-s-at.false c.loop-test.true (sym c.in-Some.ensures) c.if-e-low.false (sym c.all_printable.ensures ∙ c.if-not-all_printable.false)

pub returns : goal.returns
returns c = sym (judging-last c.loop.invariant c.loop-test.false)
