-- `calendar::date_fault` meets its contract. Assumes nothing.
use mathlib.Core.Path.{sym}
use borrow.Author.Tests.{eqb-true, eqb-false}
use mir.Facts.{to_z-of_z}
use Rattle.calendar.proofs.Judging.{judge-nothing, judge-start, judge-cut, judge-bad, judge-last, judge-on}
use native.Mathlib.Omega.{arith}
use Rattle.calendar.proofs.date_fault.Goals as goal

pub returns-then-is_empty : goal.returns-then-is_empty
returns-then-is_empty c =
    let a = c.args in judge-nothing a.da a.value.now a.days (eqb-true _ _ (sym c.if-is_empty.ensures))

pub loop-da-init : goal.loop-da-init
loop-da-init c = judge-start _ _ _ (omega (arith, eqb-false _ _ (sym c.if-is_empty.ensures))) c.dates_end-stop.ensures.end

pub slice_bounds-moved_date-end : goal.slice_bounds-moved_date-end
slice_bounds-moved_date-end c =
    let g = c.loop-da.invariant in
    let u = judge-cut g c.piece_end-end.ensures in
    omega (arith, u.upto, g.upto)

pub returns-then-is_none : goal.returns-then-is_none
returns-then-is_none c =
    rw (sym (to_z-of_z c.ranges.days))
    (judge-bad c.loop-da.invariant c.piece_end-end.ensures c.moved_date.ensures.date c.if-is_none.ensures)

pub returns-then-end-stop : goal.returns-then-end-stop
returns-then-end-stop c =
    rw (sym (to_z-of_z c.ranges.days))
    (judge-last c.loop-da.invariant c.piece_end-end.ensures c.moved_date.ensures.date c.if-is_none.ensures c.if-end-stop.true)

pub loop-da-smaller : goal.loop-da-smaller
loop-da-smaller c =
    let u = judge-cut c.loop-da.invariant c.piece_end-end.ensures in
    omega (arith, u.from, u.upto, c.if-end-stop.false)

pub loop-da-preserved : goal.loop-da-preserved
loop-da-preserved c =
    let u = judge-cut c.loop-da.invariant c.piece_end-end.ensures in
    judge-on c.loop-da.invariant c.piece_end-end.ensures c.moved_date.ensures.date c.if-is_none.ensures
    (omega (arith, u.upto, c.if-end-stop.false))
