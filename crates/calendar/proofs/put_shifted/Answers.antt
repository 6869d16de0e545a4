-- `calendar::put_shifted` meets its contract. Assumes nothing.
use Prim.Native.Nat.{◌^◌}
use mathlib.Core.Path.{sym}
use mir.Facts.{to_z-of_z}
use lib.ListN.{length}
use Rattle.basis.proofs.BytesLaws.{length-part}
use Rattle.calendar.proofs.Writing.{write-start, write-cut, write-end, write-next, write-last, write-on}
use native.Mathlib.Omega.{arith}
use Rattle.calendar.proofs.put_shifted.Goals as goal

pub loop-out-init : goal.loop-out-init
loop-out-init c = write-start _ _ _ _ _ c.dates_end-stop.ensures.end

pub slice_bounds-put_piece-end : goal.slice_bounds-put_piece-end
slice_bounds-put_piece-end c =
    let g = c.loop-out.invariant in
    let u = write-cut g c.piece_end-end.ensures in
    omega (arith, u.upto, g.upto)

pub returns-then-end-stop : goal.returns-then-end-stop
returns-then-end-stop c =
    let g = c.loop-out.invariant in
    let v = c.args.value.now in
    let e = write-end g c.piece_end-end.ensures c.put_piece-past.ensures in (
      omega (arith, c.copy_block.ensures.0, e, g.upto, c.if-end-stop.true, length-part v c.dates_end-stop.result (length v) (omega arith)),
      rw (sym (to_z-of_z c.ranges.days))
          (write-last g c.piece_end-end.ensures c.put_piece-past.ensures c.if-end-stop.true c.copy_block.ensures.1),
    )

pub overflow_add-at : goal.overflow_add-at
overflow_add-at c =
    let u = write-cut c.loop-out.invariant c.piece_end-end.ensures in
    record {
      fits = write-next c.loop-out.invariant c.piece_end-end.ensures c.put_piece-past.ensures (2 ^ 64)
          (omega (arith, u.upto, c.if-end-stop.false)) c.requires;
    }

pub loop-out-smaller : goal.loop-out-smaller
loop-out-smaller c =
    let u = write-cut c.loop-out.invariant c.piece_end-end.ensures in
    omega (arith, u.from, u.upto, c.if-end-stop.false)

pub loop-out-preserved : goal.loop-out-preserved
loop-out-preserved c =
    let u = write-cut c.loop-out.invariant c.piece_end-end.ensures in
    write-on c.loop-out.invariant c.piece_end-end.ensures c.put_piece-past.ensures
    (omega (arith, u.upto, c.if-end-stop.false)) c.put.ensures
