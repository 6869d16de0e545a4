-- `write_uids::put_uids` meets its contract. Each way of the loop is a law of `proofs/Turns.antt`. Assumes nothing.
use native.Mathlib.Omega.{arith}
use Rattle.write_uids.proofs.Turns.{start, piece-upto, stop, uid-bound, done, go}
use Rattle.write_uids.proofs.put_uids.Goals as goal

pub loop-slot-init : goal.loop-slot-init
loop-slot-init c = start _ _ _ _ _ _ c.requires.1

pub slice_bounds-slot_of-end : goal.slice_bounds-slot_of-end
slice_bounds-slot_of-end c = piece-upto c.loop-slot.invariant c.piece_end-end.ensures

pub returns-in_err-slot : goal.returns-in_err-slot
returns-in_err-slot c = rw c.from_residual.ensures (stop c.loop-slot.invariant c.piece_end-end.ensures c.slot_of.ensures c.in_err-slot.was)

pub put_uid-past-requires : goal.put_uid-past-requires
put_uid-past-requires c =
    omega (arith, uid-bound c.loop-slot.invariant c.piece_end-end.ensures c.slot_of.ensures c.in_ok-slot.was c.requires.0, c.requires)

pub returns-then-end-uids : goal.returns-then-end-uids
returns-then-end-uids c =
    done c.loop-slot.invariant c.piece_end-end.ensures c.slot_of.ensures c.in_ok-slot.was c.requires.0 c.put_uid-past.ensures c.if-end-uids.true

pub overflow_add-place : goal.overflow_add-place
overflow_add-place c =
    omega (arith, c.put_uid-past.ensures, uid-bound c.loop-slot.invariant c.piece_end-end.ensures c.slot_of.ensures c.in_ok-slot.was c.requires.0, c.requires)

pub loop-slot-preserved : goal.loop-slot-preserved
loop-slot-preserved c =
    go c.loop-slot.invariant c.piece_end-end.ensures c.slot_of.ensures c.in_ok-slot.was c.requires.0 c.put_uid-past.ensures c.if-end-uids.false c.put.ensures
