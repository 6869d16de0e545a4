-- `calendar::put_piece` meets its contract: with the date moved, or as it is. Assumes nothing.
use mathlib.Core.Path.{ap, ◌∙◌}
use lib.ListN.{length-drop}
use mir.Facts.{to_z-of_z}
use Rattle.buffer.specs.Buffer.{laid}
use Rattle.calendar.proofs.Writing.{rest-all, put-same, put-long, put-moved}
use Rattle.calendar.specs.Text.{date_length}
use native.Mathlib.Omega.{arith}
use Rattle.calendar.proofs.put_piece.Goals as goal

pub returns-in_default : goal.returns-in_default
returns-in_default c =
    let a = c.args in
    let e = put-same a.da a.days a.piece.now (to_z-of_z c.ranges.days) c.moved_date.ensures.date c.in_default.is in
    (c.copy_block.ensures.0, c.copy_block.ensures.1 ∙ ap (laid a.out.now a.pos) e)

pub returns : goal.returns
returns c =
    let a = c.args in
    let l = put-long a.da a.days a.piece.now (to_z-of_z c.ranges.days) c.moved_date.ensures.date c.in-Some.is in
    let w = rw rest-all at c.copy_block-2.ensures in (
      omega (arith, l, w.0, length-drop date_length a.piece.now),
      put-moved a.da a.days a.piece.now (to_z-of_z c.ranges.days) c.moved_date.ensures.date c.in-Some.is a.out.now a.pos c.put_date.ensures w.1,
    )
