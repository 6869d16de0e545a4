-- `station::deidentify` meets its contract. Assumes nothing.
use mathlib.Core.Path.{refl, ap, ◌∙◌}
use Rattle.std.specs.Prelude.{Err}
use lib.ListN.{length}
use mir.Facts.{to_z-of_z}
use Rattle.layout.specs.Source.{explicitly}
use Rattle.outcome.specs.Input.{Input}
use Rattle.station.specs.Entry.{told, input_of}
use Rattle.station.proofs.EarlyLaws.{not-early, days-are}
use Rattle.station.proofs.OrderLaws.{early-refused, early-none}
use Rattle.station.proofs.RunLaws.{refused-early, refused-judged, counted, walk-right}
use native.Mathlib.Omega.{arith}
use Rattle.station.proofs.deidentify.Goals as goal

pub returns-in-Err : goal.returns-in-Err
returns-in-Err c =
    let a = c.args in
    let i : Input = input_of (explicitly a.lent.now) (told a.options a.shift a.root.now a.study.now a.site.now) a.ledger.now a.used (length a.out.now) in
    let left = c.refuse_fault.ensures in
    let x = refused-early i a.out.now refl _ (early-refused i (to_z-of_z c.ranges.shift) c.early_refusal.ensures _ c.in-Err.is) (left.answer ∙ ap Err c.as_fault.ensures) left.output left.ledger in
    record { answer = x.told; output = x.output; ledger = x.ledger }

pub days_of-days-requires : goal.days_of-days-requires
days_of-days-requires c = (not-early _ _ _ _ c.early_refusal.ensures c.in-Ok.is).days

pub write-walk-requires : goal.write-walk-requires
write-walk-requires c =
    let e = not-early _ _ _ _ c.early_refusal.ensures c.in-Ok.is in
    (c.rows-rows.ensures, e.short, e.root_fits, e.slots, omega arith)

pub finish-requires : goal.finish-requires
finish-requires c =
    let a = c.args in
    let i : Input = input_of (explicitly a.lent.now) (told a.options a.shift a.root.now a.study.now a.site.now) a.ledger.now a.used (length a.out.now) in
    let shift = to_z-of_z c.ranges.shift in
    let e = not-early _ _ _ _ c.early_refusal.ensures c.in-Ok.is in
    counted i a.out.now refl (early-none i shift c.early_refusal.ensures c.in-Ok.is) (record { options_are = refl; shift_is = days-are shift e.days c.days_of-days.ensures }) c.judge.ensures _ c.in-Ok-judge.is e.slots c.write-walk.ensures

pub returns-in-Err-judge : goal.returns-in-Err-judge
returns-in-Err-judge c =
    let a = c.args in
    let i : Input = input_of (explicitly a.lent.now) (told a.options a.shift a.root.now a.study.now a.site.now) a.ledger.now a.used (length a.out.now) in
    let shift = to_z-of_z c.ranges.shift in
    let e = not-early _ _ _ _ c.early_refusal.ensures c.in-Ok.is in
    let left = c.refuse_fault-in-Err-judge.ensures in
    let x = refused-judged i a.out.now refl (early-none i shift c.early_refusal.ensures c.in-Ok.is) (record { options_are = refl; shift_is = days-are shift e.days c.days_of-days.ensures }) c.judge.ensures _ c.in-Err-judge.is left.answer left.output left.ledger in
    record { answer = x.told; output = x.output; ledger = x.ledger }

pub returns-in-Ok-judge : goal.returns-in-Ok-judge
returns-in-Ok-judge c =
    let a = c.args in
    let i : Input = input_of (explicitly a.lent.now) (told a.options a.shift a.root.now a.study.now a.site.now) a.ledger.now a.used (length a.out.now) in
    let shift = to_z-of_z c.ranges.shift in
    let e = not-early _ _ _ _ c.early_refusal.ensures c.in-Ok.is in
    let end = c.finish.ensures in
    let x = walk-right i a.out.now refl (early-none i shift c.early_refusal.ensures c.in-Ok.is) (record { options_are = refl; shift_is = days-are shift e.days c.days_of-days.ensures }) c.judge.ensures _ c.in-Ok-judge.is e.slots c.write-walk.ensures _ _ _ end.answer end.output end.ledger in
    record { answer = x.told; output = x.output; ledger = x.ledger }
