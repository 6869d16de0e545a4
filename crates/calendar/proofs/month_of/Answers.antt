-- `calendar::month_of` meets its contract. Assumes nothing.
use Prim.Native.Nat.{◌+◌, ◌-◌, ◌/◌}
use Rattle.calendar.proofs.Closed.{month-high, month-below, year-long}
use native.Mathlib.Omega.{arith}
use Rattle.calendar.proofs.month_of.Goals as goal

pub loop-m-init : goal.loop-m-init
loop-m-init c =
    let a = c.args in
    let m = (a.n - 1) / 31 + 1 in
    let h = year-long a.y in
    (omega arith, omega (arith, month-high a.y m (omega arith)), omega arith)

pub loop-m-preserved : goal.loop-m-preserved
loop-m-preserved c =
    let a = c.args in
    let m = c.loop-m.m + 1 in
    (omega arith, omega (arith, c.before_month.ensures), omega (arith, month-below a.y a.n m c.requires.1 (omega (arith, c.before_month.ensures))))
