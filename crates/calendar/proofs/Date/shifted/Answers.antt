-- `calendar::Date::shifted` meets its contract: one law for each way through it. Assumes nothing.
use mathlib.Core.Path.{sym, ap, ◌∙◌}
use Rattle.std.specs.Prelude.{Some}
use mir.Facts.{to_z-of_z}
use Rattle.calendar.proofs.DatesLaws.{real-is, number-small, moved-in, moved-low, moved-high}
use native.Mathlib.Omega.{arith}
use Rattle.calendar.proofs.Date.shifted.Goals.{then-n-before_year-via-then-n-before_year, then-n-before_year-via-else-n-before_year+then-before_year-n}
use Rattle.calendar.proofs.Date.shifted.Goals as goal

pub later_day-n-requires : goal.later_day-n-requires
later_day-n-requires c =
    let r = real-is c.args.self (sym c.is_real.ensures ∙ c.if-not-is_real.false) in
    omega (arith, number-small c.args.self r, c.number.ensures)

pub returns-then-n-before_year : goal.returns-then-n-before_year
returns-then-n-before_year c =
    elim c.then-n-before_year.branch [
      | then-n-before_year-via-then-n-before_year w ↦ moved-low c.args.self c.args.days (to_z-of_z c.ranges.days) c.number.ensures c.later_day-n.ensures
          c.is_real.ensures c.if-not-is_real.false (omega (arith, c.before_year.ensures, w.if-n-before_year.true))
      | then-n-before_year-via-else-n-before_year+then-before_year-n w ↦ moved-high c.args.self c.args.days (to_z-of_z c.ranges.days) c.number.ensures c.later_day-n.ensures
          c.is_real.ensures c.if-not-is_real.false (omega (arith, w.before_year-else-n-before_year.ensures, w.if-before_year-n.true))
    ]

pub returns : goal.returns
returns c =
    ap Some c.date_of.ensures
    ∙ moved-in c.args.self c.args.days (to_z-of_z c.ranges.days) c.number.ensures c.later_day-n.ensures
    c.is_real.ensures c.if-not-is_real.false (omega (arith, c.before_year.ensures, c.if-n-before_year.false))
    (omega (arith, c.before_year-else-n-before_year.ensures, c.if-before_year-n.false))
