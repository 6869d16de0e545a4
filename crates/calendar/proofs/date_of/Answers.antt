-- `calendar::date_of` meets its contract: the year that has the day, and the month that has what is left of it. Assumes nothing.
use mathlib.Core.Path.{ap}
use Prim.Native.Nat.{◌+◌, ◌-◌}
use Rattle.calendar.specs.Dates.{last_year, year_len}
use Rattle.calendar.proofs.SpansLaws.{before-one, in_span-below}
use Rattle.calendar.proofs.Closed.{month-in}
use Rattle.calendar.proofs.DatesLaws.{date-within}
use native.Mathlib.Omega.{arith}
use Rattle.calendar.proofs.date_of.Goals as goal

pub before_year-requires : goal.before_year-requires
before_year-requires c =
    let y = c.year_of-y.result in
    omega (arith, in_span-below year_len c.args.n y (last_year + 1) c.year_of-y.ensures.0 c.requires.1)

pub month_of-m-requires : goal.month_of-m-requires
month_of-m-requires c =
    let w = c.year_of-y.ensures in
    omega (arith, w.0, w.1, c.before_year.ensures, before-one year_len c.year_of-y.result)

pub before_month-requires : goal.before_month-requires
before_month-requires c =
    let y = c.year_of-y.result in
    let w = c.year_of-y.ensures in
    let i = c.args.n - c.before_year.result in
    omega (
      arith,
      month-in y i c.month_of-m.result (omega (arith, w.0, c.before_year.ensures))
          (omega (arith, w.1, c.before_year.ensures, before-one year_len y))
          c.month_of-m.ensures,
    )

pub returns : goal.returns
returns c =
    let n = c.args.n in
    date-within n (n - c.before_year.result) _ c.requires.1 c.year_of-y.ensures
    (ap (λ k. n - k) c.before_year.ensures) c.month_of-m.ensures
    (ap (λ k. n - c.before_year.result - k) c.before_month.ensures)
