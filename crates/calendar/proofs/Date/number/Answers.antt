-- `calendar::Date::number` meets its contract: a real day is in the years, and its month is one of the twelve. Assumes nothing.
use Rattle.calendar.proofs.DatesLaws.{real-is, real-month, number-small}
use native.Mathlib.Omega.{arith}
use Rattle.calendar.proofs.Date.number.Goals as goal

pub before_year-requires : goal.before_year-requires
before_year-requires c = let r = real-is c.args.self c.requires in omega (arith, r.yₙ)

pub before_month-requires : goal.before_month-requires
before_month-requires c = omega (arith, real-month c.args.self (real-is c.args.self c.requires))

pub overflow_add-result : goal.overflow_add-result
overflow_add-result c = omega (arith, number-small c.args.self (real-is c.args.self c.requires), c.before_year.ensures, c.before_month.ensures)

pub overflow_add-result-2 : goal.overflow_add-result-2
overflow_add-result-2 c = omega (arith, number-small c.args.self (real-is c.args.self c.requires), c.before_year.ensures, c.before_month.ensures)
