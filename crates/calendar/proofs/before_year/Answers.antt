-- `calendar::before_year` meets its contract: the formula of `Closed`. Assumes nothing.
use mathlib.Core.Path.{sym}
use Rattle.calendar.proofs.Closed.{before-year}
use Rattle.calendar.proofs.before_year.Goals as goal

pub returns : goal.returns
returns c = sym (before-year c.args.y)
