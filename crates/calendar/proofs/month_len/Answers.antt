-- `calendar::month_len` meets its contract: February, in a leap year and in another. Assumes nothing.
use mathlib.Core.Path.{refl, sym, ◌∙◌}
use Rattle.calendar.specs.Dates.{month_len}
use Rattle.calendar.proofs.month_len.Goals as goal

pub returns-in-2 : goal.returns-in-2
unfolding month_len
returns-in-2 c = rw (c.in-2.is, sym c.is_leap.ensures ∙ c.if-is_leap.true) refl

pub returns-in-2-2 : goal.returns-in-2-2
unfolding month_len
returns-in-2-2 c = rw (c.in-2.is, sym c.is_leap.ensures ∙ c.if-is_leap.false) refl
