-- `calendar::year_of` meets its contract. Assumes nothing.
use Prim.Native.Nat.{ℕ, ◌+◌, ◌-◌, ◌*◌, ◌/◌, ◌<◌, ◌≤◌}
use Rattle.calendar.specs.Spans.{before}
use Rattle.calendar.specs.Dates.{last_year, year_len}
use Rattle.calendar.proofs.SpansLaws.{in_span-below}
use Rattle.calendar.proofs.Closed.{year-high, first-days}
use native.Mathlib.Omega.{arith}
use Rattle.calendar.proofs.year_of.Goals as goal

known : (n y : ℕ) → before year_len y < n → n ≤ before year_len (last_year + 1) → (before year_len y < n) × (y ≤ last_year)
known n y h l = (h, omega (arith, in_span-below year_len n y (last_year + 1) h l))

pub overflow_mul-y : goal.overflow_mul-y
overflow_mul-y c = omega (arith, year-high (last_year + 1), c.requires.1)

pub overflow_sub-y : goal.overflow_sub-y
overflow_sub-y c = omega (arith, first-days, c.requires.0)

pub loop-y-init : goal.loop-y-init
loop-y-init c = known _ _ (omega (arith, year-high ((4 * c.args.n - 7) / 1461), first-days, c.requires.0)) c.requires.1

pub loop-y-preserved : goal.loop-y-preserved
loop-y-preserved c = known _ _ (omega (arith, c.before_year.ensures)) c.requires.1
