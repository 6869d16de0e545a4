-- `calendar::before_month` meets its contract: the formula of `Closed`. Assumes nothing.
use mathlib.Core.Path.{◌≡◌, refl, sym, ap, ◌∙◌}
use mathlib.Core.Bool.{Bool, true, false}
use Prim.Native.Nat.{◌+◌, ◌-◌, ◌*◌, ◌/◌}
use borrow.Author.Tests.{lt-ltb, le-ltb}
use mir.Val.{bool_byte}
use Rattle.basis.specs.Choice.{pick}
use Rattle.calendar.proofs.Closed.{before-month}
use Rattle.calendar.proofs.before_month.Goals as goal

one-more : (l : Bool) → bool_byte l ≡ pick l 1 0
one-more true = refl
one-more false = refl

pub returns-then-m-lt3 : goal.returns-then-m-lt3
returns-then-m-lt3 c = rw (before-month c.args.y c.args.m c.requires.1, lt-ltb _ _ c.if-m-lt3.true) refl

pub returns : goal.returns
returns c =
    rw (before-month c.args.y c.args.m c.requires.1, le-ltb _ _ c.if-m-lt3.false, sym c.is_leap.ensures)
    (ap (λ n. (153 * c.args.m - 162) / 5 + n) (c.from.ensures ∙ one-more c.is_leap.result))
