-- `calendar::date_at` meets its contract: two digits spell less than 100. Assumes nothing.
use mathlib.Core.Path.{sym, ◌∙◌}
use Rattle.calendar.proofs.TextLaws.{text-two}
use native.Mathlib.Omega.{arith}
use Rattle.calendar.proofs.date_at.Goals as goal

pub overflow_mul-result : goal.overflow_mul-result
overflow_mul-result c = omega (arith, (text-two _ _ _ (sym c.two_digits.ensures ∙ c.in_ok-century.was)).small)

pub overflow_add-result : goal.overflow_add-result
overflow_add-result c =
    omega (
      arith,
      (text-two _ _ _ (sym c.two_digits.ensures ∙ c.in_ok-century.was)).small,
      (text-two _ _ _ (sym c.two_digits-2.ensures ∙ c.in_ok-year.was)).small,
    )
