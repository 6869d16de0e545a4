-- Spans of days, one after another: the years are such, and the months of a year. The span k has len k days. Assumes nothing.
--     before len k        the days of the spans before the span k
--     InSpan len n k      the n-th day, counted from 1 at the span 0, is a day of the span k
--     span_at len f k n   the span that has the n-th day, counted from 1 at the span k, and which day of it that is; f spans are
--                         tried, and where none of them has it, the one after them is named
use Rattle.std.specs.Prelude.{ℕ, zero, suc, ◌+◌, ◌-◌, ◌≤◌, ◌<◌, leb}
use Rattle.basis.specs.Choice.{fork}

unfoldable pub before : (ℕ → ℕ) → ℕ → ℕ
before len zero = 0
before len (suc k) = before len k + len k

abbrev pub InSpan : (ℕ → ℕ) → ℕ → ℕ → Type 0
InSpan len n k = (before len k < n) × (n ≤ before len (k + 1))

unfoldable pub span_at : (ℕ → ℕ) → ℕ → ℕ → ℕ → ℕ × ℕ
span_at len zero k n = (k, n)
span_at len (suc f) k n = fork (leb n (len k)) (λ _. (k, n)) (λ _. span_at len f (suc k) (n - len k))
