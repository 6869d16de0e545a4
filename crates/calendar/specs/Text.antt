-- Dates as text, and a piece of a value with its date moved: document 01, "UIDs, dates, lists", 2nd paragraph, and refusal 12. `da` says
-- whether the piece stands in a DA value or in a DT value. Assumes nothing.
--     date_length              how many characters a date has
--     two_digits x y           the number that two characters spell, or nothing where they are not digits
--     date_at s a              the date that the characters of s from the place a on spell, real or not, or nothing
--     two_text n, date_text d  a number below 100 in two digits, and a date in eight
--     right_length da n        a piece of n characters is a date (DA), or has room for one (DT)
--     moved_date da days u     the date of the piece u, moved, or nothing: u is malformed, or its date can't be moved
--     with_date u d            the piece u with the date d for its own; u itself where there is none
--     shifted_piece da days u the piece u with its date moved; u itself where it has none that can be moved
use Rattle.std.specs.Prelude.{Bool, ◌&&◌, List, [], ◌∷◌, ◌++◌, ℕ, ◌+◌, ◌-◌, ◌*◌, ◌/◌, ◌%◌, eqb, leb, ℤ, length, drop, get_or, Option, None, Some}
use Rattle.basis.specs.Choice.{pick, fork, then}
use Rattle.basis.specs.Text.{digit0, is_digit}
use Rattle.calendar.specs.Dates.{moved}
use Rattle.calendar.specs.declared.Date.{Date}

-- Document 01, dates, 3rd sentence: eight digits
abbrev pub date_length : ℕ
date_length = 8

unfoldable pub two_digits : ℕ → ℕ → Option ℕ
two_digits x y = pick (is_digit x && is_digit y) (Some (10 * (x - digit0) + (y - digit0))) None

-- The same sentence, read: century, year, month and day, two digits each
abbrev pub two_at : List ℕ → ℕ → ℕ → Option ℕ
two_at s i j = two_digits (get_or s i 0) (get_or s j 0)

unfoldable pub date_at : List ℕ → ℕ → Option Date
date_at s a =
    then (two_at s a (a + 1)) (λ c.
    then (two_at s (a + 2) (a + 3)) (λ y.
    then (two_at s (a + 4) (a + 5)) (λ m.
    then (two_at s (a + 6) (a + 7)) (λ d.
    Some (record { year = 100 * c + y; month = m; day = d })))))

-- The same sentence, written
abbrev pub two_text : ℕ → List ℕ
two_text n = (digit0 + n / 10 % 10) ∷ (digit0 + n % 10) ∷ []

abbrev pub date_text : Date → List ℕ
date_text d = two_text (d.year / 100) ++ two_text (d.year % 100) ++ two_text d.month ++ two_text d.day

-- The same sentence: in DA a date is the whole piece, in DT it comes first (readings D2, D4)
abbrev pub right_length : Bool → ℕ → Bool
right_length da n = pick da (eqb n date_length) (leb date_length n)

-- Document 01, No. 12: malformed, no real day, or out of the years
unfoldable pub moved_date : Bool → ℤ → List ℕ → Option Date
moved_date da days u = fork (right_length da (length u)) (λ _. then (date_at u 0) (λ d. moved d days)) (λ _. None)

-- Document 01, dates, 3rd sentence: what follows the date of a DT value is copied
abbrev pub with_date : List ℕ → Option Date → List ℕ
with_date u None = u
with_date u (Some d) = date_text d ++ drop date_length u

abbrev pub shifted_piece : Bool → ℤ → List ℕ → List ℕ
shifted_piece da days u = with_date u (moved_date da days u)
