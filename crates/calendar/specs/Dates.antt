-- The Gregorian calendar and a date moved by whole days: document 01, "UIDs, dates, lists", 2nd paragraph, and refusal 12. The
-- calendar's rule holds for every year, also before it was first used (reading D5). Assumes nothing.
--     first_year, last_year    the years that a date may have
--     leap y                   the year y has a 29th of February
--     year_len y               the days of the year y
--     month_len y m            the days of the month m, from 1, of the year y; 0 where there is no such month
--     day_number d             the day d as a number; the first day of the year 0 is 1
--     date_of n                the date of the day with the number n
--     real d                   d is a day of the calendar, and of a year that a date may have
--     only_real d              d, or nothing where it is not real
--     later n z                z days after the day with the number n; 0, which no day has, where there are not so many before it
--     moved d z                the date z days after d, or nothing: d is not real, or the date that it goes to is not
--     refusal_in r             document 01's refusal, by number, in an answer of `Date::shifted`: 12 where it is none, or 0
use Rattle.std.specs.Prelude.{Bool, true, false, ◌&&◌, List, [], ◌∷◌, ℕ, ◌+◌, ◌-◌, ◌%◌, eqb, leb, ℤ, pos, negsuc, get_or, Option, None, Some}
use Rattle.refusals.specs.Refusals.{bad_dates}
use Rattle.basis.specs.Choice.{pick, then}
use Rattle.calendar.specs.Spans.{before, span_at}
use Rattle.calendar.specs.declared.Date.{Date}

-- Document 01, dates, 2nd sentence: the years 0001 to 9999
abbrev pub first_year : ℕ
first_year = 1

abbrev pub last_year : ℕ
last_year = 9999

-- The same sentence, the Gregorian calendar: each fourth year, but of the full hundreds only each fourth
unfoldable pub leap : ℕ → Bool
leap y = pick (eqb (y % 400) 0) true (pick (eqb (y % 100) 0) false (eqb (y % 4) 0))

abbrev pub year_len : ℕ → ℕ
year_len y = pick (leap y) 366 365

-- The months' lengths, the first at 1
abbrev pub month_lens : Bool → List ℕ
month_lens l = 0 ∷ 31 ∷ pick l 29 28 ∷ 31 ∷ 30 ∷ 31 ∷ 30 ∷ 31 ∷ 31 ∷ 30 ∷ 31 ∷ 30 ∷ 31 ∷ []

unfoldable pub month_len : ℕ → ℕ → ℕ
month_len y m = get_or (month_lens (leap y)) m 0

abbrev pub day_number : Date → ℕ
day_number d = before year_len d.year + (before (month_len d.year) d.month + d.day)

unfoldable pub date_of : ℕ → Date
date_of n =
    let y = span_at year_len (last_year + 1) 0 n in
    let m = span_at (month_len y.0) 13 0 y.1 in
    record { year = y.0; month = m.0; day = m.1 }

-- Document 01, No. 12: a real day, in the years. A month that there is not has no day
unfoldable pub real : Date → Bool
real d = leb first_year d.year && leb d.year last_year && leb 1 d.day && leb d.day (month_len d.year d.month)

abbrev pub only_real : Date → Option Date
only_real d = pick (real d) (Some d) None

abbrev pub later : ℕ → ℤ → ℕ
later n (pos k) = n + k
later n (negsuc k) = n - (k + 1)

-- Document 01, dates, 2nd sentence, and No. 12: refused are a date that is no real day and one that leaves the years
abbrev pub moved : Date → ℤ → Option Date
moved d z = then (only_real d) (λ e. only_real (date_of (later (day_number e) z)))

abbrev pub refusal_in : Option Date → ℕ
refusal_in (Some d) = 0
refusal_in None = bad_dates
