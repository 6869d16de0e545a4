-- Small cases of the definitions, worked out: one claim. The first four are document 01's samples. No contract cites this file.
-- Assumes nothing.
use mathlib.Core.Path.{◌≡◌, refl}
use mathlib.Core.Bool.{Bool, true, false}
use Rattle.std.specs.Prelude.{None, Some}
use mathlib.Core.List.{List, [], ◌∷◌, ◌++◌}
use Prim.Native.Nat.{ℕ}
use Prim.Native.Char.{code}
use Prim.Native.String.{String, [] as ended, ◌∷◌ as led}
use lib.IntN.{ℤ, pos, negsuc}
use Rattle.basis.specs.Pieces.{pieces, after, joined}
use Rattle.calendar.specs.Spans.{before, span_at}
use Rattle.calendar.specs.Dates.{leap, month_len, date_of, real}
use Rattle.calendar.specs.Text.{two_digits, date_at, moved_date}
use Rattle.calendar.specs.Values.{padded, dates_end, shifted_text, all_move, shifted_value}

-- the bytes of a text
abbrev text : String → List ℕ
text ended = []
text (led c s) = code c ∷ text s

-- a value is shifted to another; a value is refused with 12
abbrev Shifts : Bool → ℤ → String → String → Type 0
Shifts da days v x = shifted_value da days (text v) ≡ Some (text x)

abbrev Refuses : Bool → ℤ → List ℕ → Type 0
Refuses da days v = shifted_value da days v ≡ None

abbrev DA : Bool
DA = true

abbrev DT : Bool
DT = false

-- a day back, as it is, a day ahead, and as far as a shift goes
abbrev back : ℤ
back = negsuc 0

abbrev same : ℤ
same = pos 0

abbrev on : ℤ
on = pos 1

abbrev far : ℤ
far = pos 36500

abbrev far_back : ℤ
far_back = negsuc 36499

pub cases :
    -- document 01's samples
    Shifts DA back "20200301" "20200229"
    × Shifts DA back "20190301" "20190228"
    × Shifts DA (pos 30) "20240131" "20240301"
    × Refuses DA back (text "00010101")
    -- the full hundreds: 1900 is no leap year, 2000 is one
    × Shifts DA on "19000228" "19000301"
    × Shifts DA on "20000228" "20000229"
    × Shifts DA back "21000301" "21000228"
    -- the ends of a year, and of the years
    × Shifts DA on "20231231" "20240101"
    × Shifts DA back "20240101" "20231231"
    × Shifts DA same "00010101" "00010101"
    × Shifts DA same "99991231" "99991231"
    × Refuses DA on (text "99991231")
    -- the greatest shifts
    × Shifts DA far "20240229" "21240205"
    × Shifts DA far_back "20240229" "19240325"
    × Shifts DA far_back "99991231" "99000124"
    × Shifts DA far_back "01001208" "00010101"
    × Refuses DA far_back (text "01001207")
    -- several dates, with the space where their number is even
    × Shifts DA back "20200301\\20190301 " "20200229\\20190228 "
    × Shifts DA back "20200301\\20190301\\20240101" "20200229\\20190228\\20231231"
    -- a DT value: the date moves, what follows is copied, also the space at its end
    × Shifts DT back "20200301120000" "20200229120000"
    × Shifts DT on "20231231235959.999999+0100" "20240101235959.999999+0100"
    × Shifts DT back "20200301\\20190301 " "20200229\\20190228 "
    × Shifts DT back "20200301Z\\20190301\\2024010108" "20200229Z\\20190228\\2023123108"
    × (shifted_value DT back (text "20200301" ++ 0 ∷ 0 ∷ []) ≡ Some (text "20200229" ++ 0 ∷ 0 ∷ []))
    -- an empty value stays empty
    × (shifted_value DA back [] ≡ Some [])
    × (shifted_value DT back [] ≡ Some [])
    -- malformed: too few or too many characters, others than digits, a range, dots
    × Refuses DA same (text "2020030 ")
    × Refuses DA same (text "2020030101")
    × Refuses DA same (text "2020O301")
    × Refuses DA same (text "20200301-20200302 ")
    × Refuses DA same (text "2020.03.01")
    -- malformed: padding that is no single space, an empty piece, a backslash at an end
    × Refuses DA same (text "20200301  ")
    × Refuses DA same (text "20200301\\20190301" ++ 0 ∷ [])
    × Refuses DA same (text "  ")
    × Refuses DA same (text "20200301\\\\20190301")
    × Refuses DA same (text "20200301\\ ")
    × Refuses DA same (text "\\20200301 ")
    -- no real day, also among others and by a shift of 0
    × Refuses DA same (text "20230229")
    × Refuses DA same (text "20231301")
    × Refuses DA same (text "20230001")
    × Refuses DA same (text "20230431")
    × Refuses DA same (text "20230400")
    × Refuses DA same (text "00000101")
    × Refuses DA same (text "20200301\\20230229 ")
    -- a DT value with fewer than eight digits in front, or with an empty piece
    × Refuses DT same (text "2020")
    × Refuses DT same (text "202003")
    × Refuses DT same (text "2020030 ")
    × Refuses DT same (text "20200301\\")
    × Refuses DT same (text "19000229120000")
unfolding before span_at leap month_len date_of real two_digits date_at moved_date pieces after joined padded dates_end shifted_text all_move shifted_value
cases = (
  refl,
  refl,
  refl,
  refl,
  refl,
  refl,
  refl,
  refl,
  refl,
  refl,
  refl,
  refl,
  refl,
  refl,
  refl,
  refl,
  refl,
  refl,
  refl,
  refl,
  refl,
  refl,
  refl,
  refl,
  refl,
  refl,
  refl,
  refl,
  refl,
  refl,
  refl,
  refl,
  refl,
  refl,
  refl,
  refl,
  refl,
  refl,
  refl,
  refl,
  refl,
  refl,
  refl,
  refl,
  refl,
  refl,
  refl,
  refl,
  refl,
)
