-- The values of DA and DT elements, shifted: document 01, "UIDs, dates, lists", 2nd paragraph, and refusal 12. `da` says which of the two
-- VRs it is. Assumes nothing.
--     space                      the character that pads a DA value
--     padded da v                the value v ends with such a space
--     dates_end da v             where the dates of the value v end: before that space, or at its end
--     date_pieces da v           the pieces of the value v, without that space
--     shifted_text da days v     the value v with each of its dates moved; a piece that has none that can be moved stays as it is
--     all_move da days us        each of the pieces us has a date that can be moved
--     shifted_value da days v    the value v, shifted, or nothing where it is refused with 12
use Rattle.std.specs.Prelude.{Bool, true, false, ◌&&◌, ◌||◌, List, [], ◌∷◌, ◌++◌, map, ℕ, ◌-◌, ◌%◌, eqb, ℤ, length, take, drop, get_or, Option, None, Some}
use Rattle.basis.specs.Choice.{pick, fork, is_some}
use Rattle.basis.specs.Pieces.{pieces, joined}
use Rattle.calendar.specs.Text.{moved_date, shifted_piece}

abbrev pub space : ℕ
space = 32

-- Document 01, dates, 3rd sentence: one space at the end of a DA value, where the length would be odd without it (reading D2)
unfoldable pub padded : Bool → List ℕ → Bool
padded da v = da && eqb (length v % 2) 0 && eqb (get_or v (length v - 1) 0) space

unfoldable pub dates_end : Bool → List ℕ → ℕ
dates_end da v = pick (padded da v) (length v - 1) (length v)

-- The same sentence: the dates are joined by backslashes
abbrev pub date_pieces : Bool → List ℕ → List (List ℕ)
date_pieces da v = pieces (take (dates_end da v) v)

unfoldable pub shifted_text : Bool → ℤ → List ℕ → List ℕ
shifted_text da days v = joined (map (shifted_piece da days) (date_pieces da v)) ++ drop (dates_end da v) v

unfoldable pub all_move : Bool → ℤ → List (List ℕ) → Bool
all_move da days [] = true
all_move da days (u ∷ us) = is_some (moved_date da days u) && all_move da days us

abbrev pub is_empty : List ℕ → Bool
is_empty [] = true
is_empty (x ∷ v) = false

-- Document 01, No. 12, and dates, last sentence: an empty value stays empty (reading D3)
unfoldable pub shifted_value : Bool → ℤ → List ℕ → Option (List ℕ)
shifted_value da days v = fork (is_empty v || all_move da days (date_pieces da v)) (λ _. Some (shifted_text da days v)) (λ _. None)
