-- What a row of the action table holds, and the row of a tag: document 01, "Which action an element gets", 1st and 6th sentence. The rows
-- stand in `Rows.antt`, made from the transcription of Table E.1-1. Laws: `proofs/TableLaws.antt`. Assumes nothing.
--     X, Z, U, K, C, D       a letter, as the hexadecimal digit that stands for it in a row
--     no_letter              the digit of an empty cell
--     tag_of row             the row's tag: group × 65,536 + element
--     basic_of row           the letter of its basic action
--     letter_of row bit      the letter in the column of the option of that bit
--     columns                the bits that have a column: 0 Full Dates, 1 Modified Dates, 2 Patient Characteristics, 3 Device Identity,
--                            4 Retain UIDs, 5 Institution Identity, and 6 Clean Descriptors, which is not offered yet (A18)
--     row_in tag rows        the first of the rows with that tag, if there is one
--     row_of tag             the table's row of that tag, if it has one
--     rising last rows       a test: the tags of the rows rise strictly, and the first is above last
--     basics, overrides      the letters that a basic action, and an option's column, may have
--     legal row              a test: the row has no other letters
use Rattle.std.specs.Prelude.{Bool, true, ◌&&◌, List, [], ◌∷◌, ℕ, ◌/◌, ◌%◌, ◌^◌, eqb, ltb, Option, None, Some}
use Rattle.basis.specs.Choice.{fork, every, among}
use Rattle.table.specs.Rows.{table}

abbrev pub no_letter : ℕ
no_letter = 0x0

abbrev pub X : ℕ
X = 0x1

abbrev pub Z : ℕ
Z = 0x2

abbrev pub U : ℕ
U = 0x3

abbrev pub K : ℕ
K = 0x4

abbrev pub C : ℕ
C = 0xC

abbrev pub D : ℕ
D = 0xD

-- Document 01, Which action, 1st sentence: a row is a number that holds its tag, the basic action and each option's letter
abbrev pub tag_of : ℕ → ℕ
tag_of row = row / 16 ^ 8

abbrev pub basic_of : ℕ → ℕ
basic_of row = row / 16 ^ 7 % 16

abbrev pub letter_of : ℕ → ℕ → ℕ
letter_of row bit = row / 16 ^ bit % 16

abbrev pub columns : List ℕ
columns = 0 ∷ 1 ∷ 2 ∷ 3 ∷ 4 ∷ 5 ∷ 6 ∷ []

unfoldable pub row_in : ℕ → List ℕ → Option ℕ
row_in tag [] = None
row_in tag (row ∷ rows) = fork (eqb (tag_of row) tag) (λ _. Some row) (λ _. row_in tag rows)

abbrev pub row_of : ℕ → Option ℕ
row_of tag = row_in tag table

-- The same sentence: the rows rise strictly by tag
unfoldable pub rising : ℕ → List ℕ → Bool
rising last [] = true
rising last (row ∷ rows) = ltb last (tag_of row) && rising (tag_of row) rows

-- 6th sentence: no either-or action is left in the basic column; an option's cell is K, C or empty (A11)
abbrev pub basics : List ℕ
basics = X ∷ Z ∷ D ∷ U ∷ []

abbrev pub overrides : List ℕ
overrides = no_letter ∷ K ∷ C ∷ []

unfoldable pub legal : ℕ → Bool
legal row = among (basic_of row) basics && every (λ bit. among (letter_of row bit) overrides) columns
