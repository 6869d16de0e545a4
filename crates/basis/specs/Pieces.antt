-- A value that holds several: document 01, "UIDs, dates, lists", where UIDs and dates are joined by backslashes. Assumes nothing.
--     backslash             the byte 5C hex
--     pieces v              v cut at its backslashes: one piece more than there are backslashes, so the one empty piece where v is empty
--     joined us             the pieces us with a backslash between each two
--     after us              the pieces us with a backslash before each
--     on_first x us         us with x in front of its first piece
--     first_piece v         what stands before the first backslash of v
--     piece_end s a stop    where the piece of s that begins at a ends: at a backslash, or at stop
use Rattle.std.specs.Prelude.{List, [], ◌∷◌, ◌++◌, ℕ, ◌+◌, eqb, length, get_or}
use Rattle.basis.specs.Choice.{fork}
use Rattle.basis.specs.Bytes.{part}

abbrev pub backslash : ℕ
backslash = 92

abbrev pub on_first : ℕ → List (List ℕ) → List (List ℕ)
on_first x [] = (x ∷ []) ∷ []
on_first x (u ∷ us) = (x ∷ u) ∷ us

unfoldable pub pieces : List ℕ → List (List ℕ)
pieces [] = [] ∷ []
pieces (x ∷ xs) = fork (eqb x backslash) (λ _. [] ∷ pieces xs) (λ _. on_first x (pieces xs))

unfoldable pub after : List (List ℕ) → List ℕ
after [] = []
after (u ∷ us) = backslash ∷ (u ++ after us)

unfoldable pub joined : List (List ℕ) → List ℕ
joined [] = []
joined (u ∷ us) = u ++ after us

abbrev pub first_piece : List ℕ → List ℕ
first_piece v = get_or (pieces v) 0 []

abbrev pub piece_end : List ℕ → ℕ → ℕ → ℕ
piece_end s a stop = a + length (first_piece (part s a stop))
