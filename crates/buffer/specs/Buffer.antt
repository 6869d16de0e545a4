-- What a lent buffer holds after bytes were written at a place of it. The place counts on past the buffer's end, and what does
-- not fit is left out, so one definition covers a write with room, without room and with some. Assumes nothing.
--     laid o p xs            o with xs written from the place p on, as far as o goes; all else as it was
--     cleared o p            o with zeros from the place p to its end
--     Puts xs o p o' past    a routine put xs at the place p of o, which is left as o', and its answer is the place past all of them
use Rattle.std.specs.Prelude.{◌≡◌, List, [], ◌∷◌, ℕ, ◌+◌, zero, suc, length}

unfoldable pub laid : List ℕ → ℕ → List ℕ → List ℕ
laid [] p xs = []
laid (y ∷ o) (suc p) xs = y ∷ laid o p xs
laid (y ∷ o) zero [] = y ∷ o
laid (y ∷ o) zero (x ∷ xs) = x ∷ laid o zero xs

unfoldable pub cleared : List ℕ → ℕ → List ℕ
cleared [] p = []
cleared (y ∷ o) (suc p) = y ∷ cleared o p
cleared (y ∷ o) zero = 0 ∷ cleared o zero

-- the place past all of xs is the answer whether they fitted or not
abbrev pub Puts : List ℕ → List ℕ → ℕ → List ℕ → ℕ → Type 0
Puts xs o p o' past = (past ≡ p + length xs) × (o' ≡ laid o p xs)
