-- The UID rule: document 01, "UIDs, dates, lists", 1st sentence, and refusal 2. Laws: `proofs/UidLaws.antt`. Assumes nothing.
--     is_uid u            u is a UID
--     is_root u           u is a UID that is short enough to be a root
--     uid_upto n u        u is formed as a UID is, in at most n characters
--     formed u            u is made of components with dots between them
--     components u        u cut at its dots: one component more than there are dots
--     component p         p is a component: digits, at least one, the first no zero unless it is the only one
--     longest_uid         the most characters of a UID: 64
--     longest_root        the most characters of a root: 59, so that a dot and a number of four digits still make a UID (U4)
--     dot                 the byte 2E hex
-- Looser than PS3.5: nothing is asked of the first two components, and one component is enough (U3).
use Rattle.std.specs.Prelude.{Bool, false, ◌&&◌, List, [], ◌∷◌, ℕ, eqb, leb, length}
use Rattle.basis.specs.Choice.{pick, fork, every}
use Rattle.basis.specs.Text.{digit0, is_digit}
use Rattle.basis.specs.Pieces.{on_first}

abbrev pub longest_uid : ℕ
longest_uid = 64

abbrev pub longest_root : ℕ
longest_root = 59

abbrev pub dot : ℕ
dot = 46

-- Document 01, UIDs, 1st sentence: a component is not empty, and only "0" itself begins with a zero
unfoldable pub component : List ℕ → Bool
component [] = false
component (x ∷ p) = pick (eqb x digit0) (eqb (length p) 0) (every is_digit (x ∷ p))

unfoldable pub components : List ℕ → List (List ℕ)
components [] = [] ∷ []
components (x ∷ u) = fork (eqb x dot) (λ _. [] ∷ components u) (λ _. on_first x (components u))

-- Document 01, UIDs, 1st sentence: components joined by dots. Where there is no character, the one component is empty
unfoldable pub formed : List ℕ → Bool
formed u = every component (components u)

abbrev pub uid_upto : ℕ → List ℕ → Bool
uid_upto n u = leb (length u) n && formed u

-- Document 01, UIDs, 1st sentence: at most 64 characters
abbrev pub is_uid : List ℕ → Bool
is_uid u = uid_upto longest_uid u

-- Refusal 2: a root is a UID of at most 59
abbrev pub is_root : List ℕ → Bool
is_root u = uid_upto longest_root u
