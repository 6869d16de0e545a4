-- A value of UIDs, as it is read and as it is made: document 01, "UIDs, dates, lists", 2nd sentence, and refusal 11.
-- Laws: `proofs/PadLaws.antt`, `proofs/ValueLaws.antt`. Assumes nothing.
--     uids_of v        the UIDs that the value v holds, or nothing where it breaks the rule
--     uids_fault v     v breaks the rule
--     value_of us      the value that holds the UIDs us
--     if_uids us       us, where they are at most 1,000 and each is a UID
--     trimmed v        v without one zero byte at its end, where it has one
--     zero_pad t       one zero byte where the length of t is odd, else nothing
--     most_uids        the most UIDs of a value: 1,000
-- A value without any byte holds no UID. Another is even, so that its zero byte, if there is one, is the one that the rule asks for (U1).
use Rattle.std.specs.Prelude.{Bool, ◌&&◌, List, [], ◌∷◌, ◌++◌, ℕ, ◌%◌, eqb, leb, length, Option, None, Some}
use Rattle.basis.specs.Choice.{pick, is_none, every}
use Rattle.basis.specs.Pieces.{pieces, joined}
use Rattle.uid.specs.Uid.{is_uid}

abbrev pub most_uids : ℕ
most_uids = 1000

-- Document 01, UIDs, 2nd sentence: 0 to 1,000 UIDs, equal ones counted each time (U2)
unfoldable pub if_uids : List (List ℕ) → Option (List (List ℕ))
if_uids us = pick (leb (length us) most_uids && every is_uid us) (Some us) None

unfoldable pub trimmed : List ℕ → List ℕ
trimmed [] = []
trimmed (x ∷ []) = pick (eqb x 0) [] (x ∷ [])
trimmed (x ∷ y ∷ v) = x ∷ trimmed (y ∷ v)

-- Document 01, UIDs, 2nd sentence: joined by backslashes, with one zero byte where the length would be odd and no other padding
unfoldable pub uids_of : List ℕ → Option (List (List ℕ))
uids_of [] = Some []
uids_of (x ∷ v) = pick (eqb (length (x ∷ v) % 2) 0) (if_uids (pieces (trimmed (x ∷ v)))) None

-- Refusal 11: the value of an element to be renamed breaks the rule
abbrev pub uids_fault : List ℕ → Bool
uids_fault v = is_none (uids_of v)

unfoldable pub zero_pad : List ℕ → List ℕ
zero_pad t = pick (eqb (length t % 2) 0) [] (0 ∷ [])

-- Document 01, UIDs, 2nd sentence, as it is written
unfoldable pub value_of : List (List ℕ) → List ℕ
value_of us = joined us ++ zero_pad (joined us)
