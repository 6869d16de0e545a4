-- Small cases of the definitions, worked out: one claim. No contract cites this file. Assumes nothing.
use mathlib.Core.Path.{◌≡◌, refl}
use mathlib.Core.Bool.{true, false, not}
use Rattle.std.specs.Prelude.{Some}
use mathlib.Core.List.{List, [], ◌∷◌, ◌++◌}
use Prim.Native.Nat.{ℕ, ◌+◌}
use lib.ListN.{replicate}
use Rattle.basis.specs.Text.{ascii}
use Rattle.basis.specs.Choice.{every}
use Rattle.basis.specs.Pieces.{pieces, after, joined}
use Rattle.uid.specs.Uid.{component, components, formed, is_uid, is_root, longest_uid, longest_root}
use Rattle.uid.specs.Value.{most_uids, if_uids, trimmed, uids_of, uids_fault, zero_pad, value_of}
use Rattle.uid.specs.NewUid.{digits_in, decimal, new_uid, uids_text}

-- n ones
abbrev ones : ℕ → List ℕ
ones n = replicate n 49

-- a value of three UIDs, the first and the last alike, with its zero byte
abbrev three : List ℕ
three = ascii "1.2.3\\1.2.4\\1.2.3" ++ 0 ∷ []

-- UIDs, the last of 64 characters
abbrev uids : List (List ℕ)
uids = ascii "1.2.840.10008" ∷ ascii "2.0.10" ∷ (48 ∷ []) ∷ ones longest_uid ∷ []

-- no UIDs: nothing, an empty component at three places, a leading zero at two, another character, 65 characters
abbrev others : List (List ℕ)
others = [] ∷ ascii "1..2" ∷ ascii ".1" ∷ ascii "1." ∷ ascii "01" ∷ ascii "1.00" ∷ ascii "1.2a" ∷ ones (longest_uid + 1) ∷ []

-- values that break the rule: nothing but zero bytes, two zero bytes at the end, one in the middle, a space, a UID that is empty, a
-- backslash at either end, an odd length, 1,001 UIDs
abbrev broken : List (List ℕ)
broken =
    (0 ∷ 0 ∷ []) ∷ (ascii "1.23" ++ 0 ∷ 0 ∷ []) ∷ (ascii "1.2" ++ 0 ∷ ascii "1.2" ++ 0 ∷ []) ∷ ascii "1.2 " ∷ ascii "1.2\\\\1.23" ∷ ascii "1.2\\" ∷ ascii "\\1.2"
    ∷ ascii "1.2" ∷ value_of (replicate (most_uids + 1) (ones 1)) ∷ []

pub cases :
    (every is_uid uids ≡ true)
    × (every (λ u. not (is_uid u)) others ≡ true)
    × (is_root (ones longest_root) ≡ true)
    × (is_root (ones (longest_root + 1)) ≡ false)
    × (uids_of [] ≡ Some [])
    × (uids_of (ascii "1.23") ≡ Some (ascii "1.23" ∷ []))
    × (uids_of three ≡ Some (ascii "1.2.3" ∷ ascii "1.2.4" ∷ ascii "1.2.3" ∷ []))
    × (uids_fault (value_of (replicate most_uids (ones 1))) ≡ false)
    × (every uids_fault broken ≡ true)
    × (decimal 0 ≡ 48 ∷ [])
    × (decimal 1024 ≡ ascii "1024")
    × (new_uid (ascii "1.9") 65536 ≡ ascii "1.9.65536")
    × (uids_text (ascii "1.9") [] ≡ [])
    × (uids_text (ascii "1.9") (1 ∷ 2 ∷ 1 ∷ []) ≡ ascii "1.9.1\\1.9.2\\1.9.1" ++ 0 ∷ [])
unfolding formed components component every uids_of if_uids trimmed pieces decimal digits_in new_uid value_of joined after zero_pad
cases = (refl, refl, refl, refl, refl, refl, refl, refl, refl, refl, refl, refl, refl, refl)
