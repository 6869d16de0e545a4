-- The rule of a replacement list: document 01, "UIDs, dates, lists", third paragraph; refusal 4; readings L1 to L5. The contract
-- of the function `list_ok` cites the definition of that name. Laws: `proofs/ListsLaws.antt`. Assumes nothing.
--     most_tag, most_entries, most_value    the largest tag, the most entries of a list, the most bytes of a value
--     Entry                                 an entry that was read: its tag, and the places from and to between which its value stands
--     entry_at s at                         the entry that begins at the place `at` of s; none where a number or the value is not right or not whole
--     entry_value s e                       the bytes of the value of e
--     printable c                           a character that a value may hold
--     entries_from left s at low            the entries of s from the place `at` to its end, at most `left` of them, of tags from low on; else none
--     entries s                             all entries of s, in order; none where s breaks the rule
--     list_ok s                             whether s keeps the rule
use Rattle.std.specs.Prelude.{Bool, ◌&&◌, not, List, [], ◌∷◌, ℕ, zero, suc, ◌+◌, eqb, leb, length, Option, None, Some}
use Rattle.basis.specs.Bytes.{part}
use Rattle.basis.specs.Choice.{pick, fork, then, is_some, every}
use Rattle.lists.specs.Number.{number_at}
use Rattle.lists.specs.declared.Entry.{Entry}

-- Document 01, Lists, 3rd sentence: the limits
abbrev pub most_tag : ℕ
most_tag = 0xFFFFFFFF

abbrev pub most_entries : ℕ
most_entries = 256

abbrev pub most_value : ℕ
most_value = 64

-- Document 01, Lists, 1st sentence: the tag, the value's length, the value; the 3rd: how large they may be (L2, L3)
unfoldable pub entry_at : List ℕ → ℕ → Option Entry
entry_at s at =
    then (number_at 0 most_tag s at) (λ t.
    then (number_at 1 most_value s t.1) (λ n.
    pick (leb (n.1 + n.0) (length s)) (Some (record { tag = t.0; from = n.1; to = n.1 + n.0 })) None))

abbrev pub entry_value : List ℕ → Entry → List ℕ
entry_value s e = part s e.from e.to

-- Document 01, Lists, 3rd sentence: 20 to 7E hex, and no backslash (L5)
abbrev pub printable : ℕ → Bool
printable c = leb 0x20 c && leb c 0x7E && not (eqb c 0x5C)

-- Document 01, Lists, 3rd sentence: tags rise strictly, so the next one is at least this one and one
unfoldable pub entries_from : ℕ → List ℕ → ℕ → ℕ → Option (List Entry)
entries_from zero s at low = pick (leb (length s) at) (Some []) None
entries_from (suc left) s at low =
    fork (leb (length s) at) (λ _. Some []) (λ _.
    then (entry_at s at) (λ e.
    fork (leb low e.tag && every printable (entry_value s e))
    (λ _. then (entries_from left s e.to (e.tag + 1)) (λ es. Some (e ∷ es)))
    (λ _. None)))

unfoldable pub entries : List ℕ → Option (List Entry)
entries s = entries_from most_entries s 0 0

-- Refusal 4 is for a list of which this is false
unfoldable pub list_ok : List ℕ → Bool
list_ok s = is_some (entries s)
