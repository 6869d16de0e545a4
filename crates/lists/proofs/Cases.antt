-- Document 01's entry and the edges of the rule, as one table: by computation. Assumes nothing.
--     subject           document 01, "UIDs, dates, lists", third paragraph, last sentence: (0010,0010) "SUBJ7"
--     one tag text      an entry of a tag that is one group
--     cuts n s          s cut after n - 1 bytes, after n - 2, down to 1
use mathlib.Core.Path.{◌≡◌, refl}
use mathlib.Core.Bool.{true, false}
use mathlib.Core.List.{List, [], ◌∷◌, ◌++◌, map}
use Rattle.std.specs.Prelude.{Option, None, Some}
use Prim.Native.Nat.{ℕ, zero, suc}
use lib.ListN.{length, take, replicate}
use Rattle.basis.specs.Choice.{every}
use Rattle.lists.specs.Number.{seven_bit, number_at}
use Rattle.lists.specs.Lists.{entry_at, entries_from, entries, list_ok}
use Rattle.lists.specs.Lookup.{seek_from, entry_of, asked}

abbrev subject : List ℕ
subject = 0x90 ∷ 0x80 ∷ 0x40 ∷ 0x05 ∷ 0x53 ∷ 0x55 ∷ 0x42 ∷ 0x4A ∷ 0x37 ∷ []

abbrev one : ℕ → List ℕ → List ℕ
one tag text = tag ∷ length text ∷ text

abbrev cuts : ℕ → List ℕ → List (List ℕ)
cuts zero s = []
cuts (suc n) s = take (suc n) s ∷ cuts n s

abbrev good : List (List ℕ)
good =
    subject
    ∷ []
    ∷ one 0 (0x41 ∷ [])
    ∷ one 1 (replicate 64 0x41)
    ∷ one 1 (0x20 ∷ 0x7E ∷ 0x5B ∷ 0x5D ∷ [])
    ∷ (one 1 (0x41 ∷ []) ++ one 2 (0x42 ∷ []) ++ subject)
    -- FFFFFFFF hex, and 80 hex, the least of two groups
    ∷ (0xFF ∷ 0xFF ∷ 0xFF ∷ 0xFF ∷ 0x0F ∷ 1 ∷ 0x41 ∷ [])
    ∷ (0x80 ∷ 0x01 ∷ 1 ∷ 0x41 ∷ [])
    ∷ []

abbrev bad : List (List ℕ)
bad =
    -- cut anywhere
    cuts 8 subject
    -- a value of no bytes, of 65, of a character that it may not hold
    ++ one 1 []
    ∷ one 1 (replicate 65 0x41)
    ∷ one 1 (0x1F ∷ [])
    ∷ one 1 (0x7F ∷ [])
    ∷ one 1 (0x5C ∷ [])
    ∷ one 1 (0x41 ∷ 0x80 ∷ [])
    -- the same tag again, a lesser one
    ∷ (one 1 (0x41 ∷ []) ++ one 1 (0x42 ∷ []))
    ∷ (one 2 (0x41 ∷ []) ++ one 1 (0x42 ∷ []))
    -- one group too many: in the tag, in the length
    ∷ (0x81 ∷ 0x00 ∷ 1 ∷ 0x41 ∷ [])
    ∷ (0x90 ∷ 0x80 ∷ 0xC0 ∷ 0x00 ∷ 1 ∷ 0x41 ∷ [])
    ∷ (0x01 ∷ 0x81 ∷ 0x00 ∷ 0x41 ∷ [])
    -- tags above FFFFFFFF hex, of five groups and of six
    ∷ (0x80 ∷ 0x80 ∷ 0x80 ∷ 0x80 ∷ 0x10 ∷ 1 ∷ 0x41 ∷ [])
    ∷ (0x80 ∷ 0x80 ∷ 0x80 ∷ 0x80 ∷ 0x80 ∷ 0x01 ∷ 1 ∷ 0x41 ∷ [])
    ∷ []

-- what is asked for (0010,0010) where both lists have it, where the site's has it, where none has it
abbrev other : List ℕ
other = one 1 (0x41 ∷ []) ++ 0x90 ∷ 0x80 ∷ 0x40 ∷ 0x01 ∷ 0x42 ∷ []

abbrev answers : List (Option (List ℕ))
answers = asked subject other 0x00100010 ∷ asked [] other 0x00100010 ∷ asked (one 1 (0x41 ∷ [])) [] 0x00100010 ∷ asked subject other 1 ∷ []

pub cases :
    (map list_ok good ≡ map (λ _. true) good) × (map list_ok bad ≡ map (λ _. false) bad)
    × (entries subject ≡ Some (record { tag = 0x00100010; from = 4; to = 9 } ∷ []))
    × (answers ≡ Some (0x53 ∷ 0x55 ∷ 0x42 ∷ 0x4A ∷ 0x37 ∷ []) ∷ Some (0x42 ∷ []) ∷ None ∷ Some (0x41 ∷ []) ∷ [])
unfolding every seven_bit number_at entry_at entries_from entries list_ok seek_from entry_of asked
cases = (refl, refl, refl, refl)
