-- Small cases of the definitions, worked out: one claim. No contract cites this file. Assumes nothing.
use mathlib.Core.Path.{◌≡◌, refl}
use mathlib.Core.List.{List, [], ◌∷◌, ◌++◌, map}
use native.Mathlib.Decide.{ℕ_discrete}
use Prim.Native.Nat.{ℕ, ◌*◌}
use lib.ListN.{replicate}
use Rattle.std.specs.Prelude.{None}
use Rattle.basis.specs.Text.{ascii}
use Rattle.buffer.specs.Buffer.{laid, cleared}
use Rattle.ledger.specs.FirstMet.{first_at, number_of, learn, learns, numbers, same_uid}
use Rattle.ledger.specs.Slots.{slot_size, slots_of, slot_of, slots_in, flat}
use Rattle.ledger.specs.SlotFor.{numbered, slot_for, ledger_for}

abbrev a : List ℕ
a = ascii "1.2.3"

abbrev b : List ℕ
b = ascii "1.2.4"

-- n bytes of zero
abbrev zeros : ℕ → List ℕ
zeros n = replicate n 0

-- a ledger whose slots hold these
abbrev holding : List (List ℕ) → List ℕ
holding us = flat (map slot_of us)

pub cases :
    -- numbers by first appearance, of UIDs and of slots
    (numbers same_uid [] (a ∷ b ∷ a ∷ []) ≡ 1 ∷ 2 ∷ 1 ∷ [])
    × (numbers same_uid [] (map slot_of (a ∷ b ∷ a ∷ [])) ≡ 1 ∷ 2 ∷ 1 ∷ [])
    × (learns same_uid (b ∷ []) (a ∷ b ∷ a ∷ []) ≡ b ∷ a ∷ [])
    -- how many slots: none; none in 63 bytes; one in 64; one with a ragged end
    × (slots_of [] ≡ 0)
    × (slots_of (zeros 63) ≡ 0)
    × (slots_of (zeros 64) ≡ 1)
    × (slots_of (zeros 127) ≡ 1)
    -- the next slot, and the ledger then; one that is found; none left
    × (slot_for (zeros 128) 0 (slot_of a) ≡ numbered 1 1)
    × (ledger_for (zeros 128) 0 (slot_of a) ≡ slot_of a ++ zeros 64)
    × (slot_for (holding (a ∷ b ∷ [])) 1 (slot_of b) ≡ numbered 2 2)
    × (slot_for (holding (a ∷ b ∷ [])) 2 (slot_of a) ≡ numbered 1 2)
    × (slot_for (holding (a ∷ [])) 1 (slot_of b) ≡ None)
    × (ledger_for (holding (a ∷ [])) 1 (slot_of b) ≡ holding (a ∷ []))
    × (slot_for [] 0 (slot_of a) ≡ None)
    -- two slots in use that are alike: the first one's number (U7); one with garbage behind its UID is another (U6)
    × (slot_for (holding (a ∷ a ∷ [])) 2 (slot_of a) ≡ numbered 1 2)
    × (slot_for (holding ((a ++ 0 ∷ a) ∷ b ∷ [])) 1 (slot_of a) ≡ numbered 2 2)
    -- past the count in use nothing is looked at, and all is zeroed, a ragged end too (U8, U9)
    × (slot_for (holding (b ∷ a ∷ [])) 1 (slot_of a) ≡ numbered 2 2)
    × (cleared (holding (b ∷ a ∷ []) ++ 7 ∷ []) (slot_size * 1) ≡ slot_of b ++ zeros 65)
unfolding first_at number_of learn learns numbers same_uid ℕ_discrete slot_of slots_in flat slot_for ledger_for laid cleared
cases = (refl, refl, refl, refl, refl, refl, refl, refl, refl, refl, refl, refl, refl, refl, refl, refl, refl, refl)
