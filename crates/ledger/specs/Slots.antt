-- The ledger as lent bytes: document 01, "UIDs, dates, lists", 3rd and 4th sentence, and refusal 3. Laws: `proofs/SlotLaws.antt`. Assumes nothing.
--     slot_size       the bytes of a slot: 64
--     most_slots      the most slots of a ledger: 1,024
--     slots_of l      how many slots the ledger l has
--     slot_of u       the slot that holds the UID u
--     slots_in l n    the first n slots of l
--     flat ks         the bytes of the slots ks, one after the other
-- What lies past the slots, a ragged end or slots past the most, belongs to the rest that is zeroed (U9).
use Rattle.std.specs.Prelude.{List, [], ◌∷◌, ◌++◌, ℕ, zero, suc, ◌-◌, ◌/◌, min, length, take, drop, replicate}

abbrev pub slot_size : ℕ
slot_size = 64

abbrev pub most_slots : ℕ
most_slots = 1024

-- Document 01, UIDs, 3rd sentence: a slot for every 64 bytes, up to 1,024; refusals 3 and 13 go by this number
abbrev pub slots_of : List ℕ → ℕ
slots_of l = min (length l / slot_size) most_slots

-- Document 01, UIDs, 4th sentence: the UID, and zeros behind it
unfoldable pub slot_of : List ℕ → List ℕ
slot_of u = u ++ replicate (slot_size - length u) 0

unfoldable pub slots_in : List ℕ → ℕ → List (List ℕ)
slots_in l zero = []
slots_in l (suc n) = take slot_size l ∷ slots_in (drop slot_size l) n

unfoldable pub flat : List (List ℕ) → List ℕ
flat [] = []
flat (k ∷ ks) = k ++ flat ks
