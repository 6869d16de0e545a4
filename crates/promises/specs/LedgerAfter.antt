-- The ledger after a run, and the numbers of UIDs: document 01, "UIDs, dates, lists", 3rd to 7th sentence; as relations. Assumes nothing.
--     TakesSlots ks us ls                the slots in use are ks before the UIDs us were met, one after the other, and ls afterwards
--     Numbered k ks n                    the first of the slots ks that is k has the number n, counted from 1
--     LedgerAfter i r l us number_for    what the ledger l and the reported count are after a run that renamed the UIDs us, and what number each has
use Rattle.std.specs.Prelude.{◌≡◌, ◌≢◌, ℕ, zero, suc, ◌-◌, ◌*◌, ◌≤◌, length, take, replicate}
use mathlib.Core.List.{List, [], ◌∷◌, ◌++◌, Memᴰ}
use Rattle.uid.specs.NewUid.{new_uid}
use Rattle.ledger.specs.Slots.{slot_size, slots_of, slot_of, slots_in, flat}
use Rattle.outcome.specs.Input.{Input}
use Rattle.outcome.specs.Outcome.{Report}

pub data TakesSlots : List (List ℕ) → List (List ℕ) → List (List ℕ) → Type 0 where
  over : {ks : List (List ℕ)} → TakesSlots ks [] ks
  -- a UID that a slot in use holds
  known : {u : List ℕ} {ks us ls : List (List ℕ)} → Memᴰ (slot_of u) ks → TakesSlots ks us ls → TakesSlots ks (u ∷ us) ls
  -- another takes the next slot
  new : {u : List ℕ} {ks us ls : List (List ℕ)} → (Memᴰ (slot_of u) ks → ⊥) → TakesSlots (ks ++ slot_of u ∷ []) us ls → TakesSlots ks (u ∷ us) ls

pub data Numbered (k : List ℕ) : List (List ℕ) → ℕ → Type 0 where
  first : {j : List ℕ} {ks : List (List ℕ)} → j ≡ k → Numbered k (j ∷ ks) (suc zero)
  later : {j : List ℕ} {ks : List (List ℕ)} {n : ℕ} → j ≢ k → Numbered k ks n → Numbered k (j ∷ ks) (suc n)

pub record LedgerAfter (i : Input) (r : Report) (l : List ℕ) (us : List (List ℕ)) (number_for : List ℕ → ℕ) : Type 0 where
  -- the slots in use afterwards: those before, and one for each UID that was met first
  pub slots : List (List ℕ)
  pub takes : TakesSlots (slots_in i.ledger i.used) us slots
  pub count : r.used ≡ length slots
  pub fits : length slots ≤ slots_of i.ledger
  -- every byte: the slots in use, and zeros to the end
  pub bytes : l ≡ flat slots ++ replicate (length i.ledger - slot_size * length slots) 0
  -- the entries in use before are untouched
  pub stays : take (slot_size * i.used) l ≡ take (slot_size * i.used) i.ledger
  -- a renamed UID has the number of the first slot that holds it
  pub numbered : (u : List ℕ) → Memᴰ u us → Numbered (slot_of u) slots (number_for u)
  -- so two that were renamed alike are one
  pub one_to_one : (u w : List ℕ) → Memᴰ u us → Memᴰ w us → new_uid i.settings.root (number_for u) ≡ new_uid i.settings.root (number_for w) → u ≡ w
