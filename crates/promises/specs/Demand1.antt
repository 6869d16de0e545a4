-- The customer's first demand. Whatever it is handed, a run comes to an end with a finished data set or with a numbered refusal of document
-- 01. A refusal is given exactly when its condition is the first to hold in document 01's order (the list `conditions` of crate
-- `outcome`, one condition a line), and a data set exactly when none holds. After a refusal the output buffer is all zeros and the entries
-- in use in the ledger are untouched. Proof: `proofs/Demand1Proof.antt`. Assumes nothing.
-- The first four hold for any kind of input and any list of conditions (B34).
--     NoneHolds i cs               none of the conditions cs holds of what the run was handed
--     FirstToHold cs i n offset    of the conditions cs number n holds, at the offset, and none before it in the list does
--     Refuses ledger used room n offset r out l    a run that was lent this ledger, with that count in use, and so much room, and refuses,
--                                  reports r, and leaves the output out and the ledger l, does so rightly
--     EndsBy cs most i ledger used room a r out l    a run whose outcome is a ends rightly by the conditions cs, with numbers up to most
--     EndsRightly i a r out l      the same of a data set, by the fourteen conditions
--     Demand1                      the demand
use Rattle.std.specs.Prelude.{◌≡◌, ◌↔◌, ◌⊎◌, ℕ, ◌-◌, ◌*◌, ◌≤◌, ◌<◌, length, take, replicate, Option, None, Some}
use mathlib.Core.List.{List, ◌∷◌, ◌++◌, Memᴰ}
use Rattle.refusals.specs.Refusals.{no_room}
use Rattle.ledger.specs.Slots.{slot_size, slots_of}
use Rattle.kept.specs.Counts.{nothing}
use Rattle.outcome.specs.Input.{Input}
use Rattle.outcome.specs.Conditions.{Condition, conditions}
use Rattle.outcome.specs.Outcome.{Outcome, refused, done, outcome_of, Report, report_of, output_of, ledger_of}

abbrev pub NoneHolds : {I : Type 0} → I → List (Condition I) → Type 0
NoneHolds {I} i cs = (c : Condition I) → Memᴰ c cs → c.1 i ≡ None

pub record FirstToHold {I : Type 0} (cs : List (Condition I)) (i : I) (n offset : ℕ) : Type 0 where
  pub before : List (Condition I)
  pub condition : I → Option ℕ
  pub after : List (Condition I)
  pub listed : cs ≡ before ++ (n, condition) ∷ after
  pub none_before : NoneHolds i before
  pub holds : condition i ≡ Some offset

pub record Refuses (ledger : List ℕ) (used room n offset : ℕ) (r : Report) (out l : List ℕ) : Type 0 where
  -- what it hands back: number and offset, length 0, the count as it was given, four zero counts
  pub number : r.refusal ≡ n
  pub offset_is : r.offset ≡ offset
  pub length_zero : r.written ≡ 0
  pub used_is : r.used ≡ used
  pub counts : r.counts ≡ nothing
  -- the output is zero to its end
  pub output : out ≡ replicate room 0
  -- the entries in use are untouched
  pub in_use : take (slot_size * used) l ≡ take (slot_size * used) ledger
  -- the rest of the ledger is zero; but where the count is above the slots, nothing of it is touched
  pub rest : used ≤ slots_of ledger → l ≡ take (slot_size * used) ledger ++ replicate (length ledger - slot_size * used) 0
  pub untouched : slots_of ledger < used → l ≡ ledger

pub record EndsBy {I : Type 0} (cs : List (Condition I)) (most : ℕ) (i : I) (ledger : List ℕ) (used room : ℕ) (a : Outcome) (r : Report) (out l : List ℕ) : Type 0 where
  -- it is done, or refuses with one of the numbers
  pub ends : (a ≡ done) ⊎ ((n : ℕ) × (offset : ℕ) × (1 ≤ n) × (n ≤ most) × (a ≡ refused n offset))
  -- each exactly when it is due
  pub refused_when : (n offset : ℕ) → (a ≡ refused n offset) ↔ FirstToHold cs i n offset
  pub done_when : (a ≡ done) ↔ NoneHolds i cs
  -- what a refusal leaves; what a run that is done leaves is demand 2
  pub leaves : (n offset : ℕ) → a ≡ refused n offset → Refuses ledger used room n offset r out l

-- a finished data set, or one of the fourteen refusals
abbrev pub EndsRightly : Input → Outcome → Report → List ℕ → List ℕ → Type 0
EndsRightly i a r out l = EndsBy conditions no_room i i.ledger i.used i.room a r out l

abbrev pub Demand1 : Type 0
Demand1 = (i : Input) → EndsRightly i (outcome_of i) (report_of i) (output_of i) (ledger_of i)
