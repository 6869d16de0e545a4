-- The outcome of a run, for all inputs, and what it leaves: document 01, "When the station says no", and "Kept content and the four
-- counts". Laws: `proofs/OutcomeLaws.antt`. Assumes nothing.
--     Outcome         refused, with a number and an offset; or done
--     outcome_of i    the first condition that holds, tried in order; or done
--     Report          document 01's numbers: refusal, offset, length, count in use, and the four counts
--     report_of i     what is handed back
--     output_of i     every byte of the output afterwards
--     ledger_of i     every byte of the ledger afterwards
use Rattle.std.specs.Prelude.{List, [], ◌∷◌, ◌++◌, ℕ, ◌-◌, ◌*◌, ltb, length, take, replicate, None, Some}
use Rattle.basis.specs.Choice.{pick}
use Rattle.ledger.specs.Slots.{slot_size, slots_of, flat}
use Rattle.treatment.specs.declared.Level.TheVariants.{Top}
use Rattle.kept.specs.Counts.{Counts, nothing, counts_of}
use Rattle.outcome.specs.Input.{Input, tree_of, slots_after, bytes_for}
use Rattle.outcome.specs.Conditions.{Condition, conditions}

pub data Outcome : Type 0 where
  refused : (number offset : ℕ) → Outcome
  done : Outcome

-- the first of some conditions that holds
unfoldable pub first_of : {I : Type 0} → List (Condition I) → I → Outcome
first_of [] i = done
first_of (c ∷ cs) i = elim (c.1 i) [ None ↦ first_of cs i | Some offset ↦ refused c.0 offset ]

unfoldable pub outcome_of : Input → Outcome
outcome_of i = first_of conditions i

pub record Report : Type 0 where
  pub refusal : ℕ
  pub offset : ℕ
  pub written : ℕ
  pub used : ℕ
  pub counts : Counts

-- a refusal hands back its number and offset, length 0, the count as it was given and four zero counts
abbrev pub report_for : Input → Outcome → Report
report_for i (refused n offset) = record { refusal = n; offset = offset; written = 0; used = i.used; counts = nothing }
report_for i done =
    record { refusal = 0; offset = 0; written = length (bytes_for i); used = length (slots_after i); counts = counts_of (tree_of i) i.settings Top }

unfoldable pub report_of : Input → Report
report_of i = report_for i (outcome_of i)

-- what was written, and zeros to the end
abbrev pub filled_up : ℕ → List ℕ → List ℕ
filled_up n xs = xs ++ replicate (n - length xs) 0

abbrev pub output_for : Input → Outcome → List ℕ
output_for i (refused n offset) = filled_up i.room []
output_for i done = filled_up i.room (bytes_for i)

unfoldable pub output_of : Input → List ℕ
output_of i = output_for i (outcome_of i)

-- after a refusal the slots in use stay and the rest is zeroed; where the count is above the slots, nothing is touched (U12)
abbrev pub ledger_for : Input → Outcome → List ℕ
ledger_for i (refused n offset) =
    pick (ltb (slots_of i.ledger) i.used) i.ledger (filled_up (length i.ledger) (take (slot_size * i.used) i.ledger))
ledger_for i done = filled_up (length i.ledger) (flat (slots_after i))

unfoldable pub ledger_of : Input → List ℕ
ledger_of i = ledger_for i (outcome_of i)
