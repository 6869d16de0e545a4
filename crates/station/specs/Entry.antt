-- What the entry's arguments and its answer are in the words of `outcome`: document 01, "What the station takes and hands back", and
-- "When the station says no", below the table. Laws: `proofs/RunLaws.antt`. Assumes nothing.
--     told options shift root study site    the settings that the arguments are
--     input_of ..      the input that the arguments are; the room is the output buffer's length
--     report used r    document 01's numbers for the answer r: refusal, offset, length written, count in use, and the four counts
use Rattle.std.specs.Prelude.{List, ℕ, ℤ, Result, Ok, Err}
use Rattle.refusals.specs.Refusals.{number}
use Rattle.refusals.specs.declared.Fault.{Fault}
use Rattle.layout.specs.Source.{Source}
use Rattle.treatment.specs.Settings.{Settings}
use Rattle.kept.specs.Counts.{nothing, counts}
use Rattle.outcome.specs.Input.{Input}
use Rattle.outcome.specs.Outcome.{Report}
use Rattle.write_state.specs.declared.Progress.{Progress}

abbrev pub told : ℕ → ℤ → List ℕ → List ℕ → List ℕ → Settings
told options shift root study site = record { options = options; shift = shift; root = root; study = study; site = site }

abbrev pub input_of : Source → Settings → List ℕ → ℕ → ℕ → Input
input_of x s ledger used room = record { lent = x; settings = s; ledger = ledger; used = used; room = room }

-- a refusal hands back the count that was given
abbrev pub report : ℕ → Result Progress Fault → Report
report used (Err f) = record { refusal = number f.refusal; offset = f.offset; written = 0; used = used; counts = nothing }
report used (Ok t) = record {
  refusal = 0;
  offset = 0;
  written = t.pos;
  used = t.used;
  counts = counts t.kept t.replaced t.renamed t.removed;
}
