-- The premises of the running demands can be met: the station's contract leaves an answer to whatever a call is lent, and what the definitions
-- accept is a call that is done. That the station gives that answer is what its proof says, not this file. The same for the C function:
-- `RunningCWitness.antt`. Assumes nothing.
--     answer x                 what a call may answer that was lent x
--     can-run                  it may: the contract asks for nothing that can't be had
--     to, lent_for, is-lent    what a call is lent for an input of the definitions
--     call_of                  an accepted run of the definitions is an accepted call: the premises of running demand 2
--     ran-by                   a batch that ran in the words of `specs/Demand3.antt` was run by calls: the premises of running demand 3
--     batch-by                 such a batch, of two data sets
use mathlib.Core.Path.{◌≡◌, refl, sym, ap, ap₂, ◌∙◌}
use mathlib.Core.Logic.{◌⊎◌, inl, inr}
use mathlib.Core.List.{List, [], ◌∷◌}
use Rattle.std.specs.Prelude.{Result, Ok, Err}
use Prim.Native.Nat.{ℕ, ◌≤◌}
use native.Mathlib.Omega.{arith}
use lib.ListN.{replicate, length-replicate}
use denote.Ref.{Bor, MutBor, at_last}
use Rattle.basis.specs.Bytes.{AllBytes}
use Rattle.refusals.specs.Refusals.{no_room}
use Rattle.refusals.specs.declared.Fault.{Fault}
use Rattle.layout.specs.Source.{Encoding, explicit, Source, explicitly}
use Rattle.treatment.specs.Settings.{Settings}
use Rattle.outcome.specs.Input.{Input}
use Rattle.outcome.specs.Outcome.{Outcome, refused, done, Report, outcome_of, report_for, report_of, output_of, ledger_of}
use Rattle.write_state.specs.declared.Progress.{Progress}
use Rattle.station.specs.Entry.{input_of, report}
use Rattle.promises.specs.Demand3.{started, exported, Ran, none, next}
use Rattle.promises.specs.Running.{Lent, input, Runs, outcome, Call, RanBy, none as none-by, next as next-by}
use Rattle.promises.proofs.ReportLaws.{report-eq}
use Rattle.promises.proofs.RefusalLaws.{of_number, number-of_number}
use Rattle.promises.proofs.Demand1Proof.{demand1}
use Rattle.promises.proofs.Witness as witness

-- ---- an answer to whatever is lent

-- the answer that tells an outcome and its report
abbrev handed : Outcome → Report → Result Progress Fault
handed (refused n o) q = Err (record { refusal = of_number n; offset = o })
handed done q =
    Ok
    (record { pos = q.written; used = q.used; kept = q.counts.stayed; replaced = q.counts.replaced; renamed = q.counts.renamings; removed = q.counts.removals })

abbrev handed_for : Input → Result Progress Fault
handed_for i = handed (outcome_of i) (report_of i)

-- a run ends with a number of the table, or it is done
abbrev Ends : Outcome → Type 0
Ends a = (a ≡ done) ⊎ ((n : ℕ) × (o : ℕ) × (1 ≤ n) × (n ≤ no_room) × (a ≡ refused n o))

tells : (i : Input) → (report i.used (handed_for i) ≡ report_of i) × (outcome (handed_for i) ≡ outcome_of i)
unfolding report_of
tells i = step (outcome_of i) (demand1 i).ends
  where
    step : (a : Outcome) → Ends a → (report i.used (handed a (report_for i a)) ≡ report_for i a) × (outcome (handed a (report_for i a)) ≡ a)
    step (refused n o) (inl e) = absurd (let z : ◌≡◌ {A = ℕ} 0 1 = cc in omega arith)
    step (refused n o) (inr q) =
        let z : q.0 ≡ n = cc in
        let e = number-of_number n (omega (arith, q.2, z)) (omega (arith, q.3, z)) in
        (report-eq _ _ e refl refl refl refl, ap (λ m. refused m o) e)
    step done e = (refl, refl)

abbrev pub answer : Lent → Result Progress Fault
answer x = handed_for (input x)

pub can-run : (x : Lent) → Runs x (answer x) (at_last x.ledger (ledger_of (input x))) (at_last x.out (output_of (input x)))
can-run x = ((tells (input x)).0, (refl, refl))

-- ---- a call for each input of the definitions

-- a reference to these bytes, in a block of its own: to read them, and to write them
abbrev pub to_read : ℕ → List ℕ → Bor (List ℕ)
to_read block xs = record { ref_ptr = (block, 0); now = xs }

abbrev pub to : ℕ → List ℕ → MutBor (List ℕ)
to block xs = record { ref_ptr = (block, 0); ghost_name = block; now = xs }

abbrev pub lent_for : Input → Lent
lent_for i = record {
  lifetimes = ([], ([], ([], ([], ([], tt)))));
  lent = to_read 0 i.lent.bytes;
  options = i.settings.options;
  shift = i.settings.shift;
  root = to_read 1 i.settings.root;
  study = to_read 2 i.settings.study;
  site = to_read 3 i.settings.site;
  ledger = to 4 i.ledger;
  used = i.used;
  out = to 5 (replicate i.room 0);
}

-- there is one encoding
pub is-explicit : (x : Source) → explicitly x.bytes ≡ x
is-explicit x = step x.encoding refl
  where
    step : (e : Encoding) → x.encoding ≡ e → explicitly x.bytes ≡ x
    step explicit q = ap (λ e. record { bytes = x.bytes; encoding = e }) (sym q)

pub is-lent : (i : Input) → input (lent_for i) ≡ i
is-lent i =
    ap₂ (λ x room. input_of x i.settings i.ledger i.used room) (is-explicit i.lent) (length-replicate i.room 0)

runs-for : (i : Input) → Runs (lent_for i) (handed_for i) (to 4 (ledger_of i)) (to 5 (output_of i))
runs-for i = ((tells i).0 ∙ ap report_of (sym (is-lent i)), (ap output_of (sym (is-lent i)), ap ledger_of (sym (is-lent i))))

-- ---- accepted calls

pub call_of : (s : Settings) (l : List ℕ) (n room : ℕ) (d : Source) → AllBytes d.bytes → outcome_of (started s l n room d) ≡ done → Call s l n d
call_of s l n room d bytes ok =
    let i = started s l n room d in
    record {
      given = lent_for i;
      lent_is = is-explicit d;
      settings_are = refl;
      ledger_is = refl;
      used_is = refl;
      bytes = bytes;
      result = handed_for i;
      ledger = to 4 (ledger_of i);
      out = to 5 (output_of i);
      runs = runs-for i;
      accepted = (tells i).1 ∙ ok;
    }

run-next : (s : Settings) (l : List ℕ) (n room : ℕ) (d : Source) {ds : List Source} {outs : List (List ℕ)} → AllBytes d.bytes → outcome_of (started s l n room d) ≡ done
    → RanBy s (ledger_of (started s l n room d)) (report_of (started s l n room d)).used ds outs
    → RanBy s l n (d ∷ ds) (exported (started s l n room d) ∷ outs)
unfolding call_of
run-next s l n room d bytes ok rest =
    let q = (tells (started s l n room d)).0 in
    rw (sym q) (next-by (call_of s l n room d bytes ok) (rw (sym q) at rest))

pub ran-by : {s : Settings} {l : List ℕ} {n : ℕ} {ds : List Source} {outs : List (List ℕ)} → Ran s l n ds outs → RanBy s l n ds outs
ran-by none = none-by
ran-by {s} {l} {n} (next {x = d} room bytes ok rest) = run-next s l n room d bytes ok (ran-by rest)

pub batch-by : RanBy witness.settings witness.ledger 0 (witness.one ∷ witness.two ∷ []) witness.outs
batch-by = ran-by witness.ran
