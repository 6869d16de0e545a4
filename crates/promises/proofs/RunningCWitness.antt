-- The premises of the demands for the C function can be met, as those for the station: `RunningWitness.antt`. Assumes nothing.
--     can-call      whatever a call is lent, there is what its contract lets it leave
--     call_of-c     an accepted run of the definitions is an accepted call
--     ran-by-c      a batch that ran in the words of `specs/Demand3.antt` was run by such calls
--     batch-by-c    such a batch, of two data sets
use mathlib.Core.Path.{◌≡◌, refl, sym, ap}
use mathlib.Core.List.{List, [], ◌∷◌}
use Prim.Native.Nat.{ℕ}
use lib.ListN.{replicate}
use contract.Lifetimes.{Lfts}
use denote.Ref.{MutBor, at_last}
use Rattle.basis.specs.Bytes.{AllBytes}
use Rattle.layout.specs.Source.{Source}
use Rattle.treatment.specs.Settings.{Settings}
use Rattle.outcome.specs.Input.{Input}
use Rattle.outcome.specs.Outcome.{Outcome, done, outcome_of, report_for, report_of, output_of, ledger_of}
use Rattle.abi.specs.Numbers.{report_numbers}
use Rattle.promises.specs.Demand3.{started, Ran, none, next}
use Rattle.promises.specs.Running.{Lent, input}
use Rattle.promises.specs.RunningC.{Calls, CCall, RanByC, none as none-by-c, next as next-by-c}
use Rattle.promises.proofs.Witness as witness
use Rattle.promises.proofs.RunningWitness.{is-explicit, to, lent_for, is-lent}

pub can-call : (κs : Lfts 6) (x : Lent) (n : MutBor (List ℕ))
    → Calls κs x n (at_last x.ledger (ledger_of (input x))) (at_last x.out (output_of (input x))) (at_last n (report_numbers (report_of (input x))))
can-call κs x n = (refl, (refl, refl))

no-refusal : (i : Input) → outcome_of i ≡ done → (report_of i).refusal ≡ 0
unfolding report_of
no-refusal i ok = ap (λ (a : Outcome). (report_for i a).refusal) ok

pub call_of-c : (s : Settings) (l : List ℕ) (n room : ℕ) (d : Source) → AllBytes d.bytes → outcome_of (started s l n room d) ≡ done → CCall s l n d
call_of-c s l n room d bytes ok =
    let i = started s l n room d in
    let e = sym (is-lent i) in
    record {
      lifetimes = ([], ([], ([], ([], ([], ([], tt))))));
      given = lent_for i;
      numbers = to 6 (replicate 8 0);
      lent_is = is-explicit d;
      settings_are = refl;
      ledger_is = refl;
      used_is = refl;
      bytes = bytes;
      ledger = to 4 (ledger_of i);
      out = to 5 (output_of i);
      report = to 6 (report_numbers (report_of i));
      calls = (ap (λ (j : Input). report_numbers (report_of j)) e, (ap output_of e, ap ledger_of e));
      accepted = no-refusal i ok;
    }

pub ran-by-c : {s : Settings} {l : List ℕ} {n : ℕ} {ds : List Source} {outs : List (List ℕ)} → Ran s l n ds outs → RanByC s l n ds outs
unfolding call_of-c
ran-by-c none = none-by-c
ran-by-c {s} {l} {n} (next {x = d} room bytes ok rest) = next-by-c (call_of-c s l n room d bytes ok) (ran-by-c rest)

pub batch-by-c : RanByC witness.settings witness.ledger 0 (witness.one ∷ witness.two ∷ []) witness.outs
batch-by-c = ran-by-c witness.ran
