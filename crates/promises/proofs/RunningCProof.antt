-- The three demands for the C interface. No contract cites this file. Assumes nothing.
--     told                 the numbers, every byte of the output and every byte of the ledger are `outcome`'s
--     outcome-in           so is the outcome that the numbers say
--     c-demand1, c-demand2, c-demand2-other, c-demand3    THE DEMANDS
use mathlib.Core.Path.{◌≡◌, refl, sym, ap, ◌∙◌}
use mathlib.Core.List.{List}
use Prim.Native.Nat.{ℕ, zero, suc, ◌≤◌}
use native.Mathlib.Omega.{arith}
use lib.ListN.{length}
use contract.Lifetimes.{Lfts}
use denote.Ref.{MutBor}
use Rattle.layout.specs.Source.{Source}
use Rattle.treatment.specs.Settings.{Settings}
use Rattle.outcome.specs.Input.{Input}
use Rattle.outcome.specs.Outcome.{Outcome, refused, done, Report, outcome_of, report_for, report_of, output_of, ledger_of}
use Rattle.abi.specs.Numbers.{report_numbers}
use Rattle.promises.specs.Demand3.{started, Ran, none}
use Rattle.promises.specs.Running.{Lent, input}
use Rattle.promises.specs.RunningC.{Calls, report_in, outcome_by, outcome_in, CDemand1, CDemand2, CDemand2Other, RanByC, none as none-by, next as next-by, CDemand3}
use Rattle.promises.proofs.ReportLaws.{report-eq}
use Rattle.promises.proofs.Demand1Proof.{demand1}
use Rattle.promises.proofs.Demand2Proof.{demand2}
use Rattle.promises.proofs.Demand2Accepted.{exports-accepted}
use Rattle.promises.proofs.Demand3Proof.{demand3}
use Rattle.promises.proofs.RunningProof.{refused-number}
use Rattle.promises.proofs.RunningBatches.{as-started, ran-next}

-- ---- what a call leaves

-- eight numbers that tell a report are that report
numbers-in : (ns : List ℕ) (r : Report) → ns ≡ report_numbers r → (length ns ≡ 8) × (report_in ns ≡ r)
numbers-in ns r e = (ap length e, ap report_in e ∙ report-eq (report_in (report_numbers r)) r refl refl refl refl refl)

module _ (κs : Lfts 6) (x : Lent) (n l o m : MutBor (List ℕ)) (c : Calls κs x n l o m) where
  told : (m.now ≡ report_numbers (report_of (input x))) × (o.now ≡ output_of (input x)) × (l.now ≡ ledger_of (input x))
  told = (search, search, search)

  report-in : report_in m.now ≡ report_of (input x)
  report-in = (numbers-in m.now (report_of (input x)) told.0).1

outcome-by : (i : Input) → outcome_by (report_of i).refusal (report_of i).offset ≡ outcome_of i
unfolding report_of
outcome-by i = step (outcome_of i) refl
  where
    number : (k p : ℕ) → 1 ≤ k → outcome_by k p ≡ refused k p
    number zero p h = absurd (omega arith)
    number (suc k) p h = refl

    step : (a : Outcome) → outcome_of i ≡ a → outcome_by (report_for i a).refusal (report_for i a).offset ≡ a
    step (refused k p) e = number k p (refused-number i k p e)
    step done e = refl

outcome-in : (ns : List ℕ) (i : Input) → report_in ns ≡ report_of i → outcome_in ns ≡ outcome_of i
outcome-in ns i e = ap (λ (r : Report). outcome_by r.refusal r.offset) e ∙ outcome-by i

is-done : (ns : List ℕ) (i : Input) → report_in ns ≡ report_of i → (report_in ns).refusal ≡ 0 → outcome_of i ≡ done
is-done ns i e z = sym (outcome-in ns i e) ∙ ap (λ k. outcome_by k (report_in ns).offset) z

-- ---- the demands

pub c-demand1 : CDemand1
c-demand1 κs x n l o m c =
    let t = told κs x n l o m c in
    let e : report_in m.now ≡ report_of (input x) = report-in κs x n l o m c in
    ((numbers-in m.now (report_of (input x)) t.0).0, rw (outcome-in m.now (input x) e, e, t.1, t.2) (demand1 (input x)))

pub c-demand2 : CDemand2
c-demand2 κs x n l o m c bytes z =
    let t = told κs x n l o m c in
    let e : report_in m.now ≡ report_of (input x) = report-in κs x n l o m c in
    rw (e, t.1, t.2) (demand2 (input x) bytes (is-done m.now (input x) e z))

refusal-none : (i : Input) → outcome_of i ≡ done → (report_of i).refusal ≡ 0
unfolding report_of
refusal-none i ok = rw ok

pub c-demand2-other : CDemand2Other
c-demand2-other κs x n l o m c clear q out k e =
    ap (λ (r : Report). r.refusal) (report-in κs x n l o m c) ∙ refusal-none (input x) (exports-accepted (input x) q out k clear e)

ran : {s : Settings} {l : List ℕ} {n : ℕ} {xs : List Source} {outs : List (List ℕ)} → RanByC s l n xs outs → Ran s l n xs outs
ran none-by = none
ran {s} {l} {n} (next-by {d = d} {ds = ds} {outs = outs} c rest) =
    let i : input c.given ≡ started s l n (length c.given.out.now) d = as-started c.given c.lent_is c.settings_are c.ledger_is c.used_is in
    let t = told c.lifetimes c.given c.numbers c.ledger c.out c.report c.calls in
    let e : report_in c.report.now ≡ report_of (started s l n (length c.given.out.now) d) =
    report-in c.lifetimes c.given c.numbers c.ledger c.out c.report c.calls ∙ ap report_of i in
    ran-next (length c.given.out.now) c.bytes (is-done c.report.now (started s l n (length c.given.out.now) d) e c.accepted) e (t.1 ∙ ap output_of i) (t.2 ∙ ap ledger_of i) (ran rest)

pub c-demand3 : CDemand3
c-demand3 s l k xs ys outs ends same a b = demand3 s l k xs ys outs ends same (ran a) (ran b)
