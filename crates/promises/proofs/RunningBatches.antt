-- The third demand for the running code: calls of the station run a batch as the definitions do. No contract cites this file. Assumes nothing.
--     as-started, ran-next    one call, in the words of `specs/Demand3.antt`
--     ran               data sets that calls of the station ran, ran in the words of `specs/Demand3.antt`
--     running-demand3   DEMAND 3
use mathlib.Core.Path.{◌≡◌, sym, ap, ap₂, subst, ◌∙◌}
use mathlib.Core.List.{List, ◌∷◌}
use Prim.Native.Nat.{ℕ}
use lib.ListN.{length, take}
use Rattle.basis.specs.Bytes.{AllBytes}
use Rattle.layout.specs.Source.{Source, explicitly}
use Rattle.treatment.specs.Settings.{Settings}
use Rattle.outcome.specs.Input.{Input}
use Rattle.outcome.specs.Outcome.{done, outcome_of, Report, report_of, output_of, ledger_of}
use Rattle.station.specs.Entry.{report}
use Rattle.promises.specs.Demand3.{started, Ran, none, next}
use Rattle.promises.specs.Running.{Lent, input, RanBy, none as none-by, next as next-by, RunningDemand3}
use Rattle.promises.proofs.Demand3Proof.{demand3}
use Rattle.promises.proofs.RunningProof.{said, outcome-is}

-- what a call was lent is what a run of the batch is handed
pub as-started : (x : Lent) {s : Settings} {l : List ℕ} {n : ℕ} {d : Source} → explicitly x.lent.now ≡ d → (input x).settings ≡ s → x.ledger.now ≡ l → x.used ≡ n
    → input x ≡ started s l n (length x.out.now) d
as-started x a b e f = made a b e f
  where
    made : {a a' : Source} {b b' : Settings} {e e' : List ℕ} {f f' : ℕ} {m : ℕ} → a ≡ a' → b ≡ b' → e ≡ e' → f ≡ f'
        → ◌≡◌ {A = Input} (record { lent = a; settings = b; ledger = e; used = f; room = m }) (record { lent = a'; settings = b'; ledger = e'; used = f'; room = m })
    made p q r t = cc

-- a run of which the report, the output and the ledger are `outcome`'s is one of the batch
pub ran-next : {s : Settings} {l : List ℕ} {n : ℕ} {d : Source} {ds : List Source} {outs : List (List ℕ)} {r : Report} {out k : List ℕ} (room : ℕ) → AllBytes d.bytes
    → outcome_of (started s l n room d) ≡ done → r ≡ report_of (started s l n room d) → out ≡ output_of (started s l n room d) → k ≡ ledger_of (started s l n room d)
    → Ran s k r.used ds outs → Ran s l n (d ∷ ds) (take r.written out ∷ outs)
ran-next {s} {l} {n} {d} {ds} {outs} {r} {out} {k} room bytes ok a b c rest =
    let x : Ran s (ledger_of (started s l n room d)) (report_of (started s l n room d)).used ds outs =
    subst (λ j. Ran s j (report_of (started s l n room d)).used ds outs) c (subst (λ m. Ran s k m ds outs) (ap (λ z. z.used) a) rest) in
    subst (λ o. Ran s l n (d ∷ ds) (o ∷ outs)) (ap₂ (λ z o. take z.written o) (sym a) (sym b)) (next room bytes ok x)

pub ran : {s : Settings} {l : List ℕ} {n : ℕ} {xs : List Source} {outs : List (List ℕ)} → RanBy s l n xs outs → Ran s l n xs outs
ran none-by = none
ran {s} {l} {n} (next-by {d = d} {ds = ds} {outs = outs} c rest) =
    let i : input c.given ≡ started s l n (length c.given.out.now) d = as-started c.given c.lent_is c.settings_are c.ledger_is c.used_is in
    let t = said c.given c.result c.ledger c.out c.runs in
    let e : report n c.result ≡ report_of (started s l n (length c.given.out.now) d) =
    ap (λ m. report m c.result) (sym c.used_is) ∙ t.0 ∙ ap report_of i in
    ran-next (length c.given.out.now) c.bytes (sym (outcome-is (started s l n (length c.given.out.now) d) n c.result e) ∙ c.accepted)
    e (t.1 ∙ ap output_of i) (t.2 ∙ ap ledger_of i) (ran rest)

pub running-demand3 : RunningDemand3
running-demand3 s l k xs ys outs ends same a b = demand3 s l k xs ys outs ends same (ran a) (ran b)
