-- One outcome for the entries, for all inputs: `station::deidentify` and the C interface. No contract cites this file. Assumes nothing.
--     deidentify-one              the answer, the output and the ledger
--     corravisk-deidentify-one    the eight numbers, the output and the ledger
--     corravisk-view-one          the five numbers
--     corravisk-action-one        the one number
-- The numbers that were lent to be written over may differ.
use mathlib.Core.Path.{◌≡◌, sym, ap, ◌∙◌}
use Rattle.std.specs.Prelude.{Result, Ok, Err}
use Prim.Native.Nat.{ℕ}
use contract.Lifetimes.{Lfts}
use Rattle.refusals.specs.declared.Fault.{Fault}
use Rattle.write_state.specs.declared.Progress.{Progress}
use Rattle.station.specs.Entry.{report}
use Rattle.abi.proofs.corravisk_view.Reads as corravisk-view
use Rattle.abi.proofs.corravisk_action.Reads as corravisk-action
use Rattle.promises.specs.Running.{Lent, input, Runs, outcome}
use Rattle.promises.specs.RunningC.{Calls}
use Rattle.promises.proofs.RefusalLaws.{fault-one}
use Rattle.promises.proofs.RunningProof.{said, outcome-is, station-one}
use Rattle.promises.proofs.OneOutcome.{Slice, Buffer}
use Rattle.promises.proofs.OneOutcomeWalks.{progress-one}

-- ---- station

report-one : (used : ℕ) (r r' : Result Progress Fault) → outcome r ≡ outcome r' → report used r ≡ report used r' → r ≡ r'
report-one used (Err f) (Err g) e h = ap Err (fault-one f g (ap (λ z. z.refusal) h) (ap (λ z. z.offset) h))
report-one used (Err f) (Ok t) e h = cc
report-one used (Ok t) (Err f) e h = cc
report-one used (Ok t) (Ok t') e h = ap Ok (progress-one t t' (ap (λ z. z.written) h) (ap (λ z. z.used) h) (ap (λ z. z.counts) h))

pub deidentify-one : (x y : Lent) (r r' : Result Progress Fault) (l l' o o' : Buffer) → input x ≡ input y → Runs x r l o → Runs y r' l' o'
    → (r ≡ r') × (o.now ≡ o'.now) × (l.now ≡ l'.now)
deidentify-one x y r r' l l' o o' i a b = (report-one x.used r r' same (one.0 ∙ ap (λ z. report z.used r') (sym i)), one.1, one.2)
  where
    one : (report x.used r ≡ report y.used r') × (o.now ≡ o'.now) × (l.now ≡ l'.now)
    one = station-one x y r r' l l' o o' i a b

    same : outcome r ≡ outcome r'
    same = cc (outcome-is (input x) x.used r (said x r l o a).0, outcome-is (input y) y.used r' (said y r' l' o' b).0, i)

-- ---- abi

pub corravisk-deidentify-one : (κs κs' : Lfts 6) (x y : Lent) (n n' l l' o o' m m' : Buffer) → input x ≡ input y → Calls κs x n l o m
    → Calls κs' y n' l' o' m' → (m.now ≡ m'.now) × (o.now ≡ o'.now) × (l.now ≡ l'.now)
corravisk-deidentify-one κs κs' x y n n' l l' o o' m m' i a b = (cc, cc, cc)

pub corravisk-view-one : (κs κs' : Lfts 2) (tag : ℕ) (s s' : Slice) (o o' p p' : Buffer) → s.now ≡ s'.now
    → corravisk-view.Learnt κs (s, (tag, (o, tt))) tt (s, (tag, (p, tt))) → corravisk-view.Learnt κs' (s', (tag, (o', tt))) tt (s', (tag, (p', tt)))
    → p.now ≡ p'.now
corravisk-view-one κs κs' tag s s' o o' p p' e a b = cc

pub corravisk-action-one : (κs κs' : Lfts 1) (options top tag vr : ℕ) (o o' p p' : Buffer)
    → corravisk-action.Learnt κs (options, (top, (tag, (vr, (o, tt))))) tt (options, (top, (tag, (vr, (p, tt)))))
    → corravisk-action.Learnt κs' (options, (top, (tag, (vr, (o', tt))))) tt (options, (top, (tag, (vr, (p', tt))))) → p.now ≡ p'.now
corravisk-action-one κs κs' options top tag vr o o' p p' a b = cc
