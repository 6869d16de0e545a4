-- The first and the second demand for the running code, and that any two outcomes that its contract allows are one.
-- No contract cites this file. Assumes nothing.
--     said                 the answer's report, every byte of the output and every byte of the ledger are `outcome`'s
--     bytes-some           something is always written, so that no refusal is told like a finished data set
--     refused-number       a refusal's number is not 0
--     outcome-is           what is handed back says the outcome of `outcome_of`
--     running-demand1, running-demand2    DEMANDS 1 AND 2
--     running-demand2-other    the other half of demand 2
--     station-one          ONE OUTCOME: two calls that were lent the same leave the same
use Rattle.std.specs.Prelude.{Some, None, Option, Result, Ok, Err}
use mathlib.Core.Path.{◌≡◌, refl, sym, ap, ap₂, ◌∙◌}
use mathlib.Core.Bool.{Bool, true, false}
use mathlib.Core.Logic.{◌⊎◌, inl, inr}
use mathlib.Core.List.{List, [], ◌++◌}
use Prim.Native.Nat.{ℕ, ◌<◌, ◌≤◌}
use native.Mathlib.Omega.{arith}
use lib.Dec.{ltb}
use lib.ListN.{length, length-append}
use denote.Ref.{MutBor}
use Rattle.basis.specs.Choice.{fork}
use Rattle.vr.specs.Names.{CS}
use Rattle.vr.specs.Vr.{kind_of}
use Rattle.vr.specs.declared.Kind.{Kind}
use Rattle.vr.specs.declared.Kind.TheVariants.{Short, Long, Sequence}
use Rattle.layout.specs.Tree.{Field, value, items, nil, elem, none as no_item, item, Data}
use Rattle.layout.specs.Heads.{undefined}
use Rattle.layout.specs.Write.{header, put_elements, put_field, bytes_of}
use Rattle.layout.proofs.MarkLaws.{header-unknown, header-short, header-long, header-sequence}
use Rattle.table.specs.Rules.{patient_identity_removed_tag}
use Rattle.kept.specs.Markers.{insert, with_markers}
use Rattle.kept.specs.Written.{export, written}
use Rattle.refusals.specs.Refusals.{number, no_room}
use Rattle.refusals.specs.declared.Fault.{Fault}
use Rattle.outcome.specs.Input.{Input, bytes_for}
use Rattle.outcome.specs.Outcome.{Outcome, refused, done, outcome_of, report_for, report_of, output_of, ledger_of}
use Rattle.write_state.specs.declared.Progress.{Progress}
use Rattle.station.specs.Entry.{report}
use Rattle.promises.specs.Running.{Lent, input, Runs, outcome, RunningDemand1, RunningDemand2, RunningDemand2Other}
use Rattle.promises.proofs.Demand1Proof.{demand1}
use Rattle.promises.proofs.Demand2Proof.{demand2}
use Rattle.promises.proofs.Demand2Accepted.{exports-accepted}

pub said : (x : Lent) (r : Result Progress Fault) (l o : MutBor (List ℕ)) → Runs x r l o
    → (report x.used r ≡ report_of (input x)) × (o.now ≡ output_of (input x)) × (l.now ≡ ledger_of (input x))
said x r l o p = (search, search, search)

-- ---- something is always written

header-some : (tag vr n : ℕ) → 0 < length (header tag vr n)
header-some tag vr n = step (kind_of vr) refl
  where
    step : (k : Option Kind) → kind_of vr ≡ k → 0 < length (header tag vr n)
    step None e = omega (arith, ap length (header-unknown tag vr n e))
    step (Some Short) e = omega (arith, ap length (header-short tag vr n e))
    step (Some Long) e = omega (arith, ap length (header-long tag vr n e))
    step (Some Sequence) e = omega (arith, ap length (header-sequence tag vr n e))

front-some : (a b : List ℕ) → 0 < length a → 0 < length (a ++ b)
front-some a b h = omega (arith, length-append a b)

field-some : (tag vr : ℕ) (f : Field (Unit {0})) (k : List ℕ) → 0 < length (put_field tag vr f k)
unfolding put_elements
field-some tag vr (value v) k = front-some (header tag vr (length v)) _ (header-some tag vr (length v))
field-some tag vr (items no_item) k = front-some (header tag vr 0) _ (header-some tag vr 0)
field-some tag vr (items (item es is)) k = front-some (header tag vr undefined) _ (header-some tag vr undefined)

insert-some : (tag vr : ℕ) (f : Field (Unit {0})) (d : Data) → 0 < length (bytes_of (insert tag vr f d))
unfolding insert bytes_of put_elements
insert-some tag vr f nil = field-some tag vr f []
insert-some tag vr f (elem l t v g d) = step (ltb tag t)
  where
    step : (b : Bool) → 0 < length (put_elements (fork b (λ _. elem tt tag vr f (elem l t v g d)) (λ _. elem l t v g (insert tag vr f d))) [])
    step true = field-some tag vr f _
    step false = field-some t v g _

bytes-some : (i : Input) → 0 < length (bytes_for i)
unfolding bytes_for written export with_markers
bytes-some i = insert-some patient_identity_removed_tag CS _ _

-- ---- the outcome

pub refused-number : (i : Input) (n o : ℕ) → outcome_of i ≡ refused n o → 1 ≤ n
refused-number i n o e = step (demand1 i).ends
  where
    step : (outcome_of i ≡ done) ⊎ ((m : ℕ) × (p : ℕ) × (1 ≤ m) × (m ≤ no_room) × (outcome_of i ≡ refused m p)) → 1 ≤ n
    step (inl d) = absurd (let z : ◌≡◌ {A = ℕ} 0 1 = cc in omega arith)
    step (inr q) = let z : q.0 ≡ n = cc in omega (arith, q.2)

pub outcome-is : (i : Input) (used : ℕ) (r : Result Progress Fault) → report used r ≡ report_of i → outcome r ≡ outcome_of i
unfolding report_of
outcome-is i used (Err f) e = step (outcome_of i) refl
  where
    step : (a : Outcome) → outcome_of i ≡ a → refused (number f.refusal) f.offset ≡ outcome_of i
    step (refused m p) q =
        let g : report used (Err f) ≡ report_for i (refused m p) = e ∙ ap (report_for i) q in
        ap₂ refused (ap (λ z. z.refusal) g) (ap (λ z. z.offset) g) ∙ sym q
    step done q =
        let g : report used (Err f) ≡ report_for i done = e ∙ ap (report_for i) q in
        absurd (omega (arith, ap (λ z. z.written) g, bytes-some i))
outcome-is i used (Ok t) e = step (outcome_of i) refl
  where
    step : (a : Outcome) → outcome_of i ≡ a → done ≡ outcome_of i
    step (refused m p) q =
        let f : report used (Ok t) ≡ report_for i (refused m p) = e ∙ ap (report_for i) q in
        absurd (omega (arith, ap (λ z. z.refusal) f, refused-number i m p q))
    step done q = sym q

-- ---- the demands

pub running-demand1 : RunningDemand1
running-demand1 x r l o ran =
    let told = said x r l o ran in
    rw (outcome-is (input x) x.used r told.0, told.0, told.1, told.2) (demand1 (input x))

pub running-demand2 : RunningDemand2
running-demand2 x r l o ran bytes e =
    let told = said x r l o ran in
    rw (told.0, told.1, told.2) (demand2 (input x) bytes (sym (outcome-is (input x) x.used r told.0) ∙ e))

pub running-demand2-other : RunningDemand2Other
running-demand2-other x r l o ran clear q out k e =
    outcome-is (input x) x.used r (said x r l o ran).0 ∙ exports-accepted (input x) q out k clear e

-- ---- one outcome

pub station-one : (x y : Lent) (r r' : Result Progress Fault) (l l' o o' : MutBor (List ℕ)) → input x ≡ input y → Runs x r l o → Runs y r' l' o'
    → (report x.used r ≡ report y.used r') × (o.now ≡ o'.now) × (l.now ≡ l'.now)
station-one x y r r' l l' o o' i p q =
    let a = said x r l o p in
    let b = said y r' l' o' q in
    (a.0 ∙ ap report_of i ∙ sym b.0, a.1 ∙ ap output_of i ∙ sym b.1, a.2 ∙ ap ledger_of i ∙ sym b.2)
