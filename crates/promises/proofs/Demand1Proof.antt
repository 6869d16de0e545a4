-- Demand 1, proved, and that its statement allows one outcome. No contract cites this file. Assumes nothing.
--     firstly, first-held         the condition that `outcome_of` stops at is the first to hold
--     done_none, none_done        it stops at none exactly where none holds
--     demand1                     THE THEOREM
--     outcomes-one, refuses-one   an outcome that the statement allows is `outcome_of`'s, and so is what a refusal leaves
use mathlib.Core.Path.{◌≡◌, refl, sym, ap, ◌∙◌}
use mathlib.Core.Logic.{◌↔◌, ◌⊎◌, inl, inr}
use mathlib.Core.Bool.{Bool, true, ◌&&◌, and-eq-true_iff}
use mathlib.Core.List.Memᴰ
use mathlib.Core.List.{List, [], ◌∷◌, ◌++◌, map, Memᴰ}
use Rattle.std.specs.Prelude.{Option, None, Some}
use Prim.Native.Nat.{ℕ, ◌-◌, ◌*◌, ◌≤◌}
use native.Mathlib.Omega.{arith}
use native.Mathlib.Decide.{dec_le}
use lib.Dec.{leb}
use lib.ListN.{length, take, replicate}
use lib.Seq.{length-take-le}
use borrow.Author.Tests.{leb-true, le-ltb}
use Rattle.basis.specs.Choice.{every}
use Rattle.ledger.specs.Slots.{slot_size, slots_of}
use Rattle.refusals.specs.Refusals.{no_room}
use Rattle.ledger.proofs.SlotLaws.{slots_of-fits}
use Rattle.outcome.specs.Input.{Input}
use Rattle.outcome.specs.Conditions.{Condition, conditions}
use Rattle.outcome.specs.Outcome.{Outcome, refused, done, first_of, outcome_of, Report, report_for, report_of, output_of, ledger_of}
use Rattle.outcome.proofs.OutcomeLaws.{First, here, later, outcome-refused, refused-output, refused-slots, refused-untouched}
use Rattle.promises.specs.Demand1.{NoneHolds, FirstToHold, Refuses, EndsRightly, Demand1}
use Rattle.promises.proofs.ReportLaws.{report-eq}

-- ---- the first condition to hold

module _ {I : Type 0} (i : I) where
  -- the same, of any list of conditions
  record Firstly (n o : ℕ) (cs : List (Condition I)) : Type 0 where
    before : List (Condition I)
    condition : I → Option ℕ
    after : List (Condition I)
    listed : cs ≡ before ++ (n, condition) ∷ after
    none_before : NoneHolds i before
    holds : condition i ≡ Some o

  none_more : (c : Condition I) (cs : List (Condition I)) → c.1 i ≡ None → NoneHolds i cs → NoneHolds i (c ∷ cs)
  none_more c cs e h d m = step (Memᴰ.cases_cons m)
    where
      step : (d ≡ c) ⊎ Memᴰ d cs → d.1 i ≡ None
      step (inl q) = ap (λ (x : Condition I). x.1 i) q ∙ e
      step (inr k) = h d k

  firstly : {n o : ℕ} {cs : List (Condition I)} → First i n o cs → Firstly n o cs
  firstly (here {t} {cs} e) = record { before = []; condition = t; after = cs; listed = refl; none_before = λ c m. absurd (Memᴰ.not-nil m); holds = e }
  firstly (later {c} {cs} e f) =
      let r = firstly f in
      record {
        before = c ∷ r.before;
        condition = r.condition;
        after = r.after;
        listed = ap (λ (l : List (Condition I)). c ∷ l) r.listed;
        none_before = none_more c r.before e r.none_before;
        holds = r.holds;
      }

  first-held : (n o : ℕ) (t : I → Option ℕ) (bs ds : List (Condition I)) → NoneHolds i bs → t i ≡ Some o → First i n o (bs ++ (n, t) ∷ ds)
  first-held n o t [] ds h e = here e
  first-held n o t (b ∷ bs) ds h e = later (h b (Memᴰ.head refl)) (first-held n o t bs ds (λ c m. h c (Memᴰ.tail m)) e)

  -- the number is one of the list's
  first-among : {n o : ℕ} {cs : List (Condition I)} (p : ℕ → Bool) → every p (map (λ c. c.0) cs) ≡ true → First i n o cs → p n ≡ true
  unfolding every
  first-among p q (here {t} {cs} e) = ((and-eq-true_iff _ _).0 q).0
  first-among p q (later {c} {cs} e f) = first-among p ((and-eq-true_iff (p c.0) (every p (map (λ c. c.0) cs))).0 q).1 f

  done_none : (cs : List (Condition I)) → first_of cs i ≡ done → NoneHolds i cs
  unfolding first_of
  done_none [] e = λ c m. absurd (Memᴰ.not-nil m)
  done_none (c ∷ cs) e = step (c.1 i) refl e (λ r. done_none cs r)
    where
      step : (x : Option ℕ) → c.1 i ≡ x → elim x [ None ↦ first_of cs i | Some o ↦ refused c.0 o ] ≡ done → (first_of cs i ≡ done → NoneHolds i cs)
          → NoneHolds i (c ∷ cs)
      step None q r ih = none_more c cs q (ih r)
      step (Some o) q r ih = absurd (let z : ◌≡◌ {A = ℕ} 0 1 = cc in omega arith)

  none_done : (cs : List (Condition I)) → NoneHolds i cs → first_of cs i ≡ done
  unfolding first_of
  none_done [] h = refl
  none_done (c ∷ cs) h = let q : c.1 i ≡ None = h c (Memᴰ.head refl) in rw q (none_done cs (λ d m. h d (Memᴰ.tail m)))

-- ---- the outcome

module _ (i : Input) where
  fourteen : ℕ → Bool
  fourteen n = leb 1 n && leb n no_room

  refused-within : (n o : ℕ) → outcome_of i ≡ refused n o → (1 ≤ n) × (n ≤ no_room)
  unfolding fourteen every
  refused-within n o e =
      let b = (and-eq-true_iff (leb 1 n) (leb n no_room)).0 (first-among i fourteen refl ((outcome-refused i n o).0 e)) in
      (leb-true 1 n b.0, leb-true n no_room b.1)

  first-when : (n o : ℕ) → (outcome_of i ≡ refused n o) ↔ FirstToHold conditions i n o
  first-when n o = (
    λ e. let r = firstly i ((outcome-refused i n o).0 e) in
        record { before = r.before; condition = r.condition; after = r.after; listed = r.listed; none_before = r.none_before; holds = r.holds },
    λ f. (outcome-refused i n o).1 (rw f.listed (first-held i n o f.condition f.before f.after f.none_before f.holds)),
  )

  none-when : (outcome_of i ≡ done) ↔ NoneHolds i conditions
  unfolding outcome_of
  none-when = (done_none i conditions, none_done i conditions)

  -- ---- what a refusal leaves

  reported : (n o : ℕ) → outcome_of i ≡ refused n o → report_of i ≡ report_for i (refused n o)
  unfolding report_of
  reported n o e = rw e

  left_ledger : (n o : ℕ) → outcome_of i ≡ refused n o → i.used ≤ slots_of i.ledger
      → ledger_of i ≡ take (slot_size * i.used) i.ledger ++ replicate (length i.ledger - slot_size * i.used) 0
  unfolding ledger_of
  left_ledger n o e h =
      let q : length (take (slot_size * i.used) i.ledger) ≡ slot_size * i.used =
      length-take-le (slot_size * i.used) i.ledger (slots_of-fits i.ledger i.used h) in
      rw (e, le-ltb (slots_of i.ledger) i.used h)
      (ap (λ m. take (slot_size * i.used) i.ledger ++ replicate (length i.ledger - m) 0) q)

  untouched-or : (n o : ℕ) → outcome_of i ≡ refused n o → Dec (i.used ≤ slots_of i.ledger)
      → take (slot_size * i.used) (ledger_of i) ≡ take (slot_size * i.used) i.ledger
  untouched-or n o e (yes h) = refused-slots i n o e h
  untouched-or n o e (no h) = ap (take (slot_size * i.used)) (refused-untouched i n o e (omega arith))

  refuses : (n o : ℕ) → outcome_of i ≡ refused n o → Refuses i.ledger i.used i.room n o (report_of i) (output_of i) (ledger_of i)
  refuses n o e =
      let q : report_of i ≡ report_for i (refused n o) = reported n o e in
      record {
        number = ap (λ (r : Report). r.refusal) q;
        offset_is = ap (λ (r : Report). r.offset) q;
        length_zero = ap (λ (r : Report). r.written) q;
        used_is = ap (λ (r : Report). r.used) q;
        counts = ap (λ (r : Report). r.counts) q;
        output = refused-output i n o e;
        in_use = untouched-or n o e (dec_le i.used (slots_of i.ledger));
        rest = left_ledger n o e;
        untouched = refused-untouched i n o e;
      }

  ended : (a : Outcome) → outcome_of i ≡ a → (a ≡ done) ⊎ ((n : ℕ) × (o : ℕ) × (1 ≤ n) × (n ≤ no_room) × (a ≡ refused n o))
  ended (refused n o) e = let b = refused-within n o e in inr (n, o, b.0, b.1, refl)
  ended done e = inl refl

-- THE THEOREM
pub demand1 : Demand1
demand1 i = record { ends = ended i (outcome_of i) refl; refused_when = first-when i; done_when = none-when i; leaves = refuses i }

-- ---- one outcome

module _ (i : Input) (a : Outcome) (r : Report) (out l : List ℕ) (x : EndsRightly i a r out l) where
  pub outcomes-one : a ≡ outcome_of i
  outcomes-one = step a refl
    where
      step : (b : Outcome) → a ≡ b → a ≡ outcome_of i
      step (refused n o) e = e ∙ sym ((first-when i n o).1 ((x.refused_when n o).0 e))
      step done e = e ∙ sym ((none-when i).1 (x.done_when.0 e))

  pub refuses-one : (n o : ℕ) → a ≡ refused n o → (r ≡ report_of i) × (out ≡ output_of i) × (l ≡ ledger_of i)
  refuses-one n o e =
      let k : outcome_of i ≡ refused n o = sym outcomes-one ∙ e in
      let p = x.leaves n o e in
      let q = refuses i n o k in (
        report-eq r (report_of i) (p.number ∙ sym q.number) (p.offset_is ∙ sym q.offset_is) (p.length_zero ∙ sym q.length_zero) (p.used_is ∙ sym q.used_is) (p.counts ∙ sym q.counts),
        p.output ∙ sym q.output,
        step (dec_le i.used (slots_of i.ledger)) p q,
      )
    where
      step : Dec (i.used ≤ slots_of i.ledger) → Refuses i.ledger i.used i.room n o r out l → Refuses i.ledger i.used i.room n o (report_of i) (output_of i) (ledger_of i) → l ≡ ledger_of i
      step (yes h) p q = p.rest h ∙ sym (q.rest h)
      step (no h) p q = p.untouched (omega arith) ∙ sym (q.untouched (omega arith))
