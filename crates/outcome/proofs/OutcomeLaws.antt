-- Laws of `specs/Outcome.antt` and `specs/Conditions.antt`. No contract cites this file. Assumes nothing.
--     First i n o cs       the condition with the number n is the first of cs that holds of i, at the offset o
--     first_to, first-from, first_of-done   the same as `first_of` says it, for inputs of every kind
--     outcome-refused      DEMAND 1, over the definitions: refused with n at o exactly when condition n is the first to hold, there
--     Accepted i, accepted     what is known of a run that is done: no condition holds
--     refused-output, refused-slots, refused-untouched     what a refusal leaves: zeros, the slots in use, or the ledger as it was
use mathlib.Core.Path.{◌≡◌, refl, sym, ap, ◌∙◌}
use mathlib.Core.Logic.{◌↔◌, ⊎_elim}
use Rattle.basis.proofs.ChoiceLaws.{both-true}
use mathlib.Core.Bool.{Bool, true, false, not}
use mathlib.Core.List.{List, [], ◌∷◌}
use Rattle.std.specs.Prelude.{Option, None, Some}
use Prim.Native.Nat.{ℕ, ◌-◌, ◌*◌, ◌≤◌, ◌<◌}
use native.Mathlib.Omega.{arith}
use lib.Dec.{eqb}
use lib.ListN.{length, take, replicate}
use lib.Seq.{length-take-le, take_at}
use borrow.Author.Tests.{ltb-false, eqb-false, le-ltb, lt-ltb}
use Rattle.ledger.proofs.SlotLaws.{slots_of-fits}
use Rattle.basis.specs.Choice.{pick}
use Rattle.kept.proofs.FaultsLaws.{Eleven, first_fault-number}
use Rattle.refusals.specs.Refusals.{number}
use Rattle.refusals.specs.declared.Fault.{Fault}
use Rattle.layout.specs.Limits.{deepest, longest}
use Rattle.layout.specs.Source.{Source}
use Rattle.layout.specs.Tree.{Elements, Place}
use Rattle.layout.specs.Read.{Result, good, fault, read}
use Rattle.layout.proofs.MadeLaws.{read-fault}
use Rattle.uid.specs.Uid.{is_root}
use Rattle.ledger.specs.Slots.{slot_size, slots_of}
use Rattle.lists.specs.Lists.{list_ok}
use Rattle.options.specs.Settings.{settings_fault}
use Rattle.treatment.specs.declared.Level.TheVariants.{Top}
use Rattle.kept.specs.Faults.{first_fault}
use Rattle.outcome.specs.Input.{Input, read_as, tree_of, tree_in, slots_after, bytes_for}
use Rattle.outcome.specs.Conditions.{Condition, at_start, condition1, condition2, condition3, condition4, condition5, shape_condition, value_condition, condition13, condition14, fault_is, value_is, conditions}
use Rattle.outcome.specs.Outcome.{refused, done, first_of, outcome_of, output_of, ledger_of}

-- ---- first_of

-- the first that holds, with none before it
pub data First {I : Type 0} (i : I) (n o : ℕ) : List (Condition I) → Type 0 where
  here : {t : I → Option ℕ} {cs : List (Condition I)} → t i ≡ Some o → First i n o ((n, t) ∷ cs)
  later : {c : Condition I} {cs : List (Condition I)} → c.1 i ≡ None → First i n o cs → First i n o (c ∷ cs)

module _ {I : Type 0} (i : I) (c : Condition I) (cs : List (Condition I)) where
  first_of-holds : (o : ℕ) → c.1 i ≡ Some o → first_of (c ∷ cs) i ≡ refused c.0 o
  unfolding first_of
  first_of-holds o e = rw (e, first_of)

  first_of-next : c.1 i ≡ None → first_of (c ∷ cs) i ≡ first_of cs i
  unfolding first_of
  first_of-next e = rw (e, first_of)

pub first-from : {I : Type 0} (cs : List (Condition I)) (i : I) (n o : ℕ) → First i n o cs → first_of cs i ≡ refused n o
first-from {I = I} [] i n o x' = elim x' [ ]
first-from (c ∷ cs) i n o (here e) = first_of-holds i c cs o e
first-from (c ∷ cs) i n o (later e f) = first_of-next i c cs e ∙ first-from cs i n o f

no-done : (n o : ℕ) → done ≡ refused n o → ⊥
no-done n o e = let z : ◌≡◌ {A = ℕ} 0 1 = cc in omega arith

pub first_to : {I : Type 0} (cs : List (Condition I)) (i : I) (n o : ℕ) → first_of cs i ≡ refused n o → First i n o cs
unfolding first_of
first_to [] i n o e = absurd (no-done n o e)
first_to (c ∷ cs) i n o e = step (c.1 i) refl (λ f. first_to cs i n o f)
  where
    step : (x : Option ℕ) → c.1 i ≡ x → (first_of cs i ≡ refused n o → First i n o cs) → First i n o (c ∷ cs)
    step None q rest = later q (rest (sym (first_of-next i c cs q) ∙ e))
    step (Some p) q rest =
        let r : refused c.0 p ≡ refused n o = sym (first_of-holds i c cs p q) ∙ e in
        let m : c.0 ≡ n = cc in
        let k : p ≡ o = cc in
        rw (← m) (here (q ∙ ap Some k))

-- ---- outcome_of

-- DEMAND 1, over the definitions
pub outcome-refused : (i : Input) (n o : ℕ) → (outcome_of i ≡ refused n o) ↔ First i n o conditions
unfolding outcome_of
outcome-refused i n o = (first_to conditions i n o, first-from conditions i n o)

-- ---- a run that is done

pub first_of-done : {I : Type 0} (c : Condition I) (cs : List (Condition I)) (i : I) → first_of (c ∷ cs) i ≡ done → (c.1 i ≡ None) × (first_of cs i ≡ done)
first_of-done c cs i e = step (c.1 i) refl
  where
    step : (x : Option ℕ) → c.1 i ≡ x → (c.1 i ≡ None) × (first_of cs i ≡ done)
    step None q = (q, sym (first_of-next i c cs q) ∙ e)
    step (Some o) q = absurd (no-done c.0 o (sym e ∙ first_of-holds i c cs o q))

pub at_start-none : (b : Bool) → at_start b ≡ None → b ≡ false
at_start-none true e = absurd (let z : ◌≡◌ {A = ℕ} 0 1 = cc in omega arith)
at_start-none false e = refl

-- what is known of such a run, one line for each condition
pub record Accepted (i : Input) : Type 0 where
  pub settings : settings_fault i.settings.options i.settings.shift ≡ false
  pub root : is_root i.settings.root ≡ true
  pub slots : i.used ≤ slots_of i.ledger
  pub lists : (list_ok i.settings.study ≡ true) × (list_ok i.settings.site ≡ true)
  pub short : length i.lent.bytes ≤ longest
  pub tree : Elements Place
  pub past : ℕ
  pub reads : read deepest i.lent ≡ good tree past
  pub values : first_fault tree i.settings Top ≡ None
  pub free : length (slots_after i) ≤ slots_of i.ledger
  pub room : length (bytes_for i) ≤ i.room

not-false : (b : Bool) → not b ≡ false → b ≡ true
not-false true e = refl
not-false false e = sym e

-- a shape without fault: the number of a fault is one of 6 to 10
read-good : (s : Source) (r : Result (Elements Place)) → read deepest s ≡ r → fault_is 6 r ≡ None → fault_is 7 r ≡ None → fault_is 8 r ≡ None
    → fault_is 9 r ≡ None → fault_is 10 r ≡ None → (es : Elements Place) × (p : ℕ) × (r ≡ good es p)
read-good s (good es p) e a b c d f = (es, p, refl)
read-good s (fault r o) e a b c d f = absurd (none-left (number r) (read-fault deepest s r o e).0 (read-fault deepest s r o e).1 (other 6 a) (other 7 b) (other 8 c) (other 9 d) (other 10 f))
  where
    other : (m : ℕ) → pick (eqb (number r) m) (Some o) None ≡ None → eqb (number r) m ≡ false
    other m q = step (eqb (number r) m) q
      where
        step : (t : Bool) → pick t (Some o) None ≡ None → t ≡ false
        step true q = absurd (let z : ◌≡◌ {A = ℕ} 0 1 = cc in omega arith)
        step false q = refl

    none-left : (n : ℕ) → 6 ≤ n → n ≤ 10 → eqb n 6 ≡ false → eqb n 7 ≡ false → eqb n 8 ≡ false → eqb n 9 ≡ false → eqb n 10 ≡ false → ⊥
    none-left n lo hi a b c d f =
        let p : n ≡ 6 → ⊥ = eqb-false n 6 a in
        let q : n ≡ 7 → ⊥ = eqb-false n 7 b in
        let r : n ≡ 8 → ⊥ = eqb-false n 8 c in
        let t : n ≡ 9 → ⊥ = eqb-false n 9 d in
        let u : n ≡ 10 → ⊥ = eqb-false n 10 f in
        omega arith

-- values without fault: the number of a fault is 11 or 12
values-good : (x : Option Fault) → Eleven x → value_is 11 x ≡ None → value_is 12 x ≡ None → x ≡ None
values-good None w a b = refl
values-good (Some f) w a b = absurd (⊎_elim (λ e. no-some f.offset (ap (λ n. pick (eqb n 11) (Some f.offset) None) (sym e) ∙ a)) (λ e. no-some f.offset (ap (λ n. pick (eqb n 12) (Some f.offset) None) (sym e) ∙ b)) w)
  where
    no-some : (o : ℕ) → Some o ≡ None → ⊥
    no-some o e = let z : ◌≡◌ {A = ℕ} 0 1 = cc in omega arith

module _ (i : Input) where
  tree-is : (es : Elements Place) (p : ℕ) → read deepest i.lent ≡ good es p → tree_of i ≡ es
  unfolding tree_of read_as
  tree-is es p e = ap tree_in e

  pub accepted : outcome_of i ≡ done → Accepted i
  unfolding outcome_of condition1 condition2 condition3 condition4 condition5 shape_condition value_condition condition13 condition14 read_as
  accepted e =
      let a1 = first_of-done _ _ i e in
      let a2 = first_of-done _ _ i a1.1 in
      let a3 = first_of-done _ _ i a2.1 in
      let a4 = first_of-done _ _ i a3.1 in
      let a5 = first_of-done _ _ i a4.1 in
      let a6 = first_of-done _ _ i a5.1 in
      let a7 = first_of-done _ _ i a6.1 in
      let a8 = first_of-done _ _ i a7.1 in
      let a9 = first_of-done _ _ i a8.1 in
      let a10 = first_of-done _ _ i a9.1 in
      let a11 = first_of-done _ _ i a10.1 in
      let a12 = first_of-done _ _ i a11.1 in
      let a13 = first_of-done _ _ i a12.1 in
      let a14 = first_of-done _ _ i a13.1 in
      let l = both-true (list_ok i.settings.study) (list_ok i.settings.site) (not-false _ (at_start-none _ a4.0)) in
      let g = read-good i.lent (read deepest i.lent) refl a6.0 a7.0 a8.0 a9.0 a10.0 in
      record {
        settings = at_start-none _ a1.0;
        root = not-false _ (at_start-none _ a2.0);
        slots = ltb-false _ _ (at_start-none _ a3.0);
        lists = l;
        short = ltb-false _ _ (at_start-none _ a5.0);
        tree = g.0;
        past = g.1;
        reads = g.2;
        values = ap (λ es. first_fault es i.settings Top) (sym (tree-is g.0 g.1 g.2)) ∙ values-good _ (first_fault-number (tree_of i) i.settings Top) a11.0 a12.0;
        free = ltb-false _ _ (at_start-none _ a13.0);
        room = ltb-false _ _ (at_start-none _ a14.0);
      }

  -- DEMAND 1's last sentence: what a refusal leaves
  pub refused-output : (n o : ℕ) → outcome_of i ≡ refused n o → output_of i ≡ replicate i.room 0
  unfolding output_of
  refused-output n o e = let z : i.room - 0 ≡ i.room = omega arith in rw (e, z)

  pub refused-slots : (n o : ℕ) → outcome_of i ≡ refused n o → i.used ≤ slots_of i.ledger
      → take (slot_size * i.used) (ledger_of i) ≡ take (slot_size * i.used) i.ledger
  unfolding ledger_of
  refused-slots n o e h =
      let fits : slot_size * i.used ≤ length i.ledger = slots_of-fits i.ledger i.used h in
      let l : length (take (slot_size * i.used) i.ledger) ≡ slot_size * i.used = length-take-le (slot_size * i.used) i.ledger fits in
      rw (e, le-ltb (slots_of i.ledger) i.used h) (take_at (take (slot_size * i.used) i.ledger) _ (slot_size * i.used) l)

  pub refused-untouched : (n o : ℕ) → outcome_of i ≡ refused n o → slots_of i.ledger < i.used → ledger_of i ≡ i.ledger
  unfolding ledger_of
  refused-untouched n o e h = rw (e, lt-ltb (slots_of i.ledger) i.used h)
