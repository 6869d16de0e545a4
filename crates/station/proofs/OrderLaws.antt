-- The order of the conditions, in the entry's own steps: 1 to 5, then shape and values, then 13 and 14. No contract cites this file.
-- Assumes nothing.
--     joined x y           the outcome x, or y where x is done
--     early_outcome f      the outcome of what `early` says: a refusal, or none
--     early-refused, early-none    what `early` says, where the code answered so
--     shape_outcome r      the outcome of a judgement of shape and values
--     end_outcome i        the outcome by the slots and the room
--     outcome-is-joined    the outcome is these three, one after the other
use mathlib.Core.Path.{◌≡◌, refl, sym, ap, ap₂, ◌∙◌}
use mathlib.Core.Bool.{Bool, true, false, not, ◌&&◌, ◌||◌}
use mathlib.Core.Logic.{◌⊎◌, inl, inr}
use mathlib.Core.List.{List, [], ◌∷◌, ◌++◌, map}
use Rattle.refusals.specs.declared.Fault.{Fault}
use Rattle.refusals.specs.declared.Refusal.TheVariants.{BadSettings, BadRoot, BadCount, BadList, TooLong}
use Rattle.refusals.specs.declared.Refusal.{Refusal}
use Rattle.refusals.specs.Refusals.{number}
use Rattle.std.specs.Prelude.{Option, None, Some, Result as Answer, Ok, Err}
use Prim.Native.Nat.{ℕ, ◌≤◌}
use native.Mathlib.Omega.{arith}
use lib.Dec.{eqb, ltb}
use lib.IntN.{ℤ}
use lib.ListN.{length}
use borrow.Author.Tests.{eqb-true, eqb-false}
use Rattle.basis.specs.Choice.{pick, among}
use Rattle.layout.specs.Heads.{unless}
use Rattle.layout.specs.Limits.{deepest, longest}
use Rattle.layout.specs.Tree.{Elements, Place}
use Rattle.layout.specs.Read.{Result, good, fault}
use Rattle.layout.proofs.MadeLaws.{read-fault}
use Rattle.uid.specs.Uid.{is_root}
use Rattle.ledger.specs.Slots.{slots_of}
use Rattle.lists.specs.Lists.{list_ok}
use Rattle.options.specs.Settings.{settings_fault}
use Rattle.treatment.specs.declared.Level.TheVariants.{Top}
use Rattle.kept.specs.Faults.{first_fault}
use Rattle.kept.proofs.FaultsLaws.{Eleven, first_fault-number}
use Rattle.outcome.specs.Input.{Input, read_as, tree_of, slots_after, bytes_for}
use Rattle.outcome.specs.Conditions.{Condition, at_start, condition1, condition2, condition3, condition4, condition5, shape_condition, value_is, value_condition, condition13, condition14}
use Rattle.outcome.specs.Outcome.{Outcome, refused, done, first_of, outcome_of}
use Rattle.judge_values.specs.Judged.{judged}
use Rattle.station.specs.Entry.{told}
use Rattle.station.specs.Steps.{early, judged_as}

-- ---- conditions, joined

abbrev Tests : Type 0
Tests = List (Condition Input)

abbrev pub joined : Outcome → Outcome → Outcome
joined (refused n o) y = refused n o
joined done y = y

joined-joined : (x y z : Outcome) → joined (joined x y) z ≡ joined x (joined y z)
joined-joined (refused n o) y z = refl
joined-joined done y z = refl

-- a test with the number n that says x, and y where it does not hold
abbrev tried : Option ℕ → ℕ → Outcome → Outcome
tried x n y = elim x [ None ↦ y | Some o ↦ refused n o ]

first_of-append : (cs ds : Tests) (i : Input) → first_of (cs ++ ds) i ≡ joined (first_of cs i) (first_of ds i)
unfolding first_of
first_of-append [] ds i = refl
first_of-append (c ∷ cs) ds i = step (c.1 i) (first_of-append cs ds i)
  where
    step : (x : Option ℕ) → first_of (cs ++ ds) i ≡ joined (first_of cs i) (first_of ds i)
        → tried x c.0 (first_of (cs ++ ds) i) ≡ joined (tried x c.0 (first_of cs i)) (first_of ds i)
    step None e = e
    step (Some o) e = refl

-- ---- 1 to 5

abbrev early_tests : Tests
early_tests = (1, condition1) ∷ (2, condition2) ∷ (3, condition3) ∷ (4, condition4) ∷ (5, condition5) ∷ []

abbrev pub early_outcome : Option Refusal → Outcome
early_outcome None = done
early_outcome (Some r) = refused (number r) 0

abbrev pub early_of : Input → Option Refusal
early_of i = early (length i.lent.bytes) i.settings i.ledger i.used

-- what the code answered, for a shift that is the input's
module _ (i : Input) {shift : ℤ} (same : shift ≡ i.settings.shift) {r : Answer (Unit {0}) Refusal}
    (answered : r ≡ unless (early (length i.lent.bytes) (told i.settings.options shift i.settings.root i.settings.study i.settings.site) i.ledger i.used) tt) where
  early-as : r ≡ unless (early_of i) tt
  early-as = answered ∙ ap (λ z. unless (early (length i.lent.bytes) (told i.settings.options z i.settings.root i.settings.study i.settings.site) i.ledger i.used) tt) same

  pub early-refused : (m : Refusal) → r ≡ Err m → early_of i ≡ Some m
  early-refused m e = step (early_of i) (sym e ∙ early-as)
    where
      step : (f : Option Refusal) → Err m ≡ unless {A = Unit {0}} f tt → f ≡ Some m
      step None q = absurd (let z : ◌≡◌ {A = ℕ} 0 1 = cc in omega arith)
      step (Some k) q = let z : k ≡ m = cc in ap Some z

  pub early-none : {u : Unit {0}} → r ≡ Ok u → early_of i ≡ None
  early-none e = step (early_of i) (sym e ∙ early-as)
    where
      step : {u : Unit {0}} (f : Option Refusal) → Ok u ≡ unless {A = Unit {0}} f tt → f ≡ None
      step None q = refl
      step (Some k) q = absurd (let z : ◌≡◌ {A = ℕ} 0 1 = cc in omega arith)

early-is : (i : Input) → first_of early_tests i ≡ early_outcome (early_of i)
unfolding early first_of condition1 condition2 condition3 condition4 condition5
early-is i =
    five (settings_fault i.settings.options i.settings.shift) (not (is_root i.settings.root)) (ltb (slots_of i.ledger) i.used)
    (not (list_ok i.settings.study && list_ok i.settings.site)) (ltb longest (length i.lent.bytes))
  where
    five : (a b c d e : Bool)
        → tried (at_start a) 1 (tried (at_start b) 2 (tried (at_start c) 3 (tried (at_start d) 4 (tried (at_start e) 5 done))))
        ≡ early_outcome (pick a (Some BadSettings) (pick b (Some BadRoot) (pick c (Some BadCount) (pick d (Some BadList) (pick e (Some TooLong) None)))))
    five true b c d e = refl
    five false true c d e = refl
    five false false true d e = refl
    five false false false true e = refl
    five false false false false true = refl
    five false false false false false = refl

-- ---- shape and values: of such a family of tests, one for each number, at most one holds

numbered : (ℕ → Input → Option ℕ) → List ℕ → Tests
numbered t ns = map (λ n. (n, t n)) ns

module _ (t : ℕ → Input → Option ℕ) (i : Input) where
  none-of : ((n : ℕ) → t n i ≡ None) → (ns : List ℕ) → first_of (numbered t ns) i ≡ done
  unfolding first_of numbered
  none-of e [] = refl
  none-of e (n ∷ ns) = rw (e n) (none-of e ns)

  one-of : (m o : ℕ) → ((n : ℕ) → t n i ≡ pick (eqb m n) (Some o) None) → (ns : List ℕ)
      → first_of (numbered t ns) i ≡ pick (among m ns) (refused m o) done
  unfolding first_of numbered among
  one-of m o e [] = refl
  one-of m o e (n ∷ ns) = rw (e n) (step (eqb m n) refl (one-of m o e ns))
    where
      step : (b : Bool) → eqb m n ≡ b → first_of (numbered t ns) i ≡ pick (among m ns) (refused m o) done
          → tried (pick b (Some o) None) n (first_of (numbered t ns) i) ≡ pick (b || among m ns) (refused m o) done
      step true q rest = ap (λ k. refused k o) (sym (eqb-true m n q))
      step false q rest = rest

abbrev shape_numbers : List ℕ
shape_numbers = 6 ∷ 7 ∷ 8 ∷ 9 ∷ 10 ∷ []

abbrev value_numbers : List ℕ
value_numbers = 11 ∷ 12 ∷ []

is-shape : (n : ℕ) → 6 ≤ n → n ≤ 10 → among n shape_numbers ≡ true
unfolding among
is-shape n lo hi = five (eqb n 6) (eqb n 7) (eqb n 8) (eqb n 9) (eqb n 10) refl refl refl refl refl
  where
    five : (a b c d e : Bool) → eqb n 6 ≡ a → eqb n 7 ≡ b → eqb n 8 ≡ c → eqb n 9 ≡ d → eqb n 10 ≡ e → (a || (b || (c || (d || (e || false))))) ≡ true
    five true b c d e p q r s t = refl
    five false true c d e p q r s t = refl
    five false false true d e p q r s t = refl
    five false false false true e p q r s t = refl
    five false false false false true p q r s t = refl
    five false false false false false p q r s t =
        absurd (omega (arith, eqb-false n 6 p, eqb-false n 7 q, eqb-false n 8 r, eqb-false n 9 s, eqb-false n 10 t))

is-value : (n : ℕ) → (n ≡ 11) ⊎ (n ≡ 12) → among n value_numbers ≡ true
unfolding among
is-value n (inl e) = rw e
is-value n (inr e) = rw e

abbrev pub shape_outcome : Answer ℕ Fault → Outcome
shape_outcome (Err f) = refused (number f.refusal) f.offset
shape_outcome (Ok past) = done

module _ (i : Input) where
  value-is : (es : Elements Place) (past : ℕ) → read_as i ≡ good es past
      → first_of (numbered value_condition value_numbers) i ≡ shape_outcome (judged (first_fault es i.settings Top) past)
  unfolding value_condition tree_of
  value-is es past e = step (first_fault es i.settings Top) refl (first_fault-number es i.settings Top)
    where
      at : (x : Option Fault) → first_fault es i.settings Top ≡ x → (n : ℕ) → value_condition n i ≡ value_is n x
      at x q n = rw (e, q)

      step : (x : Option Fault) → first_fault es i.settings Top ≡ x → Eleven x
          → first_of (numbered value_condition value_numbers) i ≡ shape_outcome (judged x past)
      step None q w = none-of value_condition i (at None q) value_numbers
      step (Some f) q w =
          one-of value_condition i (number f.refusal) f.offset (at (Some f) q) value_numbers
          ∙ ap (λ b. pick b (refused (number f.refusal) f.offset) done) (is-value (number f.refusal) w)

  shape-number : (r : Refusal) (o : ℕ) → read_as i ≡ fault r o → (6 ≤ number r) × (number r ≤ 10) × (o ≤ length i.lent.bytes)
  unfolding read_as
  shape-number r o e = read-fault deepest i.lent r o e

  judged-is : joined (first_of (numbered shape_condition shape_numbers) i) (first_of (numbered value_condition value_numbers) i)
      ≡ shape_outcome (judged_as i.settings (read_as i))
  unfolding shape_condition
  judged-is = step (read_as i) refl
    where
      step : (r : Result (Elements Place)) → read_as i ≡ r
          → joined (first_of (numbered shape_condition shape_numbers) i) (first_of (numbered value_condition value_numbers) i) ≡ shape_outcome (judged_as i.settings r)
      step (good es past) e =
          ap (λ x. joined x (first_of (numbered value_condition value_numbers) i)) (none-of shape_condition i (λ n. rw e) shape_numbers) ∙ value-is es past e
      step (fault q o) e =
          ap (λ x. joined x (first_of (numbered value_condition value_numbers) i))
          (one-of shape_condition i (number q) o (λ k. rw e) shape_numbers ∙ ap (λ b. pick b (refused (number q) o) done) (is-shape (number q) (shape-number q o e).0 (shape-number q o e).1))

-- ---- 13 and 14

abbrev pub end_outcome : Input → Outcome
end_outcome i = pick (ltb (slots_of i.ledger) (length (slots_after i))) (refused 13 0) (pick (ltb i.room (length (bytes_for i))) (refused 14 0) done)

abbrev end_tests : Tests
end_tests = (13, condition13) ∷ (14, condition14) ∷ []

end-is : (i : Input) → first_of end_tests i ≡ end_outcome i
unfolding first_of condition13 condition14
end-is i = two (ltb (slots_of i.ledger) (length (slots_after i))) (ltb i.room (length (bytes_for i)))
  where
    two : (a b : Bool) → tried (at_start a) 13 (tried (at_start b) 14 done) ≡ pick a (refused 13 0) (pick b (refused 14 0) done)
    two true b = refl
    two false true = refl
    two false false = refl

-- ---- all of them

pub outcome-is-joined : (i : Input) → outcome_of i ≡ joined (early_outcome (early_of i)) (joined (shape_outcome (judged_as i.settings (read_as i))) (end_outcome i))
unfolding outcome_of numbered
outcome-is-joined i =
    first_of-append early_tests (numbered shape_condition shape_numbers ++ (numbered value_condition value_numbers ++ end_tests)) i
    ∙ ap₂ joined (early-is i)
    (first_of-append (numbered shape_condition shape_numbers) (numbered value_condition value_numbers ++ end_tests) i
    ∙ ap (joined (first_of (numbered shape_condition shape_numbers) i)) (first_of-append (numbered value_condition value_numbers) end_tests i)
    ∙ sym (joined-joined (first_of (numbered shape_condition shape_numbers) i) _ _)
    ∙ ap₂ joined (judged-is i) (end-is i))
