-- One outcome for the routines whose contract is exact only for some inputs, within those: `write_uids::put_renamed`, `judge_values::first_fault`,
-- `write_element::act` and `write_walk::write`. No contract cites this file. Assumes nothing.
--     put-renamed-one    where the value keeps the rule for UIDs
--     first-fault-one    where the data set has its shape
--     act-one            where the element is one to be passed on from a state that the output and the ledger hold
--     write-one          where the data set has its shape and no fault among its values
-- The answers are one, and so is what is left, unless no slot was free. Why not more: for other inputs these contracts promise safety alone, since
-- the station refuses such inputs before it calls. What is left where no slot was free is not said, since the station then zeroes it.
use mathlib.Core.Path.{◌≡◌, refl, sym, ap, subst, ◌∙◌}
use mathlib.Core.Logic.{◌≢◌}
use mathlib.Core.List.{List, []}
use Rattle.std.specs.Prelude.{Option, None, Some, Result}
use Prim.Native.Nat.{ℕ}
use native.Mathlib.Omega.{arith}
use lib.ListN.{length}
use contract.Lifetimes.{Lfts}
use Rattle.refusals.specs.declared.Fault.{Fault}
use Rattle.layout.specs.Limits.{deepest}
use Rattle.layout.specs.Source.{explicitly}
use Rattle.layout.specs.Tree.{Elements, Place}
use Rattle.layout.specs.Read.{good, read}
use Rattle.uid.specs.Value.{uids_of}
use Rattle.buffer.proofs.Laws.{length-laid}
use Rattle.ledger.specs.Slots.{slots_of, flat}
use Rattle.treatment.specs.declared.Level.TheVariants.{Top}
use Rattle.treatment.specs.declared.Fate.{Fate}
use Rattle.treatment.specs.Settings.{Settings, settings_of, Given}
use Rattle.treatment.specs.declared.SettingNumbers.{SettingNumbers}
use Rattle.treatment.specs.declared.SettingTexts.{SettingTexts}
use Rattle.kept.specs.Counts.{counts}
use Rattle.kept.specs.Faults.{first_fault}
use Rattle.outcome.specs.Input.{Input, read_as}
use Rattle.write_uids.specs.Renamed.{Renaming, RenamedRightly, Bounds, renamed_element, slots_once_met}
use Rattle.write_walk.specs.Whole.{Ended}
use Rattle.write_state.specs.Bounds.{one_element}
use Rattle.write_state.specs.declared.Element.{Element}
use Rattle.write_state.specs.Passed.{State}
use Rattle.write_state.specs.Wrote.{Holds, Ends, ActPass, Within as Walked, Walk}
use Rattle.write_state.specs.declared.Progress.{Progress}
use Rattle.write_element.proofs.act.Reads as act
use Rattle.write_uids.proofs.put_renamed.Reads as put-renamed
use Rattle.judge_values.proofs.first_fault.Reads as first-fault
use Rattle.write_walk.proofs.write.Reads as write
use Rattle.promises.proofs.OneOutcome.{Slice, Buffer}

-- two places that are one, with what goes with them
place-one : {A : Type 0} {n n' : ℕ} {x x' : A} → n ≡ n' → x ≡ x' → ◌≡◌ {A = Option (ℕ × A)} (Some (n, x)) (Some (n', x'))
place-one p q = λ i. Some (p i, q i)

-- ---- rename

renamed-one : (o p p' : List ℕ) (pos : ℕ) (xs l m m' : List ℕ) (ks : List (List ℕ)) (more used : ℕ) (r r' : Renaming)
    → Bounds pos more used (slots_of l) r → Bounds pos more used (slots_of l) r' → RenamedRightly o p pos xs l m ks r → RenamedRightly o p' pos xs l m' ks r'
    → (r ≡ r') × (r ≢ None → (m ≡ m') × (p ≡ p'))
renamed-one o p p' pos xs l m m' ks more used None None c d a b = (refl, λ h. absurd (h refl))
renamed-one o p p' pos xs l m m' ks more used None (Some (e, n)) c d a b = absurd (omega (arith, d.3, b.2))
renamed-one o p p' pos xs l m m' ks more used (Some (e, n)) None c d a b = absurd (omega (arith, c.3, a.2))
renamed-one o p p' pos xs l m m' ks more used (Some (e, n)) (Some (e', n')) c d a b = (cc, λ _. (cc, cc))

abbrev pub Renames : Lfts 4 → ℕ → ℕ → ℕ → Slice → Slice → Buffer → Buffer → Renaming → Buffer → Buffer → Type 0
Renames κs tag used pos v root l o r m p =
    put-renamed.Learnt κs (tag, (v, (root, (l, (used, (o, (pos, tt))))))) r (tag, (v, (root, (m, (used, (p, (pos, tt)))))))

pub put-renamed-one : (κs κs' : Lfts 4) (tag used pos : ℕ) (v v' root root' : Slice) (l l' o o' m m' p p' : Buffer) (r r' : Renaming) (us : List (List ℕ))
    → v.now ≡ v'.now → root.now ≡ root'.now → l.now ≡ l'.now → o.now ≡ o'.now → uids_of v.now ≡ Some us
    → Renames κs tag used pos v root l o r m p → Renames κs' tag used pos v' root' l' o' r' m' p'
    → (r ≡ r') × (r ≢ None → (m.now ≡ m'.now) × (p.now ≡ p'.now))
put-renamed-one κs κs' tag used pos v v' root root' l l' o o' m m' p p' r r' us d e f g rule a b =
    renamed-one o.now p.now p'.now pos (renamed_element tag root.now l.now used us) l.now m.now m'.now (slots_once_met l.now used us)
    _ used r r' a.bounds (rw (d, f) b.bounds) (a.right us rule) (rw (e, f, g) (b.right us (rw (← d) rule)))

-- ---- values

pub first-fault-one : (κs κs' : Lfts 2) (n : SettingNumbers) (rows rows' s s' : Slice) (r r' : Result ℕ Fault) (es : Elements Place) (past : ℕ)
    → s.now ≡ s'.now → read deepest (explicitly s.now) ≡ good es past → first-fault.Learnt κs (rows, (n, (s, tt))) r (rows, (n, (s, tt)))
    → first-fault.Learnt κs' (rows', (n, (s', tt))) r' (rows', (n, (s', tt))) → r ≡ r'
first-fault-one κs κs' n rows rows' s s' r r' es past e shaped a b =
    a.right w has es past shaped ∙ sym (b.right w has es past (rw (← e) shaped))
  where
    w : Settings
    w = settings_of n [] [] []

    has : Given n w
    has = record { options_are = refl; shift_is = refl }

-- ---- how far a walk is

pub progress-one : (t t' : Progress) → t.pos ≡ t'.pos → t.used ≡ t'.used
    → counts t.kept t.replaced t.renamed t.removed ≡ counts t'.kept t'.replaced t'.renamed t'.removed → t ≡ t'
progress-one t t' p u c =
    λ i. record { pos = p i; used = u i; kept = (c i).stayed; replaced = (c i).replaced; renamed = (c i).renamings; removed = (c i).removals }

-- ---- act

ends-one : (o₀ l₀ : List ℕ) (base : ℕ) (k o o' l l' : List ℕ) (from end more one next : ℕ) (st : State) (t : Progress) (r r' : Walk) → length k ≡ length l₀
    → Walked from end more one k t r → Walked from end more one k t r' → Ends o₀ l₀ base o l next st r → Ends o₀ l₀ base o' l' next st r'
    → (r ≡ r') × (r ≢ None → (l ≡ l') × (o ≡ o'))
ends-one o₀ l₀ base k o o' l l' from end more one next st t None None e c d a b = (refl, λ h. absurd (h refl))
ends-one o₀ l₀ base k o o' l l' from end more one next st t None (Some (n, u)) e c d a b = absurd (omega (arith, a, d.5, b.1.used_is, e))
ends-one o₀ l₀ base k o o' l l' from end more one next st t (Some (n, u)) None e c d a b = absurd (omega (arith, b, c.5, a.1.used_is, e))
ends-one o₀ l₀ base k o o' l l' from end more one next st t (Some (n, u)) (Some (n', u')) e c d a b = (
  place-one (a.0 ∙ sym b.0) (progress-one u u' (a.1.pos_is ∙ sym b.1.pos_is) (a.1.used_is ∙ sym b.1.used_is) (a.1.counts_are ∙ sym b.1.counts_are)),
  λ _. (a.1.ledger_is ∙ sym b.1.ledger_is, a.1.out_is ∙ sym b.1.out_is),
)

abbrev pub Acts : Lfts 4 → Fate → SettingNumbers → SettingTexts → Element → Slice → Buffer → Buffer → Progress → Walk → Buffer → Buffer → Type 0
Acts κs f n texts e s l o t r m p =
    act.Learnt κs (f, (n, (texts, (e, (s, (l, (o, (t, tt)))))))) r (f, (n, (texts, (e, (s, (m, (p, (t, tt))))))))

pub act-one : (κs κs' : Lfts 4) (f : Fate) (n : SettingNumbers) (texts texts' : SettingTexts) (x : Element) (s s' : Slice) (l l' o o' m m' p p' : Buffer) (t : Progress)
    (r r' : Walk) (next : ℕ) (st st' : State) (o₀ l₀ : List ℕ) (base : ℕ) → texts.root.now ≡ texts'.root.now → texts.study.now ≡ texts'.study.now
    → texts.site.now ≡ texts'.site.now → s.now ≡ s'.now → l.now ≡ l'.now → o.now ≡ o'.now
    → ActPass (settings_of n texts.root.now texts.study.now texts.site.now) f x.tag x.vr s.now x.body x.past next st st' → Holds o₀ l₀ base o.now l.now t st
    → Acts κs f n texts x s l o t r m p → Acts κs' f n texts' x s' l' o' t r' m' p'
    → (r ≡ r') × (r ≢ None → (m.now ≡ m'.now) × (p.now ≡ p'.now))
act-one κs κs' f n texts texts' x s s' l l' o o' m m' p p' t r r' next st st' o₀ l₀ base d₀ d₁ d₂ d₃ d₄ d₅ pass holds a b =
    ends-one o₀ l₀ base l.now p.now p'.now m.now m'.now x.body x.past one_element 1 next st' t r r'
    (ap length holds.ledger_is ∙ length-laid l₀ 0 (flat st.slots))
    a.bounds (rw d₄ b.bounds) (a.right next st st' pass o₀ l₀ base holds)
    (b.right next st st' (rw (d₀, d₁, d₂, d₃) at pass) o₀ l₀ base (rw (d₄, d₅) at holds))

-- ---- write

ended-one : (i : Input) (es : Elements Place) (past : ℕ) (o p p' l m m' : List ℕ) (pos : ℕ) (r r' : Walk) → Ended i es past o p l m pos r → Ended i es past o p' l m' pos r'
    → (r ≡ r') × (r ≢ None → (m ≡ m') × (p ≡ p'))
ended-one i es past o p p' l m m' pos None None a b = (refl, λ h. absurd (h refl))
ended-one i es past o p p' l m m' pos None (Some (n, t)) a b = absurd (omega (arith, b.2, b.5))
ended-one i es past o p p' l m m' pos (Some (n, t)) None a b = absurd (omega (arith, a.2, a.5))
ended-one i es past o p p' l m m' pos (Some (n, t)) (Some (n', t')) a b =
    (place-one (a.6 ∙ sym b.6) (progress-one t t' (a.0 ∙ sym b.0) (a.2 ∙ sym b.2) (a.4 ∙ sym b.4)), λ _. (a.3 ∙ sym b.3, a.1 ∙ sym b.1))

abbrev pub Writes : Lfts 4 → Slice → SettingNumbers → SettingTexts → Slice → Buffer → ℕ → Buffer → ℕ → Walk → Buffer → Buffer → Type 0
Writes κs rows n texts s l used o pos r m p =
    write.Learnt κs (rows, (n, (texts, (s, (l, (used, (o, (pos, tt)))))))) r (rows, (n, (texts, (s, (m, (used, (p, (pos, tt))))))))

-- the input that a call of `write` is about
abbrev input_for : SettingNumbers → SettingTexts → Slice → Buffer → ℕ → Input
input_for n texts s l used = record {
  lent = explicitly s.now;
  settings = settings_of n texts.root.now texts.study.now texts.site.now;
  ledger = l.now;
  used = used;
  room = 0;
}

pub write-one : (κs κs' : Lfts 4) (rows rows' : Slice) (n : SettingNumbers) (texts texts' : SettingTexts) (s s' : Slice) (l l' : Buffer) (used : ℕ) (o o' : Buffer) (pos : ℕ)
    (r r' : Walk) (m m' p p' : Buffer) (es : Elements Place) (past : ℕ) → texts.root.now ≡ texts'.root.now → texts.study.now ≡ texts'.study.now
    → texts.site.now ≡ texts'.site.now → s.now ≡ s'.now → l.now ≡ l'.now → o.now ≡ o'.now → read_as (input_for n texts s l used) ≡ good es past
    → first_fault es (settings_of n texts.root.now texts.study.now texts.site.now) Top ≡ None
    → Writes κs rows n texts s l used o pos r m p → Writes κs' rows' n texts' s' l' used o' pos r' m' p'
    → (r ≡ r') × (r ≢ None → (m.now ≡ m'.now) × (p.now ≡ p'.now))
write-one κs κs' rows rows' n texts texts' s s' l l' used o o' pos r r' m m' p p' es past d₀ d₁ d₂ d₃ d₄ d₅ shaped fine a b =
    ended-one (input_for n texts s l used) es past o.now p.now p'.now l.now m.now m'.now pos r r'
    (a.right (input_for n texts s l used) refl refl refl refl es past shaped fine)
    (subst (λ k. Ended (input_for n texts s l used) es past k p'.now l.now m'.now pos r') (sym d₅)
    (subst (λ k. Ended (input_for n texts s l used) es past o'.now p'.now k m'.now pos r') (sym d₄)
    (b.right (input_for n texts s l used) (rw (d₀, d₁, d₂)) (ap explicitly d₃) d₄ refl es past shaped fine)))
