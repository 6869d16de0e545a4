-- A run of the entry, step by step, against `outcome_of`: what each way out leaves is what the definition says. Laws over the results of the
-- steps; no contract cites this file. Assumes nothing.
--     Right i r o l         the entry's three claims of the answer r, the output o and the ledger l that it leaves
--     Found i, found        a judgement without fault: the tree that was read, without a fault among its values
--     done-right            a run that is done
--     refused-early         a refusal 1 to 5
--     refused-judged        a refusal 6 to 12
--     counted, walk-right   after the walk that writes: 13, 14, or done
use mathlib.Core.Path.{◌≡◌, refl, sym, ap, ap₂, ◌∙◌}
use mathlib.Core.Bool.{Bool, true, false}
use mathlib.Core.List.{List, [], map}
use Rattle.refusals.specs.declared.Fault.{Fault}
use Rattle.refusals.specs.declared.Refusal.TheVariants.{NoSlot, NoRoom}
use Rattle.refusals.specs.declared.Refusal.{Refusal}
use Rattle.refusals.specs.Refusals.{number, as_fault}
use Rattle.std.specs.Prelude.{Option, None, Some, Result as Answer, Ok, Err}
use Prim.Native.Nat.{ℕ, ◌*◌, ◌≤◌, ◌<◌}
use native.Mathlib.Omega.{arith}
use lib.Dec.{ltb}
use lib.ListN.{length}
use borrow.Author.Tests.{lt-ltb, le-ltb, ltb-true, ltb-false}
use Rattle.basis.specs.Choice.{pick}
use Rattle.buffer.specs.Buffer.{cleared}
use Rattle.buffer.proofs.Laws.{cleared-laid}
use Rattle.layout.specs.Tree.{Elements, Place}
use Rattle.layout.specs.Read.{Result, good, fault}
use Rattle.ledger.specs.Slots.{slot_size, slots_of, slot_of, flat}
use Rattle.ledger.proofs.SlotLaws.{Sized, slots_of-fits, sized-slots_in, sized-learns, length-flat}
use Rattle.treatment.specs.Settings.{settings_of, Given}
use Rattle.treatment.specs.declared.SettingNumbers.{SettingNumbers}
use Rattle.treatment.specs.declared.Level.TheVariants.{Top}
use Rattle.kept.specs.Content.{uids_in}
use Rattle.kept.specs.Counts.{Counts, counts_of}
use Rattle.kept.specs.Faults.{first_fault}
use Rattle.kept.proofs.UidsLaws.{kept-uids, sized-uids}
use Rattle.outcome.specs.Input.{Input, read_as, tree_in, tree_of, content, in_use, slots_after, bytes_for}
use Rattle.outcome.specs.Outcome.{refused, done, outcome_of, Report, report_for, report_of, filled_up, output_for, output_of, ledger_for, ledger_of}
use Rattle.judge_values.specs.Judged.{judged}
use Rattle.write_walk.specs.Whole.{Ended, Whole}
use Rattle.write_state.specs.declared.Progress.{Progress}
use Rattle.write_state.specs.Wrote.{Walk}
use Rattle.station.specs.Entry.{report}
use Rattle.station.specs.Steps.{judged_as, Judged, zeroed, left, Counted, finished, finished_output, finished_ledger}
use Rattle.station.proofs.JudgeLaws.{given-settings}
use Rattle.station.proofs.LeftLaws.{slots-same, left-same}
use Rattle.station.proofs.OrderLaws.{joined, early_outcome, shape_outcome, early_of, end_outcome, outcome-is-joined}

pub record Right (i : Input) (r : Answer Progress Fault) (o l : List ℕ) : Type 0 where
  pub told : report i.used r ≡ report_of i
  pub output : o ≡ output_of i
  pub ledger : l ≡ ledger_of i

-- a refusal, once the outcome is known to be one
refuses : (i : Input) (f : Fault) → outcome_of i ≡ refused (number f.refusal) f.offset → (o : List ℕ) → length o ≡ i.room → {r : Answer Progress Fault} {o' l' : List ℕ}
    → r ≡ Err f → o' ≡ zeroed o → l' ≡ left i.ledger i.used → Right i r o' l'
unfolding report_of output_of ledger_of
refuses i f a o size e zo zl = record {
  told = ap (report i.used) e ∙ sym (ap (report_for i) a);
  output = zo ∙ ap (λ m. filled_up m []) size ∙ sym (ap (output_for i) a);
  ledger = zl ∙ sym (ap (ledger_for i) a);
}

-- the slots after a run have 64 bytes each
after-sized : (i : Input) → i.used ≤ slots_of i.ledger → Sized (slots_after i)
unfolding slots_after content
after-sized i h =
    sized-learns (in_use i) (map slot_of (uids_in (content i))) (sized-slots_in i.ledger i.used (slots_of-fits i.ledger i.used h))
    (sized-uids (uids_in (content i)) (kept-uids (tree_of i) i.settings Top))

-- a judgement without fault: there is a tree, and no fault among its values
pub record Found (i : Input) : Type 0 where
  pub tree : Elements Place
  pub past : ℕ
  pub reads : read_as i ≡ good tree past
  pub sound : first_fault tree i.settings Top ≡ None

found : (i : Input) (past : ℕ) → Ok past ≡ judged_as i.settings (read_as i) → Found i
found i past fine = step (read_as i) refl fine
  where
    no-fault : (q : ℕ) (x : Option Fault) → Ok past ≡ judged x q → x ≡ None
    no-fault q None e = refl
    no-fault q (Some f) e = absurd (let z : ◌≡◌ {A = ℕ} 0 1 = cc in omega arith)

    step : (x : Result (Elements Place)) → read_as i ≡ x → Ok past ≡ judged_as i.settings x → Found i
    step (good es q) e f = record { tree = es; past = q; reads = e; sound = no-fault q (first_fault es i.settings Top) f }
    step (fault n k) e f = absurd (let z : ◌≡◌ {A = ℕ} 0 1 = cc in omega arith)

tree-is : (i : Input) (f : Found i) → tree_of i ≡ f.tree
unfolding tree_of
tree-is i f = ap tree_in f.reads

-- ---- done

report-is : {n n' u u' : ℕ} {c c' : Counts} → n ≡ n' → u ≡ u' → c ≡ c'
    → ◌≡◌ {A = Report} (record { refusal = 0; offset = 0; written = n; used = u; counts = c }) (record { refusal = 0; offset = 0; written = n'; used = u'; counts = c' })
report-is a b c = rw (a, b, c)

module _ (i : Input) (o : List ℕ) (size : length o ≡ i.room) (fits : i.used ≤ slots_of i.ledger) (f : Found i) where
  done-right : (past : ℕ) (t : Progress) {o₁ l₁ : List ℕ} → Ended i f.tree f.past o o₁ i.ledger l₁ 0 (Some (past, t)) → t.pos ≤ length o → outcome_of i ≡ done
      → {r : Answer Progress Fault} {o₂ l₂ : List ℕ} → r ≡ Ok t → o₂ ≡ cleared o₁ t.pos → l₂ ≡ cleared l₁ (slot_size * t.used) → Right i r o₂ l₂
  unfolding report_of output_of ledger_of
  done-right past t {o₁} {l₁} e room ok a b c =
      let pos_is : t.pos ≡ length (bytes_for i) = omega (arith, e.0) in
      let n : length (flat (slots_after i)) ≡ slot_size * length (slots_after i) = length-flat (slots_after i) (after-sized i fits) in
      let m : slot_size * t.used ≤ length i.ledger = slots_of-fits i.ledger t.used e.5 in
      record {
        told = ap (report i.used) a ∙ report-is pos_is e.2 (e.4 ∙ ap (λ es. counts_of es i.settings Top) (sym (tree-is i f))) ∙ sym (ap (report_for i) ok);
        output =
            b ∙ ap₂ cleared e.1 pos_is ∙ cleared-laid o (bytes_for i) (omega (arith, pos_is))
            ∙ ap (λ k. filled_up k (bytes_for i)) size ∙ sym (ap (output_for i) ok);
        ledger =
            c ∙ ap₂ cleared e.3 (ap (λ k. slot_size * k) e.2 ∙ sym n) ∙ cleared-laid i.ledger (flat (slots_after i)) (omega (arith, e.2))
            ∙ sym (ap (ledger_for i) ok);
      }

-- ---- one step after the other

module _ (i : Input) (o : List ℕ) (size : length o ≡ i.room) where
  early-answer : (m : Refusal) → early_of i ≡ Some m → outcome_of i ≡ refused (number m) 0
  early-answer m e = outcome-is-joined i ∙ ap (λ k. joined (early_outcome k) (joined (shape_outcome (judged_as i.settings (read_as i))) (end_outcome i))) e

  -- 1 to 5
  pub refused-early : (m : Refusal) → early_of i ≡ Some m → {r : Answer Progress Fault} {o' l' : List ℕ} → r ≡ Err (as_fault m) → o' ≡ zeroed o → l' ≡ left i.ledger i.used
      → Right i r o' l'
  refused-early m e = refuses i (as_fault m) (early-answer m e) o size

  module _ (none-early : early_of i ≡ None) {m : SettingNumbers} (has : Given m i.settings) {j : Answer ℕ Fault} (judges : Judged m i.lent j) where
    judgement : j ≡ judged_as i.settings (read_as i)
    unfolding read_as
    judgement = judges.right i.settings has

    late-answer : outcome_of i ≡ joined (shape_outcome j) (end_outcome i)
    late-answer = outcome-is-joined i ∙ ap₂ (λ k x. joined (early_outcome k) (joined (shape_outcome x) (end_outcome i))) none-early (sym judgement)

    -- 6 to 12
    pub refused-judged : (f : Fault) → j ≡ Err f → {r : Answer Progress Fault} {o' l' : List ℕ} → r ≡ Err f → o' ≡ zeroed o
        → l' ≡ left i.ledger i.used → Right i r o' l'
    refused-judged f e = refuses i f (late-answer ∙ ap (λ x. joined (shape_outcome x) (end_outcome i)) e) o size

    -- 13, 14, or done
    module _ (past : ℕ) (fine : j ≡ Ok past) (fits : i.used ≤ slots_of i.ledger) {l₁ o₁ : List ℕ} {walk : Walk}
        (whole : Whole (settings_of m i.settings.root i.settings.study i.settings.site) i.lent i.ledger l₁ i.used o o₁ 0 walk) where
      end-answer : outcome_of i ≡ end_outcome i
      end-answer = late-answer ∙ ap (λ x. joined (shape_outcome x) (end_outcome i)) fine

      abbrev read-so : Found i
      read-so = found i past (sym fine ∙ judgement)

      ended : Ended i read-so.tree read-so.past o o₁ i.ledger l₁ 0 walk
      ended =
          whole.right i (given-settings m i.settings has) refl refl refl read-so.tree
          read-so.past read-so.reads read-so.sound

      pub counted : Counted l₁ walk
      counted = step walk ended
        where
          step : (w : Walk) → Ended i read-so.tree read-so.past o o₁ i.ledger l₁ 0 w → Counted l₁ w
          step None e = tt
          step (Some (p, t)) e = omega (arith, e.5, slots-same i.ledger l₁ whole.ledger_size)

      again : left l₁ i.used ≡ left i.ledger i.used
      again = left-same i.ledger l₁ i.used whole.ledger_size whole.slots_kept fits

      pub walk-right : (r : Answer Progress Fault) (o₂ l₂ : List ℕ) → r ≡ finished o₁ walk → o₂ ≡ finished_output o₁ walk → l₂ ≡ finished_ledger o₁ l₁ i.used walk
          → Right i r o₂ l₂
      walk-right r o₂ l₂ = by-walk walk ended
        where
          full : slots_of i.ledger < length (slots_after i) → outcome_of i ≡ refused 13 0
          full h = end-answer ∙ rw (lt-ltb (slots_of i.ledger) (length (slots_after i)) h)

          by-walk : (w : Walk) → Ended i read-so.tree read-so.past o o₁ i.ledger l₁ 0 w → r ≡ finished o₁ w → o₂ ≡ finished_output o₁ w
              → l₂ ≡ finished_ledger o₁ l₁ i.used w → Right i r o₂ l₂
          by-walk None e a b c = refuses i (as_fault NoSlot) (full e) o₁ (whole.out_size ∙ size) a b (c ∙ again)
          by-walk (Some (p, t)) e a b c = by-room (ltb (length o₁) t.pos) refl a b c
            where
              free : length (slots_after i) ≤ slots_of i.ledger
              free = omega (arith, e.2, e.5)

              by-room : (v : Bool) → ltb (length o₁) t.pos ≡ v → r ≡ pick v (Err (as_fault NoRoom)) (Ok t) → o₂ ≡ pick v (zeroed o₁) (cleared o₁ t.pos)
                  → l₂ ≡ pick v (left l₁ i.used) (cleared l₁ (slot_size * t.used)) → Right i r o₂ l₂
              by-room true q a b c =
                  refuses i (as_fault NoRoom)
                  (end-answer ∙ rw (le-ltb (slots_of i.ledger) (length (slots_after i)) free, lt-ltb i.room (length (bytes_for i)) (omega (arith, ltb-true (length o₁) t.pos q, e.0, whole.out_size))))
                  o₁ (whole.out_size ∙ size) a b (c ∙ again)
              by-room false q a b c =
                  let room : t.pos ≤ length o = omega (arith, ltb-false (length o₁) t.pos q, whole.out_size) in
                  done-right i o size fits read-so p t e room
                  (end-answer ∙ rw (le-ltb (slots_of i.ledger) (length (slots_after i)) free, le-ltb i.room (length (bytes_for i)) (omega (arith, e.0))))
                  a b c
