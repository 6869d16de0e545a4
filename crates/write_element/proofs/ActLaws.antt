-- The ways out of `act`: one element that is not walked into, by its fate. Assumes nothing.
--     KEPT-case ..      what is passed on, by the fate: the element's bytes, its slots, its count
--     act-said          an element was written, or left out, that has no UID to rename
--     act-full, act-renamed    a UI element, its UIDs renamed: no slot was free; and one was found for each
--     act-stop          the fates that come to nothing here
use mathlib.Core.Path.{◌≡◌, refl, sym, ap, subst, ◌∙◌}
use mathlib.Core.Bool.{Bool, true, false}
use mathlib.Core.Logic.{◌⊎◌, inl, inr}
use mathlib.Core.List.{List, [], ◌++◌, map, append-nil}
use Rattle.std.specs.Prelude.{None, Some}
use Prim.Native.Nat.{ℕ, ◌+◌, ◌-◌, ◌*◌, ◌≤◌, ◌<◌}
use native.Mathlib.Omega.{arith}
use lib.IntN.{ℤ}
use lib.Dec.{eqb}
use lib.ListN.{length, length-append}
use Rattle.std.proofs.lemmas.Option.{none-some}
use Rattle.refusals.specs.declared.Refusal.{Refusal}
use Rattle.refusals.specs.declared.Refusal.TheVariants.{BadUids, BadDates}
use Rattle.basis.specs.Bytes.{part}
use Rattle.basis.specs.Choice.{pick}
use Rattle.basis.proofs.BytesLaws.{length-part}
use Rattle.buffer.specs.Buffer.{laid}
use Rattle.buffer.proofs.Laws.{length-laid, laid-none, laid-over, laid-more}
use Rattle.vr.specs.Names.{DA, DT, SQ, UI}
use Rattle.layout.specs.Tree.{Field, value, items, nil, elem, Place}
use Rattle.uid.specs.Value.{uids_of, uids_fault}
use Rattle.uid.specs.NewUid.{uids_text}
use Rattle.uid.proofs.ValueLaws.{uids_of-found}
use Rattle.calendar.specs.Values.{shifted_value, shifted_text}
use Rattle.calendar.proofs.ValuesLaws.{shifted_value-good, length-shifted_text}
use Rattle.ledger.specs.FirstMet.{learns, numbers, same_uid}
use Rattle.ledger.specs.Slots.{slots_of, slots_in, slot_of, flat}
use Rattle.ledger.proofs.SlotLaws.{flat-learns}
use Rattle.treatment.specs.Settings.{Settings}
use Rattle.treatment.specs.declared.Fate.{Fate}
use Rattle.treatment.specs.declared.Fate.TheVariants.{Removed, Kept, Walked, Emptied, Dummied, Renamed, Shifted, Wrong}
use Rattle.kept.specs.Fillers.{or, emptied_as, dummied_as}
use Rattle.kept.specs.Written.{shifted_as}
use Rattle.kept.specs.Counts.{Counts, counts, plus, one}
use Rattle.kept.specs.Faults.{at, field_fault}
use Rattle.treatment.proofs.FatesLaws.{fate-kept, fate-renamed, fate-shifted, fate-wrong}
use Rattle.write_values.specs.Element.{element_bytes, with_lists}
use Rattle.write_uids.specs.Renamed.{Renaming, RenamedRightly, Bounds, RenamedValue}
use Rattle.write_values.proofs.ElementLaws.{length-header, length-value}
use Rattle.write_values.proofs.FillerLaws.{emptied-any, dummied-any, emptied-length, dummied-length}
use Rattle.write_state.specs.Bounds.{one_element}
use Rattle.write_state.specs.Passed.{State, say, count, passed_one}
use Rattle.write_state.specs.Steps.{one_kept, one_replaced, one_renamed, one_removed}
use Rattle.write_state.specs.Wrote.{met, Wrote, Stands, ActPass}
use Rattle.write_state.specs.declared.Progress.{Progress}
use Rattle.write_state.proofs.PassedLaws.{counts-is, one_removed as passed-removed, one_kept as passed-kept, one-shifted, one-emptied, one-dummied, one_renamed as passed-renamed}
use Rattle.write_state.proofs.HoldsLaws.{holds-say, holds-count}

-- ---- what is passed on, by the fate

no-uid : {vr : ℕ} → vr ≡ UI → vr ≡ SQ → ⊥
no-uid p q = omega arith

no-dates : {vr : ℕ} → (vr ≡ DA) ⊎ (vr ≡ DT) → vr ≡ SQ → ⊥
no-dates (inl p) q = omega arith
no-dates (inr p) q = omega arith

fault-none : (t : Bool) (r : Refusal) (offset : ℕ) → at (pick t (Some r) None) offset ≡ None → t ≡ false
fault-none true r offset e = absurd (none-some _ (sym e))
fault-none false r offset e = refl

module _ {w : Settings} {tag vr : ℕ} {s : List ℕ} {from to next : ℕ} {st st' : State} where
  sound-as : {φ : Fate} (a : ActPass w φ tag vr s from to next st st') → field_fault a.field w a.level φ vr a.one.place.at ≡ None
  sound-as a = ap (λ φ. field_fault a.field w a.level φ vr a.one.place.at) (sym a.fate_is) ∙ a.one.sound

  pub removed-case : ActPass w Removed tag vr s from to next st st' → st' ≡ count st (one Removed)
  removed-case a = a.one.ends ∙ passed-removed w a.level tag vr a.one.place st a.field a.fate_is

  pub emptied-case : ActPass w Emptied tag vr s from to next st st'
      → st' ≡ count (say st (element_bytes tag vr (emptied_as (with_lists w.study w.site) tag vr))) (one Emptied)
  emptied-case a =
      a.one.ends ∙ one-emptied w a.level tag vr a.one.place st a.field a.fate_is
      ∙ ap (λ f. count (say st (element_bytes tag vr f)) (one Emptied))
      (sym (emptied-any w tag vr))

  pub dummied-case : ActPass w Dummied tag vr s from to next st st'
      → st' ≡ count (say st (element_bytes tag vr (dummied_as (with_lists w.study w.site) tag vr))) (one Dummied)
  dummied-case a =
      a.one.ends ∙ one-dummied w a.level tag vr a.one.place st a.field a.fate_is
      ∙ ap (λ f. count (say st (element_bytes tag vr f)) (one Dummied))
      (sym (dummied-any w tag vr))

  pub kept-case : ActPass w Kept tag vr s from to next st st'
      → st' ≡ count (say st (element_bytes tag vr (value (part s from to)))) (one Kept)
  kept-case a = a.one.ends ∙ step a.field a.stands
    where
      step : (f : Field Place) → Stands f vr s from to
          → passed_one w a.level (elem a.one.place tag vr f nil) st ≡ count (say st (element_bytes tag vr (value (part s from to)))) (one Kept)
      step (value v) h = rw h.0 (passed-kept w a.level tag vr a.one.place st (part s from to) a.fate_is)
      step (items is) h = absurd (fate-kept w a.level tag vr a.fate_is h)

  pub shifted-case : ActPass w Shifted tag vr s from to next st st'
      → st' ≡ count (say st (element_bytes tag vr (value (shifted_text (eqb vr DA) w.shift (part s from to))))) (one Shifted)
  unfolding field_fault shifted_as
  shifted-case a = a.one.ends ∙ step a.field a.stands (sound-as a)
    where
      step : (f : Field Place) → Stands f vr s from to → field_fault f w a.level Shifted vr a.one.place.at ≡ None
          → passed_one w a.level (elem a.one.place tag vr f nil) st
          ≡ count (say st (element_bytes tag vr (value (shifted_text (eqb vr DA) w.shift (part s from to))))) (one Shifted)
      step (value v) h n =
          let good : shifted_value (eqb vr DA) w.shift v ≡ Some (shifted_text (eqb vr DA) w.shift v) = shifted_value-good (eqb vr DA) w.shift v (fault-none _ BadDates _ n) in
          one-shifted w a.level tag vr a.one.place st v a.fate_is
          ∙ ap (λ x. count (say st (element_bytes tag vr (value (or x v)))) (one Shifted)) good
          ∙ rw h.0
      step (items is) h n = absurd (no-dates (fate-shifted w a.level tag vr a.fate_is) h)

  pub renamed-case : ActPass w Renamed tag vr s from to next st st'
      → (us : List (List ℕ)) × (uids_of (part s from to) ≡ Some us)
      × (st'
      ≡ record {
        bytes = st.bytes ++ element_bytes tag UI (value (uids_text w.root (numbers same_uid st.slots (map slot_of us))));
        slots = learns same_uid st.slots (map slot_of us);
        tally = plus st.tally (one Renamed);
      })
  unfolding field_fault
  renamed-case a = step a.field a.stands (sound-as a) a.one.ends
    where
      ui : vr ≡ UI
      ui = fate-renamed w a.level tag vr a.fate_is

      step : (f : Field Place) → Stands f vr s from to → field_fault f w a.level Renamed vr a.one.place.at ≡ None
          → st' ≡ passed_one w a.level (elem a.one.place tag vr f nil) st
          → (us : List (List ℕ)) × (uids_of (part s from to) ≡ Some us)
          × (st'
          ≡ record {
            bytes = st.bytes ++ element_bytes tag UI (value (uids_text w.root (numbers same_uid st.slots (map slot_of us))));
            slots = learns same_uid st.slots (map slot_of us);
            tally = plus st.tally (one Renamed);
          })
      step (value v) h n e =
          let found : (us : List (List ℕ)) × (uids_of v ≡ Some us) = uids_of-found v (fault-none (uids_fault v) BadUids _ n) in (
            found.0,
            ap uids_of (sym h.0) ∙ found.1,
            e ∙ passed-renamed w a.level tag vr a.one.place st v found.0 a.fate_is found.1 ∙ rw ui,
          )
      step (items is) h n e = absurd (no-uid ui h)

  pub wrong-case : ActPass w Wrong tag vr s from to next st st' → ⊥
  unfolding field_fault
  wrong-case a = step a.field a.stands (sound-as a)
    where
      step : (f : Field Place) → Stands f vr s from to → field_fault f w a.level Wrong vr a.one.place.at ≡ None → ⊥
      step (value v) h n = none-some _ (sym n)
      step (items is) h n = (fate-wrong w a.level tag vr a.fate_is).1 h

-- ---- the ways out

said-none : (st : State) (c : Counts) → count st c ≡ count (say st []) c
said-none st c = ap (λ b. count (record { bytes = b; slots = st.slots; tally = st.tally }) c) (sym (append-nil st.bytes))

counts-are-one : {a b c d : ℕ} {k : Counts} → counts a b c d ≡ k → counts a b (c + 1) d ≡ plus k (one Renamed)
counts-are-one {a} {b} {c} {d} e = counts-is (omega arith) (omega arith) (omega arith) (omega arith) ∙ ap (λ k. plus k (one Renamed)) e

module _ {w : Settings} {φ : Fate} {tag vr : ℕ} {s : List ℕ} {from to : ℕ} {o l : List ℕ} {t : Progress} (fits : t.used ≤ slots_of l) (rises : from ≤ to) where
  -- an element was written as xs, or left out, and counted; the ledger was not touched
  pub act-said : {o' : List ℕ} {u : Progress} (xs : List ℕ) → o' ≡ laid o t.pos xs → u.pos ≡ t.pos + length xs → length xs ≤ to - from + one_element → u.used ≡ t.used
      → met u ≡ met t + 1
      → counts u.kept u.replaced u.renamed u.removed ≡ plus (counts t.kept t.replaced t.renamed t.removed) (one φ)
      → ((next : ℕ) (st st' : State) → ActPass w φ tag vr s from to next st st' → st' ≡ count (say st xs) (one φ))
      → Wrote (ActPass w φ tag vr s from to) from to one_element 1 o o' l l t (Some (to, u))
  act-said {o'} {u} xs e p short q m c f = record {
    out_size = ap length e ∙ length-laid o t.pos xs;
    ledger_size = refl;
    slots_kept = refl;
    bounds = omega (arith, p, short, q, m);
    right = λ next st st' a out₀ l₀ base h.
        (a.next_is, rw (f next st st' a) (holds-count (holds-say h xs e p) u (one φ) refl q c));
  }

  pub act-stop : ((next : ℕ) (st st' : State) → ActPass w φ tag vr s from to next st st' → ⊥)
      → Wrote (ActPass w φ tag vr s from to) from to one_element 1 o o l l t None
  act-stop f = record { out_size = refl; ledger_size = refl; slots_kept = refl; bounds = tt; right = λ next st st' a out₀ l₀ base h. absurd (f next st st' a) }

module _ {w : Settings} {tag vr : ℕ} {s : List ℕ} {from to : ℕ} {o o' l l' : List ℕ} {t : Progress} {r : Renaming} (rises : from ≤ to) (in_s : to ≤ length s)
    (q : RenamedValue tag (part s from to) w.root l l' t.used o o' t.pos r) where
  pub act-full : r ≡ None → Wrote (ActPass w Renamed tag vr s from to) from to one_element 1 o o' l l' t None
  act-full e = record {
    out_size = q.out_size;
    ledger_size = q.ledger_size;
    slots_kept = q.kept;
    bounds = tt;
    right = λ next st st' a out₀ l₀ base h.
        let c = renamed-case a in
        let full : slots_of l < length (learns same_uid (slots_in l t.used) (map slot_of c.0)) = rw e at (q.right c.0 c.1) in
        rw c.2 (omega (arith, rw h.slots_are at full, ap length h.ledger_is, length-laid l₀ 0 (flat st.slots)));
  }

  pub act-renamed : (p m : ℕ) → r ≡ Some (p, m) → Wrote (ActPass w Renamed tag vr s from to) from to one_element 1 o o' l l' t (Some (to, one_renamed t p m))
  act-renamed p m e =
      let b : Bounds t.pos (9 + 66 * (length (part s from to) + 1)) t.used (slots_of l) (Some (p, m)) = rw e at q.bounds in record {
        out_size = q.out_size;
        ledger_size = q.ledger_size;
        slots_kept = q.kept;
        bounds = omega (arith, length-part s from to in_s);
        right = λ next st st' a out₀ l₀ base h.
            let c = renamed-case a in
            let x : RenamedRightly o o' t.pos (element_bytes tag UI (value (uids_text w.root (numbers same_uid st.slots (map slot_of c.0))))) l l' (learns same_uid st.slots (map slot_of c.0)) (Some (p, m)) =
            rw (e, h.slots_are) at (q.right c.0 c.1) in (
              a.next_is,
              rw c.2 (record {
                pos_is = omega (arith, x.0, h.pos_is, length-append st.bytes (element_bytes tag UI (value (uids_text w.root (numbers same_uid st.slots (map slot_of c.0))))));
                out_is = laid-more out₀ base st.bytes _ h.out_is h.pos_is x.1;
                used_is = x.2;
                slots_are = x.3;
                ledger_is = x.4 ∙ ap (λ k. laid k 0 (flat (learns same_uid st.slots (map slot_of c.0)))) h.ledger_is
                    ∙ laid-over l₀ 0 (flat st.slots) _ (flat-learns st.slots (map slot_of c.0));
                counts_are = counts-are-one h.counts_are;
              }),
            );
      }

-- ---- the ways out by the code's own words: an answer of `act`'s proof each

module _ {w : Settings} {tag vr : ℕ} {s : List ℕ} {from to : ℕ} {o l : List ℕ} {t : Progress} {f : Fate} (fits : t.used ≤ slots_of l) (rises : from ≤ to) where
  pub way-removed : f ≡ Removed → {u : Progress} → u ≡ one_removed t → Wrote (ActPass w f tag vr s from to) from to one_element 1 o o l l t (Some (to, u))
  way-removed e {u} eu =
      subst (λ φ. Wrote (ActPass w φ tag vr s from to) from to one_element 1 o o l l t (Some (to, u))) (sym e)
      (rw eu (act-said fits rises [] (sym (laid-none o t.pos)) (omega arith) (omega arith) refl (omega arith)
      (counts-is (omega arith) (omega arith) (omega arith) (omega arith)) (λ next st st' a. removed-case a ∙ said-none st (one Removed))))

  pub way-kept : f ≡ Kept → to ≤ length s → {u : Progress} {p : ℕ} {o' : List ℕ} → u ≡ one_kept t p
      → (p ≡ t.pos + length (element_bytes tag vr (value (part s from to)))) × (o' ≡ laid o t.pos (element_bytes tag vr (value (part s from to))))
      → Wrote (ActPass w f tag vr s from to) from to one_element 1 o o' l l t (Some (to, u))
  way-kept e in_s {u} {p} {o'} eu q =
      subst (λ φ. Wrote (ActPass w φ tag vr s from to) from to one_element 1 o o' l l t (Some (to, u))) (sym e)
      (rw eu (act-said fits rises _ q.1 q.0
      (omega (arith, length-value tag vr (part s from to), length-header tag vr (length (part s from to)), length-part s from to in_s)) refl (omega arith)
      (counts-is (omega arith) (omega arith) (omega arith) (omega arith)) (λ next st st' a. kept-case a)))

  pub way-emptied : f ≡ Emptied → {u : Progress} {p : ℕ} {o' : List ℕ} → u ≡ one_replaced t p
      → (p ≡ t.pos + length (element_bytes tag vr (emptied_as (with_lists w.study w.site) tag vr)))
      × (o' ≡ laid o t.pos (element_bytes tag vr (emptied_as (with_lists w.study w.site) tag vr)))
      → Wrote (ActPass w f tag vr s from to) from to one_element 1 o o' l l t (Some (to, u))
  way-emptied e {u} {p} {o'} eu q =
      subst (λ φ. Wrote (ActPass w φ tag vr s from to) from to one_element 1 o o' l l t (Some (to, u))) (sym e)
      (rw eu (act-said fits rises _ q.1 q.0 (omega (arith, emptied-length (with_lists w.study w.site) tag vr)) refl (omega arith)
      (counts-is (omega arith) (omega arith) (omega arith) (omega arith)) (λ next st st' a. emptied-case a)))

  pub way-dummied : f ≡ Dummied → {u : Progress} {p : ℕ} {o' : List ℕ} → u ≡ one_replaced t p
      → (p ≡ t.pos + length (element_bytes tag vr (dummied_as (with_lists w.study w.site) tag vr)))
      × (o' ≡ laid o t.pos (element_bytes tag vr (dummied_as (with_lists w.study w.site) tag vr)))
      → Wrote (ActPass w f tag vr s from to) from to one_element 1 o o' l l t (Some (to, u))
  way-dummied e {u} {p} {o'} eu q =
      subst (λ φ. Wrote (ActPass w φ tag vr s from to) from to one_element 1 o o' l l t (Some (to, u))) (sym e)
      (rw eu (act-said fits rises _ q.1 q.0 (omega (arith, dummied-length (with_lists w.study w.site) tag vr)) refl (omega arith)
      (counts-is (omega arith) (omega arith) (omega arith) (omega arith)) (λ next st st' a. dummied-case a)))

  -- the days as the call has them are the days of the settings
  pub way-shifted : f ≡ Shifted → to ≤ length s → {days : ℤ} → days ≡ w.shift → {u : Progress} {p : ℕ} {o' : List ℕ} → u ≡ one_replaced t p
      → (p ≡ t.pos + length (element_bytes tag vr (value (shifted_text (eqb vr DA) days (part s from to)))))
      × (o' ≡ laid o t.pos (element_bytes tag vr (value (shifted_text (eqb vr DA) days (part s from to)))))
      → Wrote (ActPass w f tag vr s from to) from to one_element 1 o o' l l t (Some (to, u))
  way-shifted e in_s {days} same {u} {p} {o'} eu q =
      subst (λ φ. Wrote (ActPass w φ tag vr s from to) from to one_element 1 o o' l l t (Some (to, u))) (sym e)
      (rw eu (act-said fits rises _ q.1 q.0
      (omega (
        arith,
        length-value tag vr (shifted_text (eqb vr DA) days (part s from to)),
        length-header tag vr (length (shifted_text (eqb vr DA) days (part s from to))),
        length-shifted_text (eqb vr DA) days (part s from to),
        length-part s from to in_s,
      )) refl (omega arith)
      (counts-is (omega arith) (omega arith) (omega arith) (omega arith))
      (λ next st st' a. shifted-case a ∙ ap (λ z. count (say st (element_bytes tag vr (value (shifted_text (eqb vr DA) z (part s from to))))) (one Shifted)) (sym same))))

  pub way-full : f ≡ Renamed → to ≤ length s → {o' l' : List ℕ} {r : Renaming} → RenamedValue tag (part s from to) w.root l l' t.used o o' t.pos r → r ≡ None
      → Wrote (ActPass w f tag vr s from to) from to one_element 1 o o' l l' t None
  way-full e in_s {o'} {l'} q er = subst (λ φ. Wrote (ActPass w φ tag vr s from to) from to one_element 1 o o' l l' t None) (sym e) (act-full rises in_s q er)

  pub way-renamed : f ≡ Renamed → to ≤ length s → {o' l' : List ℕ} {r : Renaming} → RenamedValue tag (part s from to) w.root l l' t.used o o' t.pos r → {p m : ℕ}
      → r ≡ Some (p, m) → {u : Progress} → u ≡ one_renamed t p m → Wrote (ActPass w f tag vr s from to) from to one_element 1 o o' l l' t (Some (to, u))
  way-renamed e in_s {o'} {l'} q {p} {m} er {u} eu =
      subst (λ φ. Wrote (ActPass w φ tag vr s from to) from to one_element 1 o o' l l' t (Some (to, u))) (sym e) (rw eu (act-renamed rises in_s q p m er))

  pub way-stop : (f ≡ Walked) ⊎ (f ≡ Wrong) → Wrote (ActPass w f tag vr s from to) from to one_element 1 o o l l t None
  way-stop (inl e) = subst (λ φ. Wrote (ActPass w φ tag vr s from to) from to one_element 1 o o l l t None) (sym e) (act-stop fits rises (λ next st st' a. a.is_shut refl))
  way-stop (inr e) = subst (λ φ. Wrote (ActPass w φ tag vr s from to) from to one_element 1 o o l l t None) (sym e) (act-stop fits rises (λ next st st' a. wrong-case a))
