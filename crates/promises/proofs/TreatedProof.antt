-- What is written of a data set without a fault stands in the relation of `specs/Treated.antt` to it: each element by its action and VR.
-- No contract cites this file. Assumes nothing.
--     Because a vr φ       the lines of document 01 that give an element with the action a the fate φ
--     fate-because         so it is with every element
--     kept-treated         THE LAW, of the elements of a level, whatever the numbers of UIDs are
use mathlib.Core.Path.{◌≡◌, refl, sym, ap, subst, ◌∙◌}
use mathlib.Core.Logic.{◌≢◌, ◌⊎◌, inl, inr, ⊎_elim}
use mathlib.Core.Bool.{Bool, true, false, ◌||◌, false≢true}
use mathlib.Core.List.{List, [], ◌∷◌, ◌++◌}
use Rattle.std.specs.Prelude.{Option, None, Some}
use Prim.Native.Nat.{ℕ, ◌+◌, ◌-◌, ◌<◌, ◌%◌}
use native.Mathlib.Omega.{arith}
use lib.Dec.{eqb}
use lib.ListN.{length}
use borrow.Author.Tests.{eqb-true, eqb-false, eq-eqb, ne_eqb}
use Rattle.basis.specs.Choice.{pick, among, is_none}
use Rattle.basis.proofs.ChoiceLaws.{pick-case}
use Rattle.refusals.specs.declared.Refusal.TheVariants.{BadUids, BadDates}
use Rattle.refusals.specs.declared.Fault.{Fault}
use Rattle.vr.specs.Names.{DA, DT, SQ, TM, UI}
use Rattle.vr.specs.Vr.{served_by_lists, dummy_of}
use Rattle.layout.specs.Tree.{Field, value, items, Elements, nil, elem, Items, none as no_item, item, Place, Data, bare, bare_field, bare_items}
use Rattle.layout.specs.Made.{lengths_below, Made, MadeField, MadeItems}
use Rattle.table.specs.Action.{action_of}
use Rattle.table.specs.declared.Action.{Action}
use Rattle.table.specs.declared.Action.TheVariants.{Remove, Keep, Empty, Dummy, Rename, Clean, CleanDates}
use Rattle.uid.specs.Value.{uids_of, uids_fault}
use Rattle.uid.proofs.ValueLaws.{uids_of-found}
use Rattle.calendar.specs.Values.{shifted_value}
use Rattle.lists.specs.Lookup.{asked}
use Rattle.treatment.specs.Settings.{Settings}
use Rattle.treatment.specs.Fates.{as_d as by_d, by_action, is_top, fate_of, fate, below}
use Rattle.treatment.specs.declared.Level.{Level}
use Rattle.treatment.specs.declared.Fate.{Fate}
use Rattle.treatment.specs.declared.Fate.TheVariants.{Removed, Kept, Walked, Emptied, Dummied, Renamed, Shifted, Wrong}
use Rattle.kept.specs.Content.{Body, Content, Walks, map_body, map_content, map_walks, uids_in_body, uids_in, uids_in_walks}
use Rattle.kept.specs.Kept.{Uid, or_none, held_uids, kept_value, kept_sequence, entry, kept_field, kept_of, kept_items}
use Rattle.kept.specs.Fillers.{spaced, listed, or, emptied_as, dummied_as}
use Rattle.kept.specs.Written.{shifted_as, written_field, written_of, written_items}
use Rattle.kept.specs.Counts.{Counts, counts, nothing, plus, one, inside, counts_field, counts_of, counts_items}
use Rattle.kept.specs.Faults.{value_fault, sequence_fault, field_fault, first_fault, items_fault}
use Rattle.treatment.proofs.FatesLaws.{fate-walked, fate-renamed, fate-shifted, fate-kept, fate-wrong}
use Rattle.kept.proofs.FillersLaws.{lengths_below-other}
use Rattle.kept.proofs.KeptLaws.{first-none, at-none, unpicked, Stays}
use Rattle.promises.specs.Treated.{Keeps, keep, time, WalkedInto, rename, clean, clean_dates, AsD, dummy, Renames, as_d, Listed, Unlisted, Evened, even, odd, Becomes, same, emptied_listed, emptied as empties, emptied_sequence, dummied_listed, dummied as dummies, dummied_sequence, renamed as renames, date, date_time, Treated, end, gone, walked as walks, stays, TreatedItems, last, each}

-- ---- fates

abbrev Because : Action → ℕ → Fate → Type 0
Because a vr Removed = a ≡ Remove
Because a vr Kept = Keeps a vr
Because a vr Walked = WalkedInto a × (vr ≡ SQ)
Because a vr Emptied = a ≡ Empty
Because a vr Dummied = AsD a vr × (vr ≢ UI)
Because a vr Renamed = Renames a vr × (vr ≡ UI)
Because a vr Shifted = (a ≡ CleanDates) × ((vr ≡ DA) ⊎ (vr ≡ DT))
Because a vr Wrong = Unit {0}

-- one of two numbers, or neither
among-two : (n a b : ℕ) → (among n (a ∷ b ∷ []) ≡ true → (n ≡ a) ⊎ (n ≡ b)) × (among n (a ∷ b ∷ []) ≡ false → (n ≢ a) × (n ≢ b))
unfolding among
among-two n a b = step (eqb n a) (eqb n b) refl refl
  where
    step : (x y : Bool) → eqb n a ≡ x → eqb n b ≡ y → (x || (y || false) ≡ true → (n ≡ a) ⊎ (n ≡ b)) × (x || (y || false) ≡ false → (n ≢ a) × (n ≢ b))
    step true y p q = (λ e. inl (eqb-true n a p), λ e. absurd (false≢true (sym e)))
    step false true p q = (λ e. inr (eqb-true n b q), λ e. absurd (false≢true (sym e)))
    step false false p q = (λ e. absurd (false≢true e), λ e. (eqb-false n a p, eqb-false n b q))

because-d : (a : Action) (vr : ℕ) → AsD a vr → Because a vr (by_d vr)
because-d a vr d = pick-case (Because a vr) (eqb vr UI) Renamed Dummied (λ e. (as_d d, eqb-true vr UI e)) (λ e. (d, eqb-false vr UI e))

because : (a : Action) (vr : ℕ) → Because a vr (by_action a vr)
because Remove vr = refl
because Keep vr = pick-case (Because Keep vr) (eqb vr SQ) Walked Kept (λ e. (keep, eqb-true vr SQ e)) (λ e. keep (eqb-false vr SQ e))
because Empty vr = refl
because Dummy vr = because-d Dummy vr dummy
because Rename vr =
    pick-case (Because Rename vr) (eqb vr UI) Renamed (pick (eqb vr SQ) Walked Wrong) (λ e. (rename, eqb-true vr UI e))
    (λ _. pick-case (Because Rename vr) (eqb vr SQ) Walked Wrong (λ e. (rename, eqb-true vr SQ e)) (λ _. tt))
because Clean vr = pick-case (Because Clean vr) (eqb vr SQ) Walked (by_d vr) (λ e. (clean, eqb-true vr SQ e)) (λ e. because-d Clean vr (clean (eqb-false vr SQ e)))
because CleanDates vr =
    pick-case (Because CleanDates vr) (eqb vr SQ) Walked (pick (among vr (DA ∷ DT ∷ [])) Shifted (pick (eqb vr TM) Kept (by_d vr))) (λ e. (clean_dates, eqb-true vr SQ e))
    (λ p. pick-case (Because CleanDates vr) (among vr (DA ∷ DT ∷ [])) Shifted (pick (eqb vr TM) Kept (by_d vr)) (λ e. (refl, (among-two vr DA DT).0 e))
    (λ q. pick-case (Because CleanDates vr) (eqb vr TM) Kept (by_d vr) (λ e. time (eqb-true vr TM e))
    (λ e. because-d CleanDates vr (clean_dates (eqb-false vr SQ p) ((among-two vr DA DT).1 q).0 ((among-two vr DA DT).1 q).1 (eqb-false vr TM e)))))

pub fate-because : (s : Settings) (level : Level) (tag vr : ℕ) (φ : Fate) → fate s level tag vr ≡ φ → Because (action_of s.options (is_top level) tag) vr φ
unfolding fate_of
fate-because s level tag vr φ e = subst (Because (action_of s.options (is_top level) tag) vr) e (because (action_of s.options (is_top level) tag) vr)

-- ---- counts

pub counts-eq : (a b c d a' b' c' d' : ℕ) → a ≡ a' → b ≡ b' → c ≡ c' → d ≡ d' → counts a b c d ≡ counts a' b' c' d'
counts-eq a b c d a' b' c' d' p q r t = cc

pub plus-nothing : (c : Counts) → c ≡ plus nothing c
plus-nothing c = counts-eq _ _ _ _ _ _ _ _ (omega arith) (omega arith) (omega arith) (omega arith)

-- ---- what no fault says

uids-found : (s : Settings) (vr : ℕ) (v : List ℕ) → value_fault s Renamed vr v ≡ None → uids_of v ≡ Some (held_uids v)
uids-found s vr v e =
    let r = uids_of-found v (unpicked (uids_fault v) BadUids e) in
    r.1 ∙ ap Some (sym (ap or_none r.1))

shifted-found : (s : Settings) (vr : ℕ) (v : List ℕ) → value_fault s Shifted vr v ≡ None → shifted_value (eqb vr DA) s.shift v ≡ Some (shifted_as s vr v)
unfolding shifted_as
shifted-found s vr v e = step (shifted_value (eqb vr DA) s.shift v) (unpicked (is_none (shifted_value (eqb vr DA) s.shift v)) BadDates e)
  where
    step : (o : Option (List ℕ)) → is_none o ≡ false → o ≡ Some (or o v)
    step None q = absurd (false≢true (sym q))
    step (Some x) q = refl

-- ---- fillers

pub evened : (t : List ℕ) → Evened t (spaced t)
unfolding spaced
evened t =
    pick-case (Evened t) (eqb (length t % 2) 0) t (t ++ 0x20 ∷ []) (λ e. even (eqb-true (length t % 2) 0 e))
    (λ e. odd (let n : length t % 2 ≢ 0 = eqb-false (length t % 2) 0 e in omega arith))

-- a list has a value, or none does
listed-or : (s : Settings) (tag vr : ℕ) (t : List ℕ) (P : List ℕ → Type 0) → ((v : List ℕ) → Listed s tag vr v → P v) → (Unlisted s tag vr → P t) → P (or (listed s tag vr) t)
unfolding listed
listed-or s tag vr t P f g = step (served_by_lists vr) refl (asked s.study s.site tag) refl
  where
    step : (b : Bool) → served_by_lists vr ≡ b → (o : Option (List ℕ)) → asked s.study s.site tag ≡ o → P (or (pick b o None) t)
    step true e (Some v) q = f v (e, q)
    step true e None q = g (inr q)
    step false e o q = g (inl e)

module _ (s : Settings) (number_for : List ℕ → ℕ) (level : Level) (tag vr : ℕ) where
  abbrev At : Field (Unit {0}) → Field (Unit {0}) → Counts → List (List ℕ) → Type 0
  At = Becomes s number_for level tag vr

  emptied-becomes : action_of s.options (is_top level) tag ≡ Empty → (f : Field (Unit {0})) → At f (emptied_as s tag vr) (counts 0 1 0 0) []
  unfolding emptied_as spaced
  emptied-becomes a f =
      pick-case (λ g. At f g (counts 0 1 0 0) []) (eqb vr SQ) (items no_item) (value (spaced (or (listed s tag vr) []))) (λ e. emptied_sequence a (eqb-true vr SQ e))
      (λ e. listed-or s tag vr [] (λ t. At f (value (spaced t)) (counts 0 1 0 0) []) (λ v l. emptied_listed a l (evened v)) (λ u. empties a (eqb-false vr SQ e) u))

  dummied-becomes : AsD (action_of s.options (is_top level) tag) vr → vr ≢ UI → (f : Field (Unit {0})) → At f (dummied_as s tag vr) (counts 0 1 0 0) []
  unfolding dummied_as
  dummied-becomes a n f =
      pick-case (λ g. At f g (counts 0 1 0 0) []) (eqb vr SQ) (items (item nil no_item)) (value (spaced (or (listed s tag vr) (dummy_of vr)))) (λ e. dummied_sequence a (eqb-true vr SQ e))
      (λ e. listed-or s tag vr (dummy_of vr) (λ t. At f (value (spaced t)) (counts 0 1 0 0) []) (λ v l. dummied_listed a l (evened v))
      (λ u. dummies a (eqb-false vr SQ e) n u (evened (dummy_of vr))))

  shifted-becomes : (v : List ℕ) → action_of s.options (is_top level) tag ≡ CleanDates → (vr ≡ DA) ⊎ (vr ≡ DT) → value_fault s Shifted vr v ≡ None
      → At (value v) (value (shifted_as s vr v)) (counts 0 1 0 0) []
  shifted-becomes v a (inl e) ok = date a e (rw (eq-eqb vr DA e) at (shifted-found s vr v ok))
  shifted-becomes v a (inr e) ok = date_time a e (rw (ne_eqb vr DA (omega arith)) at (shifted-found s vr v ok))

  value-becomes : (v : List ℕ) (φ : Fate) → fate s level tag vr ≡ φ → Stays φ → length v < lengths_below vr → value_fault s φ vr v ≡ None
      → At (value v) (written_field (map_body number_for (kept_value v φ)) s level tag vr) (one φ) (uids_in_body (kept_value v φ))
  unfolding written_field map_body uids_in_body
  value-becomes v Removed e p fits ok = absurd p
  value-becomes v Kept e p fits ok = rw e (same (fate-because s level tag vr Kept e))
  value-becomes v Walked e p fits ok = absurd (lengths_below-other vr (length v) fits (fate-walked s level tag vr e))
  value-becomes v Emptied e p fits ok = rw e (emptied-becomes (fate-because s level tag vr Emptied e) (value v))
  value-becomes v Dummied e p fits ok = let b = fate-because s level tag vr Dummied e in rw e (dummied-becomes b.0 b.1 (value v))
  value-becomes v Renamed e p fits ok = let b = fate-because s level tag vr Renamed e in renames b.0 (omega (arith, b.1)) (uids-found s vr v ok)
  value-becomes v Shifted e p fits ok = let b = fate-because s level tag vr Shifted e in rw e (shifted-becomes v b.0 b.1 ok)
  value-becomes v Wrong e p fits ok = absurd (let z : ◌≡◌ {A = ℕ} 0 1 = cc in omega arith)

-- ---- a level

counted : {s : Settings} {number_for : List ℕ → ℕ} {level : Level} {es ds : Data} {c d : Counts} {us : List (List ℕ)} → c ≡ d → Treated s number_for level es ds c us → Treated s number_for level es ds d us
counted {s} {number_for} {level} {es} {ds} {us = us} q t = subst (λ (c : Counts). Treated s number_for level es ds c us) q t

module _ (s : Settings) (number_for : List ℕ → ℕ) (level : Level) (tag vr : ℕ) (es : Data) (c : Content Uid) (y : Counts)
    (rest : Treated s number_for level es (written_of (map_content number_for c) s level) y (uids_in c)) where
  -- the element f is written as the body b has it; its items, where it is walked into, count x
  abbrev Next : Field (Unit {0}) → Body Uid → Counts → Counts → Type 0
  Next f b x z =
      Treated s number_for level (elem tt tag vr f es)
      (elem tt tag vr (written_field (map_body number_for b) s level tag vr) (written_of (map_content number_for c) s level)) (plus z (plus x y)) (uids_in_body b ++ uids_in c)

  one_more : (f : Field (Unit {0})) (b : Body Uid) (z : Counts) → Becomes s number_for level tag vr f (written_field (map_body number_for b) s level tag vr) z (uids_in_body b)
      → Next f b nothing z
  one_more f b z h = counted (ap (plus z) (plus-nothing y)) (stays h rest)

  entry-treated : (f : Field (Unit {0})) (b : Fate → Body Uid) (x : Counts) (φ : Fate) → fate s level tag vr ≡ φ → (φ ≡ Removed → x ≡ nothing)
      → (Stays φ → Next f (b φ) x (one φ))
      → Treated s number_for level (elem tt tag vr f es) (written_of (map_content number_for (entry φ tag vr b c)) s level) (plus (one φ) (plus x y)) (uids_in (entry φ tag vr b c))
  unfolding written_of map_content uids_in
  entry-treated f b x Removed e z h =
      counted (ap (plus (one Removed)) (plus-nothing y ∙ ap (λ (w : Counts). plus w y) (sym (z refl)))) (gone (fate-because s level tag vr Removed e) rest)
  entry-treated f b x Kept e z h = h tt
  entry-treated f b x Walked e z h = h tt
  entry-treated f b x Emptied e z h = h tt
  entry-treated f b x Dummied e z h = h tt
  entry-treated f b x Renamed e z h = h tt
  entry-treated f b x Shifted e z h = h tt
  entry-treated f b x Wrong e z h = h tt

  sequence-treated : (is : Items (Unit {0})) (ws : Walks Uid) (w : Counts) (x : Option Fault) (φ : Fate) → fate s level tag vr ≡ φ → Stays φ → vr ≡ SQ
      → sequence_fault x φ ≡ None → (x ≡ None → TreatedItems s number_for (below φ level) is (written_items (map_walks number_for ws) s (below φ level)) w (uids_in_walks ws))
      → Next (items is) (kept_sequence ws φ) (inside w φ) (one φ)
  unfolding written_field map_body uids_in_body
  sequence-treated is ws w x Removed e p q ok inner-ones = absurd p
  sequence-treated is ws w x Kept e p q ok inner-ones = absurd (fate-kept s level tag vr e q)
  sequence-treated is ws w x Walked e p q ok inner-ones = rw e (walks (fate-because s level tag vr Walked e).0 q (inner-ones ok) rest)
  sequence-treated is ws w x Emptied e p q ok inner-ones =
      one_more (items is) (kept_sequence ws Emptied) (one Emptied) (rw e (emptied-becomes s number_for level tag vr (fate-because s level tag vr Emptied e) (items is)))
  sequence-treated is ws w x Dummied e p q ok inner-ones =
      let b = fate-because s level tag vr Dummied e in
      one_more (items is) (kept_sequence ws Dummied) (one Dummied) (rw e (dummied-becomes s number_for level tag vr b.0 b.1 (items is)))
  sequence-treated is ws w x Renamed e p q ok inner-ones = absurd (omega (arith, fate-renamed s level tag vr e))
  sequence-treated is ws w x Shifted e p q ok inner-ones = absurd (⊎_elim (λ a. omega arith) (λ a. omega arith) (fate-shifted s level tag vr e))
  sequence-treated is ws w x Wrong e p q ok inner-ones = absurd ((fate-wrong s level tag vr e).1 q)

inside-removed : (w : Counts) (φ : Fate) → φ ≡ Removed → inside w φ ≡ nothing
inside-removed w φ e = rw e

mutual
  unfolding written_of map_content uids_in kept_of counts_of first_fault Made bare

  field-treated : (f : Field Place) (s : Settings) (number_for : List ℕ → ℕ) (level : Level) (depth tag vr offset : ℕ) (es : Data) (c : Content Uid) (y : Counts)
      → Treated s number_for level es (written_of (map_content number_for c) s level) y (uids_in c) → MadeField depth vr f
      → field_fault f s level (fate s level tag vr) vr offset ≡ None
      → Treated s number_for level (elem tt tag vr (bare_field f) es)
      (written_of (map_content number_for (entry (fate s level tag vr) tag vr (λ φ. kept_field f s level φ) c)) s level)
      (plus (one (fate s level tag vr)) (plus (counts_field f s level (fate s level tag vr)) y))
      (uids_in (entry (fate s level tag vr) tag vr (λ φ. kept_field f s level φ) c))
  field-treated (value v) s number_for level depth tag vr offset es c y rest m ok =
      entry-treated s number_for level tag vr es c y rest (value v) (λ φ. kept_value v φ) nothing (fate s level tag vr) refl (λ _. refl)
      (λ p. one_more s number_for level tag vr es c y rest (value v) (kept_value v (fate s level tag vr)) (one (fate s level tag vr))
      (value-becomes s number_for level tag vr v (fate s level tag vr) refl p m.1 (at-none (value_fault s (fate s level tag vr) vr v) offset ok)))
  field-treated (items is) s number_for level depth tag vr offset es c y rest m ok =
      entry-treated s number_for level tag vr es c y rest (items (bare_items is)) (λ φ. kept_sequence (kept_items is s (below φ level)) φ)
      (inside (counts_items is s (below (fate s level tag vr) level)) (fate s level tag vr)) (fate s level tag vr) refl
      (inside-removed (counts_items is s (below (fate s level tag vr) level)) (fate s level tag vr))
      (λ p. sequence-treated s number_for level tag vr es c y rest (bare_items is) (kept_items is s (below (fate s level tag vr) level))
      (counts_items is s (below (fate s level tag vr) level)) (items_fault is s (below (fate s level tag vr) level)) (fate s level tag vr) refl p m.0 ok
      (λ fine. items-treated is s number_for (below (fate s level tag vr) level) depth m.1 fine))

  pub kept-treated : (es : Elements Place) (s : Settings) (number_for : List ℕ → ℕ) (level : Level) (depth low : ℕ) → Made depth low es → first_fault es s level ≡ None
      → Treated s number_for level (bare es) (written_of (map_content number_for (kept_of es s level)) s level) (counts_of es s level) (uids_in (kept_of es s level))
  kept-treated nil s number_for level depth low m ok = end
  kept-treated (elem p tag vr f es) s number_for level depth low m ok =
      let o = first-none (field_fault f s level (fate s level tag vr) vr p.at) (first_fault es s level) ok in
      field-treated f s number_for level depth tag vr p.at (bare es) (kept_of es s level) (counts_of es s level)
      (kept-treated es s number_for level depth (tag + 1) m.3 o.1) m.2 o.0

  items-treated : (is : Items Place) (s : Settings) (number_for : List ℕ → ℕ) (level : Level) (depth : ℕ) → MadeItems depth is → items_fault is s level ≡ None
      → TreatedItems s number_for level (bare_items is) (written_items (map_walks number_for (kept_items is s level)) s level) (counts_items is s level) (uids_in_walks (kept_items is s level))
  items-treated no_item s number_for level depth m ok = last
  items-treated (item es is) s number_for level depth m ok =
      let o = first-none (first_fault es s level) (items_fault is s level) ok in
      each (kept-treated es s number_for level (depth - 1) 0 m.1 o.0) (items-treated is s number_for level depth m.2 o.1)
