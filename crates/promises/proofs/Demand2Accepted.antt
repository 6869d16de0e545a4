-- The other half of demand 2, proved: where something stands in its relations to what a run was handed, and none of the conditions 1 to 5
-- holds, none of the others holds either. The data set was read, so its shape has no fault (6 to 10); each element was treated, and the
-- relation has no line for a value that is refused, so there is no fault among the values (11 and 12); slots and bytes are the definitions'
-- (`Demand2One.antt`), and they fit (13 and 14). No contract cites this file. Assumes nothing.
--     becomes-clear        an element that was treated has no fault
--     treated-clear        nor has a level of such elements, with its items
--     exports-accepted     THE THEOREM
--     exports-exactly      both halves: just what an accepted run leaves stands in the relations
use mathlib.Core.Path.{◌≡◌, refl, sym, ap, subst, ◌∙◌}
use mathlib.Core.Logic.{◌≢◌, ◌⊎◌, inl, inr}
use mathlib.Core.List.Memᴰ
use mathlib.Core.List.{List, [], ◌∷◌, ◌++◌}
use Rattle.std.specs.Prelude.{Option, None, Some}
use Prim.Native.Nat.{ℕ}
use native.Mathlib.Omega.{arith}
use lib.Dec.{eqb}
use lib.ListN.{length, take, drop}
use borrow.Author.Tests.{eq-eqb, ne_eqb, le-ltb}
use Rattle.refusals.specs.Refusals.{cut_short, bad_tag, bad_vr, bad_length, too_deep, bad_uids, bad_dates}
use Rattle.refusals.specs.declared.Fault.{Fault}
use Rattle.vr.specs.Names.{DA, DT, SQ, UI}
use Rattle.layout.specs.Limits.{deepest}
use Rattle.layout.specs.Tree.{Field, value, items, Elements, nil, elem, Items, none as no_item, item, Place, Data, bare, bare_field, bare_items}
use Rattle.layout.specs.Read.{Result, good, fault, with, read}
use Rattle.table.specs.Action.{action_of}
use Rattle.table.specs.declared.Action.{Action}
use Rattle.table.specs.declared.Action.TheVariants.{Empty, CleanDates}
use Rattle.calendar.specs.Values.{shifted_value}
use Rattle.ledger.specs.Slots.{slots_of}
use Rattle.treatment.specs.Settings.{Settings}
use Rattle.treatment.specs.Fates.{by_action, is_top, fate_of, fate, below}
use Rattle.treatment.specs.declared.Level.{Level}
use Rattle.treatment.specs.declared.Level.TheVariants.{Top}
use Rattle.treatment.specs.declared.Fate.{Fate}
use Rattle.treatment.specs.declared.Fate.TheVariants.{Walked, Removed, Kept, Emptied, Dummied, Renamed, Shifted}
use Rattle.kept.specs.Faults.{value_fault, at, first, sequence_fault, field_fault, first_fault, items_fault}
use Rattle.kept.specs.Counts.{Counts}
use Rattle.outcome.specs.Input.{Input, read_as, tree_of, slots_after, bytes_for}
use Rattle.outcome.specs.Conditions.{Condition, fault_is, value_is, shape_condition, value_condition, condition13, condition14, conditions}
use Rattle.outcome.specs.Outcome.{Report, done, first_of, outcome_of}
use Rattle.promises.specs.Demand1.{NoneHolds}
use Rattle.promises.specs.Treated.{WalkedInto, AsD, Becomes, same, emptied_listed, emptied as empties, emptied_sequence, dummied_listed, dummied as dummies, dummied_sequence, renamed as renames, date, date_time, Treated, TreatedItems}
use Rattle.promises.specs.Demand2.{Exports, EarlyClear, Demand2Other, Demand2Exactly}
use Rattle.promises.proofs.TreatedCases.{treated-elem, items-item}
use Rattle.promises.proofs.TreatedOne.{fate-kept, fate-walked, fate-dummied, fate-renamed, fate-shifted, served-not}
use Rattle.promises.proofs.Demand2One.{came-is, slots_are, length_is, exports-one}
use Rattle.promises.proofs.Demand2Proof.{demand2}

-- ---- one element

-- nothing is to be refused of an element with this fate, VR and field, whatever its items hold
abbrev Clear : Settings → ℕ → Field (Unit {0}) → Fate → Type 0
Clear s vr (value v) φ = value_fault s φ vr v ≡ None
Clear s vr (items is) φ = (inside : Option Fault) → sequence_fault inside φ ≡ None

removed-clear : (s : Settings) (vr : ℕ) (f : Field (Unit {0})) → Clear s vr f Removed
removed-clear s vr (value v) = refl
removed-clear s vr (items is) = λ x. refl

emptied-clear : (s : Settings) (vr : ℕ) (f : Field (Unit {0})) → Clear s vr f Emptied
emptied-clear s vr (value v) = refl
emptied-clear s vr (items is) = λ x. refl

dummied-clear : (s : Settings) (vr : ℕ) (f : Field (Unit {0})) → Clear s vr f Dummied
dummied-clear s vr (value v) = refl
dummied-clear s vr (items is) = λ x. refl

module _ (s : Settings) (number_for : List ℕ → ℕ) (level : Level) (tag vr : ℕ) where
  abbrev action : Action
  action = action_of s.options (is_top level) tag

  with-fate : (f : Field (Unit {0})) (φ : Fate) → by_action action vr ≡ φ → Clear s vr f φ → Clear s vr f (fate s level tag vr)
  unfolding fate_of
  with-fate f φ e c = subst (λ (x : Fate). Clear s vr f x) (sym e) c

  with-empty : (f : Field (Unit {0})) → action ≡ Empty → Clear s vr f (fate s level tag vr)
  with-empty f a = with-fate f Emptied (ap (λ (x : Action). by_action x vr) a) (emptied-clear s vr f)

  with-dummy : (f : Field (Unit {0})) → AsD action vr → vr ≢ UI → Clear s vr f (fate s level tag vr)
  with-dummy f a n = with-fate f Dummied (fate-dummied action vr a n) (dummied-clear s vr f)

  with-shift : (v w : List ℕ) → action ≡ CleanDates → (vr ≡ DA) ⊎ (vr ≡ DT) → shifted_value (eqb vr DA) s.shift v ≡ Some w
      → Clear s vr (value v) (fate s level tag vr)
  with-shift v w a d e = with-fate (value v) Shifted (fate-shifted action vr a d) (rw e)

  becomes-clear : {f g : Field (Unit {0})} {a : Counts} {vs : List (List ℕ)} → Becomes s number_for level tag vr f g a vs
      → Clear s vr f (fate s level tag vr)
  becomes-clear (same {v} k) = with-fate (value v) Kept (fate-kept action vr k) refl
  becomes-clear (emptied_listed {f} a l e) = with-empty f a
  becomes-clear (empties {f} a n u) = with-empty f a
  becomes-clear (emptied_sequence {f} a q) = with-empty f a
  becomes-clear (dummied_listed {f} a l e) = with-dummy f a (served-not vr l.0).1
  becomes-clear (dummies {f} a n m u e) = with-dummy f a m
  becomes-clear (dummied_sequence {f} a q) = with-dummy f a (omega arith)
  becomes-clear (renames {v} {us} a q e) = with-fate (value v) Renamed (fate-renamed action vr a (omega arith)) (rw e)
  becomes-clear (date {v} {w} a q e) = with-shift v w a (inl q) (rw (eq-eqb vr DA q) e)
  becomes-clear (date_time {v} {w} a q e) = with-shift v w a (inr q) (rw (ne_eqb vr DA (omega arith)) e)

-- ---- a level

both-none : (x y : Option Fault) → x ≡ None → y ≡ None → first x y ≡ None
both-none x y p q = rw p q

field-clear : (f : Field Place) (s : Settings) (level : Level) (φ : Fate) (vr offset : ℕ) → Clear s vr (bare_field f) φ → field_fault f s level φ vr offset ≡ None
unfolding field_fault bare_field
field-clear (value v) s level φ vr offset c = ap (λ n. at n offset) c
field-clear (items is) s level φ vr offset c = c (items_fault is s (below φ level))

into-walked : (js : Items Place) (s : Settings) (level : Level) (tag vr offset : ℕ) → WalkedInto (action_of s.options (is_top level) tag) → vr ≡ SQ
    → items_fault js s (below Walked level) ≡ None → field_fault (items js) s level (fate s level tag vr) vr offset ≡ None
unfolding fate_of field_fault
into-walked js s level tag vr offset w q n =
    ap (λ φ. sequence_fault (items_fault js s (below φ level)) φ) (fate-walked (action_of s.options (is_top level) tag) vr w q) ∙ n

mutual
  unfolding first_fault bare

  walked-clear : (f : Field Place) (s : Settings) (number_for : List ℕ → ℕ) (level : Level) (tag vr offset : ℕ) (is os : Items (Unit {0})) (a : Counts) (vs : List (List ℕ))
      → bare_field f ≡ items is → WalkedInto (action_of s.options (is_top level) tag) → vr ≡ SQ → TreatedItems s number_for (below Walked level) is os a vs
      → field_fault f s level (fate s level tag vr) vr offset ≡ None
  walked-clear (value v) s number_for level tag vr offset is os a vs e w q t = absurd (let z : ◌≡◌ {A = ℕ} 0 1 = cc in omega arith)
  walked-clear (items js) s number_for level tag vr offset is os a vs e w q t =
      let k : is ≡ bare_items js = cc in
      into-walked js s level tag vr offset w q (items-clear js s number_for (below Walked level) os a vs (rw k at t))

  pub treated-clear : (es : Elements Place) (s : Settings) (number_for : List ℕ → ℕ) (level : Level) (ds : Data) (c : Counts) (us : List (List ℕ))
      → Treated s number_for level (bare es) ds c us → first_fault es s level ≡ None
  treated-clear nil s number_for level ds c us t = refl
  treated-clear (elem p tag vr f es) s number_for level ds c us t =
      treated-elem s number_for (λ _ _ _. first_fault (elem p tag vr f es) s level ≡ None)
      (λ d b ws a k. both-none _ _
      (field-clear f s level (fate s level tag vr) vr p.at (with-fate s number_for level tag vr (bare_field f) Removed (ap (λ (x : Action). by_action x vr) a) (removed-clear s vr (bare_field f))))
      (treated-clear es s number_for level d b ws k))
      (λ is os d a b vs ws e w q i k. both-none _ _ (walked-clear f s number_for level tag vr p.at is os a vs e w q i) (treated-clear es s number_for level d b ws k))
      (λ g d a b vs ws h k. both-none _ _ (field-clear f s level (fate s level tag vr) vr p.at (becomes-clear s number_for level tag vr h)) (treated-clear es s number_for level d b ws k)) t

  items-clear : (is : Items Place) (s : Settings) (number_for : List ℕ → ℕ) (level : Level) (os : Items (Unit {0})) (c : Counts) (us : List (List ℕ))
      → TreatedItems s number_for level (bare_items is) os c us → items_fault is s level ≡ None
  items-clear no_item s number_for level os c us t = refl
  items-clear (item es is) s number_for level os c us t =
      items-item s number_for (λ _ _ _. items_fault (item es is) s level ≡ None)
      (λ d js a b vs ws k i. both-none _ _ (treated-clear es s number_for level d a vs k) (items-clear is s number_for level js b ws i)) t

-- ---- the whole statement

-- none of the conditions cs holds, told one by one
abbrev Each : Input → List (Condition Input) → Type 0
Each i [] = Unit {0}
Each i (c ∷ cs) = (c.1 i ≡ None) × Each i cs

each-done : (i : Input) (cs : List (Condition Input)) → Each i cs → first_of cs i ≡ done
unfolding first_of
each-done i [] h = refl
each-done i (c ∷ cs) h = rw (h.0, first_of) (each-done i cs h.1)

past : (i : Input) (cs ds : List (Condition Input)) → NoneHolds i cs → first_of ds i ≡ done → first_of (cs ++ ds) i ≡ done
unfolding first_of
past i [] ds h q = q
past i (c ∷ cs) ds h q = let e : c.1 i ≡ None = h c (Memᴰ.head refl) in rw (e, first_of) (past i cs ds (λ d m. h d (Memᴰ.tail m)) q)

module _ (i : Input) (r : Report) (out l : List ℕ) (x : Exports i r out l) where
  shape-clear : (n : ℕ) → shape_condition n i ≡ None
  unfolding shape_condition read_as
  shape-clear n = step (read deepest i.lent) x.reads
    where
      step : (t : Result (Elements Place)) → with bare t ≡ good x.came x.past → fault_is n t ≡ None
      step (good es p) e = refl
      step (fault m o) e = absurd (let z : ◌≡◌ {A = ℕ} 0 1 = cc in omega arith)

  values-clear : (n : ℕ) → value_condition n i ≡ None
  unfolding value_condition
  values-clear n =
      ap (value_is n)
      (treated-clear (tree_of i) i.settings x.number_for Top x.left r.counts x.uids
      (subst (λ (d : Data). Treated i.settings x.number_for Top d x.left r.counts x.uids) (came-is i r out l x) x.treated))

  slots-clear : condition13 i ≡ None
  unfolding condition13
  slots-clear = rw (le-ltb (slots_of i.ledger) (length (slots_after i)) (omega (arith, ap length (slots_are i r out l x), x.ledger.fits)))

  room-clear : condition14 i ≡ None
  unfolding condition14
  room-clear = rw (le-ltb i.room (length (bytes_for i)) (omega (arith, length_is i r out l x, x.fits)))

  accepted-then : EarlyClear i → outcome_of i ≡ done
  unfolding outcome_of
  accepted-then h =
      past i (take 5 conditions) (drop 5 conditions) h
      (each-done i (drop 5 conditions)
      (shape-clear cut_short, (shape-clear bad_tag, (shape-clear bad_vr, (shape-clear bad_length, (shape-clear too_deep, (values-clear bad_uids, (values-clear bad_dates, (slots-clear, (room-clear, tt))))))))))

-- THE THEOREM
pub exports-accepted : Demand2Other
exports-accepted i r out l clear x = accepted-then i r out l x clear

pub exports-exactly : Demand2Exactly
exports-exactly i r out l bytes clear = (
  λ x. let ok = exports-accepted i r out l clear x in
      let one = exports-one i r out l x ok in
      (ok, one.0, one.1, one.2),
  λ e. rw (e.1, e.2, e.3) (demand2 i bytes e.0),
)
