-- Laws of `specs/Passed.antt`: how the state goes on over an element, an item, and at the end of each. No contract cites this file.
-- Assumes nothing.
use mathlib.Core.Path.{◌≡◌, refl, sym, ap, ◌∙◌}
use mathlib.Core.Bool.{Bool, true, false, false≢true}
use Rattle.std.specs.Prelude.{Some}
use mathlib.Core.List.{List, [], ◌++◌, map, append_assoc, append-nil}
use mathlib.Core.Logic.{◌≢◌}
use Prim.Native.Nat.{ℕ, ◌+◌, ◌≤◌}
use native.Mathlib.Omega.{arith}
use lib.ListN.{length}
use Rattle.basis.specs.Choice.{pick}
use Rattle.layout.specs.Tree.{Field, value, items, Elements, nil, elem, Items, none as no_item, item, Place}
use Rattle.layout.specs.Heads.{item_tag, item_end, sequence_end, undefined}
use Rattle.layout.specs.Write.{mark, put_elements, put_field, put_items, bytes_of}
use Rattle.uid.specs.Value.{uids_of}
use Rattle.uid.specs.NewUid.{uids_text}
use Rattle.ledger.specs.FirstMet.{learns, numbers, same_uid}
use Rattle.ledger.specs.Slots.{slot_of}
use Rattle.ledger.proofs.FirstMetLaws.{learns-append, learns-length}
use Rattle.treatment.specs.Settings.{Settings}
use Rattle.treatment.specs.Fates.{is_top, fate, below}
use Rattle.treatment.specs.declared.Level.{Level}
use Rattle.treatment.specs.declared.Fate.{Fate}
use Rattle.treatment.specs.declared.Fate.TheVariants.{Removed, Kept, Walked, Emptied, Dummied, Renamed, Shifted, Wrong}
use Rattle.kept.specs.Content.{Body, keep, map_body, map_content, map_walks, uids_in_body, uids_in, uids_in_walks}
use Rattle.kept.specs.Kept.{Uid, kept_field, kept_of, kept_items}
use Rattle.kept.specs.Numbering.{numbered_body, numbered, numbered_walks}
use Rattle.kept.specs.Fillers.{emptied_as, dummied_as}
use Rattle.kept.specs.Written.{shifted_as, written_field, written_of, written_items}
use Rattle.kept.specs.Counts.{Counts, counts, nothing, plus, one, inside, counts_field, counts_of, counts_items}
use Rattle.write_markers.specs.Gains.{From, gained, with_markers_if, with_markers_at}
use Rattle.write_markers.proofs.WriteLaws.{put_elements-on}
use Rattle.write_markers.proofs.GainsLaws.{Other, Rises, written-from, marks-other}
use Rattle.write_markers.proofs.StepLaws.{step-kept, step-gone, step-end}
use Rattle.write_values.specs.Element.{element_bytes}
use Rattle.write_state.specs.Passed.{State, say, count, slotted, slotted_items, tree_for, passed, passed_one, passed_items}
use Rattle.write_state.proofs.LevelLaws.{top-is, walks-not}

-- ---- counts and states

pub counts-is : {a b c d a' b' c' d' : ℕ} → a ≡ a' → b ≡ b' → c ≡ c' → d ≡ d' → counts a b c d ≡ counts a' b' c' d'
counts-is p q r s = cc

pub plus-nothing : (a : Counts) → plus a nothing ≡ a
plus-nothing a = counts-is (omega arith) (omega arith) (omega arith) (omega arith)

pub plus-assoc : (a b c : Counts) → plus (plus a b) c ≡ plus a (plus b c)
plus-assoc a b c = counts-is (omega arith) (omega arith) (omega arith) (omega arith)

abbrev pub state : List ℕ → List (List ℕ) → Counts → State
state b n t = record { bytes = b; slots = n; tally = t }

pub state-is : {b b' : List ℕ} {n n' : List (List ℕ)} {t t' : Counts} → b ≡ b' → n ≡ n' → t ≡ t' → state b n t ≡ state b' n' t'
state-is p q r = cc

-- ---- one element, by its body: what it is shown as where it is not removed

abbrev pub Appears : Settings → Level → ℕ → ℕ → Field Place → Body Uid → Type 0
Appears s level tag vr f body = (p : Place) (es : Elements Place) → kept_of (elem p tag vr f es) s level ≡ keep tag vr body (kept_of es s level)

abbrev Gone : Settings → Level → ℕ → ℕ → Field Place → Type 0
Gone s level tag vr f = (p : Place) (es : Elements Place) → kept_of (elem p tag vr f es) s level ≡ kept_of es s level

gone : (s : Settings) (level : Level) (tag vr : ℕ) (f : Field Place) → fate s level tag vr ≡ Removed → Gone s level tag vr f
unfolding kept_of
gone s level tag vr f e p es = rw e

pub appears : (s : Settings) (level : Level) (tag vr : ℕ) (f : Field Place) (φ : Fate) → fate s level tag vr ≡ φ → φ ≢ Removed
    → Appears s level tag vr f (kept_field f s level φ)
unfolding kept_of
appears s level tag vr f Removed e n p es = absurd (n refl)
appears s level tag vr f Kept e n p es = rw e
appears s level tag vr f Walked e n p es = rw e
appears s level tag vr f Emptied e n p es = rw e
appears s level tag vr f Dummied e n p es = rw e
appears s level tag vr f Renamed e n p es = rw e
appears s level tag vr f Shifted e n p es = rw e
appears s level tag vr f Wrong e n p es = rw e

counts_of-elem : (s : Settings) (level : Level) (p : Place) (tag vr : ℕ) (f : Field Place) (es : Elements Place) (t : Counts)
    → plus t (counts_of (elem p tag vr f es) s level) ≡ plus (plus t (counts_of (elem p tag vr f nil) s level)) (counts_of es s level)
unfolding counts_of
counts_of-elem s level p tag vr f es t = counts-is (omega arith) (omega arith) (omega arith) (omega arith)

module _ (s : Settings) (level : Level) (tag vr : ℕ) (f : Field Place) (st : State) where
  abbrev slots : Body Uid → List (List ℕ)
  slots body = learns same_uid st.slots (uids_in_body (map_body slot_of body))

  -- the element, written from the slots in use before it
  abbrev field : Body Uid → Field (Unit {0})
  field body = written_field (numbered_body same_uid st.slots (map_body slot_of body)) s level tag vr

  module _ (body : Body Uid) (is : Appears s level tag vr f body) (p : Place) (es : Elements Place) where
    tree-keep : tree_for s level st.slots (elem p tag vr f es) ≡ elem tt tag vr (field body) (tree_for s level (slots body) es)
    unfolding numbered written_of map_content
    tree-keep = ap (λ c. written_of (numbered same_uid st.slots (map_content slot_of c)) s level) (is p es)

    slots-keep : learns same_uid st.slots (uids_in (slotted (elem p tag vr f es) s level)) ≡ learns same_uid (slots body) (uids_in (slotted es s level))
    unfolding map_content uids_in
    slots-keep =
        ap (λ c. learns same_uid st.slots (uids_in (map_content slot_of c))) (is p es)
        ∙ learns-append same_uid st.slots (uids_in_body (map_body slot_of body)) (uids_in (slotted es s level))

  module _ (body : Body Uid) (is : Appears s level tag vr f body) (p : Place) where
    pub one-keep : passed_one s level (elem p tag vr f nil) st
        ≡ state (st.bytes ++ put_field tag vr (field body) []) (slots body) (plus st.tally (counts_of (elem p tag vr f nil) s level))
    unfolding passed_one kept_of numbered written_of map_content uids_in learns bytes_of put_elements
    one-keep = state-is (ap (λ d. st.bytes ++ bytes_of d) (tree-keep body is p nil)) (slots-keep body is p nil) refl

  one-gone : Gone s level tag vr f → (p : Place)
      → passed_one s level (elem p tag vr f nil) st ≡ count st (counts_of (elem p tag vr f nil) s level)
  unfolding passed_one kept_of numbered written_of map_content uids_in learns bytes_of put_elements
  one-gone is p =
      state-is
      (ap (λ c. st.bytes ++ bytes_of (written_of (numbered same_uid st.slots (map_content slot_of c)) s level)) (is p nil) ∙ append-nil st.bytes)
      (ap (λ c. learns same_uid st.slots (uids_in (map_content slot_of c))) (is p nil))
      refl

-- ---- an element, and those after it

regroup : (a g x r : List ℕ) → a ++ (g ++ (x ++ r)) ≡ ((a ++ g) ++ x) ++ r
regroup a g x r = sym (append_assoc (a ++ g) x r ∙ append_assoc a g (x ++ r))

module _ (s : Settings) (level : Level) (low tag vr : ℕ) (f : Field Place) (p : Place) (es : Elements Place) (st : State) (rises : low ≤ tag) where
  abbrev before : State
  before = say st (gained level s.options low (tag + 1))

  pass-keep : (body : Body Uid) → Appears s level tag vr f body → (is_top level ≡ true → Other tag)
      → passed s level low (elem p tag vr f es) st ≡ passed s level (tag + 1) es (passed_one s level (elem p tag vr f nil) before)
  unfolding passed
  pass-keep body is other =
      state-is
      (ap (λ d. st.bytes ++ bytes_of (with_markers_at level s.options low d)) (tree-keep s level tag vr f st body is p es)
      ∙ ap (λ x. st.bytes ++ x) (step-kept (is_top level) s.options low tag vr (field s level tag vr f st body) (tree_for s level (slots s level tag vr f st body) es) rises other)
      ∙ regroup st.bytes (gained level s.options low (tag + 1)) (put_field tag vr (field s level tag vr f st body) []) _)
      (slots-keep s level tag vr f st body is p es)
      (counts_of-elem s level p tag vr f es st.tally)
      ∙ ap (λ z. passed s level (tag + 1) es z) (sym (one-keep s level tag vr f before body is p))

  pass-gone : Gone s level tag vr f → From (tag + 1) (tree_for s level st.slots es)
      → passed s level low (elem p tag vr f es) st ≡ passed s level (tag + 1) es (passed_one s level (elem p tag vr f nil) before)
  unfolding passed
  pass-gone is from =
      state-is
      (ap (λ c. st.bytes ++ bytes_of (with_markers_at level s.options low (written_of (numbered same_uid st.slots (map_content slot_of c)) s level))) (is p es)
      ∙ ap (λ x. st.bytes ++ x) (step-gone (is_top level) s.options low tag (tree_for s level st.slots es) rises (λ _. from))
      ∙ sym (append_assoc st.bytes (gained level s.options low (tag + 1)) _))
      (ap (λ c. learns same_uid st.slots (uids_in (map_content slot_of c))) (is p es))
      (counts_of-elem s level p tag vr f es st.tally)
      ∙ ap (λ z. passed s level (tag + 1) es z) (sym (one-gone s level tag vr f before is p))

  pass-other : (φ : Fate) → fate s level tag vr ≡ φ → φ ≢ Removed
      → passed s level low (elem p tag vr f es) st ≡ passed s level (tag + 1) es (passed_one s level (elem p tag vr f nil) before)
  pass-other φ e n =
      pass-keep (kept_field f s level φ) (appears s level tag vr f φ e n)
      (λ q. marks-other s tag vr (λ r. n (sym e ∙ ap (λ c. fate s c tag vr) (top-is level q) ∙ r)))

  -- an element, and those after it: what the top level gains before it, the element by itself, and the rest
  pub passed-elem : Rises (tag + 1) es
      → passed s level low (elem p tag vr f es) st ≡ passed s level (tag + 1) es (passed_one s level (elem p tag vr f nil) before)
  passed-elem rest = step (fate s level tag vr) refl
    where
      step : (φ : Fate) → fate s level tag vr ≡ φ
          → passed s level low (elem p tag vr f es) st ≡ passed s level (tag + 1) es (passed_one s level (elem p tag vr f nil) before)
      step Removed e = pass-gone (gone s level tag vr f e) (written-from same_uid slot_of s level es st.slots (tag + 1) rest)
      step Kept e = pass-other Kept e (λ q. let z : ◌≡◌ {A = ℕ} 0 1 = cc in omega arith)
      step Walked e = pass-other Walked e (λ q. let z : ◌≡◌ {A = ℕ} 0 1 = cc in omega arith)
      step Emptied e = pass-other Emptied e (λ q. let z : ◌≡◌ {A = ℕ} 0 1 = cc in omega arith)
      step Dummied e = pass-other Dummied e (λ q. let z : ◌≡◌ {A = ℕ} 0 1 = cc in omega arith)
      step Renamed e = pass-other Renamed e (λ q. let z : ◌≡◌ {A = ℕ} 0 1 = cc in omega arith)
      step Shifted e = pass-other Shifted e (λ q. let z : ◌≡◌ {A = ℕ} 0 1 = cc in omega arith)
      step Wrong e = pass-other Wrong e (λ q. let z : ◌≡◌ {A = ℕ} 0 1 = cc in omega arith)

-- ---- the end of a level, and of a sequence's items; an item

pub passed-nil : (s : Settings) (level : Level) (low : ℕ) (st : State) → passed s level low nil st ≡ say st (gained level s.options low 4294967296)
unfolding passed kept_of map_content numbered written_of uids_in learns counts_of
passed-nil s level low st = state-is (ap (λ x. st.bytes ++ x) (step-end (is_top level) s.options low)) refl (plus-nothing st.tally)

pub items-none : (s : Settings) (level : Level) (st : State) → passed_items s level no_item st ≡ say st (mark sequence_end 0)
unfolding passed_items kept_items map_walks numbered_walks written_items uids_in_walks learns counts_items put_items
items-none s level st = state-is (ap (λ x. st.bytes ++ x) (append-nil (mark sequence_end 0))) refl (plus-nothing st.tally)

-- on a level that is not the top one nothing is gained
pub items-item : (s : Settings) (level : Level) → is_top level ≡ false → (es : Elements Place) (is : Items Place) (st : State)
    → passed_items s level (item es is) st ≡ passed_items s level is (say (passed s level 0 es (say st (mark item_tag undefined))) (mark item_end 0))
unfolding passed_items passed kept_items map_walks numbered_walks written_items uids_in_walks counts_items put_items with_markers_if bytes_of
items-item s level inner es is st =
    state-is
    (ap (λ x. st.bytes ++ (mark item_tag undefined ++ x)) (put_elements-on (tree_for s level st.slots es) (mark item_end 0 ++ rest))
    ∙ regroup st.bytes (mark item_tag undefined) (put_elements (tree_for s level st.slots es) []) (mark item_end 0 ++ rest)
    ∙ sym (append_assoc ((st.bytes ++ mark item_tag undefined) ++ put_elements (tree_for s level st.slots es) []) (mark item_end 0) rest)
    ∙ ap (λ b. ((((st.bytes ++ mark item_tag undefined) ++ bytes_of (with_markers_if b s.options 0 (tree_for s level st.slots es))) ++ mark item_end 0) ++ rest)) (sym inner))
    (learns-append same_uid st.slots (uids_in (slotted es s level)) (uids_in_walks (slotted_items is s level)))
    (sym (plus-assoc st.tally (counts_of es s level) (counts_items is s level)))
  where
    rest : List ℕ
    rest = put_items (written_items (numbered_walks same_uid (learns same_uid st.slots (uids_in (slotted es s level))) (slotted_items is s level)) s level) []

-- ---- one element that is not walked into, by its fate

bare-inside : (c : Counts) (φ : Fate) → φ ≢ Walked → inside c φ ≡ nothing
bare-inside c φ n = ap (λ b. pick b c nothing) (walks-not φ n)

one-count : (s : Settings) (level : Level) (p : Place) (tag vr : ℕ) (f : Field Place) (φ : Fate) → fate s level tag vr ≡ φ → φ ≢ Walked
    → counts_of (elem p tag vr f nil) s level ≡ one φ
unfolding counts_of
one-count s level p tag vr f φ e n = rw e (ap (λ c. plus (one φ) (plus c nothing)) (inner-count f) ∙ plus-nothing (one φ))
  where
    inner-count : (f : Field Place) → counts_field f s level φ ≡ nothing
    inner-count (value v) = refl
    inner-count (items is) = bare-inside (counts_items is s (below φ level)) φ n

-- the fates that write an element and do not walk into it
abbrev at_once : Fate → Bool
at_once Removed = false
at_once Kept = true
at_once Walked = false
at_once Emptied = true
at_once Dummied = true
at_once Renamed = true
at_once Shifted = true
at_once Wrong = true

apart : (φ ψ : Fate) → at_once φ ≡ true → at_once ψ ≡ false → φ ≢ ψ
apart φ ψ h k q = false≢true (sym k ∙ ap at_once (sym q) ∙ h)

module _ (s : Settings) (level : Level) (tag vr : ℕ) (p : Place) (st : State) where
  pub one_removed : (f : Field Place) → fate s level tag vr ≡ Removed
      → passed_one s level (elem p tag vr f nil) st ≡ count st (one Removed)
  one_removed f e =
      one-gone s level tag vr f st (gone s level tag vr f e) p
      ∙ ap (count st) (one-count s level p tag vr f Removed e (λ q. absurd (let z : ◌≡◌ {A = ℕ} 0 1 = cc in omega arith)))

  -- it is written as x, from the slots in use before it
  module _ (f : Field Place) (φ : Fate) (e : fate s level tag vr ≡ φ) (once : at_once φ ≡ true) where
    one-as : (x : Field (Unit {0})) (ks : List (List ℕ)) → field s level tag vr f st (kept_field f s level φ) ≡ x → slots s level tag vr f st (kept_field f s level φ) ≡ ks
        → passed_one s level (elem p tag vr f nil) st ≡ state (st.bytes ++ put_field tag vr x []) ks (plus st.tally (one φ))
    one-as x ks written learnt =
        one-keep s level tag vr f st (kept_field f s level φ) (appears s level tag vr f φ e (apart φ Removed once refl)) p
        ∙ state-is (ap (λ y. st.bytes ++ put_field tag vr y []) written) learnt (ap (plus st.tally) (one-count s level p tag vr f φ e (apart φ Walked once refl)))

  -- what is shown of it stays as it is; a replaced value hangs on tag and VR alone; UIDs get their numbers; dates are moved
  pub one_kept : (v : List ℕ) → fate s level tag vr ≡ Kept
      → passed_one s level (elem p tag vr (value v) nil) st ≡ count (say st (element_bytes tag vr (value v))) (one Kept)
  unfolding kept_of numbered written_of map_content uids_in learns
  one_kept v e = one-as (value v) Kept e refl (value v) st.slots (rw e) refl

  pub one-shifted : (v : List ℕ) → fate s level tag vr ≡ Shifted
      → passed_one s level (elem p tag vr (value v) nil) st ≡ count (say st (element_bytes tag vr (value (shifted_as s vr v)))) (one Shifted)
  unfolding kept_of numbered written_of map_content uids_in learns
  one-shifted v e = one-as (value v) Shifted e refl (value (shifted_as s vr v)) st.slots (rw e) refl

  pub one-emptied : (f : Field Place) → fate s level tag vr ≡ Emptied
      → passed_one s level (elem p tag vr f nil) st ≡ count (say st (element_bytes tag vr (emptied_as s tag vr))) (one Emptied)
  unfolding kept_of numbered written_of map_content uids_in learns
  one-emptied (value v) e = one-as (value v) Emptied e refl (emptied_as s tag vr) st.slots (rw e) refl
  one-emptied (items is) e = one-as (items is) Emptied e refl (emptied_as s tag vr) st.slots (rw e) refl

  pub one-dummied : (f : Field Place) → fate s level tag vr ≡ Dummied
      → passed_one s level (elem p tag vr f nil) st ≡ count (say st (element_bytes tag vr (dummied_as s tag vr))) (one Dummied)
  unfolding kept_of numbered written_of map_content uids_in learns
  one-dummied (value v) e = one-as (value v) Dummied e refl (dummied_as s tag vr) st.slots (rw e) refl
  one-dummied (items is) e = one-as (items is) Dummied e refl (dummied_as s tag vr) st.slots (rw e) refl

  pub one_renamed : (v : List ℕ) (us : List Uid) → fate s level tag vr ≡ Renamed → uids_of v ≡ Some us
      → passed_one s level (elem p tag vr (value v) nil) st
      ≡ state (st.bytes ++ element_bytes tag vr (value (uids_text s.root (numbers same_uid st.slots (map slot_of us)))))
      (learns same_uid st.slots (map slot_of us)) (plus st.tally (one Renamed))
  unfolding kept_of numbered written_of map_content uids_in learns
  one_renamed v us e u =
      one-as (value v) Renamed e refl (value (uids_text s.root (numbers same_uid st.slots (map slot_of us)))) (learns same_uid st.slots (map slot_of us))
      (rw u) (rw u)

-- ---- the slots only grow

pub passed-grows : (s : Settings) (level : Level) (low : ℕ) (es : Elements Place) (st : State) → length st.slots ≤ length (passed s level low es st).slots
unfolding passed
passed-grows s level low es st = (learns-length same_uid st.slots (uids_in (slotted es s level))).0

pub items-grow : (s : Settings) (level : Level) (is : Items Place) (st : State) → length st.slots ≤ length (passed_items s level is st).slots
unfolding passed_items
items-grow s level is st = (learns-length same_uid st.slots (uids_in_walks (slotted_items is s level))).0
