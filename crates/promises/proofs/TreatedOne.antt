-- The relation of `specs/Treated.antt` allows one outcome: what is left of a data set, the counts and the UIDs are those of the definitions.
-- So nothing but the right export stands in it. No contract cites this file. Assumes nothing.
--     fate-kept, fate-walked, fate-dummied, fate-renamed, fate-shifted    the fate that each line gives
--     evened-one          a text is evened in one way
--     treated-one         THE LAW, of the elements of a level
use mathlib.Core.Path.{◌≡◌, refl, sym, ap, ap₂, subst, ◌∙◌}
use mathlib.Core.Logic.{◌≢◌, ◌⊎◌, inl, inr}
use mathlib.Core.Bool.{Bool, true, false, false≢true}
use mathlib.Core.List.{List, [], ◌++◌, map}
use Rattle.std.specs.Prelude.{Option, None, Some}
use Prim.Native.Nat.{ℕ, ◌%◌}
use native.Mathlib.Omega.{arith}
use lib.Dec.{eqb}
use lib.ListN.{length}
use borrow.Author.Tests.{eq-eqb, ne_eqb}
use Rattle.basis.specs.Choice.{pick, among}
use Rattle.vr.specs.Names.{DA, DT, SQ, TM, UI}
use Rattle.vr.specs.Vr.{served_by_lists, dummy_of}
use Rattle.layout.specs.Tree.{Field, value, items, nil, elem, Items, none as no_item, item, Data}
use Rattle.table.specs.Action.{action_of}
use Rattle.table.specs.declared.Action.{Action}
use Rattle.table.specs.declared.Action.TheVariants.{Remove, Empty, CleanDates}
use Rattle.uid.specs.NewUid.{uids_text}
use Rattle.calendar.specs.Values.{shifted_value}
use Rattle.lists.specs.Lookup.{asked}
use Rattle.treatment.specs.Settings.{Settings}
use Rattle.treatment.specs.Fates.{as_d as by_d, by_action, is_top, fate_of, fate, below}
use Rattle.treatment.specs.declared.Level.{Level}
use Rattle.treatment.specs.declared.Fate.{Fate}
use Rattle.treatment.specs.declared.Fate.TheVariants.{Removed, Kept, Walked, Emptied, Dummied, Renamed, Shifted, Wrong}
use Rattle.kept.specs.Content.{Body, Content, keep as keeps, map_body, map_content, map_walks, uids_in_body, uids_in, uids_in_walks}
use Rattle.kept.specs.Kept.{Uid, or_none, held_uids, entry, kept_field, kept_of, kept_items}
use Rattle.kept.specs.Fillers.{spaced, listed, or, emptied_as, dummied_as, filler}
use Rattle.kept.specs.Written.{shifted_as, value_as, written_field, written_of, written_items}
use Rattle.kept.specs.Counts.{Counts, nothing, plus, one, counts_field, counts_of, counts_items}
use Rattle.kept.proofs.KeptLaws.{Stays}
use Rattle.promises.specs.Treated.{Keeps, keep, time, WalkedInto, rename, clean, clean_dates, AsD, dummy, Renames, as_d, Listed, Unlisted, Evened, even, odd, one_kept, one_replaced, one_removed, Becomes, same, emptied_listed, emptied as empties, emptied_sequence, dummied_listed, dummied as dummies, dummied_sequence, renamed as renames, date, date_time, Treated, TreatedItems}
use Rattle.promises.proofs.TreatedProof.{counts-eq, plus-nothing}
use Rattle.promises.proofs.TreatedCases.{treated-nil, treated-elem, items-none, items-item}

-- ---- the fate that each line gives

pub fate-kept : (a : Action) (vr : ℕ) → Keeps a vr → by_action a vr ≡ Kept
unfolding among
fate-kept a vr (keep n) = rw (ne_eqb vr SQ n)
fate-kept a vr (time e) = rw e

pub fate-walked : (a : Action) (vr : ℕ) → WalkedInto a → vr ≡ SQ → by_action a vr ≡ Walked
fate-walked a vr keep e = rw e
fate-walked a vr rename e = rw e
fate-walked a vr clean e = rw e
fate-walked a vr clean_dates e = rw e

fate-as_d : (a : Action) (vr : ℕ) → AsD a vr → by_action a vr ≡ by_d vr
unfolding among
fate-as_d a vr dummy = refl
fate-as_d a vr (clean n) = rw (ne_eqb vr SQ n)
fate-as_d a vr (clean_dates n p q m) = rw (ne_eqb vr SQ n, ne_eqb vr DA p, ne_eqb vr DT q, ne_eqb vr TM m)

pub fate-dummied : (a : Action) (vr : ℕ) → AsD a vr → vr ≢ UI → by_action a vr ≡ Dummied
fate-dummied a vr d n = fate-as_d a vr d ∙ rw (ne_eqb vr UI n)

pub fate-renamed : (a : Action) (vr : ℕ) → Renames a vr → vr ≡ UI → by_action a vr ≡ Renamed
fate-renamed a vr rename e = rw e
fate-renamed a vr (as_d d) e = fate-as_d a vr d ∙ rw e

pub fate-shifted : (a : Action) (vr : ℕ) → a ≡ CleanDates → (vr ≡ DA) ⊎ (vr ≡ DT) → by_action a vr ≡ Shifted
unfolding among
fate-shifted a vr e (inl q) = rw (e, q)
fate-shifted a vr e (inr q) = rw (e, q)

-- ---- list values and padding

pub evened-one : (t w : List ℕ) → Evened t w → w ≡ spaced t
unfolding spaced
evened-one t w (even e) = rw (eq-eqb (length t % 2) 0 e)
evened-one t w (odd e) = rw (ne_eqb (length t % 2) 0 (omega arith))

listed-one : (s : Settings) (tag vr : ℕ) (v t : List ℕ) → Listed s tag vr v → or (listed s tag vr) t ≡ v
unfolding listed
listed-one s tag vr v t l = rw (l.0, l.1)

unlisted-one : (s : Settings) (tag vr : ℕ) (t : List ℕ) → Unlisted s tag vr → or (listed s tag vr) t ≡ t
unfolding listed
unlisted-one s tag vr t (inl e) = rw e
unlisted-one s tag vr t (inr e) = step (served_by_lists vr)
  where
    step : (b : Bool) → or (pick b (asked s.study s.site tag) None) t ≡ t
    step true = rw e
    step false = refl

-- no list serves a sequence or a UI
pub served-not : (vr : ℕ) → served_by_lists vr ≡ true → (vr ≢ SQ) × (vr ≢ UI)
unfolding served_by_lists among
served-not vr h = (λ e. false≢true (rw e at h), λ e. false≢true (rw e at h))

-- ---- one element

module _ (s : Settings) (number_for : List ℕ → ℕ) (level : Level) (tag vr : ℕ) where
  -- what became of an element is what its fate makes of it
  record Leaf (f g : Field (Unit {0})) (a : Counts) (vs : List (List ℕ)) : Type 0 where
    φ : Fate
    is : fate s level tag vr ≡ φ
    appears : Stays φ
    wrote : g ≡ written_field (map_body number_for (kept_field f s level φ)) s level tag vr
    counted : a ≡ plus (one φ) (counts_field f s level φ)
    uids-met : vs ≡ uids_in_body (kept_field f s level φ)

  abbrev action : Action
  action = action_of s.options (is_top level) tag

  -- of an element that is emptied or dummied nothing is shown, whatever it held
  emptied-leaf : (f g : Field (Unit {0})) → action ≡ Empty → g ≡ emptied_as s tag vr → Leaf f g one_replaced []
  unfolding fate_of written_field map_body kept_field counts_field uids_in_body
  emptied-leaf (value v) g a e = record { φ = Emptied; is = rw a; appears = tt; wrote = rw (a, e); counted = refl; uids-met = refl }
  emptied-leaf (items is) g a e = record { φ = Emptied; is = rw a; appears = tt; wrote = rw (a, e); counted = refl; uids-met = refl }

  dummied-leaf : (f g : Field (Unit {0})) → AsD action vr → vr ≢ UI → g ≡ dummied_as s tag vr → Leaf f g one_replaced []
  unfolding fate_of written_field map_body kept_field counts_field uids_in_body
  dummied-leaf (value v) g a n e =
      let q : by_action action vr ≡ Dummied = fate-dummied action vr a n in
      record { φ = Dummied; is = q; appears = tt; wrote = e ∙ ap (λ φ. filler s φ tag vr) (sym q); counted = refl; uids-met = refl }
  dummied-leaf (items is) g a n e =
      let q : by_action action vr ≡ Dummied = fate-dummied action vr a n in
      record { φ = Dummied; is = q; appears = tt; wrote = e ∙ ap (λ φ. filler s φ tag vr) (sym q); counted = refl; uids-met = refl }

  shifted-leaf : (v w : List ℕ) → action ≡ CleanDates → (vr ≡ DA) ⊎ (vr ≡ DT) → shifted_value (eqb vr DA) s.shift v ≡ Some w → Leaf (value v) (value w) one_replaced []
  unfolding fate_of written_field map_body kept_field counts_field uids_in_body shifted_as
  shifted-leaf v w a d e =
      let q : by_action action vr ≡ Shifted = fate-shifted action vr a d in
      let x : w ≡ or (shifted_value (eqb vr DA) s.shift v) v = sym (ap (λ (o : Option (List ℕ)). or o v) e) in
      record { φ = Shifted; is = q; appears = tt; wrote = ap value x ∙ ap (λ φ. value (value_as s φ vr v)) (sym q); counted = refl; uids-met = refl }

  listed-filler : (v w t : List ℕ) → Listed s tag vr v → Evened v w → w ≡ spaced (or (listed s tag vr) t)
  listed-filler v w t l e = evened-one v w e ∙ ap spaced (sym (listed-one s tag vr v t l))

  filler-value : (w t : List ℕ) → vr ≢ SQ → w ≡ spaced t → (f : Field (Unit {0})) → value w ≡ pick (eqb vr SQ) f (value (spaced t))
  filler-value w t n e f = rw (ne_eqb vr SQ n) (ap value e)

  becomes-one : {f g : Field (Unit {0})} {a : Counts} {vs : List (List ℕ)} → Becomes s number_for level tag vr f g a vs → Leaf f g a vs
  unfolding fate_of written_field map_body kept_field counts_field uids_in_body emptied_as dummied_as spaced
  becomes-one (same {v} k) =
      let q : by_action action vr ≡ Kept = fate-kept action vr k in
      record { φ = Kept; is = q; appears = tt; wrote = ap (λ φ. value (value_as s φ vr v)) (sym q); counted = refl; uids-met = refl }
  becomes-one (emptied_listed {f} {v} {w} a l e) =
      emptied-leaf f (value w) a (filler-value w (or (listed s tag vr) []) (served-not vr l.0).0 (listed-filler v w [] l e) (items no_item))
  becomes-one (empties {f} a n u) =
      emptied-leaf f (value []) a (filler-value [] (or (listed s tag vr) []) n (ap spaced (sym (unlisted-one s tag vr [] u))) (items no_item))
  becomes-one (emptied_sequence {f} a q) = emptied-leaf f (items no_item) a (rw q)
  becomes-one (dummied_listed {f} {v} {w} a l e) =
      let n = served-not vr l.0 in
      dummied-leaf f (value w) a n.1 (filler-value w (or (listed s tag vr) (dummy_of vr)) n.0 (listed-filler v w (dummy_of vr) l e) (items (item nil no_item)))
  becomes-one (dummies {f} {w} a n m u e) =
      dummied-leaf f (value w) a m
      (filler-value w (or (listed s tag vr) (dummy_of vr)) n (evened-one (dummy_of vr) w e ∙ ap spaced (sym (unlisted-one s tag vr (dummy_of vr) u))) (items (item nil no_item)))
  becomes-one (dummied_sequence {f} a q) = dummied-leaf f (items (item nil no_item)) a (omega arith) (rw q)
  becomes-one (renames {v} {us} a q e) =
      let x : us ≡ held_uids v = sym (ap or_none e) in
      record {
        φ = Renamed;
        is = fate-renamed action vr a (omega arith);
        appears = tt;
        wrote = ap (λ (ws : List (List ℕ)). value (uids_text s.root (map number_for ws))) x;
        counted = refl;
        uids-met = x;
      }
  becomes-one (date {v} {w} a q e) = shifted-leaf v w a (inl q) (rw (eq-eqb vr DA q) e)
  becomes-one (date_time {v} {w} a q e) = shifted-leaf v w a (inr q) (rw (ne_eqb vr DA (omega arith)) e)

-- ---- a level

plus-assoc : (a b c : Counts) → plus (plus a b) c ≡ plus a (plus b c)
plus-assoc a b c = counts-eq _ _ _ _ _ _ _ _ (omega arith) (omega arith) (omega arith) (omega arith)

pub record One (s : Settings) (number_for : List ℕ → ℕ) (level : Level) (es ds : Data) (c : Counts) (us : List (List ℕ)) : Type 0 where
  pub wrote : ds ≡ written_of (map_content number_for (kept_of es s level)) s level
  pub counted : c ≡ counts_of es s level
  pub uids-met : us ≡ uids_in (kept_of es s level)

record OneItems (s : Settings) (number_for : List ℕ → ℕ) (level : Level) (is os : Items (Unit {0})) (c : Counts) (us : List (List ℕ)) : Type 0 where
  wrote : os ≡ written_items (map_walks number_for (kept_items is s level)) s level
  counted : c ≡ counts_items is s level
  uids-met : us ≡ uids_in_walks (kept_items is s level)

entry-keeps : (φ : Fate) (tag vr : ℕ) (b : Fate → Body Uid) (c : Content Uid) → Stays φ → entry φ tag vr b c ≡ keeps tag vr (b φ) c
entry-keeps Removed tag vr b c p = absurd p
entry-keeps Kept tag vr b c p = refl
entry-keeps Walked tag vr b c p = refl
entry-keeps Emptied tag vr b c p = refl
entry-keeps Dummied tag vr b c p = refl
entry-keeps Renamed tag vr b c p = refl
entry-keeps Shifted tag vr b c p = refl
entry-keeps Wrong tag vr b c p = refl

field-removed : (f : Field (Unit {0})) (s : Settings) (level : Level) → counts_field f s level Removed ≡ nothing
unfolding counts_field
field-removed (value v) s level = refl
field-removed (items is) s level = refl

module _ (s : Settings) (number_for : List ℕ → ℕ) (level : Level) (tag vr : ℕ) (f : Field (Unit {0})) (es d : Data) (b : Counts) (ws : List (List ℕ))
    (o : One s number_for level es d b ws) where
  gone-one : action_of s.options (is_top level) tag ≡ Remove → One s number_for level (elem tt tag vr f es) d (plus one_removed b) ws
  unfolding fate_of kept_of counts_of
  gone-one a = record {
    wrote = rw a o.wrote;
    counted = rw a (ap (plus one_removed) (o.counted ∙ plus-nothing (counts_of es s level) ∙ ap (λ (x : Counts). plus x (counts_of es s level)) (sym (field-removed f s level))));
    uids-met = rw a o.uids-met;
  }

  stays-one : (g : Field (Unit {0})) (a : Counts) (vs : List (List ℕ)) → Leaf s number_for level tag vr f g a vs
      → One s number_for level (elem tt tag vr f es) (elem tt tag vr g d) (plus a b) (vs ++ ws)
  unfolding kept_of counts_of written_of map_content uids_in
  stays-one g a vs x =
      let c : Content Uid = kept_of es s level in
      let body : Fate → Body Uid = λ φ. kept_field f s level φ in
      let e : keeps tag vr (body x.φ) c ≡ entry (fate s level tag vr) tag vr body c =
      sym (entry-keeps x.φ tag vr body c x.appears) ∙ ap (λ φ. entry φ tag vr body c) (sym x.is) in
      record {
        wrote = ap₂ (elem tt tag vr) x.wrote o.wrote ∙ ap (λ (k : Content Uid). written_of (map_content number_for k) s level) e;
        counted =
            ap₂ plus x.counted o.counted ∙ plus-assoc (one x.φ) (counts_field f s level x.φ) (counts_of es s level)
            ∙ ap (λ φ. plus (one φ) (plus (counts_field f s level φ) (counts_of es s level))) (sym x.is);
        uids-met = ap₂ ◌++◌ x.uids-met o.uids-met ∙ ap (λ (k : Content Uid). uids_in k) e;
      }

walked-leaf : (s : Settings) (number_for : List ℕ → ℕ) (level : Level) (tag vr : ℕ) (is os : Items (Unit {0})) (a : Counts) (vs : List (List ℕ))
    → WalkedInto (action_of s.options (is_top level) tag) → vr ≡ SQ → OneItems s number_for (below Walked level) is os a vs
    → Leaf s number_for level tag vr (items is) (items os) (plus one_kept a) vs
unfolding fate_of written_field map_body kept_field counts_field uids_in_body
walked-leaf s number_for level tag vr is os a vs w q o = record {
  φ = Walked;
  is = fate-walked (action_of s.options (is_top level) tag) vr w q;
  appears = tt;
  wrote = ap items o.wrote ∙ ap (λ φ. items (written_items (map_walks number_for (kept_items is s (below Walked level))) s (below φ level))) (sym (fate-walked (action_of s.options (is_top level) tag) vr w q));
  counted = ap (plus one_kept) o.counted;
  uids-met = o.uids-met;
}

mutual
  unfolding kept_of counts_of written_of map_content uids_in

  field-one : (f : Field (Unit {0})) (s : Settings) (number_for : List ℕ → ℕ) (level : Level) (tag vr : ℕ) (is os : Items (Unit {0})) (a : Counts) (vs : List (List ℕ))
      → f ≡ items is → WalkedInto (action_of s.options (is_top level) tag) → vr ≡ SQ → TreatedItems s number_for (below Walked level) is os a vs
      → Leaf s number_for level tag vr f (items os) (plus one_kept a) vs
  field-one (value v) s number_for level tag vr is os a vs e w q t = absurd (let z : ◌≡◌ {A = ℕ} 0 1 = cc in omega arith)
  field-one (items js) s number_for level tag vr is os a vs e w q t =
      let k : is ≡ js = cc in
      walked-leaf s number_for level tag vr js os a vs w q (items-one js s number_for (below Walked level) os a vs (rw k at t))

  pub treated-one : (es : Data) (s : Settings) (number_for : List ℕ → ℕ) (level : Level) (ds : Data) (c : Counts) (us : List (List ℕ))
      → Treated s number_for level es ds c us → One s number_for level es ds c us
  treated-one nil s number_for level ds c us t = treated-nil s number_for (One s number_for level nil) (record { wrote = refl; counted = refl; uids-met = refl }) t
  treated-one (elem l tag vr f es) s number_for level ds c us t =
      treated-elem s number_for (One s number_for level (elem l tag vr f es))
      (λ d b ws a k. gone-one s number_for level tag vr f es d b ws (treated-one es s number_for level d b ws k) a)
      (λ is os d a b vs ws e w q i k. subst (λ (x : Counts). One s number_for level (elem l tag vr f es) (elem tt tag vr (items os) d) x (vs ++ ws)) (plus-assoc one_kept a b)
      (stays-one s number_for level tag vr f es d b ws (treated-one es s number_for level d b ws k) (items os) (plus one_kept a) vs
      (field-one f s number_for level tag vr is os a vs e w q i)))
      (λ g d a b vs ws h k. stays-one s number_for level tag vr f es d b ws (treated-one es s number_for level d b ws k) g a vs (becomes-one s number_for level tag vr h)) t

  items-one : (is : Items (Unit {0})) (s : Settings) (number_for : List ℕ → ℕ) (level : Level) (os : Items (Unit {0})) (c : Counts) (us : List (List ℕ))
      → TreatedItems s number_for level is os c us → OneItems s number_for level is os c us
  items-one no_item s number_for level os c us t = items-none s number_for (OneItems s number_for level no_item) (record { wrote = refl; counted = refl; uids-met = refl }) t
  items-one (item es is) s number_for level os c us t =
      items-item s number_for (OneItems s number_for level (item es is))
      (λ d js a b vs ws k i.
      let x = treated-one es s number_for level d a vs k in
      let y = items-one is s number_for level js b ws i in
      record { wrote = ap₂ item x.wrote y.wrote; counted = ap₂ plus x.counted y.counted; uids-met = ap₂ ◌++◌ x.uids-met y.uids-met }) t
