-- What is left of a data set holds nothing that is removed on its level, and the export is that with the markers: `specs/Demand2.antt`,
-- `specs/Markers.antt`. No contract cites this file. Assumes nothing.
--     treated-none-removed     nothing that is removed is left, at any depth
--     with_markers-gains            the top level gains the three markers
use mathlib.Core.Path.{◌≡◌, refl, sym, subst}
use mathlib.Core.Logic.{◌≢◌}
use mathlib.Core.Bool.{true}
use mathlib.Core.List.{List, [], ◌∷◌}
use Prim.Native.Nat.{ℕ}
use native.Mathlib.Omega.{arith}
use lib.Dec.{ltb}
use borrow.Author.Tests.{ltb-true, ltb-false}
use Rattle.basis.specs.Choice.{among}
use Rattle.basis.specs.Text.{ascii}
use Rattle.vr.specs.Names.{CS, SQ}
use Rattle.layout.specs.Tree.{Field, value, items, nil, elem, Items, none as no_item, item, Data}
use Rattle.table.specs.Rules.{reserved, patient_identity_removed_tag, deidentification_codes_tag, longitudinal_time_tag}
use Rattle.table.specs.Action.{action_of}
use Rattle.table.specs.declared.Action.{Action}
use Rattle.table.specs.declared.Action.TheVariants.{Remove, Keep, Empty, Dummy, Rename, Clean, CleanDates}
use Rattle.table.proofs.ActionLaws.{reserved-removed}
use Rattle.options.specs.Options.{options, code_of, meaning_of, basic_code, basic_meaning, is_chosen, chosen_in}
use Rattle.options.specs.Settings.{date_word}
use Rattle.options.specs.declared.Opt.{Opt}
use Rattle.treatment.specs.Settings.{Settings}
use Rattle.treatment.specs.Fates.{is_top, below}
use Rattle.treatment.specs.declared.Level.{Level}
use Rattle.treatment.specs.declared.Level.TheVariants.{Top}
use Rattle.treatment.specs.declared.Fate.TheVariants.{Walked}
use Rattle.kept.specs.Counts.{Counts}
use Rattle.kept.specs.Fillers.{spaced}
use Rattle.kept.specs.Markers.{text, code_item as code_item_of, option_items, codes, insert, with_markers}
use Rattle.kept.proofs.MarkersLaws.{fork-case, Absent}
use Rattle.promises.specs.Treated.{Keeps, keep, time, WalkedInto, rename, clean, clean_dates, AsD, dummy, Renames, as_d, Becomes, same, emptied_listed, emptied, emptied_sequence, dummied_listed, dummied, dummied_sequence, renamed, date, date_time, Treated, TreatedItems}
use Rattle.promises.specs.Markers.{Gains, last as at_last, before, after, CodeItem, code_item, OptionItems, none, chosen, other, GainsMarkers}
use Rattle.promises.specs.Demand2.{NoneRemovedField, NoneRemoved, NoneRemovedItems}
use Rattle.promises.proofs.TreatedProof.{evened}
use Rattle.promises.proofs.TreatedCases.{treated-nil, treated-elem, items-none, items-item}

-- ---- nothing that is removed is left

abbrev NotRemove : Action → Type 0
NotRemove Remove = ⊥
NotRemove Keep = Unit {0}
NotRemove Empty = Unit {0}
NotRemove Dummy = Unit {0}
NotRemove Rename = Unit {0}
NotRemove Clean = Unit {0}
NotRemove CleanDates = Unit {0}

not-remove : {a : Action} → NotRemove a → a ≢ Remove
not-remove h e = subst NotRemove e h

is-not : {a b : Action} → a ≡ b → NotRemove b → NotRemove a
is-not e h = subst NotRemove (sym e) h

keeps-not : {a : Action} {vr : ℕ} → Keeps a vr → NotRemove a
keeps-not (keep n) = tt
keeps-not (time e) = tt

walked-not : {a : Action} → WalkedInto a → NotRemove a
walked-not keep = tt
walked-not rename = tt
walked-not clean = tt
walked-not clean_dates = tt

as_d-not : {a : Action} {vr : ℕ} → AsD a vr → NotRemove a
as_d-not dummy = tt
as_d-not (clean n) = tt
as_d-not (clean_dates n m p q) = tt

renames-not : {a : Action} {vr : ℕ} → Renames a vr → NotRemove a
renames-not rename = tt
renames-not (as_d d) = as_d-not d

becomes-not : {s : Settings} {number_for : List ℕ → ℕ} {level : Level} {tag vr : ℕ} {f g : Field (Unit {0})} {c : Counts} {us : List (List ℕ)}
    → Becomes s number_for level tag vr f g c us → NotRemove (action_of s.options (is_top level) tag) × NoneRemovedField g s.options level
unfolding NoneRemovedField NoneRemoved NoneRemovedItems
becomes-not (same k) = (keeps-not k, tt)
becomes-not (emptied_listed a l e) = (is-not a tt, tt)
becomes-not (emptied a n u) = (is-not a tt, tt)
becomes-not (emptied_sequence a q) = (is-not a tt, tt)
becomes-not (dummied_listed a l e) = (as_d-not a, tt)
becomes-not (dummied a n m u e) = (as_d-not a, tt)
becomes-not (dummied_sequence a q) = (as_d-not a, (tt, tt))
becomes-not (renamed a q u) = (renames-not a, tt)
becomes-not (date a q e) = (is-not a tt, tt)
becomes-not (date_time a q e) = (is-not a tt, tt)

module _ (s : Settings) (number_for : List ℕ → ℕ) where
  mutual
    unfolding NoneRemovedField NoneRemoved NoneRemovedItems

    field-none-removed : (f : Field (Unit {0})) (level : Level) (is os : Items (Unit {0})) (c : Counts) (us : List (List ℕ)) → f ≡ items is → TreatedItems s number_for level is os c us
        → NoneRemovedItems os s.options level
    field-none-removed (value v) level is os c us e i = absurd (let z : ◌≡◌ {A = ℕ} 0 1 = cc in omega arith)
    field-none-removed (items js) level is os c us e i =
        let q : is ≡ js = cc in
        items-none-removed js level os c us (rw q at i)

    pub treated-none-removed : (es : Data) (level : Level) (ds : Data) (c : Counts) (us : List (List ℕ)) → Treated s number_for level es ds c us → NoneRemoved ds s.options level
    treated-none-removed nil level ds c us t = treated-nil s number_for (λ d _ _. NoneRemoved d s.options level) tt t
    treated-none-removed (elem l tag vr f es) level ds c us t =
        treated-elem s number_for (λ d _ _. NoneRemoved d s.options level)
        (λ d b ws a k. treated-none-removed es level d b ws k)
        (λ is os d a b vs ws e w q i k. (not-remove (walked-not w), field-none-removed f (below Walked level) is os a vs e i, treated-none-removed es level d b ws k))
        (λ g d a b vs ws h k. (not-remove (becomes-not h).0, (becomes-not h).1, treated-none-removed es level d b ws k)) t

    items-none-removed : (is : Items (Unit {0})) (level : Level) (os : Items (Unit {0})) (c : Counts) (us : List (List ℕ)) → TreatedItems s number_for level is os c us
        → NoneRemovedItems os s.options level
    items-none-removed no_item level os c us t = items-none s number_for (λ o _ _. NoneRemovedItems o s.options level) tt t
    items-none-removed (item es is) level os c us t =
        items-item s number_for (λ o _ _. NoneRemovedItems o s.options level)
        (λ d js a b vs ws k i. (treated-none-removed es level d a vs k, items-none-removed is level js b ws i)) t

-- ---- the markers

-- so the tags of the markers do not stand on the top level
reserved-absent : (options mark : ℕ) → among mark reserved ≡ true → (ds : Data) → NoneRemoved ds options Top → Absent mark ds
unfolding NoneRemoved Absent
reserved-absent options mark is nil n = tt
reserved-absent options mark is (elem l t v f ds) n = (λ e. n.0 (reserved-removed options t (rw e at is)), reserved-absent options mark is ds n.2)

module _ (tag vr : ℕ) (f : Field (Unit {0})) where
  insert-gains : (ds : Data) → Absent tag ds → Gains tag vr f ds (insert tag vr f ds)
  unfolding insert Absent
  insert-gains nil a = at_last
  insert-gains (elem l t v g ds) a =
      fork-case (Gains tag vr f (elem l t v g ds)) (ltb tag t) (λ _. elem tt tag vr f (elem l t v g ds)) (λ _. elem l t v g (insert tag vr f ds))
      (λ e. before (ltb-true tag t e))
      (λ e. after {t = t} (let n : tag ≢ t = a.0 in omega (arith, ltb-false tag t e)) (insert-gains ds a.1))

  gains-absent : (m : ℕ) → m ≢ tag → {ds es : Data} → Gains tag vr f ds es → Absent m ds → Absent m es
  unfolding Absent
  gains-absent m n at_last a = (n, tt)
  gains-absent m n (before lt) a = (n, a)
  gains-absent m n (after lt g) a = (a.0, gains-absent m n g a.1)

code-item : (code meaning : List ℕ) → CodeItem code meaning (code_item_of code meaning)
unfolding code_item_of spaced
code-item code meaning = code_item (evened code) (evened meaning)

option-items : (number : ℕ) (os : List Opt) → OptionItems number os (option_items (chosen_in number os))
unfolding option_items chosen_in
option-items number [] = none
option-items number (o ∷ os) =
    fork-case (λ (l : List Opt). OptionItems number (o ∷ os) (option_items l)) (is_chosen number o) (λ _. o ∷ chosen_in number os) (λ _. chosen_in number os)
    (λ e. chosen e (code-item (code_of o) (meaning_of o)) (option-items number os)) (λ e. other e (option-items number os))

pub with_markers-gains : (number : ℕ) (ds : Data) → NoneRemoved ds number Top → GainsMarkers number ds (with_markers number ds)
unfolding with_markers codes spaced among
with_markers-gains number ds n =
    let dated : Data = insert longitudinal_time_tag CS (text (date_word number)) ds in
    let coded : Data = insert deidentification_codes_tag SQ (items (codes number)) dated in
    let w : Gains longitudinal_time_tag CS (text (date_word number)) ds dated = insert-gains longitudinal_time_tag CS (text (date_word number)) ds (reserved-absent number longitudinal_time_tag refl ds n) in
    let a : Absent deidentification_codes_tag dated = gains-absent longitudinal_time_tag CS (text (date_word number)) deidentification_codes_tag (omega arith) w (reserved-absent number deidentification_codes_tag refl ds n) in
    let k : Gains deidentification_codes_tag SQ (items (codes number)) dated coded = insert-gains deidentification_codes_tag SQ (items (codes number)) dated a in
    let b : Absent patient_identity_removed_tag dated = gains-absent longitudinal_time_tag CS (text (date_word number)) patient_identity_removed_tag (omega arith) w (reserved-absent number patient_identity_removed_tag refl ds n) in
    record {
      word = spaced (date_word number);
      word_is = evened (date_word number);
      dated = dated;
      gains_word = w;
      profile = code_item_of basic_code basic_meaning;
      profile_is = code-item basic_code basic_meaning;
      chosen = option_items (chosen_in number options);
      chosen_are = option-items number options;
      coded = coded;
      gains_codes = k;
      gains_yes = insert-gains patient_identity_removed_tag CS (text (ascii "YES")) coded (gains-absent deidentification_codes_tag SQ (items (codes number)) patient_identity_removed_tag (omega arith) k b);
    }
