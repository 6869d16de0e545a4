-- Laws of `specs/Markers.antt`. No contract cites this file. Assumes nothing.
--     Absent tag d       the tag does not stand on this level
--     WithoutMarkers d         none of the tags that are taken off the top level stands on this one, so none of the three that it gains
--     insert-made        an element more, where its tag may stand and does not, keeps a data set well-made
--     insert-inj         ... and can be taken out again
--     with_markers-made, with_markers-inj    the same of the three
use mathlib.Core.Path.{◌≡◌, refl, ap, sym, ◌∙◌}
use mathlib.Core.Logic.{◌≢◌}
use mathlib.Core.Bool.{Bool, true, false}
use mathlib.Core.List.{List, [], ◌∷◌}
use Prim.Native.Nat.{ℕ, ◌+◌, ◌-◌, ◌≤◌, ◌<◌}
use native.Mathlib.Omega.{arith}
use lib.Dec.{eqb, ltb}
use lib.ListN.{length}
use borrow.Author.Tests.{ne_eqb, eq-eqb, ltb-true, ltb-false}
use Rattle.basis.specs.Choice.{pick, fork, among}
use Rattle.basis.specs.Text.{ascii}
use Rattle.basis.proofs.ChoiceLaws.{pick-case}
use Rattle.vr.specs.Names.{CS, LO, SH, SQ}
use Rattle.vr.specs.Vr.{all_vrs}
use Rattle.table.specs.Rules.{reserved, patient_identity_removed_tag, deidentification_codes_tag, longitudinal_time_tag}
use Rattle.layout.specs.Tree.{Field, items, nil, elem, Data}
use Rattle.layout.specs.Heads.{allowed}
use Rattle.layout.specs.Made.{Made, MadeField, MadeItems}
use Rattle.options.specs.Options.{code_of, meaning_of, basic_code, basic_meaning, chosen, is_chosen}
use Rattle.options.specs.Settings.{date_word}
use Rattle.options.specs.declared.Opt.{Opt}
use Rattle.options.specs.declared.Opt.TheVariants.{FullDates, ModifiedDates}
use Rattle.options.proofs.OptionsLaws.{code_of-length, meaning_of-length}
use Rattle.lists.specs.Lists.{most_value}
use Rattle.kept.specs.Markers.{text, code_item, option_items, codes, insert, with_markers}
use Rattle.kept.proofs.FillersLaws.{value-made}

pub fork-case : {A : Type 0} (P : A → Type 0) (b : Bool) (x y : Unit {0} → A) → (b ≡ true → P (x tt)) → (b ≡ false → P (y tt)) → P (fork b x y)
fork-case P true x y f g = f refl
fork-case P false x y f g = g refl

-- ---- code_item, codes

text-made : (depth vr : ℕ) (t : List ℕ) → among vr all_vrs ≡ true → vr ≢ SQ → length t ≤ most_value → MadeField {L = Unit {0}} depth vr (text t)
text-made depth vr t is n h = value-made depth vr t is n h

code_item-made : (depth : ℕ) (code meaning : List ℕ) → length code ≤ most_value → length meaning ≤ most_value → Made depth 0 (code_item code meaning)
unfolding code_item Made allowed among
code_item-made depth code meaning h k = (
  omega arith,
  refl,
  text-made depth SH code refl (omega arith) h,
  (
    omega arith,
    refl,
    text-made depth SH (ascii "DCM") refl (omega arith) (omega arith),
    (
      omega arith,
      refl,
      text-made depth LO meaning refl (omega arith) k,
      tt,
    ),
  ),
)

option_items-made : (depth : ℕ) → 0 < depth → (os : List Opt) → MadeItems depth (option_items os)
unfolding option_items Made
option_items-made depth pos [] = tt
option_items-made depth pos (o ∷ os) = (
  pos,
  code_item-made (depth - 1) (code_of o) (meaning_of o) (omega (arith, code_of-length o)) (meaning_of-length o).1,
  option_items-made depth pos os,
)

codes-made : (depth number : ℕ) → 0 < depth → MadeItems depth (codes number)
unfolding codes Made
codes-made depth number pos = (pos, code_item-made (depth - 1) basic_code basic_meaning (omega arith) (omega arith), option_items-made depth pos (chosen number))

date_word-length : (number : ℕ) → length (date_word number) ≤ most_value
unfolding date_word
date_word-length number =
    pick-case (λ t. length t ≤ most_value) (is_chosen number FullDates) (ascii "UNMODIFIED") (pick (is_chosen number ModifiedDates) (ascii "MODIFIED") (ascii "REMOVED")) (λ _. omega arith)
    (λ _. pick-case (λ t. length t ≤ most_value) (is_chosen number ModifiedDates) (ascii "MODIFIED") (ascii "REMOVED") (λ _. omega arith) (λ _. omega arith))

-- ---- insert

unfoldable pub Absent : ℕ → Data → Type 0
Absent tag nil = Unit {0}
Absent tag (elem l t v f d) = (tag ≢ t) × Absent tag d

-- the data set without the elements of a tag
unfoldable without : ℕ → Data → Data
without tag nil = nil
without tag (elem l t v f d) = pick (eqb tag t) (without tag d) (elem l t v f (without tag d))

module _ (tag vr : ℕ) (f : Field (Unit {0})) where
  pub insert-made : (d : Data) (depth low : ℕ) → low ≤ tag → allowed tag ≡ true → MadeField depth vr f → Absent tag d → Made depth low d
      → Made depth low (insert tag vr f d)
  unfolding insert Made Absent
  insert-made nil depth low h may g a m = (h, may, g, tt)
  insert-made (elem l t v x d) depth low h may g a m =
      fork-case (Made depth low) (ltb tag t) (λ _. elem tt tag vr f (elem l t v x d)) (λ _. elem l t v x (insert tag vr f d))
      (λ e. (h, may, g, (omega (arith, ltb-true tag t e), m.1, m.2, m.3)))
      (λ e. (m.0, m.1, m.2, insert-made d depth (t + 1) (let q : tag ≢ t = a.0 in omega (arith, ltb-false tag t e)) may g a.1 m.3))

  insert-absent : (other : ℕ) → other ≢ tag → (d : Data) → Absent other d → Absent other (insert tag vr f d)
  unfolding insert Absent
  insert-absent other n nil a = (n, tt)
  insert-absent other n (elem l t v x d) a =
      fork-case (Absent other) (ltb tag t) (λ _. elem tt tag vr f (elem l t v x d)) (λ _. elem l t v x (insert tag vr f d))
      (λ _. (n, a)) (λ _. (a.0, insert-absent other n d a.1))

  without-insert : (d : Data) → without tag (insert tag vr f d) ≡ without tag d
  unfolding insert without
  without-insert nil = rw (eq-eqb tag tag refl)
  without-insert (elem l t v x d) =
      fork-case (λ e. without tag e ≡ without tag (elem l t v x d)) (ltb tag t) (λ _. elem tt tag vr f (elem l t v x d)) (λ _. elem l t v x (insert tag vr f d))
      (λ _. rw (eq-eqb tag tag refl)) (λ _. ap (λ (e : Data). pick (eqb tag t) e (elem l t v x e)) (without-insert d))

without-absent : (tag : ℕ) (d : Data) → Absent tag d → without tag d ≡ d
unfolding without Absent
without-absent tag nil a = refl
without-absent tag (elem l t v x d) a = rw (ne_eqb tag t a.0) (ap (elem l t v x) (without-absent tag d a.1))

pub insert-inj : (tag vr : ℕ) (f : Field (Unit {0})) (d e : Data) → Absent tag d → Absent tag e → insert tag vr f d ≡ insert tag vr f e → d ≡ e
insert-inj tag vr f d e a b q =
    sym (without-absent tag d a) ∙ sym (without-insert tag vr f d) ∙ ap (without tag) q ∙ without-insert tag vr f e ∙ without-absent tag e b

-- ---- with_markers

abbrev pub WithoutMarkers : Data → Type 0
WithoutMarkers d = (tag : ℕ) → among tag reserved ≡ true → Absent tag d

module _ (number : ℕ) where
  -- with the last of the three, and with the last two
  dated : Data → Data
  dated d = insert longitudinal_time_tag CS (text (date_word number)) d

  coded : Data → Data
  coded d = insert deidentification_codes_tag SQ (items (codes number)) (dated d)

  dated-absent : (d : Data) → WithoutMarkers d → Absent deidentification_codes_tag (dated d)
  unfolding dated among
  dated-absent d u = insert-absent longitudinal_time_tag CS (text (date_word number)) deidentification_codes_tag (omega arith) d (u deidentification_codes_tag refl)

  coded-absent : (d : Data) → WithoutMarkers d → Absent patient_identity_removed_tag (coded d)
  unfolding coded dated among
  coded-absent d u =
      insert-absent deidentification_codes_tag SQ (items (codes number)) patient_identity_removed_tag (omega arith) (dated d)
      (insert-absent longitudinal_time_tag CS (text (date_word number)) patient_identity_removed_tag (omega arith) d (u patient_identity_removed_tag refl))

  pub with_markers-made : (depth : ℕ) → 0 < depth → (d : Data) → WithoutMarkers d → Made depth 0 d → Made depth 0 (with_markers number d)
  unfolding with_markers coded dated Made allowed among
  with_markers-made depth pos d u m =
      insert-made patient_identity_removed_tag CS (text (ascii "YES")) (coded d) depth 0 (omega arith) refl
      (text-made depth CS (ascii "YES") refl (omega arith) (omega arith)) (coded-absent d u)
      (insert-made deidentification_codes_tag SQ (items (codes number)) (dated d) depth 0 (omega arith) refl (refl, codes-made depth number pos) (dated-absent d u)
      (insert-made longitudinal_time_tag CS (text (date_word number)) d depth 0 (omega arith) refl
      (text-made depth CS (date_word number) refl (omega arith) (date_word-length number)) (u longitudinal_time_tag refl) m))

  pub with_markers-inj : (d e : Data) → WithoutMarkers d → WithoutMarkers e → with_markers number d ≡ with_markers number e → d ≡ e
  unfolding with_markers coded dated among
  with_markers-inj d e u w q =
      insert-inj longitudinal_time_tag CS (text (date_word number)) d e (u longitudinal_time_tag refl) (w longitudinal_time_tag refl)
      (insert-inj deidentification_codes_tag SQ (items (codes number)) (dated d) (dated e) (dated-absent d u) (dated-absent e w)
      (insert-inj patient_identity_removed_tag CS (text (ascii "YES")) (coded d) (coded e) (coded-absent d u) (coded-absent e w) q))
