-- Laws of `specs/Element.antt`, on what stands in the place of a replaced value. No contract cites this file. Assumes nothing.
--     emptied-any, dummied-any                 of the settings only the lists matter
--     length-asked                             what a list gives has at most 64 bytes
--     length-listed, length-dummied            so what stands for a value has, too
--     emptied_listed, emptied-bare             Z, where the lists serve the VR, and where they don't
--     dummied-value, dummied_sequence          D, of a VR other than SQ, and of SQ
--     blank_sequence                           a sequence with one empty item, piece by piece
--     emptied_laws, found_laws, dummied_laws   what `put_emptied`, `dummied_value` and `put_dummied` need
--     emptied-length, dummied-length           an element that was replaced has at most 78 bytes
use mathlib.Core.Path.{◌≡◌, refl, sym, ap, ◌∙◌}
use mathlib.Core.Bool.{Bool, true, false, false≢true}
use mathlib.Core.List.{List, [], ◌++◌, append-nil}
use mathlib.Core.Logic.{◌≢◌}
use Rattle.std.specs.Prelude.{Option, None, Some}
use Prim.Native.Nat.{ℕ, ◌+◌, ◌≤◌}
use native.Mathlib.Omega.{arith}
use borrow.Author.Tests.{ne_eqb}
use lib.Dec.{eqb}
use lib.ListN.{length, length-append}
use Rattle.basis.specs.Choice.{pick, among}
use Rattle.basis.proofs.ChoiceLaws.{pick-case}
use Rattle.buffer.specs.Buffer.{laid}
use Rattle.buffer.proofs.Laws.{laid-more}
use Rattle.vr.specs.Names.{SQ}
use Rattle.vr.specs.Vr.{served_by_lists, dummy_of}
use Rattle.vr.proofs.VrLaws.{dummy_of-short, dummy_of-front}
use Rattle.layout.specs.Tree.{Field, value, items, nil, none as no_item, item}
use Rattle.layout.specs.Heads.{item_tag, item_end, sequence_end, undefined}
use Rattle.layout.specs.Write.{mark, header, put_elements, put_field, put_sequence, put_items}
use Rattle.lists.specs.Lists.{most_value}
use Rattle.lists.specs.Lookup.{asked, bytes_or}
use Rattle.lists.proofs.LookupLaws.{asked-length, asked-none, asked-some}
use Rattle.treatment.specs.Settings.{Settings}
use Rattle.kept.specs.Fillers.{spaced, listed, or, emptied_as, dummied_as}
use Rattle.kept.proofs.FillersLaws.{spaced-length, listed-length}
use Rattle.write_values.specs.Element.{element_bytes, with_lists}
use Rattle.write_values.proofs.ElementLaws.{length-header, length-value}

-- ---- only the lists matter

pub emptied-any : (w : Settings) (tag vr : ℕ) → emptied_as (with_lists w.study w.site) tag vr ≡ emptied_as w tag vr
unfolding emptied_as listed
emptied-any w tag vr = refl

pub dummied-any : (w : Settings) (tag vr : ℕ) → dummied_as (with_lists w.study w.site) tag vr ≡ dummied_as w tag vr
unfolding dummied_as listed
dummied-any w tag vr = refl

-- ---- lengths

pub length-asked : (study site : List ℕ) (tag : ℕ) → length (bytes_or (asked study site tag)) ≤ most_value
length-asked study site tag = step (asked study site tag) refl
  where
    step : (x : Option (List ℕ)) → asked study site tag ≡ x → length (bytes_or x) ≤ most_value
    step None e = omega arith
    step (Some v) e = (asked-length study site tag v e).1

or-short : (x : Option (List ℕ)) (t : List ℕ) → ((v : List ℕ) → x ≡ Some v → length v ≤ most_value) → length t ≤ most_value → length (or x t) ≤ most_value
or-short None t f h = h
or-short (Some v) t f h = f v refl

module _ (w : Settings) (tag vr : ℕ) where
  pub length-listed : length (or (listed w tag vr) []) ≤ most_value
  length-listed = or-short (listed w tag vr) [] (listed-length w tag vr) (omega arith)

  pub length-dummied : length (or (listed w tag vr) (dummy_of vr)) ≤ most_value
  length-dummied = or-short (listed w tag vr) (dummy_of vr) (listed-length w tag vr) (omega (arith, dummy_of-short vr))

-- ---- emptied_as and dummied_as, case by case

sq-unserved : served_by_lists SQ ≡ false
unfolding served_by_lists among
sq-unserved = refl

served-value : (vr : ℕ) → served_by_lists vr ≡ true → vr ≢ SQ
served-value vr e is = false≢true (sym sq-unserved ∙ ap served_by_lists (sym is) ∙ e)

or-none : (x : Option (List ℕ)) → or x [] ≡ bytes_or x
or-none None = refl
or-none (Some v) = refl

module _ (study site : List ℕ) (tag vr : ℕ) where
  pub emptied_listed : served_by_lists vr ≡ true → emptied_as (with_lists study site) tag vr ≡ value (spaced (bytes_or (asked study site tag)))
  unfolding emptied_as listed
  emptied_listed e = rw (ne_eqb vr SQ (served-value vr e), e) (ap (λ z. value (spaced z)) (or-none (asked study site tag)))

  pub emptied-bare : served_by_lists vr ≡ false → element_bytes tag vr (emptied_as (with_lists study site) tag vr) ≡ header tag vr 0
  unfolding emptied_as listed spaced put_field put_sequence
  emptied-bare e = rw e (step (eqb vr SQ))
    where
      step : (b : Bool) → element_bytes tag vr (pick b (items no_item) (value [])) ≡ header tag vr 0
      step true = append-nil (header tag vr 0)
      step false = append-nil (header tag vr 0)

module _ (w : Settings) (tag vr : ℕ) where
  pub dummied-value : vr ≢ SQ → value (spaced (or (listed w tag vr) (dummy_of vr))) ≡ dummied_as w tag vr
  unfolding dummied_as
  dummied-value n = rw (ne_eqb vr SQ n) refl

  pub dummied_sequence : vr ≡ SQ → element_bytes tag SQ (items (item nil no_item)) ≡ element_bytes tag vr (dummied_as w tag vr)
  unfolding dummied_as
  dummied_sequence e = rw e refl

-- a sequence with one empty item, piece by piece
pub blank_sequence : (tag : ℕ) (o : List ℕ) (pos p q a r : ℕ) (o₁ o₂ o₃ o₄ : List ℕ)
    → (p ≡ pos + length (header tag SQ undefined)) × (o₁ ≡ laid o pos (header tag SQ undefined))
    → (q ≡ p + 8) × (o₂ ≡ laid o₁ p (mark item_tag undefined))
    → (a ≡ q + 8) × (o₃ ≡ laid o₂ q (mark item_end 0))
    → (r ≡ a + 8) × (o₄ ≡ laid o₃ a (mark sequence_end 0))
    → (r ≡ pos + length (element_bytes tag SQ (items (item nil no_item))))
    × (o₄ ≡ laid o pos (element_bytes tag SQ (items (item nil no_item))))
unfolding mark put_elements put_field put_sequence put_items
blank_sequence tag o pos p q a r o₁ o₂ o₃ o₄ h₁ h₂ h₃ h₄ =
    let hd : List ℕ = header tag SQ undefined in
    let m₁ : List ℕ = mark item_tag undefined in
    let m₂ : List ℕ = mark item_end 0 in
    let m₃ : List ℕ = mark sequence_end 0 in
    let e₄ : o₄ ≡ laid o₂ q (m₂ ++ m₃) = laid-more o₂ q m₂ m₃ h₃.1 h₃.0 h₄.1 in
    let e₃ : o₄ ≡ laid o₁ p (m₁ ++ (m₂ ++ m₃)) = laid-more o₁ p m₁ (m₂ ++ m₃) h₂.1 h₂.0 e₄ in
    let e₂ : o₄ ≡ laid o pos (hd ++ (m₁ ++ (m₂ ++ m₃))) = laid-more o pos hd (m₁ ++ (m₂ ++ m₃)) h₁.1 h₁.0 e₃ in
    (omega (arith, h₁.0, h₂.0, h₃.0, h₄.0, length-append hd (m₁ ++ (m₂ ++ m₃))), e₂)

-- ---- what the functions need that write such an element

pub ruleset emptied_laws = (length-asked, emptied_listed, emptied-bare)

pub ruleset found_laws = (asked-none, asked-some)

pub ruleset dummied_laws = (dummy_of-front, length-dummied, dummied-value, dummied_sequence)

-- ---- how long such an element is

text-short : (tag vr : ℕ) (t : List ℕ) → length t ≤ most_value → length (element_bytes tag vr (value (spaced t))) ≤ 78
text-short tag vr t h = omega (arith, length-value tag vr (spaced t), length-header tag vr (length (spaced t)), spaced-length t)

abbrev Brief : ℕ → ℕ → Field (Unit {0}) → Type 0
Brief tag vr f = length (element_bytes tag vr f) ≤ 78

pub emptied-length : (w : Settings) (tag vr : ℕ) → length (element_bytes tag vr (emptied_as w tag vr)) ≤ 78
unfolding emptied_as put_field put_sequence
emptied-length w tag vr =
    pick-case (Brief tag vr) (eqb vr SQ) (items no_item) (value (spaced (or (listed w tag vr) [])))
    (λ e. omega (arith, length-append (header tag vr 0) [], length-header tag vr 0))
    (λ e. text-short tag vr (or (listed w tag vr) []) (length-listed w tag vr))

pub dummied-length : (w : Settings) (tag vr : ℕ) → length (element_bytes tag vr (dummied_as w tag vr)) ≤ 78
unfolding dummied_as mark put_elements put_field put_sequence put_items
dummied-length w tag vr =
    pick-case (Brief tag vr) (eqb vr SQ) (items (item nil no_item)) (value (spaced (or (listed w tag vr) (dummy_of vr))))
    (λ e. omega (arith, length-append (header tag vr undefined) (mark item_tag undefined ++ (mark item_end 0 ++ mark sequence_end 0)), length-header tag vr undefined))
    (λ e. text-short tag vr (or (listed w tag vr) (dummy_of vr)) (length-dummied w tag vr))
