-- Laws of `specs/Gains.antt`: a walk over a level, which writes what is due before each element, writes the level with the three elements
-- that it gains. No contract cites this file. Assumes nothing.
--     gain_tags, Other tag        the three tags; the tag is none of them
--     gain-in, gain-below, gain-above     one of the three that is due; that is not
--     with_markers-start                      all three are those from 0 on
--     with_markers-kept, with_markers-gone    one step of the walk: before an element that is written; past one that is left out
--     with_markers-end                        after the last element
--     from-lower                  what is from a tag on is from every lower one
--     Rises low es                the tags of a level rise, from low on
--     written-from                what is written of such elements begins no lower than they do
--     marks-other, stays-other    an element that stays on the top level has none of the three tags
use mathlib.Core.Path.{◌≡◌, refl, sym, ap, ◌∙◌}
use mathlib.Core.Logic.{◌≢◌}
use mathlib.Core.Bool.{Bool, true, false, ◌&&◌, false≢true}
use mathlib.Core.List.{List, [], ◌∷◌}
use Prim.Native.Nat.{ℕ, ◌+◌, ◌≤◌, ◌<◌}
use native.Mathlib.Omega.{arith}
use lib.Dec.{leb, ltb}
use borrow.Author.Tests.{lt-ltb, le-ltb, le-leb, lt-leb, leb-true, leb-false}
use Rattle.basis.specs.Choice.{pick, fork, among}
use Rattle.basis.specs.Text.{ascii}
use Rattle.basis.proofs.ChoiceLaws.{pick-case, among-less}
use Rattle.vr.specs.Names.{CS, SQ}
use Rattle.layout.specs.Tree.{Field, items, Elements, nil, elem, Data}
use Rattle.table.specs.Rules.{reserved, patient_identity_removed_tag, deidentification_codes_tag, longitudinal_time_tag}
use Rattle.ledger.specs.FirstMet.{learns}
use Rattle.options.specs.Settings.{date_word}
use Rattle.treatment.specs.Settings.{Settings}
use Rattle.treatment.specs.Fates.{is_top, fate}
use Rattle.treatment.specs.declared.Level.{Level}
use Rattle.treatment.specs.declared.Level.TheVariants.{Top, Inner, Under}
use Rattle.treatment.specs.declared.Fate.{Fate}
use Rattle.treatment.specs.declared.Fate.TheVariants.{Removed, Kept, Walked, Emptied, Dummied, Renamed, Shifted, Wrong}
use Rattle.kept.specs.Content.{Body, Content, keep, map_body, map_content, uids_in_body}
use Rattle.kept.specs.Kept.{Uid, entry, kept_field, kept_of}
use Rattle.kept.specs.Numbering.{numbered}
use Rattle.kept.specs.Written.{written_of}
use Rattle.kept.specs.Markers.{text, codes, insert, with_markers}
use Rattle.treatment.proofs.FatesLaws.{fate-reserved}
use Rattle.kept.proofs.KeptLaws.{Stays}
use Rattle.write_markers.specs.Gains.{due, gain, gaining, insert_from, with_markers_from, From}

abbrev pub gain_tags : List ℕ
gain_tags = patient_identity_removed_tag ∷ deidentification_codes_tag ∷ longitudinal_time_tag ∷ []

abbrev pub Other : ℕ → Type 0
Other tag = among tag gain_tags ≡ false

-- ---- From, and Rises

-- the tags of a level rise, from low on
unfoldable pub Rises : {L : Type 0} → ℕ → Elements L → Type 0
Rises low nil = Unit {0}
Rises low (elem l tag vr f es) = (low ≤ tag) × Rises (tag + 1) es

pub from-lower : (d : Data) (low low' : ℕ) → low' ≤ low → From low d → From low' d
unfolding From
from-lower nil low low' h m = tt
from-lower (elem l tag vr f d) low low' h m = (omega (arith, m.0), from-lower d low low' h m.1)

-- the first tag of the level, if there is one, is at least low
unfoldable Head : ℕ → Data → Type 0
Head low nil = Unit {0}
Head low (elem l tag vr f d) = low ≤ tag

from-head : (d : Data) (low low' : ℕ) → low' ≤ low → From low d → Head low' d
unfolding From Head
from-head nil low low' h m = tt
from-head (elem l tag vr f d) low low' h m = omega (arith, m.0)

-- ---- one of the three

module _ (m vr : ℕ) (f : Field (Unit {0})) where
  insert-first : (d : Data) → Head (m + 1) d → insert m vr f d ≡ elem tt m vr f d
  unfolding insert Head
  insert-first nil h = refl
  insert-first (elem l t v g d) h = rw (lt-ltb m t (omega arith))

  insert-past : (l : Unit {0}) (t v : ℕ) (g : Field (Unit {0})) (d : Data) → t < m → insert m vr f (elem l t v g d) ≡ elem l t v g (insert m vr f d)
  unfolding insert
  insert-past l t v g d h = rw (le-ltb m t (omega arith))

  insert-head : (d : Data) (low : ℕ) → low ≤ m → Head low d → Head low (insert m vr f d)
  unfolding insert Head
  insert-head nil low h k = h
  insert-head (elem l t v g d) low h k = step (ltb m t)
    where
      step : (b : Bool) → Head low (fork b (λ _. elem tt m vr f (elem l t v g d)) (λ _. elem l t v g (insert m vr f d)))
      step true = h
      step false = k

  -- from low on, or left as it is
  from-in : (low : ℕ) (d : Data) → low ≤ m → insert_from low m vr f d ≡ insert m vr f d
  unfolding insert_from
  from-in low d h = rw (le-leb low m h)

  from-out : (low : ℕ) (d : Data) → m < low → insert_from low m vr f d ≡ d
  unfolding insert_from
  from-out low d h = rw (lt-leb low m h)

  from-grown : (low : ℕ) (d : Data) → Head low d → Head low (insert_from low m vr f d)
  unfolding insert_from
  from-grown low d k = pick-case (Head low) (leb low m) (insert m vr f d) d (λ e. insert-head d low (leb-true low m e) k) (λ _. k)

  pub gain-in : (low high : ℕ) (d : Data) → low ≤ m → m < high → gain low high m vr f d ≡ elem tt m vr f d
  unfolding gain
  gain-in low high d h k = rw (le-leb low m h, lt-ltb m high k)

  pub gain-below : (low high : ℕ) (d : Data) → m < low → gain low high m vr f d ≡ d
  unfolding gain
  gain-below low high d h = rw (lt-leb low m h)

  pub gain-above : (low high : ℕ) (d : Data) → high ≤ m → gain low high m vr f d ≡ d
  unfolding gain
  gain-above low high d h = step (leb low m)
    where
      step : (b : Bool) → pick (b && ltb m high) (elem tt m vr f d) d ≡ d
      step true = rw (le-ltb m high h)
      step false = refl

  gain-head : (low high bound : ℕ) (d : Data) → bound ≤ m → Head bound d → Head bound (gain low high m vr f d)
  unfolding gain Head
  gain-head low high bound d h k = pick-case (Head bound) (due low high m) (elem tt m vr f d) d (λ _. h) (λ _. k)

  -- where the element comes first on the level
  first-due : (low high : ℕ) (d : Data) → m < high → Head (m + 1) d → insert_from low m vr f d ≡ gain low high m vr f d
  first-due low high d h k = step (leb low m) refl
    where
      step : (b : Bool) → leb low m ≡ b → insert_from low m vr f d ≡ gain low high m vr f d
      step true e =
          from-in low d (leb-true low m e) ∙ insert-first d k ∙ sym (gain-in low high d (leb-true low m e) h)
      step false e = from-out low d (leb-false low m e) ∙ sym (gain-below low high d (leb-false low m e))

-- ---- a step of the walk, past the tag of an element

-- what comes after the place is w x: x itself, or an element and then x
module _ (low tag : ℕ) (up : low ≤ tag) (w : Data → Data) where
  -- g puts those in front that come after this one
  one-step : (m vr : ℕ) (f : Field (Unit {0})) (g : Data → Data) (x : Data) → (m ≤ tag → Head (m + 1) (g (w x)))
      → (tag < m → (insert m vr f (w x) ≡ w (insert m vr f x)) × ((y : Data) → g y ≡ y))
      → insert_from low m vr f (g (w x)) ≡ gain low (tag + 1) m vr f (g (w (insert_from (tag + 1) m vr f x)))
  one-step m vr f g x before after = step (leb m tag) refl
    where
      past : tag < m → insert_from low m vr f (g (w x)) ≡ gain low (tag + 1) m vr f (g (w (insert_from (tag + 1) m vr f x)))
      past h =
          ap (insert_from low m vr f) ((after h).1 (w x))
          ∙ from-in m vr f low (w x) (omega arith)
          ∙ (after h).0
          ∙ ap w (sym (from-in m vr f (tag + 1) x (omega arith)))
          ∙ sym ((after h).1 (w (insert_from (tag + 1) m vr f x)))
          ∙ sym (gain-above m vr f low (tag + 1) (g (w (insert_from (tag + 1) m vr f x))) (omega arith))

      here : m ≤ tag → insert_from low m vr f (g (w x)) ≡ gain low (tag + 1) m vr f (g (w (insert_from (tag + 1) m vr f x)))
      here h =
          first-due m vr f low (tag + 1) (g (w x)) (omega arith) (before h)
          ∙ ap (λ (y : Data). gain low (tag + 1) m vr f (g (w y))) (sym (from-out m vr f (tag + 1) x (omega arith)))

      step : (b : Bool) → leb m tag ≡ b → insert_from low m vr f (g (w x)) ≡ gain low (tag + 1) m vr f (g (w (insert_from (tag + 1) m vr f x)))
      step true e = here (leb-true m tag e)
      step false e = past (leb-false m tag e)

  module _ (options : ℕ) (Ok : Data → Type 0)
      (wraps : (m vr : ℕ) (f : Field (Unit {0})) (x : Data) → tag < m → insert m vr f (w x) ≡ w (insert m vr f x))
      (heads : (m : ℕ) (x : Data) → among m gain_tags ≡ true → m ≤ tag → Ok x → Head (m + 1) (w x))
      (grows : (m vr : ℕ) (f : Field (Unit {0})) (x : Data) → Ok x → Ok (insert_from (tag + 1) m vr f x)) where
    abbrev last : Data → Data
    last y = gain low (tag + 1) longitudinal_time_tag CS (text (date_word options)) y

    abbrev last_two : Data → Data
    last_two y = gain low (tag + 1) deidentification_codes_tag SQ (items (codes options)) (last y)

    three-step : (x : Data) → Ok x → with_markers_from options low (w x) ≡ gaining options low (tag + 1) (w (with_markers_from options (tag + 1) x))
    unfolding with_markers_from gaining among
    three-step x ok =
        let x₃ : Data = insert_from (tag + 1) longitudinal_time_tag CS (text (date_word options)) x in
        let x₂ : Data = insert_from (tag + 1) deidentification_codes_tag SQ (items (codes options)) x₃ in
        let ok₃ : Ok x₃ = grows longitudinal_time_tag CS (text (date_word options)) x ok in
        let ok₂ : Ok x₂ = grows deidentification_codes_tag SQ (items (codes options)) x₃ ok₃ in
        let e₃ : insert_from low longitudinal_time_tag CS (text (date_word options)) (w x) ≡ last (w x₃) =
        one-step longitudinal_time_tag CS (text (date_word options)) (λ y. y) x (λ h. heads longitudinal_time_tag x refl h ok)
        (λ h. (wraps longitudinal_time_tag CS (text (date_word options)) x h, λ y. refl)) in
        let e₂ : insert_from low deidentification_codes_tag SQ (items (codes options)) (last (w x₃)) ≡ last_two (w x₂) =
        one-step deidentification_codes_tag SQ (items (codes options)) last x₃
        (λ h. gain-head longitudinal_time_tag CS (text (date_word options)) low (tag + 1) (deidentification_codes_tag + 1) (w x₃) (omega arith) (heads deidentification_codes_tag x₃ refl h ok₃))
        (λ h. (wraps deidentification_codes_tag SQ (items (codes options)) x₃ h, λ y. gain-above longitudinal_time_tag CS (text (date_word options)) low (tag + 1) y (omega arith))) in
        let e₁ : insert_from low patient_identity_removed_tag CS (text (ascii "YES")) (last_two (w x₂))
        ≡ gain low (tag + 1) patient_identity_removed_tag CS (text (ascii "YES")) (last_two (w (insert_from (tag + 1) patient_identity_removed_tag CS (text (ascii "YES")) x₂))) =
        one-step patient_identity_removed_tag CS (text (ascii "YES")) last_two x₂
        (λ h. gain-head deidentification_codes_tag SQ (items (codes options)) low (tag + 1) (patient_identity_removed_tag + 1) (last (w x₂)) (omega arith)
        (gain-head longitudinal_time_tag CS (text (date_word options)) low (tag + 1) (patient_identity_removed_tag + 1) (w x₂) (omega arith) (heads patient_identity_removed_tag x₂ refl h ok₂)))
        (λ h. (
          wraps patient_identity_removed_tag CS (text (ascii "YES")) x₂ h,
          λ y. gain-above deidentification_codes_tag SQ (items (codes options)) low (tag + 1) (last y) (omega arith)
              ∙ gain-above longitudinal_time_tag CS (text (date_word options)) low (tag + 1) y (omega arith),
        )) in
        ap (λ (d : Data). insert_from low patient_identity_removed_tag CS (text (ascii "YES")) (insert_from low deidentification_codes_tag SQ (items (codes options)) d)) e₃
        ∙ ap (insert_from low patient_identity_removed_tag CS (text (ascii "YES"))) e₂
        ∙ e₁

-- ---- THE LAWS of the walk

pub with_markers-start : (options : ℕ) (d : Data) → with_markers options d ≡ with_markers_from options 0 d
unfolding with_markers with_markers_from insert_from
with_markers-start options d = refl

pub with_markers-kept : (options low tag vr : ℕ) (f : Field (Unit {0})) (d : Data) → low ≤ tag → Other tag
    → with_markers_from options low (elem tt tag vr f d) ≡ gaining options low (tag + 1) (elem tt tag vr f (with_markers_from options (tag + 1) d))
unfolding Head
with_markers-kept options low tag vr f d up other =
    three-step low tag up (elem tt tag vr f) options (λ _. Unit {0})
    (λ m v g x h. insert-past m v g tt tag vr f x h)
    (λ m x is h _. let n : m ≢ tag = λ e. false≢true (sym other ∙ ap (λ k. among k gain_tags) (sym e) ∙ is) in omega arith)
    (λ m v g x _. tt)
    d tt

head-lower : (d : Data) (low low' : ℕ) → low' ≤ low → Head low d → Head low' d
unfolding Head
head-lower nil low low' h k = tt
head-lower (elem l tag vr f d) low low' h k = omega arith

pub with_markers-gone : (options low tag : ℕ) (d : Data) → low ≤ tag → From (tag + 1) d
    → with_markers_from options low d ≡ gaining options low (tag + 1) (with_markers_from options (tag + 1) d)
with_markers-gone options low tag d up from =
    three-step low tag up (λ x. x) options (Head (tag + 1))
    (λ m v g x h. refl)
    (λ m x is h k. head-lower x (tag + 1) (m + 1) (omega arith) k)
    (λ m v g x k. from-grown m v g (tag + 1) x k)
    d (from-head d (tag + 1) (tag + 1) (omega arith) from)

pub with_markers-end : (options low high : ℕ) → longitudinal_time_tag < high → with_markers_from options low nil ≡ gaining options low high nil
unfolding with_markers_from gaining Head
with_markers-end options low high h =
    let d₃ : Data = gain low high longitudinal_time_tag CS (text (date_word options)) nil in
    let d₂ : Data = gain low high deidentification_codes_tag SQ (items (codes options)) d₃ in
    let e₃ : insert_from low longitudinal_time_tag CS (text (date_word options)) nil ≡ d₃ = first-due longitudinal_time_tag CS (text (date_word options)) low high nil h tt in
    let e₂ : insert_from low deidentification_codes_tag SQ (items (codes options)) d₃ ≡ d₂ =
    first-due deidentification_codes_tag SQ (items (codes options)) low high d₃ (omega arith)
    (gain-head longitudinal_time_tag CS (text (date_word options)) low high (deidentification_codes_tag + 1) nil (omega arith) tt) in
    ap (λ (d : Data). insert_from low patient_identity_removed_tag CS (text (ascii "YES")) (insert_from low deidentification_codes_tag SQ (items (codes options)) d)) e₃
    ∙ ap (insert_from low patient_identity_removed_tag CS (text (ascii "YES"))) e₂
    ∙ first-due patient_identity_removed_tag CS (text (ascii "YES")) low high d₂ (omega arith)
    (gain-head deidentification_codes_tag SQ (items (codes options)) low high (patient_identity_removed_tag + 1) d₃ (omega arith)
    (gain-head longitudinal_time_tag CS (text (date_word options)) low high (patient_identity_removed_tag + 1) nil (omega arith) tt))

-- ---- what is written of a level

module _ {X : Type 0} (same : Discrete X) (turn : Uid → X) (s : Settings) (level : Level) where
  abbrev written_by : List X → Content Uid → Data
  written_by known c = written_of (numbered same known (map_content turn c)) s level

  keep-from : (known : List X) (tag vr low : ℕ) (b : Body Uid) (c : Content Uid) → low ≤ tag → ((k : List X) → From (tag + 1) (written_by k c))
      → From low (written_by known (keep tag vr b c))
  unfolding written_of numbered map_content From
  keep-from known tag vr low b c h next =
      let k : List X = learns same known (uids_in_body (map_body turn b)) in
      (h, from-lower (written_by k c) (tag + 1) low (omega arith) (next k))

  entry-from : (known : List X) (φ : Fate) (tag vr low : ℕ) (b : Fate → Body Uid) (c : Content Uid) → low ≤ tag
      → ((k : List X) → From (tag + 1) (written_by k c)) → From low (written_by known (entry φ tag vr b c))
  entry-from known Removed tag vr low b c h next = from-lower (written_by known c) (tag + 1) low (omega arith) (next known)
  entry-from known Kept tag vr low b c h next = keep-from known tag vr low (b Kept) c h next
  entry-from known Walked tag vr low b c h next = keep-from known tag vr low (b Walked) c h next
  entry-from known Emptied tag vr low b c h next = keep-from known tag vr low (b Emptied) c h next
  entry-from known Dummied tag vr low b c h next = keep-from known tag vr low (b Dummied) c h next
  entry-from known Renamed tag vr low b c h next = keep-from known tag vr low (b Renamed) c h next
  entry-from known Shifted tag vr low b c h next = keep-from known tag vr low (b Shifted) c h next
  entry-from known Wrong tag vr low b c h next = keep-from known tag vr low (b Wrong) c h next

  pub written-from : {L : Type 0} (es : Elements L) (known : List X) (low : ℕ) → Rises low es
      → From low (written_of (numbered same known (map_content turn (kept_of es s level))) s level)
  unfolding kept_of written_of numbered map_content From Rises
  written-from nil known low m = tt
  written-from (elem l tag vr f es) known low m =
      entry-from known (fate s level tag vr) tag vr low (λ φ. kept_field f s level φ) (kept_of es s level) m.0
      (λ k. written-from es k (tag + 1) m.1)

-- ---- the three on the top level

pub marks-other : (s : Settings) (tag vr : ℕ) → fate s Top tag vr ≢ Removed → Other tag
unfolding among
marks-other s tag vr n = among-less tag gain_tags reserved refl (step (among tag reserved) refl)
  where
    step : (b : Bool) → among tag reserved ≡ b → among tag reserved ≡ false
    step true e = absurd (n (fate-reserved s tag vr e))
    step false e = e

pub stays-other : (s : Settings) (level : Level) (tag vr : ℕ) → Stays (fate s level tag vr) → is_top level ≡ true → Other tag
stays-other s Top tag vr stays e = marks-other s tag vr (λ r. rw r at stays)
stays-other s Inner tag vr stays e = absurd (false≢true e)
stays-other s Under tag vr stays e = absurd (false≢true e)
