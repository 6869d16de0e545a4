-- The steps of the walk in bytes, as the code that writes the level cites them; on a level below the top nothing is gained.
-- No contract cites this file. Assumes nothing.
--     gain-bytes, gaining-parts, gaining-bytes     what is due is written in front, one after the other
--     step-kept           an element that is written: what is due, the element, and what follows
--     step-gone           an element that is left out
--     step-end            after the last element
use mathlib.Core.Path.{◌≡◌, refl, sym, ap, ◌∙◌}
use mathlib.Core.Bool.{Bool, true, false}
use mathlib.Core.List.{List, [], ◌++◌, append_assoc, append-nil}
use Prim.Native.Nat.{ℕ, ◌+◌, ◌≤◌}
use native.Mathlib.Omega.{arith}
use Rattle.basis.specs.Choice.{pick}
use Rattle.basis.specs.Text.{ascii}
use Rattle.vr.specs.Names.{CS, SQ}
use Rattle.layout.specs.Tree.{Field, items, nil, elem, Data}
use Rattle.layout.specs.Write.{put_elements, put_field, bytes_of}
use Rattle.options.specs.Settings.{date_word}
use Rattle.kept.specs.Markers.{text, codes}
use Rattle.table.specs.Rules.{patient_identity_removed_tag, deidentification_codes_tag, longitudinal_time_tag}
use Rattle.write_markers.specs.Gains.{due, gain, gaining, gained_if, with_markers_from, with_markers_if, From}
use Rattle.write_markers.proofs.WriteLaws.{put-field-on}
use Rattle.write_markers.proofs.GainsLaws.{Other, with_markers-kept, with_markers-gone, with_markers-end}

pub gain-bytes : (low high m vr : ℕ) (f : Field (Unit {0})) (d : Data) (k : List ℕ)
    → put_elements (gain low high m vr f d) k ≡ bytes_of (gain low high m vr f nil) ++ put_elements d k
unfolding gain put_elements bytes_of
gain-bytes low high m vr f d k = step (due low high m)
  where
    step : (b : Bool) → put_elements (pick b (elem tt m vr f d) d) k ≡ put_elements {L = Unit {0}} (pick b (elem tt m vr f nil) nil) [] ++ put_elements d k
    step true = put-field-on f m vr (put_elements d k)
    step false = refl

module _ (options low high : ℕ) where
  -- the bytes of each of the three
  abbrev pub yes_due : List ℕ
  yes_due = bytes_of (gain low high patient_identity_removed_tag CS (text (ascii "YES")) nil)

  abbrev pub codes_due : List ℕ
  codes_due = bytes_of (gain low high deidentification_codes_tag SQ (items (codes options)) nil)

  abbrev pub dates_due : List ℕ
  dates_due = bytes_of (gain low high longitudinal_time_tag CS (text (date_word options)) nil)

  parts : (d : Data) (k : List ℕ) → put_elements (gaining options low high d) k ≡ yes_due ++ (codes_due ++ (dates_due ++ put_elements d k))
  unfolding gaining
  parts d k =
      let d₃ : Data = gain low high longitudinal_time_tag CS (text (date_word options)) d in
      let d₂ : Data = gain low high deidentification_codes_tag SQ (items (codes options)) d₃ in
      gain-bytes low high patient_identity_removed_tag CS (text (ascii "YES")) d₂ k
      ∙ ap (λ (l : List ℕ). yes_due ++ l)
      (gain-bytes low high deidentification_codes_tag SQ (items (codes options)) d₃ k
      ∙ ap (λ (l : List ℕ). codes_due ++ l) (gain-bytes low high longitudinal_time_tag CS (text (date_word options)) d k))

  pub gaining-parts : bytes_of (gaining options low high nil) ≡ yes_due ++ (codes_due ++ dates_due)
  unfolding bytes_of put_elements
  gaining-parts = parts nil [] ∙ simp append-nil

  pub gaining-bytes : (d : Data) (k : List ℕ) → put_elements (gaining options low high d) k ≡ bytes_of (gaining options low high nil) ++ put_elements d k
  gaining-bytes d k =
      let e : (yes_due ++ (codes_due ++ dates_due)) ++ put_elements d k ≡ yes_due ++ (codes_due ++ (dates_due ++ put_elements d k)) = simp append_assoc in
      parts d k ∙ sym (ap (λ (l : List ℕ). l ++ put_elements d k) gaining-parts ∙ e)

-- ---- THE STEPS

pub step-kept : (top : Bool) (options low tag vr : ℕ) (f : Field (Unit {0})) (d : Data) → low ≤ tag → (top ≡ true → Other tag)
    → bytes_of (with_markers_if top options low (elem tt tag vr f d)) ≡ gained_if top options low (tag + 1) ++ (put_field tag vr f [] ++ bytes_of (with_markers_if top options (tag + 1) d))
unfolding with_markers_if gained_if bytes_of put_elements
step-kept true options low tag vr f d h other =
    ap (λ (e : Data). put_elements e []) (with_markers-kept options low tag vr f d h (other refl))
    ∙ gaining-bytes options low (tag + 1) (elem tt tag vr f (with_markers_from options (tag + 1) d)) []
    ∙ ap (λ (l : List ℕ). put_elements (gaining options low (tag + 1) nil) [] ++ l) (put-field-on f tag vr (put_elements (with_markers_from options (tag + 1) d) []))
step-kept false options low tag vr f d h other = put-field-on f tag vr (put_elements d [])

pub step-gone : (top : Bool) (options low tag : ℕ) (d : Data) → low ≤ tag → (top ≡ true → From (tag + 1) d)
    → bytes_of (with_markers_if top options low d) ≡ gained_if top options low (tag + 1) ++ bytes_of (with_markers_if top options (tag + 1) d)
unfolding with_markers_if gained_if bytes_of
step-gone true options low tag d h from =
    ap (λ (e : Data). put_elements e []) (with_markers-gone options low tag d h (from refl))
    ∙ gaining-bytes options low (tag + 1) (with_markers_from options (tag + 1) d) []
step-gone false options low tag d h from = refl

pub step-end : (top : Bool) (options low : ℕ) → bytes_of (with_markers_if top options low nil) ≡ gained_if top options low 4294967296
unfolding with_markers_if gained_if bytes_of put_elements
step-end true options low = ap (λ (e : Data). put_elements e []) (with_markers-end options low 4294967296 (omega arith))
step-end false options low = refl
