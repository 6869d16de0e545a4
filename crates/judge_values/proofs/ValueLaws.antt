-- The fault of one element with a value: what the proofs of `check_value` and `check_element` cite. Assumes nothing.
--     given-fate    the fate under settings that have the numbers n, where f is the one under n's options
--     by-fate       a value of which its element's fate φ says whether it is refused
--     by-uids       a value of UIDs that are renamed
--     by-dates      a value of dates that are shifted, by the days as the machine reads them back
--     by-element    an element, from its fate
use mathlib.Core.Path.{◌≡◌, refl, sym, ap, ◌∙◌}
use mathlib.Core.Bool.{Bool}
use mathlib.Core.List.{List}
use Rattle.std.specs.Prelude.{None, Some, Result}
use Prim.Native.Nat.{ℕ}
use lib.Dec.{eqb}
use lib.IntN.{ℤ}
use Rattle.basis.specs.Choice.{pick, is_none}
use Rattle.refusals.specs.declared.Refusal.{Refusal}
use Rattle.refusals.specs.declared.Refusal.TheVariants.{BadUids, BadDates}
use Rattle.vr.specs.Names.{DA}
use Rattle.layout.specs.Heads.{unless}
use Rattle.uid.specs.Value.{uids_fault}
use Rattle.calendar.specs.Values.{shifted_value}
use Rattle.treatment.specs.Settings.{Settings, Given}
use Rattle.treatment.specs.Fates.{fate_of, fate}
use Rattle.treatment.specs.declared.SettingNumbers.{SettingNumbers}
use Rattle.treatment.specs.declared.Level.{Level}
use Rattle.treatment.specs.declared.Fate.{Fate}
use Rattle.treatment.specs.declared.Fate.TheVariants.{Renamed, Shifted}
use Rattle.kept.specs.Faults.{value_fault}
use Rattle.judge_values.specs.Judged.{ValueJudged, ElementJudged}

pub given-fate : {n : SettingNumbers} {w : Settings} → Given n w → (level : Level) (tag vr : ℕ) {f : Fate} → f ≡ fate_of n.options level tag vr
    → fate w level tag vr ≡ f
given-fate has level tag vr e = ap (λ options. fate_of options level tag vr) has.options_are ∙ sym e

module _ {n : SettingNumbers} {f : Fate} {vr : ℕ} {v : List ℕ} where
  -- ---- a value, by the fate of its element

  pub by-fate : (φ : Fate) → f ≡ φ → {r : Result (Unit {0}) Refusal} → ((w : Settings) → r ≡ unless (value_fault w φ vr v) tt) → ValueJudged n f vr v r
  by-fate φ e h = record { right = λ w has. rw e (h w) }

  module _ {b : Bool} (c : Bool) (i : b ≡ c) where
    pub by-uids : f ≡ Renamed → b ≡ uids_fault v → ValueJudged n f vr v (unless (pick c (Some BadUids) None) tt)
    by-uids e h = record { right = λ w has. rw (e, ← h, i) refl }

    pub by-dates : f ≡ Shifted → {days : ℤ} → days ≡ n.days → b ≡ is_none (shifted_value (eqb vr DA) days v)
        → ValueJudged n f vr v (unless (pick c (Some BadDates) None) tt)
    by-dates e d h = record { right = λ w has. rw (e, has.shift_is, ← d, ← h, i) refl }

  -- ---- an element, by its level, tag and VR

  pub by-element : (level : Level) (tag : ℕ) → f ≡ fate_of n.options level tag vr → {r : Result (Unit {0}) Refusal} → ValueJudged n f vr v r
      → ElementJudged n level tag vr v r
  by-element level tag e q = record { right = λ w has. rw (given-fate has level tag vr e) (q.right w has) }
