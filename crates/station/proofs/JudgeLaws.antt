-- Laws of `Judged`: the shape's fault where there is one, else the values'. No contract cites this file. Assumes nothing.
use mathlib.Core.Path.{◌≡◌, refl, sym, ap₂, ◌∙◌}
use Prim.Native.Nat.{ℕ}
use native.Mathlib.Omega.{arith}
use Rattle.std.specs.Prelude.{Result as Answer, Ok, Err}
use Rattle.refusals.specs.declared.Fault.{Fault}
use Rattle.layout.specs.Limits.{deepest}
use Rattle.layout.specs.Source.{Source}
use Rattle.layout.specs.Tree.{Elements, Place}
use Rattle.layout.specs.Read.{Result, good, fault, read, shape_of}
use Rattle.treatment.specs.Settings.{Settings, settings_of, Given}
use Rattle.treatment.specs.declared.SettingNumbers.{SettingNumbers}
use Rattle.judge_values.specs.Judged.{WholeJudged}
use Rattle.station.specs.Steps.{judged_as, Judged}

module _ (n : SettingNumbers) (x : Source) (q : Answer ℕ Fault) (shape : q ≡ shape_of (read deepest x)) where
  pub judged-shape : (f : Fault) → q ≡ Err f → Judged n x (Err f)
  judged-shape f e = record { right = λ w has. step w (read deepest x) (sym e ∙ shape) }
    where
      step : (w : Settings) (r : Result (Elements Place)) → Err f ≡ shape_of r → Err f ≡ judged_as w r
      step w (good es past) e = absurd (let z : ◌≡◌ {A = ℕ} 0 1 = cc in omega arith)
      step w (fault k p) e = e

  pub judged-values : (past : ℕ) → q ≡ Ok past → {r : Answer ℕ Fault} → WholeJudged n x r → Judged n x r
  judged-values past e {r} values = record { right = λ w has. step w has (read deepest x) refl (sym e ∙ shape) }
    where
      step : (w : Settings) → Given n w → (y : Result (Elements Place)) → read deepest x ≡ y → Ok past ≡ shape_of y → r ≡ judged_as w y
      step w has (good es p) reads f = values.right w has es p reads
      step w has (fault m k) reads f = absurd (let z : ◌≡◌ {A = ℕ} 0 1 = cc in omega arith)

-- settings with the numbers n are the settings that the walk is given
pub given-settings : (n : SettingNumbers) (w : Settings) → Given n w → w ≡ settings_of n w.root w.study w.site
given-settings n w has =
    ap₂ (λ options shift. record { options = options; shift = shift; root = w.root; study = w.study; site = w.site }) has.options_are has.shift_is
