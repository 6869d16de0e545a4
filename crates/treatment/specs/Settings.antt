-- What a run is told besides the data set: document 01, "What the station takes and hands back". Later requests add fields.
-- Assumes nothing.
--     Settings               the option number, the date shift in days, the UID root, the study's list and the site's
--     settings_of n r s t    the settings that the code is handed: those that are numbers in one struct, the root and the two lists lent
--     settings_in n t        the same, where what is lent is in one struct too
--     Given n w              the settings w have the numbers n
use Rattle.std.specs.Prelude.{◌≡◌, List, ℕ, ℤ}
use Rattle.treatment.specs.declared.SettingNumbers.{SettingNumbers}
use Rattle.treatment.specs.declared.SettingTexts.{SettingTexts}

pub record Settings : Type 0 where
  pub options : ℕ
  pub shift : ℤ
  pub root : List ℕ
  pub study : List ℕ
  pub site : List ℕ

abbrev pub settings_of : SettingNumbers → List ℕ → List ℕ → List ℕ → Settings
settings_of n root study site = record { options = n.options; shift = n.days; root = root; study = study; site = site }

abbrev pub settings_in : SettingNumbers → SettingTexts → Settings
settings_in n t = settings_of n t.root.now t.study.now t.site.now

pub record Given (n : SettingNumbers) (w : Settings) : Type 0 where
  pub options_are : w.options ≡ n.options
  pub shift_is : w.shift ≡ n.days
