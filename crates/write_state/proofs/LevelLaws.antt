-- What the walk needs of levels and of the walked-test, once for all fates. No contract cites this file. Assumes nothing.
--     top-is          a level of which the test says so is the top one
--     below-inner     what stands in items is never on the top level
--     walks-is, walks-not, not-walked    the test holds of the one fate, and of no other
use mathlib.Core.Path.{◌≡◌, refl, sym, ap, ◌∙◌}
use mathlib.Core.Logic.{◌≢◌}
use mathlib.Core.Bool.{true, false, false≢true}
use Rattle.treatment.specs.Fates.{is_top, walks_into, below}
use Rattle.treatment.specs.declared.Level.{Level}
use Rattle.treatment.specs.declared.Level.TheVariants.{Top, Inner, Under}
use Rattle.treatment.specs.declared.Fate.{Fate}
use Rattle.treatment.specs.declared.Fate.TheVariants.{Removed, Kept, Walked, Emptied, Dummied, Renamed, Shifted, Wrong}

-- ---- levels

pub top-is : (level : Level) → is_top level ≡ true → level ≡ Top
top-is Top e = refl
top-is Inner e = absurd (false≢true e)
top-is Under e = absurd (false≢true e)

pub below-inner : (φ : Fate) (level : Level) → is_top (below φ level) ≡ false
below-inner φ Top = refl
below-inner φ Inner = refl
below-inner φ Under = refl

-- ---- the walked-test

pub walks-is : (φ : Fate) → walks_into φ ≡ true → φ ≡ Walked
walks-is Removed e = absurd (false≢true e)
walks-is Kept e = absurd (false≢true e)
walks-is Walked e = refl
walks-is Emptied e = absurd (false≢true e)
walks-is Dummied e = absurd (false≢true e)
walks-is Renamed e = absurd (false≢true e)
walks-is Shifted e = absurd (false≢true e)
walks-is Wrong e = absurd (false≢true e)

pub walks-not : (φ : Fate) → φ ≢ Walked → walks_into φ ≡ false
walks-not Removed n = refl
walks-not Kept n = refl
walks-not Walked n = absurd (n refl)
walks-not Emptied n = refl
walks-not Dummied n = refl
walks-not Renamed n = refl
walks-not Shifted n = refl
walks-not Wrong n = refl

pub not-walked : (φ : Fate) → walks_into φ ≡ false → φ ≢ Walked
not-walked φ e q = false≢true (sym e ∙ ap walks_into q)
