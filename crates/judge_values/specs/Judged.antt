-- What the walk over the values promises: document 01, refusals 11 and 12, and their order. Each promise is an equation with a definition of
-- `kept`'s `Faults.antt`, for all settings w that have the numbers n that the walk was given. x is the data set, c the container in it.
--     judged f past      the code's answer: the fault f, or no fault and the place past what was walked
--     ValueJudged        whether a value is refused whose element has this fate
--     ElementJudged      the same of an element by its level, tag and VR
--     ElementsJudged     the first fault of the elements of a container, as far as they have their shape
--     ItemsJudged        that of the items of a sequence, where the level is that of what stands in them
--     SequenceJudged     that of a sequence of the level, whether it is walked into or not
--     WholeJudged        that of a data set
-- Assumes nothing.
use Rattle.std.specs.Prelude.{◌≡◌, List, ℕ, ◌-◌, ◌<◌, Option, None, Some, Result, Ok, Err}
use Rattle.refusals.specs.declared.Refusal.{Refusal}
use Rattle.refusals.specs.declared.Fault.{Fault}
use Rattle.vr.specs.Names.{SQ}
use Rattle.layout.specs.Limits.{deepest}
use Rattle.layout.specs.Source.{Source}
use Rattle.layout.specs.Tree.{items, Elements, Items, Place}
use Rattle.layout.specs.Heads.{unless}
use Rattle.layout.specs.Read.{good, elements_at, items_at, read}
use Rattle.layout.specs.Walks.{Stays}
use Rattle.layout.specs.declared.Container.{Container}
use Rattle.treatment.specs.Settings.{Settings, Given}
use Rattle.treatment.specs.Fates.{fate}
use Rattle.treatment.specs.declared.SettingNumbers.{SettingNumbers}
use Rattle.treatment.specs.declared.Level.{Level}
use Rattle.treatment.specs.declared.Level.TheVariants.{Top}
use Rattle.treatment.specs.declared.Fate.{Fate}
use Rattle.kept.specs.Faults.{value_fault, field_fault, first_fault, items_fault}

abbrev pub judged : Option Fault → ℕ → Result ℕ Fault
judged None past = Ok past
judged (Some f) past = Err f

pub record ValueJudged (n : SettingNumbers) (φ : Fate) (vr : ℕ) (v : List ℕ) (r : Result (Unit {0}) Refusal) : Type 0 where
  pub right : (w : Settings) → Given n w → r ≡ unless (value_fault w φ vr v) tt

pub record ElementJudged (n : SettingNumbers) (level : Level) (tag vr : ℕ) (v : List ℕ) (r : Result (Unit {0}) Refusal) : Type 0 where
  pub right : (w : Settings) → Given n w → r ≡ unless (value_fault w (fate w level tag vr) vr v) tt

-- at every bound above the bytes that are left
pub record ElementsJudged (n : SettingNumbers) (x : Source) (c : Container) (level : Level) (r : Result ℕ Fault) : Type 0 where
  pub stays : Stays c.from c.end r
  pub right : (w : Settings) → Given n w → (k : ℕ) (es : Elements Place) (past : ℕ) → c.end - c.from < k
      → elements_at k x c.from c.end c.unstated c.depth 0 ≡ good es past
      → r ≡ judged (first_fault es w level) past

pub record ItemsJudged (n : SettingNumbers) (x : Source) (c : Container) (level : Level) (r : Result ℕ Fault) : Type 0 where
  pub stays : Stays c.from c.end r
  pub right : (w : Settings) → Given n w → (k : ℕ) (is : Items Place) (past : ℕ) → c.end - c.from < k
      → items_at k x c.from c.end c.unstated c.depth ≡ good is past
      → r ≡ judged (items_fault is w level) past

-- whatever the sequence's offset is: no sequence has a fault of its own
pub record SequenceJudged (n : SettingNumbers) (x : Source) (c : Container) (level : Level) (tag : ℕ) (r : Result ℕ Fault) : Type 0 where
  pub stays : Stays c.from c.end r
  pub right : (w : Settings) → Given n w → (k : ℕ) (is : Items Place) (past : ℕ) → c.end - c.from < k
      → items_at k x c.from c.end c.unstated c.depth ≡ good is past
      → (offset : ℕ) → r ≡ judged (field_fault (items is) w level (fate w level tag SQ) SQ offset) past

pub record WholeJudged (n : SettingNumbers) (x : Source) (r : Result ℕ Fault) : Type 0 where
  pub right : (w : Settings) → Given n w → (es : Elements Place) (past : ℕ) → read deepest x ≡ good es past → r ≡ judged (first_fault es w Top) past
