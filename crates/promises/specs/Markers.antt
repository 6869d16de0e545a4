-- What the top level gains: document 01, "What each action writes", last paragraph; as a relation between the level without the three
-- elements and the level with them. Assumes nothing.
--     Gains tag vr f ds es           es is ds with an element more, after all lesser tags and before all greater ones
--     CodeItem code meaning d        an item of (0012,0064)
--     OptionItems number os is       the items of those of the options os that are chosen, in order
--     GainsMarkers number ds es      es is ds with the three elements, under the option number
use Rattle.std.specs.Prelude.{◌≡◌, true, false, List, [], ◌∷◌, ℕ, ◌<◌}
use Rattle.basis.specs.Text.{ascii}
use Rattle.vr.specs.Names.{CS, LO, SH, SQ}
use Rattle.layout.specs.Tree.{Field, value, items, nil, elem, Items, none as no_item, item, Data}
use Rattle.table.specs.Rules.{patient_identity_removed_tag, deidentification_codes_tag, longitudinal_time_tag}
use Rattle.options.specs.Options.{options, code_of, meaning_of, basic_code, basic_meaning, is_chosen}
use Rattle.options.specs.Settings.{date_word}
use Rattle.options.specs.declared.Opt.{Opt}
use Rattle.promises.specs.Treated.{Evened}

pub data Gains (tag vr : ℕ) (f : Field (Unit {0})) : Data → Data → Type 0 where
  last : Gains tag vr f nil (elem tt tag vr f nil)
  before : {l : Unit {0}} {t v : ℕ} {g : Field (Unit {0})} {ds : Data} → tag < t → Gains tag vr f (elem l t v g ds) (elem tt tag vr f (elem l t v g ds))
  after : {l : Unit {0}} {t v : ℕ} {g : Field (Unit {0})} {ds es : Data} → t < tag → Gains tag vr f ds es → Gains tag vr f (elem l t v g ds) (elem l t v g es)

pub data CodeItem (code meaning : List ℕ) : Data → Type 0 where
  code_item : {c m : List ℕ} → Evened code c → Evened meaning m
      → CodeItem code meaning
      (elem tt 0x0008_0100 SH (value c)
      (elem tt 0x0008_0102 SH (value (ascii "DCM "))
      (elem tt 0x0008_0104 LO (value m)
      nil)))

pub data OptionItems (number : ℕ) : List Opt → Items (Unit {0}) → Type 0 where
  none : OptionItems number [] no_item
  chosen : {o : Opt} {os : List Opt} {d : Data} {is : Items (Unit {0})} → is_chosen number o ≡ true → CodeItem (code_of o) (meaning_of o) d
      → OptionItems number os is → OptionItems number (o ∷ os) (item d is)
  other : {o : Opt} {os : List Opt} {is : Items (Unit {0})} → is_chosen number o ≡ false → OptionItems number os is → OptionItems number (o ∷ os) is

pub record GainsMarkers (number : ℕ) (ds es : Data) : Type 0 where
  -- (0028,0303): UNMODIFIED, MODIFIED or REMOVED
  pub word : List ℕ
  pub word_is : Evened (date_word number) word
  pub dated : Data
  pub gains_word : Gains longitudinal_time_tag CS (value word) ds dated
  -- (0012,0064): an item for the profile, and one for each chosen option by rising code
  pub profile : Data
  pub profile_is : CodeItem basic_code basic_meaning profile
  pub chosen : Items (Unit {0})
  pub chosen_are : OptionItems number options chosen
  pub coded : Data
  pub gains_codes : Gains deidentification_codes_tag SQ (items (item profile chosen)) dated coded
  -- (0012,0062)
  pub gains_yes : Gains patient_identity_removed_tag CS (value (ascii "YES ")) coded es
