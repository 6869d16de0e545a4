-- What the top level gains: document 01, "What each action writes", last paragraph; readings W13, W15 to W17. Laws: `proofs/MarkersLaws.antt`.
-- Assumes nothing.
--     code_item code meaning    an item of (0012,0064)
--     codes number              those of the profile and of each chosen option, by rising code
--     insert tag vr f d         d with an element more, where its tag belongs
--     with_markers number d     the top level d with the three elements that it gains
use Rattle.std.specs.Prelude.{List, [], ◌∷◌, ℕ, ltb}
use Rattle.basis.specs.Choice.{fork}
use Rattle.basis.specs.Text.{ascii}
use Rattle.vr.specs.Names.{CS, LO, SH, SQ}
use Rattle.layout.specs.Tree.{Field, value, items, nil, elem, Items, none as no_item, item, Data}
use Rattle.table.specs.Rules.{patient_identity_removed_tag, deidentification_codes_tag, longitudinal_time_tag}
use Rattle.options.specs.Options.{code_of, meaning_of, basic_code, basic_meaning, chosen}
use Rattle.options.specs.Settings.{date_word}
use Rattle.options.specs.declared.Opt.{Opt}
use Rattle.kept.specs.Fillers.{spaced}

abbrev pub text : List ℕ → Field (Unit {0})
text t = value (spaced t)

unfoldable pub code_item : List ℕ → List ℕ → Data
code_item code meaning =
    elem tt 0x0008_0100 SH (text code)
    (elem tt 0x0008_0102 SH (text (ascii "DCM"))
    (elem tt 0x0008_0104 LO (text meaning)
    nil))

unfoldable pub option_items : List Opt → Items (Unit {0})
option_items [] = no_item
option_items (o ∷ os) = item (code_item (code_of o) (meaning_of o)) (option_items os)

unfoldable pub codes : ℕ → Items (Unit {0})
codes number = item (code_item basic_code basic_meaning) (option_items (chosen number))

unfoldable pub insert : ℕ → ℕ → Field (Unit {0}) → Data → Data
insert tag vr f nil = elem tt tag vr f nil
insert tag vr f (elem l t v g d) = fork (ltb tag t) (λ _. elem tt tag vr f (elem l t v g d)) (λ _. elem l t v g (insert tag vr f d))

unfoldable pub with_markers : ℕ → Data → Data
with_markers number d =
    insert patient_identity_removed_tag CS (text (ascii "YES"))
    (insert deidentification_codes_tag SQ (items (codes number))
    (insert longitudinal_time_tag CS (text (date_word number))
    d))
