-- What the top level gains, piece by piece: document 01, "What each action writes", last paragraph; readings W13, W15 to W17. `Markers` of the
-- crate `kept` says which three elements these are. Here they are cut at tags, since a walk over the level writes each when it comes past
-- its tag. Laws: `proofs/GainsLaws.antt`, `proofs/StepLaws.antt`. Assumes nothing.
--     all_markers                          the most bytes that the top level gains, and some to spare
--     due low high tag                     a test: the tag lies from low up to high, high not included
--     gain low high tag vr f d             d with the element in front, where its tag is due
--     gaining options low high d           d with those of the three in front that are due
--     gained_if top options low high       their bytes; none where it is not the top level
--     insert_from low tag vr f d           d with the element where its tag belongs, if its tag is at least low
--     with_markers_from options low d      d with those of the three whose tags are at least low
--     with_markers_if top options low d    the same on the top level; else d as it is
--     From low d                           every tag of the level d is at least low
use Rattle.std.specs.Prelude.{Bool, true, false, ◌&&◌, List, [], ℕ, ◌≤◌, leb, ltb}
use Rattle.basis.specs.Choice.{pick}
use Rattle.basis.specs.Text.{ascii}
use Rattle.vr.specs.Names.{CS, SQ}
use Rattle.layout.specs.Tree.{Field, items, nil, elem, Data}
use Rattle.layout.specs.Write.{bytes_of}
use Rattle.table.specs.Rules.{patient_identity_removed_tag, deidentification_codes_tag, longitudinal_time_tag}
use Rattle.options.specs.Settings.{date_word}
use Rattle.treatment.specs.Fates.{is_top}
use Rattle.treatment.specs.declared.Level.{Level}
use Rattle.kept.specs.Markers.{text, codes, insert}

-- what the top level gains is no longer: one of the bounds of `write_state`'s `Bounds`, which says what they are for
abbrev pub all_markers : ℕ
all_markers = 1024

abbrev pub due : ℕ → ℕ → ℕ → Bool
due low high tag = leb low tag && ltb tag high

unfoldable pub gain : ℕ → ℕ → ℕ → ℕ → Field (Unit {0}) → Data → Data
gain low high tag vr f d = pick (due low high tag) (elem tt tag vr f d) d

unfoldable pub gaining : ℕ → ℕ → ℕ → Data → Data
gaining options low high d =
    gain low high patient_identity_removed_tag CS (text (ascii "YES"))
    (gain low high deidentification_codes_tag SQ (items (codes options))
    (gain low high longitudinal_time_tag CS (text (date_word options))
    d))

unfoldable pub gained_if : Bool → ℕ → ℕ → ℕ → List ℕ
gained_if true options low high = bytes_of (gaining options low high nil)
gained_if false options low high = []

abbrev pub gained : Level → ℕ → ℕ → ℕ → List ℕ
gained level options low high = gained_if (is_top level) options low high

unfoldable pub insert_from : ℕ → ℕ → ℕ → Field (Unit {0}) → Data → Data
insert_from low tag vr f d = pick (leb low tag) (insert tag vr f d) d

unfoldable pub with_markers_from : ℕ → ℕ → Data → Data
with_markers_from options low d =
    insert_from low patient_identity_removed_tag CS (text (ascii "YES"))
    (insert_from low deidentification_codes_tag SQ (items (codes options))
    (insert_from low longitudinal_time_tag CS (text (date_word options))
    d))

unfoldable pub with_markers_if : Bool → ℕ → ℕ → Data → Data
with_markers_if true options low d = with_markers_from options low d
with_markers_if false options low d = d

abbrev pub with_markers_at : Level → ℕ → ℕ → Data → Data
with_markers_at level options low d = with_markers_if (is_top level) options low d

unfoldable pub From : ℕ → Data → Type 0
From low nil = Unit {0}
From low (elem l tag vr f d) = (low ≤ tag) × From low d
