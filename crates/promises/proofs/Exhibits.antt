-- What the definitions say of four data sets, by computation: what the wrong stations of `WrongStations.antt` and `WrongStations3.antt` are held
-- against. Each of the last three differs from the first in one place. Assumes nothing.
--     dataset modality name u w    a modality, which is kept; a name, which is emptied; two UIDs, which are renamed; a private element, which is removed
--     first                        MR, Doe^Jane, 1.2.30 and 1.2.31
--     other_kept, other_name, one_uid    CT for MR; Roe^John for Doe^Jane; 1.2.30 for 1.2.31
--     input_for d                  what a run is handed: d, no options, the root 1.9, a ledger with two slots and no entries, room for 400 bytes
--     export_of u w                what is written of the first, with u and w for its UIDs
--     content_with modality u w    their kept contents
--     bytes, said                  they are bytes; they are accepted, with these outputs, counts and contents
use mathlib.Core.Path.{◌≡◌, refl}
use mathlib.Core.List.{List, [], ◌∷◌, ◌++◌}
use Prim.Native.Nat.{ℕ}
use native.Mathlib.Decide.{ℕ_discrete}
use lib.ListN.{replicate}
use Rattle.basis.specs.Bytes.{AllBytes}
use Rattle.basis.specs.Text.{ascii}
use Rattle.basis.specs.Choice.{every, among}
use Rattle.basis.specs.Pieces.{pieces, after, joined}
use Rattle.vr.specs.Vr.{kind_of, served_by_lists}
use Rattle.layout.specs.Source.{explicitly}
use Rattle.layout.specs.Heads.{allowed, length_fault, value_head, sequence_head, long_head, vr_head, tag_head, element_head}
use Rattle.layout.specs.Read.{elements_at, read}
use Rattle.layout.specs.Write.{mark, header, put_elements, bytes_of}
use Rattle.uid.specs.NewUid.{digits_in, decimal, new_uid}
use Rattle.uid.specs.Scan.{uid_span, digits, lead}
use Rattle.uid.specs.Uid.{component, components, formed}
use Rattle.uid.specs.Value.{if_uids, trimmed, uids_of, zero_pad, value_of}
use Rattle.ledger.specs.FirstMet.{first_at, number_of, learn, learns, numbers, same_uid}
use Rattle.ledger.specs.Slots.{slot_of, slots_in, flat}
use Rattle.lists.specs.Lists.{entry_at, entries_from, entries, list_ok}
use Rattle.lists.specs.Number.{seven_bit, number_at}
use Rattle.lists.specs.Lookup.{seek_from, entry_of, asked}
use Rattle.options.specs.Options.{chosen_in}
use Rattle.options.specs.Settings.{settings_fault, date_word}
use Rattle.table.specs.Action.{action_for, on_row, action_of}
use Rattle.table.specs.Override.{overriding}
use Rattle.table.specs.Rows.{table}
use Rattle.table.specs.Rules.{ruled}
use Rattle.table.specs.Table.{row_in}
use Rattle.kept.specs.Content.{map_content, uids_in}
use Rattle.kept.specs.Counts.{counts_of}
use Rattle.treatment.specs.Fates.{fate_of}
use Rattle.kept.specs.Faults.{first_fault}
use Rattle.kept.specs.Fillers.{spaced, listed, emptied_as}
use Rattle.kept.specs.Kept.{kept_of}
use Rattle.kept.specs.Markers.{code_item, option_items, codes, insert, with_markers}
use Rattle.kept.specs.Numbering.{numbered}
use Rattle.kept.specs.Written.{written_of, export, written}
use Rattle.outcome.specs.Outcome.{done, first_of, outcome_of, report_of, output_of}
use Rattle.outcome.specs.Conditions.{condition1, condition2, condition3, condition4, condition5, shape_condition, value_condition, condition13, condition14}
use Rattle.outcome.specs.Input.{read_as, tree_of, content, slots_after, bytes_for}
use Rattle.vr.specs.Names.{CS, LO, PN, UI}
use Rattle.layout.specs.Tree.{value, nil, elem}
use Rattle.kept.specs.Content.{Content, shown, blank, uids, keep, end}
use Rattle.kept.specs.Counts.{counts}
use Rattle.kept.specs.Kept.{Uid}
use Rattle.outcome.specs.Input.{Input}
use Rattle.outcome.specs.Outcome.{filled_up}
use Rattle.outcome.specs.Samples.{element, plain}
use Rattle.promises.specs.Demand3.{content_of, started}
use Rattle.promises.proofs.Witness.{bytes-are}

-- ---- the data sets

abbrev pub dataset : List ℕ → List ℕ → List ℕ → List ℕ → List ℕ
dataset modality name u w =
    element 0x0008_0060 CS modality ++ element 0x0010_0010 PN name ++ element 0x0020_000D UI u ++ element 0x0020_000E UI w
    ++ element 0x0021_0010 LO (ascii "ACME")

abbrev pub first : List ℕ
first = dataset (ascii "MR") (ascii "Doe^Jane") (ascii "1.2.30") (ascii "1.2.31")

abbrev pub other_kept : List ℕ
other_kept = dataset (ascii "CT") (ascii "Doe^Jane") (ascii "1.2.30") (ascii "1.2.31")

abbrev pub other_name : List ℕ
other_name = dataset (ascii "MR") (ascii "Roe^John") (ascii "1.2.30") (ascii "1.2.31")

abbrev pub one_uid : List ℕ
one_uid = dataset (ascii "MR") (ascii "Doe^Jane") (ascii "1.2.30") (ascii "1.2.30")

abbrev pub empty_ledger : List ℕ
empty_ledger = replicate 128 0

abbrev pub input_for : List ℕ → Input
input_for d = started plain empty_ledger 0 400 (explicitly d)

-- ---- what is said of them

-- the modality, no name, and these values for the UIDs
abbrev pub export_of : List ℕ → List ℕ → List ℕ
export_of u w =
    bytes_of
    (with_markers 0
    (elem tt 0x0008_0060 CS (value (ascii "MR"))
    (elem tt 0x0010_0010 PN (value [])
    (elem tt 0x0020_000D UI (value (u ++ 0 ∷ []))
    (elem tt 0x0020_000E UI (value (w ++ 0 ∷ []))
    nil)))))

abbrev pub content_with : List ℕ → Uid → Uid → Content Uid
content_with modality u w =
    keep 0x0008_0060 CS (shown modality)
    (keep 0x0010_0010 PN blank
    (keep 0x0020_000D UI (uids (u ∷ []))
    (keep 0x0020_000E UI (uids (w ∷ []))
    end)))

pub record Bytes : Type 0 where
  pub of-first : AllBytes first
  pub of-other_kept : AllBytes other_kept
  pub of-other_name : AllBytes other_name
  pub of-one_uid : AllBytes one_uid

pub bytes : Bytes
unfolding every header mark kind_of among
bytes =
    record { of-first = bytes-are first refl; of-other_kept = bytes-are other_kept refl; of-other_name = bytes-are other_name refl; of-one_uid = bytes-are one_uid refl }

pub record Said : Type 0 where
  -- they are accepted
  pub first-done : outcome_of (input_for first) ≡ done
  pub other_kept-done : outcome_of (input_for other_kept) ≡ done
  pub other_name-done : outcome_of (input_for other_name) ≡ done
  pub one_uid-done : outcome_of (input_for one_uid) ≡ done
  -- what the run of the first leaves, and its counts
  pub output : output_of (input_for first) ≡ filled_up 400 (export_of (ascii "1.9.1") (ascii "1.9.2"))
  pub counted : (report_of (input_for first)).counts ≡ counts 1 1 2 1
  -- what a station writes of the first that gives every UID the number 1
  pub ones : written plain (map_content (λ _. 1) (content_of plain (explicitly first))) ≡ export_of (ascii "1.9.1") (ascii "1.9.1")
  -- their kept contents
  pub first-content : content_of plain (explicitly first) ≡ content_with (ascii "MR") (ascii "1.2.30") (ascii "1.2.31")
  pub other_kept-content : content_of plain (explicitly other_kept) ≡ content_with (ascii "CT") (ascii "1.2.30") (ascii "1.2.31")
  pub other_name-content : content_of plain (explicitly other_name) ≡ content_with (ascii "MR") (ascii "1.2.30") (ascii "1.2.31")
  pub one_uid-content : content_of plain (explicitly one_uid) ≡ content_with (ascii "MR") (ascii "1.2.30") (ascii "1.2.30")

pub said : Said
unfolding ℕ_discrete every among pieces after joined kind_of served_by_lists allowed length_fault value_head sequence_head long_head vr_head tag_head element_head elements_at read mark header put_elements bytes_of digits_in decimal new_uid uid_span digits lead component components formed if_uids trimmed uids_of zero_pad value_of first_at number_of learn learns numbers same_uid slot_of slots_in flat seven_bit number_at entry_at entries_from entries list_ok seek_from entry_of asked chosen_in settings_fault date_word action_for on_row action_of overriding table ruled row_in map_content uids_in counts_of fate_of first_fault spaced listed emptied_as kept_of code_item option_items codes insert with_markers numbered written_of export written first_of outcome_of report_of output_of condition1 condition2 condition3 condition4 condition5 shape_condition value_condition condition13 condition14 read_as tree_of content slots_after bytes_for content_of
said = record {
  first-done = refl;
  other_kept-done = refl;
  other_name-done = refl;
  one_uid-done = refl;
  output = refl;
  counted = refl;
  ones = refl;
  first-content = refl;
  other_kept-content = refl;
  other_name-content = refl;
  one_uid-content = refl;
}
