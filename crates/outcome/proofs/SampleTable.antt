-- THE SAMPLE TABLE: what the definitions say of each starred sample of document 01 is what the sample says: number, offset, length,
-- counts, the ledger, and the bytes. By computation; the long line below only names the definitions that compute. Assumes nothing.
use mathlib.Core.Path.{◌≡◌, refl}
use mathlib.Core.List.{map}
use native.Mathlib.Decide.{ℕ_discrete}
use Rattle.basis.specs.Choice.{every, among as basis-among}
use Rattle.basis.specs.Pieces.{pieces, after, joined}
use Rattle.vr.specs.Vr.{kind_of, served_by_lists, dummy_of}
use Rattle.layout.specs.Heads.{allowed, length_fault, value_head, sequence_head, long_head, vr_head, tag_head, element_head, item_body, item_at, item_head}
use Rattle.layout.specs.Read.{elements_at, items_at, read}
use Rattle.layout.specs.Tree.{bare_field, bare, bare_items}
use Rattle.layout.specs.Write.{mark, header, put_elements, put_field, put_sequence, put_items, bytes_of}
use Rattle.uid.specs.NewUid.{digits_in, decimal, new_uid}
use Rattle.uid.specs.Scan.{uid_span, digits, lead}
use Rattle.uid.specs.Uid.{component, components, formed}
use Rattle.uid.specs.Value.{if_uids, trimmed, uids_of, zero_pad, value_of}
use Rattle.ledger.specs.SlotFor.{slot_for, ledger_for}
use Rattle.ledger.specs.FirstMet.{first_at, number_of, learn, learns, numbers, same_uid}
use Rattle.ledger.specs.Slots.{slot_of, slots_in, flat}
use Rattle.calendar.specs.Dates.{leap, month_len, date_of, real}
use Rattle.calendar.specs.Spans.{before, span_at}
use Rattle.calendar.specs.Text.{two_digits, date_at, moved_date}
use Rattle.calendar.specs.Values.{padded, dates_end, shifted_text, all_move, shifted_value}
use Rattle.lists.specs.Lists.{entry_at, entries_from, entries, list_ok}
use Rattle.lists.specs.Lookup.{seek_from, entry_of, asked}
use Rattle.lists.specs.Number.{seven_bit, number_at}
use Rattle.options.specs.Options.{chosen_in, opt_at}
use Rattle.options.specs.Settings.{settings_fault, date_word}
use Rattle.table.specs.Action.{action_for, on_row, action_of}
use Rattle.table.specs.Override.{overriding}
use Rattle.table.specs.Rows.{table}
use Rattle.table.specs.Rules.{ruled}
use Rattle.table.specs.Table.{row_in, rising, legal}
use Rattle.kept.specs.Content.{map_body, map_content, map_walks, uids_in_body, uids_in, uids_in_walks, uids_in_all}
use Rattle.kept.specs.Counts.{counts_field, counts_of, counts_items}
use Rattle.treatment.specs.Fates.{fate_of}
use Rattle.kept.specs.Faults.{field_fault, first_fault, items_fault}
use Rattle.kept.specs.Fillers.{spaced, listed, emptied_as, dummied_as}
use Rattle.kept.specs.Kept.{kept_field, kept_of, kept_items}
use Rattle.kept.specs.Markers.{code_item, option_items, codes, insert, with_markers}
use Rattle.kept.specs.Numbering.{numbered_body, numbered, numbered_walks, numbered_all}
use Rattle.kept.specs.Written.{shifted_as, written_field, written_of, written_items, export, written}
use Rattle.outcome.specs.Outcome.{first_of, outcome_of, report_of, output_of, ledger_of}
use Rattle.outcome.specs.Conditions.{condition1, condition2, condition3, condition4, condition5, shape_condition, value_condition, condition13, condition14}
use Rattle.outcome.specs.Input.{read_as, tree_of, content, slots_after, bytes_for}
use Rattle.basis.specs.Text.{hex}
use Rattle.outcome.specs.Samples.{samples, further, untouched, tried, told, tried_untouched, told_untouched}

pub sample-table : map tried samples ≡ map told samples
unfolding ℕ_discrete every basis-among hex pieces after joined kind_of served_by_lists dummy_of allowed length_fault value_head sequence_head long_head vr_head tag_head element_head item_body item_at item_head elements_at items_at read bare_field bare bare_items mark header put_elements put_field put_sequence put_items bytes_of digits_in decimal new_uid uid_span digits lead component components formed if_uids trimmed uids_of zero_pad value_of slot_for ledger_for first_at number_of learn learns numbers same_uid slot_of slots_in flat leap month_len date_of real before span_at two_digits date_at moved_date padded dates_end shifted_text all_move shifted_value entry_at entries_from entries list_ok seek_from entry_of asked seven_bit number_at chosen_in opt_at settings_fault date_word action_for on_row action_of overriding table ruled row_in rising legal map_body map_content map_walks uids_in_body uids_in uids_in_walks uids_in_all counts_field counts_of counts_items fate_of field_fault first_fault items_fault spaced listed emptied_as dummied_as kept_field kept_of kept_items code_item option_items codes insert with_markers numbered_body numbered numbered_walks numbered_all shifted_as written_field written_of written_items export written first_of outcome_of report_of output_of ledger_of condition1 condition2 condition3 condition4 condition5 shape_condition value_condition condition13 condition14 read_as tree_of content slots_after bytes_for
sample-table = refl

-- the same of the cases of our own
pub further-table : map tried further ≡ map told further
unfolding ℕ_discrete every basis-among hex pieces after joined kind_of served_by_lists dummy_of allowed length_fault value_head sequence_head long_head vr_head tag_head element_head item_body item_at item_head elements_at items_at read bare_field bare bare_items mark header put_elements put_field put_sequence put_items bytes_of digits_in decimal new_uid uid_span digits lead component components formed if_uids trimmed uids_of zero_pad value_of slot_for ledger_for first_at number_of learn learns numbers same_uid slot_of slots_in flat leap month_len date_of real before span_at two_digits date_at moved_date padded dates_end shifted_text all_move shifted_value entry_at entries_from entries list_ok seek_from entry_of asked seven_bit number_at chosen_in opt_at settings_fault date_word action_for on_row action_of overriding table ruled row_in rising legal map_body map_content map_walks uids_in_body uids_in uids_in_walks uids_in_all counts_field counts_of counts_items fate_of field_fault first_fault items_fault spaced listed emptied_as dummied_as kept_field kept_of kept_items code_item option_items codes insert with_markers numbered_body numbered numbered_walks numbered_all shifted_as written_field written_of written_items export written first_of outcome_of report_of output_of ledger_of condition1 condition2 condition3 condition4 condition5 shape_condition value_condition condition13 condition14 read_as tree_of content slots_after bytes_for
further-table = refl

pub untouched-table : map tried_untouched untouched ≡ map told_untouched untouched
unfolding ℕ_discrete every basis-among hex pieces after joined kind_of served_by_lists dummy_of allowed length_fault value_head sequence_head long_head vr_head tag_head element_head item_body item_at item_head elements_at items_at read bare_field bare bare_items mark header put_elements put_field put_sequence put_items bytes_of digits_in decimal new_uid uid_span digits lead component components formed if_uids trimmed uids_of zero_pad value_of slot_for ledger_for first_at number_of learn learns numbers same_uid slot_of slots_in flat leap month_len date_of real before span_at two_digits date_at moved_date padded dates_end shifted_text all_move shifted_value entry_at entries_from entries list_ok seek_from entry_of asked seven_bit number_at chosen_in opt_at settings_fault date_word action_for on_row action_of overriding table ruled row_in rising legal map_body map_content map_walks uids_in_body uids_in uids_in_walks uids_in_all counts_field counts_of counts_items fate_of field_fault first_fault items_fault spaced listed emptied_as dummied_as kept_field kept_of kept_items code_item option_items codes insert with_markers numbered_body numbered numbered_walks numbered_all shifted_as written_field written_of written_items export written first_of outcome_of report_of output_of ledger_of condition1 condition2 condition3 condition4 condition5 shape_condition value_condition condition13 condition14 read_as tree_of content slots_after bytes_for
untouched-table = refl
