-- The writing walk as a state that goes over the tree from front to back: what is written so far, the ledger's slots and the four counts.
-- Each part is `kept`'s own definition, started from the state; nothing new is said about what is written. Assumes nothing.
--     State                         the bytes that are written, the slots in use, and the counts
--     say st xs                     st, with the bytes xs behind its own
--     count st c                    st, with the counts c more
--     slotted es s level            the kept content of the elements es of a level, each UID as its slot
--     slotted_items is s level      the same of the items of a sequence, whose elements are on this level
--     tree_for s level ks es        the elements that are written of es, where ks are the slots in use
--     passed s level low es st      st after the elements es of a level, whose tags are at least low: on the top level with what it gains from low on
--     passed_one s level es st      the same without what the top level gains; for one element
--     passed_items s level is st    st after the items is of a sequence that is walked into, and the mark that ends it
use Rattle.std.specs.Prelude.{List, [], ◌++◌, ℕ}
use Rattle.layout.specs.Tree.{Elements, Items, Place, Data}
use Rattle.layout.specs.Write.{bytes_of, put_items}
use Rattle.ledger.specs.FirstMet.{learns, same_uid}
use Rattle.ledger.specs.Slots.{slot_of}
use Rattle.treatment.specs.Settings.{Settings}
use Rattle.treatment.specs.declared.Level.{Level}
use Rattle.kept.specs.Content.{Content, Walks, map_content, map_walks, uids_in, uids_in_walks}
use Rattle.kept.specs.Kept.{kept_of, kept_items}
use Rattle.kept.specs.Numbering.{numbered, numbered_walks}
use Rattle.kept.specs.Written.{written_of, written_items}
use Rattle.kept.specs.Counts.{Counts, plus, counts_of, counts_items}
use Rattle.write_markers.specs.Gains.{with_markers_at}

pub record State : Type 0 where
  pub bytes : List ℕ
  pub slots : List (List ℕ)
  pub tally : Counts

abbrev pub say : State → List ℕ → State
say st xs = record { bytes = st.bytes ++ xs; slots = st.slots; tally = st.tally }

abbrev pub count : State → Counts → State
count st c = record { bytes = st.bytes; slots = st.slots; tally = plus st.tally c }

abbrev pub slotted : Elements Place → Settings → Level → Content (List ℕ)
slotted es s level = map_content slot_of (kept_of es s level)

abbrev pub slotted_items : Items Place → Settings → Level → Walks (List ℕ)
slotted_items is s level = map_walks slot_of (kept_items is s level)

abbrev pub tree_for : Settings → Level → List (List ℕ) → Elements Place → Data
tree_for s level ks es = written_of (numbered same_uid ks (slotted es s level)) s level

unfoldable pub passed : Settings → Level → ℕ → Elements Place → State → State
passed s level low es st = record {
  bytes = st.bytes ++ bytes_of (with_markers_at level s.options low (tree_for s level st.slots es));
  slots = learns same_uid st.slots (uids_in (slotted es s level));
  tally = plus st.tally (counts_of es s level);
}

unfoldable pub passed_one : Settings → Level → Elements Place → State → State
passed_one s level es st = record {
  bytes = st.bytes ++ bytes_of (tree_for s level st.slots es);
  slots = learns same_uid st.slots (uids_in (slotted es s level));
  tally = plus st.tally (counts_of es s level);
}

unfoldable pub passed_items : Settings → Level → Items Place → State → State
passed_items s level is st = record {
  bytes = st.bytes ++ put_items (written_items (numbered_walks same_uid st.slots (slotted_items is s level)) s level) [];
  slots = learns same_uid st.slots (uids_in_walks (slotted_items is s level));
  tally = plus st.tally (counts_items is s level);
}
