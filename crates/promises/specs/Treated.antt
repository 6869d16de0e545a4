-- What becomes of every element, as a relation between the data set that came in and the one that is left of it: document 01, "What
-- each action writes", one case for each thing that its lines say, on the top level and in every item that is walked into. It is
-- to be held against document 01 by itself: it cites the tree of `layout`, the action table, the VRs, the lists, dates and UIDs; of crate
-- `kept`, which makes the export, no more than the record of counts; and of crate `treatment` settings, levels, and the fate `Walked`, by
-- which `below` gives the level of an item. Assumes nothing.
--     Keeps a vr, WalkedInto a, AsD a vr, Renames a vr    the lines that hold for an element of this VR whose action is a
--     Listed s tag vr v, Unlisted s tag vr                a list has the value v for the tag, and may serve the VR; there is no such value
--     Evened t w                                          w is the text t, with one space where its length is odd
--     one_kept, one_replaced, one_renamed, one_removed    one element, counted
--     Becomes s number_for level tag vr f g c us          an element that is neither removed nor walked into, and held f, holds g afterwards
--     Treated s number_for level es ds c us               of the elements es of a level ds is left
--     TreatedItems s number_for level is os c us          of the items is of a sequence os is left, one by one; their elements are on this level
-- `number_for` gives each UID its number in the ledger; c are the four counts of what was met, and us the UIDs that were renamed, in output
-- order.
use Rattle.std.specs.Prelude.{◌≡◌, ◌≢◌, ◌⊎◌, true, false, List, [], ◌∷◌, ◌++◌, map, ℕ, ◌%◌, length, None, Some}
use Rattle.vr.specs.Names.{DA, DT, SQ, TM, UI}
use Rattle.vr.specs.Vr.{served_by_lists, dummy_of}
use Rattle.layout.specs.Tree.{Field, value, items, nil, elem, Items, none as no_item, item, Data}
use Rattle.table.specs.Action.{action_of}
use Rattle.table.specs.declared.Action.{Action}
use Rattle.table.specs.declared.Action.TheVariants.{Remove, Keep, Empty, Dummy, Rename, Clean, CleanDates}
use Rattle.uid.specs.Value.{uids_of}
use Rattle.uid.specs.NewUid.{uids_text}
use Rattle.calendar.specs.Values.{shifted_value}
use Rattle.lists.specs.Lookup.{asked}
use Rattle.treatment.specs.Settings.{Settings}
use Rattle.treatment.specs.Fates.{is_top, below}
use Rattle.treatment.specs.declared.Level.{Level}
use Rattle.treatment.specs.declared.Fate.TheVariants.{Walked}
use Rattle.kept.specs.Counts.{Counts, counts, nothing, plus}

-- ---- which line holds

-- K, of all but sequences; and C under Modified Dates' column, of TM
pub data Keeps : Action → ℕ → Type 0 where
  keep : {vr : ℕ} → vr ≢ SQ → Keeps Keep vr
  time : {vr : ℕ} → vr ≡ TM → Keeps CleanDates vr

-- K, U and C, of sequences
pub data WalkedInto : Action → Type 0 where
  keep : WalkedInto Keep
  rename : WalkedInto Rename
  clean : WalkedInto Clean
  clean_dates : WalkedInto CleanDates

-- D; and C, of anything else than its line has named
pub data AsD : Action → ℕ → Type 0 where
  dummy : {vr : ℕ} → AsD Dummy vr
  clean : {vr : ℕ} → vr ≢ SQ → AsD Clean vr
  clean_dates : {vr : ℕ} → vr ≢ SQ → vr ≢ DA → vr ≢ DT → vr ≢ TM → AsD CleanDates vr

-- U; and D, which treats a UI as U does. That the VR is UI is asked where this is used (`renamed`)
pub data Renames : Action → ℕ → Type 0 where
  rename : {vr : ℕ} → Renames Rename vr
  as_d : {a : Action} {vr : ℕ} → AsD a vr → Renames a vr

-- ---- list values and padding

abbrev pub Listed : Settings → ℕ → ℕ → List ℕ → Type 0
Listed s tag vr v = (served_by_lists vr ≡ true) × (asked s.study s.site tag ≡ Some v)

abbrev pub Unlisted : Settings → ℕ → ℕ → Type 0
Unlisted s tag vr = (served_by_lists vr ≡ false) ⊎ (asked s.study s.site tag ≡ None)

pub data Evened (t : List ℕ) : List ℕ → Type 0 where
  even : length t % 2 ≡ 0 → Evened t t
  odd : length t % 2 ≡ 1 → Evened t (t ++ 0x20 ∷ [])

-- ---- the counts

abbrev pub one_kept : Counts
one_kept = counts 1 0 0 0

abbrev pub one_replaced : Counts
one_replaced = counts 0 1 0 0

abbrev pub one_renamed : Counts
one_renamed = counts 0 0 1 0

abbrev pub one_removed : Counts
one_removed = counts 0 0 0 1

-- ---- the relation

-- what is not removed and not walked into
pub data Becomes (s : Settings) (number_for : List ℕ → ℕ) (level : Level) (tag vr : ℕ) : Field (Unit {0}) → Field (Unit {0}) → Counts → List (List ℕ) → Type 0 where
  -- K, and TM under C in Modified Dates' column: the value, byte for byte
  same : {v : List ℕ} → Keeps (action_of s.options (is_top level) tag) vr → Becomes s number_for level tag vr (value v) (value v) one_kept []
  -- Z: a list value, else no byte; a sequence has no item. Whatever it held
  emptied_listed : {f : Field (Unit {0})} {v w : List ℕ} → action_of s.options (is_top level) tag ≡ Empty → Listed s tag vr v → Evened v w
      → Becomes s number_for level tag vr f (value w) one_replaced []
  emptied : {f : Field (Unit {0})} → action_of s.options (is_top level) tag ≡ Empty → vr ≢ SQ → Unlisted s tag vr
      → Becomes s number_for level tag vr f (value []) one_replaced []
  emptied_sequence : {f : Field (Unit {0})} → action_of s.options (is_top level) tag ≡ Empty → vr ≡ SQ
      → Becomes s number_for level tag vr f (items no_item) one_replaced []
  -- D: a list value, else the VR's dummy; a sequence has one item with nothing in it. Whatever it held (no list
  -- serves UI or SQ)
  dummied_listed : {f : Field (Unit {0})} {v w : List ℕ} → AsD (action_of s.options (is_top level) tag) vr → Listed s tag vr v → Evened v w
      → Becomes s number_for level tag vr f (value w) one_replaced []
  dummied : {f : Field (Unit {0})} {w : List ℕ} → AsD (action_of s.options (is_top level) tag) vr → vr ≢ SQ → vr ≢ UI → Unlisted s tag vr → Evened (dummy_of vr) w
      → Becomes s number_for level tag vr f (value w) one_replaced []
  dummied_sequence : {f : Field (Unit {0})} → AsD (action_of s.options (is_top level) tag) vr → vr ≡ SQ
      → Becomes s number_for level tag vr f (items (item nil no_item)) one_replaced []
  -- U, and D on a UI: each of its UIDs renamed to the root, a dot and its number
  renamed : {v : List ℕ} {us : List (List ℕ)} → Renames (action_of s.options (is_top level) tag) vr → vr ≡ UI → uids_of v ≡ Some us
      → Becomes s number_for level tag vr (value v) (value (uids_text s.root (map number_for us))) one_renamed us
  -- C under Modified Dates' column: the dates of a DA or DT, moved
  date : {v w : List ℕ} → action_of s.options (is_top level) tag ≡ CleanDates → vr ≡ DA → shifted_value true s.shift v ≡ Some w
      → Becomes s number_for level tag vr (value v) (value w) one_replaced []
  date_time : {v w : List ℕ} → action_of s.options (is_top level) tag ≡ CleanDates → vr ≡ DT → shifted_value false s.shift v ≡ Some w
      → Becomes s number_for level tag vr (value v) (value w) one_replaced []

mutual
  pub data Treated (s : Settings) (number_for : List ℕ → ℕ) : Level → Data → Data → Counts → List (List ℕ) → Type 0 where
    end : {level : Level} → Treated s number_for level nil nil nothing []
    -- X: nothing
    gone : {level : Level} {l : Unit {0}} {tag vr : ℕ} {f : Field (Unit {0})} {es ds : Data} {c : Counts} {us : List (List ℕ)}
        → action_of s.options (is_top level) tag ≡ Remove → Treated s number_for level es ds c us
        → Treated s number_for level (elem l tag vr f es) ds (plus one_removed c) us
    -- K, U and C on a sequence: its items, each treated by all these rules
    walked : {level : Level} {l m : Unit {0}} {tag vr : ℕ} {is os : Items (Unit {0})} {es ds : Data} {b c : Counts} {us ws : List (List ℕ)}
        → WalkedInto (action_of s.options (is_top level) tag) → vr ≡ SQ → TreatedItems s number_for (below Walked level) is os b us → Treated s number_for level es ds c ws
        → Treated s number_for level (elem l tag vr (items is) es) (elem m tag vr (items os) ds) (plus one_kept (plus b c)) (us ++ ws)
    -- all else: tag and VR stay
    stays : {level : Level} {l m : Unit {0}} {tag vr : ℕ} {f g : Field (Unit {0})} {es ds : Data} {b c : Counts} {us ws : List (List ℕ)}
        → Becomes s number_for level tag vr f g b us → Treated s number_for level es ds c ws
        → Treated s number_for level (elem l tag vr f es) (elem m tag vr g ds) (plus b c) (us ++ ws)

  -- items stay, also those that lost everything
  pub data TreatedItems (s : Settings) (number_for : List ℕ → ℕ) : Level → Items (Unit {0}) → Items (Unit {0}) → Counts → List (List ℕ) → Type 0 where
    last : {level : Level} → TreatedItems s number_for level no_item no_item nothing []
    each : {level : Level} {es ds : Data} {is os : Items (Unit {0})} {b c : Counts} {us ws : List (List ℕ)}
        → Treated s number_for level es ds b us → TreatedItems s number_for level is os c ws
        → TreatedItems s number_for level (item es is) (item ds os) (plus b c) (us ++ ws)
