-- What the functions of the writing walk promise: each that walks or writes an element is one `Wrote`, over what is to be passed. The contracts
-- of `write_element` and the inner ones of `write_walk` cite this file; what `write_walk` promises of a whole data set is its own `Whole`.
-- Assumes nothing.
--     met t                    the four counts of the progress t together
--     Ready root l t n more    the walk t may read n bytes more and write `more` beyond them: the root is not too long, the slots in use are
--                              slots of the ledger l, and no place and no count comes too far
--     Countable t n            n more elements can be counted
--     Walk                     how a walk ended: no slot was free for a UID; or the place past what was walked, and how far the walk is
--     Holds out₀ l₀ base out l t st   the output and the ledger, which were out₀ and l₀, and the progress t hold the state st, whose bytes begin at base
--     Ends                     a walk that should end at a place with a state does so; or it stops, where the state has more slots than there are
--     Within                   where a walk may end, how much it may write and count, and how many slots may be in use
--     Pass                     what is to be passed: up to a place, from one state to another
--     Wrote T from end more one ..   the promise: sizes stay and places stay within bounds whatever the bytes are, and where T says
--                              that a state is to be passed on to another, it was
--     ReadElements, ReadItems  the tree was read of a container, and the place past it
--     ElementPass              one element by itself, without a fault in its value
--     ElementsPass, ItemsPass, ItemPass    the elements of a container; the items of a sequence that is walked into; one item with its marks
--     SequencePass, WalkedPass, ShutPass   a sequence; one that is walked into; one that is not
--     PlainPass, ActPass       an element with a value; one that is not walked into
--     Stands f vr s from to    what an element that is not walked into holds
use Rattle.std.specs.Prelude.{◌≡◌, false, ◌≢◌, List, ℕ, ◌+◌, ◌-◌, ◌*◌, ◌≤◌, ◌<◌, length, take, Option, None, Some}
use Rattle.basis.specs.Bytes.{part}
use Rattle.buffer.specs.Buffer.{laid}
use Rattle.vr.specs.Names.{SQ}
use Rattle.layout.specs.Source.{Source}
use Rattle.layout.specs.Tree.{Field, value, items, Elements, nil, elem, Items, Place}
use Rattle.layout.specs.Heads.{item_tag, item_end, undefined}
use Rattle.layout.specs.Read.{good, elements_at, items_at}
use Rattle.layout.specs.Write.{mark}
use Rattle.layout.specs.declared.Container.{Container}
use Rattle.uid.specs.Uid.{longest_root}
use Rattle.ledger.specs.Slots.{slot_size, slots_of, slots_in, flat}
use Rattle.treatment.specs.Settings.{Settings}
use Rattle.treatment.specs.Fates.{is_top, fate}
use Rattle.treatment.specs.declared.Level.{Level}
use Rattle.treatment.specs.declared.Fate.{Fate}
use Rattle.treatment.specs.declared.Fate.TheVariants.{Walked}
use Rattle.kept.specs.Counts.{counts}
use Rattle.kept.specs.Faults.{field_fault, first_fault, items_fault}
use Rattle.write_markers.specs.Gains.{gained}
use Rattle.write_state.specs.Bounds.{per_byte, farthest}
use Rattle.write_state.specs.Passed.{State, say, passed, passed_one, passed_items}
use Rattle.write_state.specs.declared.Progress.{Progress}

-- ---- what a function may ask

abbrev pub met : Progress → ℕ
met t = t.kept + t.replaced + t.renamed + t.removed

pub record Ready (root l : List ℕ) (t : Progress) (n more : ℕ) : Type 0 where
  pub root_fits : length root ≤ longest_root
  pub slots_fit : t.used ≤ slots_of l
  pub room : t.pos + per_byte * n + more < farthest

pub record Countable (t : Progress) (n : ℕ) : Type 0 where
  pub countable : met t + n < farthest

-- ---- what a function promises

abbrev pub Walk : Type 0
Walk = Option (ℕ × Progress)

pub record Holds (out₀ l₀ : List ℕ) (base : ℕ) (out l : List ℕ) (t : Progress) (st : State) : Type 0 where
  pub pos_is : t.pos ≡ base + length st.bytes
  pub out_is : out ≡ laid out₀ base st.bytes
  pub used_is : t.used ≡ length st.slots
  pub slots_are : slots_in l t.used ≡ st.slots
  pub ledger_is : l ≡ laid l₀ 0 (flat st.slots)
  pub counts_are : counts t.kept t.replaced t.renamed t.removed ≡ st.tally

abbrev pub Ends : List ℕ → List ℕ → ℕ → List ℕ → List ℕ → ℕ → State → Walk → Type 0
Ends out₀ l₀ base out l next st None = slots_of l₀ < length st.slots
Ends out₀ l₀ base out l next st (Some (past, t)) = (past ≡ next) × Holds out₀ l₀ base out l t st

-- at most one element is counted for a byte that was read
abbrev pub Within : ℕ → ℕ → ℕ → ℕ → List ℕ → Progress → Walk → Type 0
Within from end more one l t None = Unit {0}
Within from end more one l t (Some (past, u)) =
    (from ≤ past) × (past ≤ end) × (u.pos ≤ t.pos + per_byte * (past - from) + more) × (met u ≤ met t + (past - from) + one)
    × (t.used ≤ u.used) × (u.used ≤ slots_of l)

abbrev pub Pass : Type 1
Pass = ℕ → State → State → Type 0

pub record Wrote (T : Pass) (from end more one : ℕ) (out out' l l' : List ℕ) (t : Progress) (r : Walk) : Type 0 where
  pub out_size : length out' ≡ length out
  pub ledger_size : length l' ≡ length l
  pub slots_kept : take (slot_size * t.used) l' ≡ take (slot_size * t.used) l
  pub bounds : Within from end more one l t r
  pub right : (next : ℕ) (st st' : State) → T next st st' → (out₀ l₀ : List ℕ) (base : ℕ) → Holds out₀ l₀ base out l t st
      → Ends out₀ l₀ base out' l' next st' r

-- ---- what is to be passed

-- at some bound above the bytes that are left
pub record ReadElements (x : Source) (c : Container) (low : ℕ) (tree : Elements Place) (past : ℕ) : Type 0 where
  pub fuel : ℕ
  pub enough : c.end - c.from < fuel
  pub reads : elements_at fuel x c.from c.end c.unstated c.depth low ≡ good tree past

pub record ReadItems (x : Source) (c : Container) (tree : Items Place) (past : ℕ) : Type 0 where
  pub fuel : ℕ
  pub enough : c.end - c.from < fuel
  pub reads : items_at fuel x c.from c.end c.unstated c.depth ≡ good tree past

-- one element, wherever it stood
pub record ElementPass (w : Settings) (level : Level) (tag vr : ℕ) (f : Field Place) (st st' : State) : Type 0 where
  pub place : Place
  pub sound : field_fault f w level (fate w level tag vr) vr place.at ≡ None
  pub ends : st' ≡ passed_one w level (elem place tag vr f nil) st

-- the elements of a container, whose tags are at least low
pub record ElementsPass (w : Settings) (x : Source) (c : Container) (level : Level) (low next : ℕ) (st st' : State) : Type 0 where
  pub tree : Elements Place
  pub read : ReadElements x c low tree next
  pub sound : first_fault tree w level ≡ None
  pub ends : st' ≡ passed w level low tree st

-- the items of a sequence that is walked into; their elements are on this level, which is not the top one
pub record ItemsPass (w : Settings) (x : Source) (c : Container) (level : Level) (next : ℕ) (st st' : State) : Type 0 where
  pub inner : is_top level ≡ false
  pub tree : Items Place
  pub read : ReadItems x c tree next
  pub sound : items_fault tree w level ≡ None
  pub ends : st' ≡ passed_items w level tree st

-- one item, with its marks; c is what is inside it
pub record ItemPass (w : Settings) (x : Source) (c : Container) (level : Level) (next : ℕ) (st st' : State) : Type 0 where
  pub tree : Elements Place
  pub read : ReadElements x c 0 tree next
  pub sound : first_fault tree w level ≡ None
  pub ends : st' ≡ say (passed w level 0 tree (say st (mark item_tag undefined))) (mark item_end 0)

-- a sequence, whatever is done with it
pub record SequencePass (w : Settings) (x : Source) (c : Container) (level : Level) (tag next : ℕ) (st st' : State) : Type 0 where
  pub tree : Items Place
  pub read : ReadItems x c tree next
  pub one : ElementPass w level tag SQ (items tree) st st'

-- one that is walked into
pub record WalkedPass (w : Settings) (x : Source) (c : Container) (level : Level) (tag next : ℕ) (st st' : State) : Type 0 where
  pub is_walked : fate w level tag SQ ≡ Walked
  pub sequence : SequencePass w x c level tag next st st'

-- one that is shut: what stands in it is neither judged nor written
pub record ShutPass (w : Settings) (x : Source) (c : Container) (φ : Fate) (tag next : ℕ) (st st' : State) : Type 0 where
  pub level : Level
  pub fate_is : fate w level tag SQ ≡ φ
  pub is_shut : φ ≢ Walked
  pub sequence : SequencePass w x c level tag next st st'

-- what an element that is not walked into holds: the bytes of its value, or a sequence's items, whatever they are
abbrev pub Stands : Field Place → ℕ → List ℕ → ℕ → ℕ → Type 0
Stands (value v) vr s from to = (v ≡ part s from to) × (vr ≢ SQ)
Stands (items is) vr s from to = vr ≡ SQ

-- an element that is not walked into
pub record ActPass (w : Settings) (φ : Fate) (tag vr : ℕ) (s : List ℕ) (from to next : ℕ) (st st' : State) : Type 0 where
  pub level : Level
  pub field : Field Place
  pub fate_is : fate w level tag vr ≡ φ
  pub is_shut : φ ≢ Walked
  pub stands : Stands field vr s from to
  pub next_is : to ≡ next
  pub one : ElementPass w level tag vr field st st'

-- an element with a value, whatever is done with it
pub record PlainPass (w : Settings) (level : Level) (tag vr : ℕ) (s : List ℕ) (from to next : ℕ) (st st' : State) : Type 0 where
  pub other : vr ≢ SQ
  pub next_is : to ≡ next
  pub one : ElementPass w level tag vr (value (part s from to)) st st'

-- T, and before it what the top level gains from the tag low up to the tag itself
abbrev pub Gaining : Settings → Level → ℕ → ℕ → Pass → Pass
Gaining w level low tag T next st st' = T next (say st (gained level w.options low (tag + 1))) st'
