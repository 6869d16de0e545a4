-- What the walks of `src/` promise, each by a definition of `Read` or `Heads`, and what the code does once for elements and items alike.
-- Nothing of document 01. Assumes nothing.
--     ended s at end unstated mark    the first tests at a place: the place past the container, if it ends there
--     stop_of body end n      where what begins at body has to stop, and whether an end mark closes it
--     located a at            the answer a that was found at a place: its refusal is a fault there
--     Inside at end h         the places of an element's head rise and stay within the container, and its tag has four bytes
--     Within at end depth h   likewise of an item's
--     Stays at end r          a walk from `at` goes on to a place within the container
--     container from end unstated depth    a container: a struct of `src/lib.rt`, which says what each field is
--     Lies c s                the container c lies within the bytes s
--     deeper c                the container c, with one item fewer that may nest in it
--     Walked x c r            a walk of the elements of the container c of the data set x: its answer r is the definition's
--     WalkedItems x c r       likewise of the items of a sequence
use Rattle.std.specs.Prelude.{◌≡◌, Bool, true, false, not, ◌&&◌, List, ℕ, ◌+◌, ◌-◌, ◌≤◌, ◌<◌, eqb, ltb, Option, None, Some, Result, Ok, Err, length}
use Rattle.basis.specs.Choice.{pick}
use Rattle.basis.specs.Bytes.{le4}
use Rattle.refusals.specs.declared.Refusal.{Refusal}
use Rattle.refusals.specs.declared.Refusal.TheVariants.{CutShort, BadLength}
use Rattle.refusals.specs.declared.Fault.{Fault}
use Rattle.layout.specs.Source.{Source}
use Rattle.layout.specs.Heads.{tag_at, undefined, length_fault, unless}
use Rattle.layout.specs.Read.{elements_at, items_at, shape_of}
use Rattle.layout.specs.declared.Container.{Container}
use Rattle.layout.specs.declared.Head.{Head}
use Rattle.layout.specs.declared.Head.TheVariants.{End, Plain, Seq}
use Rattle.layout.specs.declared.Spot.{Spot}
use Rattle.layout.specs.declared.Spot.TheVariants.{Over, Item}

abbrev pub ended : List ℕ → ℕ → ℕ → Bool → ℕ → Result (Option ℕ) Refusal
ended s at end unstated mark =
    pick (eqb at end && not unstated) (Ok (Some at))
    (pick (ltb (end - at) 8) (Err CutShort)
    (pick (unstated && eqb (tag_at s at) mark) (pick (eqb (le4 s (at + 4)) 0) (Ok (Some (at + 8))) (Err BadLength))
    (Ok None)))

abbrev pub stop_of : ℕ → ℕ → ℕ → Result (ℕ × Bool) Refusal
stop_of body end n = pick (eqb n undefined) (Ok (end, true)) (unless (length_fault n (end - body)) (body + n, false))

abbrev pub located : {A : Type 0} → Result A Refusal → ℕ → Result A Fault
located (Ok a) at = Ok a
located (Err r) at = Err (record { refusal = r; offset = at })

abbrev pub Inside : ℕ → ℕ → Result Head Refusal → Type 0
Inside at end (Err r) = Unit {0}
Inside at end (Ok (End past)) = (at ≤ past) × (past ≤ end)
Inside at end (Ok (Plain tag vr body past)) = (at + 8 ≤ body) × (body ≤ past) × (past ≤ end) × (tag < 4294967296)
Inside at end (Ok (Seq tag body stop m)) = (at + 12 ≤ body) × (body ≤ stop) × (stop ≤ end) × (tag < 4294967296)

abbrev pub Within : ℕ → ℕ → ℕ → Result Spot Refusal → Type 0
Within at end depth (Err r) = Unit {0}
Within at end depth (Ok (Over past)) = (at ≤ past) × (past ≤ end)
Within at end depth (Ok (Item body stop m)) = (at + 8 ≤ body) × (body ≤ stop) × (stop ≤ end) × (0 < depth)

abbrev pub Stays : ℕ → ℕ → Result ℕ Fault → Type 0
Stays at end (Ok past) = (at ≤ past) × (past ≤ end)
Stays at end (Err f) = Unit {0}

abbrev pub container : ℕ → ℕ → Bool → ℕ → Container
container from end unstated depth = record { from = from; end = end; unstated = unstated; depth = depth }

-- the inside of an item, where one item fewer may nest
abbrev pub deeper : Container → Container
deeper c = container c.from c.end c.unstated (c.depth - 1)

-- what a walk asks: the container lies within the bytes
pub record Lies (c : Container) (s : List ℕ) : Type 0 where
  pub rises : c.from ≤ c.end
  pub in_s : c.end ≤ length s

-- at every bound above the bytes that are left
pub record Walked (x : Source) (c : Container) (r : Result ℕ Fault) : Type 0 where
  pub stays : Stays c.from c.end r
  pub shape : (k : ℕ) → c.end - c.from < k → r ≡ shape_of (elements_at k x c.from c.end c.unstated c.depth 0)

pub record WalkedItems (x : Source) (c : Container) (r : Result ℕ Fault) : Type 0 where
  pub stays : Stays c.from c.end r
  pub shape : (k : ℕ) → c.end - c.from < k → r ≡ shape_of (items_at k x c.from c.end c.unstated c.depth)
