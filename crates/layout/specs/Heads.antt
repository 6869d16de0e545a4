-- What stands at a place of a data set, or the fault there: document 01, "Layout of a data set", refusals 6 to 10 and their order.
-- Each head makes its tests in that order. The answers are the code's own, `Head` and `Spot` of `src/lib.rt`, which says what each case
-- holds, or a refusal.
--     tag_at s at                          the tag of four bytes: group × 65,536 + element
--     item_tag, item_end, sequence_end     (FFFE,E000), (FFFE,E00D), (FFFE,E0DD)
--     undefined                            the length FFFFFFFF
--     allowed tag                          an element may have this tag
--     length_fault n left                  the fault of a stated length n with left bytes to the container's end, if there is one
--     unless f x                           x, unless there is the fault f
--     body_head e s at end tag             an element's head after its tag: the one definition that the encoding decides
--     element_head x at end unstated low   where an element may stand: in a container that ends at `end`, or, where its length is not
--                                          stated, at its end mark before that; `low` is the least tag that may stand here
--     item_head s at end unstated depth    where an item may stand: likewise, with `depth` more items allowed to nest; an item's tag and
--                                          length are the same in every encoding, so this is told of bytes
-- Stricter than PS3.5: UN and OB of undefined length are refused (F18). Laws: `proofs/HeadLaws.antt`, `proofs/LiesLaws.antt`. Assumes nothing.
use Rattle.std.specs.Prelude.{Bool, true, false, not, ◌&&◌, List, ℕ, ◌+◌, ◌-◌, ◌*◌, ◌%◌, eqb, ltb, leb, Option, None, Some, Result, Ok, Err}
use Rattle.basis.specs.Choice.{pick}
use Rattle.basis.specs.Bytes.{le2, le4}
use Rattle.refusals.specs.declared.Refusal.{Refusal}
use Rattle.refusals.specs.declared.Refusal.TheVariants.{CutShort, BadTag, BadVr, BadLength, TooDeep}
use Rattle.vr.specs.Vr.{kind_of}
use Rattle.vr.specs.declared.Kind.TheVariants.{Short, Long, Sequence}
use Rattle.layout.specs.Source.{Encoding, explicit, Source}
use Rattle.layout.specs.declared.Head.{Head}
use Rattle.layout.specs.declared.Head.TheVariants.{End, Plain, Seq}
use Rattle.layout.specs.declared.Spot.{Spot}
use Rattle.layout.specs.declared.Spot.TheVariants.{Over, Item}

-- Document 01, Layout, 1st point: a tag is its group, then its element, two bytes each
abbrev pub tag_at : List ℕ → ℕ → ℕ
tag_at s at = le2 s at * 65536 + le2 s (at + 2)

-- Document 01, Layout, 2nd point: the end marks, and the length of what one closes; the tag of an item is PS3.5's
abbrev pub item_tag : ℕ
item_tag = 0xFFFEE000

abbrev pub item_end : ℕ
item_end = 0xFFFEE00D

abbrev pub sequence_end : ℕ
sequence_end = 0xFFFEE0DD

abbrev pub undefined : ℕ
undefined = 0xFFFFFFFF

-- Document 01, Layout, 3rd point: an element's group is one of 0008 to FFFD
unfoldable pub allowed : ℕ → Bool
allowed tag = leb 0x00080000 tag && ltb tag 0xFFFE0000

-- Document 01, Layout, 3rd point, and the shape order: an odd length is 9; then one that passes its container's end is 6
unfoldable pub length_fault : ℕ → ℕ → Option Refusal
length_fault n left = pick (eqb (n % 2) 0) (pick (ltb left n) (Some CutShort) None) (Some BadLength)

abbrev pub unless : {A : Type 0} → Option Refusal → A → Result A Refusal
unless None x = Ok x
unless (Some r) x = Err r

-- Document 01, the shape order at an element, the last two tests, of a value of n bytes; FFFFFFFF is odd, so 9 (F18)
unfoldable pub value_head : ℕ → ℕ → ℕ → ℕ → ℕ → Result Head Refusal
value_head tag vr body end n = unless (length_fault n (end - body)) (Plain tag vr body (body + n))

-- the same of a sequence whose items begin at body: up to its end mark, or as far as its length says
unfoldable pub sequence_head : ℕ → ℕ → ℕ → ℕ → Result Head Refusal
sequence_head tag body end n =
    pick (eqb n undefined) (Ok (Seq tag body end true)) (unless (length_fault n (end - body)) (Seq tag body (body + n) false))

-- Document 01, Layout, 1st point: a long header has 12 bytes, of which two are zero; then a sequence, or a value
unfoldable pub long_head : List ℕ → ℕ → ℕ → ℕ → ℕ → Bool → Result Head Refusal
long_head s at end tag vr holds_items =
    pick (ltb (end - at) 12) (Err CutShort)
    (pick (not (eqb (le2 s (at + 6)) 0)) (Err BadVr)
    (pick holds_items (sequence_head tag (at + 12) end (le4 s (at + 8)))
    (value_head tag vr (at + 12) end (le4 s (at + 8)))))

-- Document 01, the shape order at an element, the test of the VR: what follows by its kind
unfoldable pub vr_head : List ℕ → ℕ → ℕ → ℕ → ℕ → Result Head Refusal
vr_head s at end tag vr =
    elim (kind_of vr) [
      | None ↦ Err BadVr
      | Some Short ↦ value_head tag vr (at + 8) end (le2 s (at + 6))
      | Some Long ↦ long_head s at end tag vr false
      | Some Sequence ↦ long_head s at end tag vr true
    ]

-- what follows an element's tag, by the encoding. Explicit: its VR, and what that says
abbrev pub body_head : Encoding → List ℕ → ℕ → ℕ → ℕ → Result Head Refusal
body_head explicit s at end tag = vr_head s at end tag (le2 s (at + 4))

-- Document 01, the shape order at an element, the test of the tag, and what follows
unfoldable pub tag_head : Source → ℕ → ℕ → ℕ → ℕ → Result Head Refusal
tag_head x at end tag low = pick (leb low tag && allowed tag) (body_head x.encoding x.bytes at end tag) (Err BadTag)

-- Document 01, the shape order at an element. A container of stated length ends where it is full; where an end mark closes it, that
-- stands in an element's place (F7).
unfoldable pub element_head : Source → ℕ → ℕ → Bool → ℕ → Result Head Refusal
element_head x at end unstated low =
    pick (eqb at end && not unstated) (Ok (End at))
    (pick (ltb (end - at) 8) (Err CutShort)
    (pick (unstated && eqb (tag_at x.bytes at) item_end) (pick (eqb (le4 x.bytes (at + 4)) 0) (Ok (End (at + 8))) (Err BadLength))
    (tag_head x at end (tag_at x.bytes at) low)))

-- Document 01, the shape order at an item, the last two tests; its elements begin at body
unfoldable pub item_body : ℕ → ℕ → ℕ → Result Spot Refusal
item_body body end n =
    pick (eqb n undefined) (Ok (Item body end true)) (unless (length_fault n (end - body)) (Item body (body + n) false))

-- Document 01, the shape order at an item, the tests of tag and depth, and what follows
unfoldable pub item_at : List ℕ → ℕ → ℕ → ℕ → ℕ → Result Spot Refusal
item_at s at end tag depth =
    pick (eqb tag item_tag) (pick (eqb depth 0) (Err TooDeep) (item_body (at + 8) end (le4 s (at + 4)))) (Err BadTag)

-- Document 01, the shape order at an item or mark; a sequence of stated length ends where it is full
unfoldable pub item_head : List ℕ → ℕ → ℕ → Bool → ℕ → Result Spot Refusal
item_head s at end unstated depth =
    pick (eqb at end && not unstated) (Ok (Over at))
    (pick (ltb (end - at) 8) (Err CutShort)
    (pick (unstated && eqb (tag_at s at) sequence_end) (pick (eqb (le4 s (at + 4)) 0) (Ok (Over (at + 8))) (Err BadLength))
    (item_at s at end (tag_at s at) depth)))
