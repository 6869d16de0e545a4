-- The bytes of a data set as the station writes it: document 01, Layout, 1st and 2nd points, and "What each action writes", the
-- paragraph on sequences: one with items has undefined length, and so have its items, each with its end mark; one without has length 0.
--     tag_bytes tag, mark tag n    a tag; an item or end mark with its length n of four bytes
--     short_header, long_header    a header with a length of two bytes; with two zero bytes and a length of four
--     header tag vr n              the header of an element with a value of n bytes: short or long, by the VR's kind (an unknown VR is never written)
--     opened k, closed k           k with an item's tag, or its end mark, in front
--     put.. k                      the bytes of the thing, followed by k
--     bytes_of d                   the bytes of the data set d
-- Headers are made anew from tag, VR and length. Laws: `proofs/MarkLaws.antt`, `proofs/RoundLaws.antt`. Assumes nothing.
use Rattle.std.specs.Prelude.{List, [], ◌∷◌, ◌++◌, ℕ, ◌/◌, length, None, Some}
use Rattle.basis.specs.Bytes.{low2, low4}
use Rattle.vr.specs.Vr.{kind_of}
use Rattle.vr.specs.declared.Kind.TheVariants.{Short, Long, Sequence}
use Rattle.layout.specs.Tree.{Field, value, items, Elements, nil, elem, Items, none, item}
use Rattle.layout.specs.Heads.{item_tag, item_end, sequence_end, undefined}

abbrev pub tag_bytes : ℕ → List ℕ
tag_bytes tag = low2 (tag / 65536) ++ low2 tag

unfoldable pub mark : ℕ → ℕ → List ℕ
mark tag n = tag_bytes tag ++ low4 n

-- a length of two bytes; two zero bytes and a length of four
abbrev pub short_header : ℕ → ℕ → ℕ → List ℕ
short_header tag vr n = tag_bytes tag ++ (low2 vr ++ low2 n)

abbrev pub long_header : ℕ → ℕ → ℕ → List ℕ
long_header tag vr n = tag_bytes tag ++ (low2 vr ++ (0 ∷ 0 ∷ low4 n))

unfoldable pub header : ℕ → ℕ → ℕ → List ℕ
header tag vr n =
    elim (kind_of vr) [
      | None ↦ short_header tag vr n
      | Some Short ↦ short_header tag vr n
      | Some Long ↦ long_header tag vr n
      | Some Sequence ↦ long_header tag vr n
    ]

-- an item's bytes, with its tag in front; what follows an item, with its end mark in front
abbrev pub opened : List ℕ → List ℕ
opened k = mark item_tag undefined ++ k

abbrev pub closed : List ℕ → List ℕ
closed k = mark item_end 0 ++ k

unfoldable mutual
  pub put_elements : {L : Type 0} → Elements L → List ℕ → List ℕ
  put_elements nil k = k
  put_elements (elem l tag vr f es) k = put_field tag vr f (put_elements es k)

  pub put_field : {L : Type 0} → ℕ → ℕ → Field L → List ℕ → List ℕ
  put_field tag vr (value v) k = header tag vr (length v) ++ (v ++ k)
  put_field tag vr (items is) k = put_sequence tag vr is k

  pub put_sequence : {L : Type 0} → ℕ → ℕ → Items L → List ℕ → List ℕ
  put_sequence tag vr none k = header tag vr 0 ++ k
  put_sequence tag vr (item es is) k = header tag vr undefined ++ opened (put_elements es (closed (put_items is k)))

  -- the items that are left, and the sequence's end mark
  pub put_items : {L : Type 0} → Items L → List ℕ → List ℕ
  put_items none k = mark sequence_end 0 ++ k
  put_items (item es is) k = opened (put_elements es (closed (put_items is k)))

unfoldable pub bytes_of : {L : Type 0} → Elements L → List ℕ
bytes_of es = put_elements es []
