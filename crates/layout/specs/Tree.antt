-- A data set as a tree: document 01, Layout, 2nd point. How lengths were stated is not part of it. Assumes nothing.
--     Elements L       the elements of a level, in order: of each a label, its tag, its VR and what it holds
--     Field L          what an element holds: the bytes of its value, or the items of a sequence
--     Items L          the items of a sequence, in order: of each its elements
--     Place            the label of what was read: where the element stands in the bytes
--     Data             a data set by itself: labels that say nothing
--     bare es          the tree without its labels
use Rattle.std.specs.Prelude.{List, ℕ}

mutual
  pub data Field (L : Type 0) : Type 0 where
    value : List ℕ → Field L
    items : Items L → Field L

  pub data Elements (L : Type 0) : Type 0 where
    nil : Elements L
    elem : L → (tag vr : ℕ) → Field L → Elements L → Elements L

  pub data Items (L : Type 0) : Type 0 where
    none : Items L
    item : Elements L → Items L → Items L

-- the element begins at `at`; what comes after its length field begins at `body`, and ends, its end mark included, at `past`
pub record Place : Type 0 where
  pub at : ℕ
  pub body : ℕ
  pub past : ℕ

abbrev pub Data : Type 0
Data = Elements (Unit {0})

unfoldable mutual
  pub bare_field : {L : Type 0} → Field L → Field (Unit {0})
  bare_field (value v) = value v
  bare_field (items is) = items (bare_items is)

  pub bare : {L : Type 0} → Elements L → Data
  bare nil = nil
  bare (elem l tag vr f es) = elem tt tag vr (bare_field f) (bare es)

  pub bare_items : {L : Type 0} → Items L → Items (Unit {0})
  bare_items none = none
  bare_items (item es is) = item (bare es) (bare_items is)
