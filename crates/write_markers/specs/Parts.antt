-- The pieces in which the code writes the three elements; no promise speaks of them. Laws: `proofs/PartLaws.antt`. Assumes nothing.
--     item_bytes d      an item with its end mark
--     items_bytes is    the items of a sequence, without the sequence's own end mark
use Rattle.std.specs.Prelude.{List, [], ◌++◌, ℕ}
use Rattle.layout.specs.Tree.{Items, none as no_item, item, Data}
use Rattle.layout.specs.Write.{opened, closed, put_elements}

unfoldable pub item_bytes : Data → List ℕ
item_bytes d = opened (put_elements d (closed []))

unfoldable pub items_bytes : Items (Unit {0}) → List ℕ
items_bytes no_item = []
items_bytes (item d is) = item_bytes d ++ items_bytes is
