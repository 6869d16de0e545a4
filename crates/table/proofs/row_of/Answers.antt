-- `table::row_of` meets its contract. Assumes nothing.
use mathlib.Core.Path.{◌≡◌, sym, ◌∙◌, ap}
use mathlib.Core.List.{List}
use Rattle.std.specs.Prelude.{Some}
use Prim.Native.Nat.{ℕ, ◌+◌, ◌/◌}
use lib.ListN.{length, get_or}
use Rattle.table.specs.Rows.{table}
use Rattle.table.specs.Table.{tag_of}
use Rattle.table.proofs.TableLaws.{length-table, row_of-found}
use Rattle.table.proofs.SearchLaws.{left-all, left-after, left-before, left-none}
use native.Mathlib.Omega.{arith}
use Rattle.table.proofs.row_of.Goals as goal

-- what the lent rows have at a place is what the table has there
row-is : {rows : List ℕ} → rows ≡ table → (k : ℕ) → get_or rows k 0 ≡ get_or table k 0
row-is e k = ap (λ rows. get_or rows k 0) e

pub loop-low-init : goal.loop-low-init
loop-low-init c = left-all _ _ (omega (arith, ap length c.requires, length-table))

pub overflow_add-middle : goal.overflow_add-middle
overflow_add-middle c = omega (arith, c.loop-low.invariant.within)

pub bounds-rows-middle : goal.bounds-rows-middle
bounds-rows-middle c = omega (arith, c.loop-low.invariant.within, ap length c.requires, length-table)

pub returns-then-there-tag : goal.returns-then-there-tag
returns-then-there-tag c =
    let row = row-is c.requires ((c.loop-low.low + c.loop-low.high) / 2) in
    ap Some row ∙ sym (row_of-found _ _ (omega (arith, c.loop-low.invariant.within)) (ap tag_of (sym row) ∙ c.if-there-tag.true))

pub overflow_add-low : goal.overflow_add-low
overflow_add-low c = omega (arith, c.loop-low.invariant.within)

pub loop-low-preserved-then-there-tag-2 : goal.loop-low-preserved-then-there-tag-2
loop-low-preserved-then-there-tag-2 c =
    let row = row-is c.requires ((c.loop-low.low + c.loop-low.high) / 2) in
    left-after _ _ _ _ (omega (arith, c.loop-low.invariant.within)) c.loop-low.invariant (omega (arith, ap tag_of row, c.if-there-tag-2.true))

pub loop-low-preserved : goal.loop-low-preserved
loop-low-preserved c =
    let row = row-is c.requires ((c.loop-low.low + c.loop-low.high) / 2) in
    left-before _ _ _ _ (omega (arith, c.loop-low.invariant.within)) c.loop-low.invariant
    (omega (arith, ap tag_of row, c.if-there-tag-2.false, c.if-there-tag.false))

pub returns : goal.returns
returns c = sym (left-none _ _ _ (omega arith) c.loop-low.invariant)
