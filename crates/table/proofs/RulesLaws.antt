-- Laws of `specs/Rules.antt`. No contract cites this file. Assumes nothing.
--     ruled-curve, ruled-private, ruled-overlay, ruled-zeroth, ruled-reserved     what each rule speaks of is ruled
--     row_of-unruled                         A1: no rule speaks of a tag that has a row, so the rules' place before the rows decides nothing
--     reserved-free                          A4: inside an item no rule speaks of the reserved tags, and they have no row
use mathlib.Core.Path.{◌≡◌, refl}
use mathlib.Core.Bool.{Bool, true, false, not, ◌&&◌}
use Rattle.std.specs.Prelude.{Option, None, Some}
use Prim.Native.Nat.{ℕ}
use lib.Dec.{T}
use Rattle.basis.specs.Choice.{every, among, is_some}
use Rattle.table.specs.Rows.{table}
use Rattle.table.specs.Table.{tag_of, row_in, row_of}
use Rattle.table.specs.Rules.{curve, private, overlay, zeroth, reserved, ruled}
use Rattle.table.proofs.Truth.{T-false, T-true, both, or-right, every-among}
use Rattle.table.proofs.TableLaws.{row_of-every}

-- ---- ruled

module _ (top : Bool) (tag : ℕ) where
  pub ruled-curve : curve tag ≡ true → ruled top tag ≡ true
  unfolding ruled
  ruled-curve e = rw e

  pub ruled-private : private tag ≡ true → ruled top tag ≡ true
  unfolding ruled
  ruled-private e = or-right (curve tag) _ (rw e)

  pub ruled-overlay : overlay tag ≡ true → ruled top tag ≡ true
  unfolding ruled
  ruled-overlay e = or-right (curve tag) _ (or-right (private tag) _ (rw e))

  pub ruled-zeroth : zeroth tag ≡ true → ruled top tag ≡ true
  unfolding ruled
  ruled-zeroth e = or-right (curve tag) _ (or-right (private tag) _ (or-right (overlay tag) _ (rw e)))

pub ruled-reserved : (tag : ℕ) → among tag reserved ≡ true → ruled true tag ≡ true
unfolding ruled
ruled-reserved tag e = or-right (curve tag) _ (or-right (private tag) _ (or-right (overlay tag) _ (or-right (zeroth tag) _ e)))

-- THE TEST for A1, computed over the whole table
every-unruled : T (every (λ row. not (ruled true (tag_of row)) && not (ruled false (tag_of row))) table)
unfolding table ruled every among
every-unruled = tt

pub row_of-unruled : (top : Bool) (tag row : ℕ) → row_of tag ≡ Some row → ruled top tag ≡ false
row_of-unruled top tag row is = rw (← found.0) (at top)
  where
    found : (tag_of row ≡ tag) × T (not (ruled true (tag_of row)) && not (ruled false (tag_of row)))
    found = row_of-every (λ row. not (ruled true (tag_of row)) && not (ruled false (tag_of row))) every-unruled tag row is

    at : (top : Bool) → ruled top (tag_of row) ≡ false
    at true = T-false _ (both (not (ruled true (tag_of row))) (not (ruled false (tag_of row))) found.1).0
    at false = T-false _ (both (not (ruled true (tag_of row))) (not (ruled false (tag_of row))) found.1).1

-- THE TEST for A4, computed over the four tags
every-free : T (every (λ tag. not (ruled false tag) && not (is_some (row_of tag))) reserved)
unfolding table row_in ruled every among
every-free = tt

none-is : (x : Option ℕ) → T (not (is_some x)) → x ≡ None
none-is None t = refl
none-is (Some n) t = absurd t

pub reserved-free : (tag : ℕ) → among tag reserved ≡ true → (ruled false tag ≡ false) × (row_of tag ≡ None)
reserved-free tag e = (T-false _ free.0, none-is _ free.1)
  where
    free : T (not (ruled false tag)) × T (not (is_some (row_of tag)))
    free =
        both (not (ruled false tag)) (not (is_some (row_of tag)))
        (every-among (λ tag. not (ruled false tag) && not (is_some (row_of tag))) reserved every-free tag (T-true _ e))
