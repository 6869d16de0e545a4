-- Laws of the search by halves: which rows can still have a tag. No contract cites this file. Assumes nothing.
--     table-rises-to            of two rows the later has no lesser tag; they may be the same
--     Left tag low high         if a row has the tag, it stands from low on and before high
--     left-all                  at the start: among all rows
--     left-after, left-before   after a row with a lesser tag; before one with a greater tag
--     left-none                 None where nothing is left
use mathlib.Core.Path.{◌≡◌, ap}
use mathlib.Core.Logic.{◌⊎◌, inl, inr}
use Prim.Native.Nat.{ℕ, ◌+◌, ◌<◌, ◌≤◌}
use native.Mathlib.Nat.{lt_of_not-le, eq-or-lt_of_le}
use native.Mathlib.Omega.{arith}
use lib.ListN.{get_or}
use Rattle.table.specs.Rows.{table, row_count}
use Rattle.std.specs.Prelude.{None}
use Rattle.table.specs.Table.{tag_of, row_of}
use Rattle.table.proofs.TableLaws.{table-rises, row_of-absent}

pub table-rises-to : (j k : ℕ) → j ≤ k → k < row_count → tag_of (get_or table j 0) ≤ tag_of (get_or table k 0)
table-rises-to j k l h = go (eq-or-lt_of_le l)
  where
    go : (j ≡ k) ⊎ (j < k) → tag_of (get_or table j 0) ≤ tag_of (get_or table k 0)
    go (inl same) = omega (arith, ap (λ i. tag_of (get_or table i 0)) same)
    go (inr less) = omega (arith, table-rises j k less h)

pub record Left (tag low high : ℕ) : Type 0 where
  pub within : high ≤ row_count
  pub among : (k : ℕ) → k < row_count → tag_of (get_or table k 0) ≡ tag → (low ≤ k) × (k < high)

pub left-all : (tag n : ℕ) → n ≡ row_count → Left tag 0 n
left-all tag n all = record { within = omega arith; among = λ k h e. (omega arith, omega arith) }

pub left-after : (tag low high m : ℕ) → m < row_count → Left tag low high → tag_of (get_or table m 0) < tag → Left tag (m + 1) high
left-after tag low high m h l less =
    record {
      within = l.within;
      among = λ k b e. (omega (arith, lt_of_not-le (λ (a : k ≤ m). omega (arith, table-rises-to k m a h))), (l.among k b e).1);
    }

pub left-before : (tag low high m : ℕ) → m < row_count → Left tag low high → tag < tag_of (get_or table m 0) → Left tag low m
left-before tag low high m h l more =
    record {
      within = omega arith;
      among = λ k b e. ((l.among k b e).0, lt_of_not-le (λ a. omega (arith, table-rises-to m k a b)));
    }

pub left-none : (tag low high : ℕ) → high ≤ low → Left tag low high → row_of tag ≡ None
left-none tag low high none l = row_of-absent tag (λ k h e. omega (arith, l.among k h e))
