-- Laws of `specs/Table.antt`. The table's own rules are settled by one computed test each and carried from there to each row. No
-- contract cites this file. Assumes nothing.
--     length-table                   the table has row_count rows
--     row_in-found, row_in-absent    the row at an index that has the tag where none before it has; none where none has
--     row_in-every                   what is found has the tag and passes a test that every row passes
--     table-rises                    of two rows the later has the greater tag
--     row_of-found, row_of-absent    each row is found by its tag; none where no row has the tag
--     row_of-every                   what is found has the tag and passes a test that every row passes
--     table-legal, row_of-legal      each row, and so what is found, has legal letters
--     columns-at                     the column at an index is that of the same bit
--     legal-basic, legal-letter      what that says of the basic action, and of the letter in an option's column
use mathlib.Core.Path.{◌≡◌, refl}
use mathlib.Core.Bool.{Bool, true, false}
use mathlib.Core.List.{List, [], ◌∷◌}
use Rattle.std.specs.Prelude.{None, Some}
use Rattle.std.proofs.lemmas.Option.{none-some, same_Some}
use Prim.Native.Nat.{ℕ, zero, suc, ◌<◌, suc-le-suc, zero-le}
use native.Mathlib.Nat.{le_of_suc-le-suc, not-suc-le-zero, lt_trans}
use native.Mathlib.Omega.{arith}
use lib.Dec.{T, ltb, eqb, ltb→lt}
use lib.ListN.{length, get_or}
use borrow.Author.Tests.{eq-eqb, ne_eqb, eqb-true}
use Rattle.basis.specs.Choice.{fork, every, among}
use Rattle.table.specs.Rows.{table, row_count}
use Rattle.table.specs.Table.{basics, overrides, tag_of, basic_of, letter_of, columns, row_in, row_of, rising, legal}
use Rattle.table.proofs.Truth.{both, every-at}

-- ---- table

pub length-table : length table ≡ row_count
unfolding table
length-table = refl

-- ---- row_in

pub row_in-found : (tag : ℕ) (rows : List ℕ) (k : ℕ) → k < length rows → tag_of (get_or rows k 0) ≡ tag
    → ((j : ℕ) → j < k → tag_of (get_or rows j 0) ≡ tag → ⊥) → row_in tag rows ≡ Some (get_or rows k 0)
unfolding row_in
row_in-found tag [] k h e n = absurd (not-suc-le-zero h)
row_in-found tag (row ∷ rows) zero h e n = simp (eq-eqb _ _ e)
row_in-found tag (row ∷ rows) (suc k) h e n =
    simp (ne_eqb _ _ (n 0 (suc-le-suc zero-le))) (row_in-found tag rows k (le_of_suc-le-suc h) e (λ j l. n (suc j) (suc-le-suc l)))

pub row_in-absent : (tag : ℕ) (rows : List ℕ) → ((j : ℕ) → j < length rows → tag_of (get_or rows j 0) ≡ tag → ⊥) → row_in tag rows ≡ None
unfolding row_in
row_in-absent tag [] n = refl
row_in-absent tag (row ∷ rows) n =
    simp (ne_eqb _ _ (n 0 (suc-le-suc zero-le))) (row_in-absent tag rows (λ j l. n (suc j) (suc-le-suc l)))

-- what is found has the tag and, as every row does, passes a test
pub row_in-every : (p : ℕ → Bool) (rows : List ℕ) → T (every p rows) → (tag row : ℕ) → row_in tag rows ≡ Some row → (tag_of row ≡ tag) × T (p row)
unfolding row_in every
row_in-every p [] t tag row is = absurd (none-some row is)
row_in-every p (r ∷ rows) t tag row is = go (eqb (tag_of r) tag) refl is (row_in-every p rows (both (p r) (every p rows) t).1 tag row)
  where
    go : (b : Bool) → eqb (tag_of r) tag ≡ b → fork b (λ _. Some r) (λ _. row_in tag rows) ≡ Some row
        → (row_in tag rows ≡ Some row → (tag_of row ≡ tag) × T (p row)) → (tag_of row ≡ tag) × T (p row)
    go true e m rest = rw (← same_Some r row m) (eqb-true (tag_of r) tag e, (both (p r) (every p rows) t).0)
    go false e m rest = rest m

-- ---- rising

above : (last : ℕ) (rows : List ℕ) → T (rising last rows) → (k : ℕ) → k < length rows → last < tag_of (get_or rows k 0)
unfolding rising
above last [] t k h = absurd (not-suc-le-zero h)
above last (row ∷ rows) t zero h = ltb→lt last (tag_of row) (both (ltb last (tag_of row)) (rising (tag_of row) rows) t).0
above last (row ∷ rows) t (suc k) h =
    lt_trans
    (ltb→lt last (tag_of row) (both (ltb last (tag_of row)) (rising (tag_of row) rows) t).0)
    (above (tag_of row) rows (both (ltb last (tag_of row)) (rising (tag_of row) rows) t).1 k (le_of_suc-le-suc h))

rises : (last : ℕ) (rows : List ℕ) → T (rising last rows) → (j k : ℕ) → j < k → k < length rows → tag_of (get_or rows j 0) < tag_of (get_or rows k 0)
unfolding rising
rises last [] t j k l h = absurd (not-suc-le-zero h)
rises last (row ∷ rows) t j zero l h = absurd (not-suc-le-zero l)
rises last (row ∷ rows) t zero (suc k) l h =
    above (tag_of row) rows (both (ltb last (tag_of row)) (rising (tag_of row) rows) t).1 k (le_of_suc-le-suc h)
rises last (row ∷ rows) t (suc j) (suc k) l h =
    rises (tag_of row) rows (both (ltb last (tag_of row)) (rising (tag_of row) rows) t).1 j k (le_of_suc-le-suc l) (le_of_suc-le-suc h)

-- THE TEST of order, computed over the whole table
table-rising : T (rising 0 table)
unfolding table rising
table-rising = tt

pub table-rises : (j k : ℕ) → j < k → k < row_count → tag_of (get_or table j 0) < tag_of (get_or table k 0)
table-rises j k l h = rises 0 table table-rising j k l (rw length-table h)

-- ---- row_of

pub row_of-found : (tag k : ℕ) → k < row_count → tag_of (get_or table k 0) ≡ tag → row_of tag ≡ Some (get_or table k 0)
row_of-found tag k h e = row_in-found tag table k (rw length-table h) e (λ j l f. omega (arith, table-rises j k l h))

pub row_of-absent : (tag : ℕ) → ((j : ℕ) → j < row_count → tag_of (get_or table j 0) ≡ tag → ⊥) → row_of tag ≡ None
row_of-absent tag n = row_in-absent tag table (λ j l. n j (rw length-table at l))

pub row_of-every : (p : ℕ → Bool) → T (every p table) → (tag row : ℕ) → row_of tag ≡ Some row → (tag_of row ≡ tag) × T (p row)
row_of-every p t = row_in-every p table t

-- ---- legal

-- THE TEST of letters, computed over the whole table
every-legal : T (every legal table)
unfolding table legal every among
every-legal = tt

pub table-legal : (k : ℕ) → k < row_count → T (legal (get_or table k 0))
table-legal k h = every-at legal table every-legal k (rw length-table h)

pub row_of-legal : (tag row : ℕ) → row_of tag ≡ Some row → T (legal row)
row_of-legal tag row is = (row_of-every legal every-legal tag row is).1

pub legal-basic : (row : ℕ) → T (legal row) → T (among (basic_of row) basics)
unfolding legal
legal-basic row t = (both (among (basic_of row) basics) (every (λ bit. among (letter_of row bit) overrides) columns) t).0

pub columns-at : (bit : ℕ) → bit < length columns → get_or columns bit 0 ≡ bit
columns-at zero h = refl
columns-at (suc zero) h = refl
columns-at (suc (suc zero)) h = refl
columns-at (suc (suc (suc zero))) h = refl
columns-at (suc (suc (suc (suc zero)))) h = refl
columns-at (suc (suc (suc (suc (suc zero))))) h = refl
columns-at (suc (suc (suc (suc (suc (suc zero)))))) h = refl
columns-at (suc (suc (suc (suc (suc (suc (suc bit))))))) h = absurd (omega arith)

pub legal-letter : (row bit : ℕ) → T (legal row) → bit < length columns → T (among (letter_of row bit) overrides)
unfolding legal
legal-letter row bit t h =
    let all = (both (among (basic_of row) basics) (every (λ bit. among (letter_of row bit) overrides) columns) t).1 in
    rw (columns-at bit h) at (every-at (λ bit. among (letter_of row bit) overrides) columns all bit h)
