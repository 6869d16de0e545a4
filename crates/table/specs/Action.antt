-- The action that an element gets: document 01, "Which action an element gets", whole. The rows are in `Table.antt`, the rules before them in
-- `Rules.antt`, the options in `Override.antt`. Laws: `proofs/ActionLaws.antt`. Assumes nothing.
--     letter_for action            document 01's letter for each case of `Action` in `src/lib.rt`; Clean and CleanDates are both C
--     action_for letter            the action for a letter on a row
--     on_row options row           the action that a row orders
--     ordered options row          the same, and K where there is no row
--     action_of options top tag    the action, at the top level or, where top is false, in an item
use Rattle.std.specs.Prelude.{Bool, ℕ, eqb, Option, None, Some}
use Rattle.basis.specs.Choice.{pick, fork}
use Rattle.table.specs.Table.{X, Z, U, K, C, D, basic_of, row_of}
use Rattle.table.specs.Rules.{ruled}
use Rattle.table.specs.Override.{option_count, over, overriding, cleans_dates}
use Rattle.table.specs.declared.Action.{Action}
use Rattle.table.specs.declared.Action.TheVariants.{Remove, Keep, Empty, Dummy, Rename, Clean, CleanDates}

abbrev pub letter_for : Action → ℕ
letter_for Remove = X
letter_for Keep = K
letter_for Empty = Z
letter_for Dummy = D
letter_for Rename = U
letter_for Clean = C
letter_for CleanDates = C

unfoldable pub action_for : ℕ → Action
action_for letter =
    pick (eqb letter X) Remove
    (pick (eqb letter Z) Empty
    (pick (eqb letter D) Dummy
    (pick (eqb letter U) Rename
    (pick (eqb letter C) Clean
    Keep))))

-- Document 01, Which action, 8th sentence: Modified Dates' own C comes first (A7); then the letter of the chosen options over the basic action
unfoldable pub on_row : ℕ → ℕ → Action
on_row options row =
    pick (cleans_dates options row) CleanDates
    (action_for (over (basic_of row) (overriding options row option_count)))

-- 5th sentence: a tag with no row is K
abbrev pub ordered : ℕ → Option ℕ → Action
ordered options None = Keep
ordered options (Some row) = on_row options row

-- 2nd to 4th sentence: what a rule speaks of is X, before any row is asked (A1)
unfoldable pub action_of : ℕ → Bool → ℕ → Action
action_of options top tag = fork (ruled top tag) (λ _. Remove) (λ _. ordered options (row_of tag))
