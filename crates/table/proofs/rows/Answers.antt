-- `table::rows` meets its contract: the constant is the definition's list, number by number. Assumes nothing.
use mathlib.Core.Path.{refl}
use Rattle.table.specs.Rows.{table}
use Rattle.table.proofs.rows.Goals as goal

pub returns : goal.returns
unfolding table
returns c = refl
