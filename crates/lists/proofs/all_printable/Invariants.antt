-- The loop of `lists::all_printable`. The invariant: what was found so far and what is left say the whole.
use mathlib.Core.Path.{◌≡◌}
use mathlib.Core.Bool.{◌&&◌}
use lib.ListN.{drop}
use Rattle.basis.specs.Choice.{every}
use Rattle.lists.specs.Lists.{printable}
use Rattle.lists.proofs.all_printable.Given as goal

abbrev pub invariant-loop-b : goal.invariant-loop-b
invariant-loop-b l = every printable l.value ≡ (l.all && every printable (drop l.b-index l.value))
