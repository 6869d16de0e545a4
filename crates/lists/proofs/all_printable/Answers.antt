-- `lists::all_printable` meets its contract. Assumes nothing.
use mathlib.Core.Path.{sym, ◌∙◌}
use Rattle.lists.specs.Lists.{printable}
use Rattle.lists.proofs.ListsLaws.{every-end, every-turn}
use Rattle.lists.proofs.all_printable.Goals as goal

pub loop-b-preserved : goal.loop-b-preserved
loop-b-preserved c = c.loop-b.invariant ∙ every-turn printable c.args.value.now c.loop-b.b-index c.loop-b.all c.loop-b-test.true _ c.is_printable-all.ensures

pub returns : goal.returns
returns c = sym (c.loop-b.invariant ∙ every-end printable c.args.value.now c.loop-b.b-index c.loop-b.all c.loop-b-test.false)
