-- `write_walk::gain` meets its contract. Assumes nothing.
use mathlib.Core.Path.{◌∙◌, ap}
use Rattle.write_state.specs.Steps.{at_place}
use Rattle.write_walk.proofs.gain.Goals as goal

pub returns : goal.returns
returns c = (c.at_place.ensures ∙ ap (at_place c.args.t) c.put_gained-pos.ensures.0, c.put_gained-pos.ensures.1)
