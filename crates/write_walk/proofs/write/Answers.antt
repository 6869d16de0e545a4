-- `write_walk::write` meets its contract. Assumes nothing.
use Rattle.write_walk.proofs.WholeLaws.{whole}
use native.Mathlib.Omega.{arith}
use Rattle.write_walk.proofs.write.Goals as goal

pub elements-requires : goal.elements-requires
elements-requires c = record {
  lies = record { rises = omega arith; in_s = omega arith };
  ready = record { root_fits = c.requires.2; slots_fit = c.requires.3; room = omega (arith, c.requires.1, c.requires.4) };
  countable = record { countable = omega (arith, c.requires.1) };
}

pub returns : goal.returns
returns c = whole c.requires.3 c.elements.ensures
