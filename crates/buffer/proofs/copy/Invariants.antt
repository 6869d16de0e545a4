-- What the loop of `buffer::copy` keeps.
use lib.ListN.{take}
use mathlib.Core.Path.{◌≡◌}
use Rattle.buffer.specs.Buffer.{laid}
use Rattle.buffer.proofs.copy.Given as goal

abbrev pub invariant-loop-i : goal.invariant-loop-i
invariant-loop-i l = l.out ≡ laid l.initial.out l.pos (take l.i l.bytes)
