-- The loop of `write_markers::put_options`: what is written so far, and then the items that are left, are all the items.
use mathlib.Core.Path.{◌≡◌}
use Prim.Native.Nat.{◌+◌}
use lib.ListN.{length}
use Rattle.buffer.specs.Buffer.{laid}
use Rattle.write_markers.proofs.PartLaws.{options_part}
use Rattle.write_markers.proofs.PutLaws.{left}
use Rattle.write_markers.proofs.put_options.Given as goal

abbrev pub invariant-loop-bit : goal.invariant-loop-bit
invariant-loop-bit l = (l.p + length (left l.options l.bit) ≡ l.pos + length (options_part l.options))
    × (laid l.out l.p (left l.options l.bit) ≡ laid l.initial.out l.pos (options_part l.options))
