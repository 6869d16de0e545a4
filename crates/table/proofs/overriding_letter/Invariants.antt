-- The loop of `table::overriding_letter`. The invariant: the letter is what the options passed give together, and what is left of the option number and of the
-- row begins with the next option.
use mathlib.Core.Path.{◌≡◌}
use Prim.Native.Nat.{◌/◌, ◌^◌}
use Rattle.table.specs.Override.{overriding}
use Rattle.table.proofs.overriding_letter.Given as goal

abbrev pub invariant-loop : goal.invariant-loop
invariant-loop l =
    (l.left ≡ l.options / 2 ^ l.counter) × (l.letters ≡ l.row / 16 ^ l.counter) × (l.letter ≡ overriding l.options l.row l.counter)
