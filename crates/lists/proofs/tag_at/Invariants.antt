-- The loop of `lists::tag_at`. The invariant is `Going`: the groups that were read and what is left say the whole number.
use Prim.Native.Nat.{◌≤◌, ◌<◌}
use Rattle.lists.specs.Lists.{most_tag}
use Rattle.lists.proofs.NumberLaws.{Going}
use Rattle.lists.proofs.tag_at.Given as goal

abbrev pub invariant-loop-i : goal.invariant-loop-i
invariant-loop-i l = (128 ≤ l.unit) × (l.unit ≤ most_tag) × (l.sum < l.unit) × Going most_tag l.s l.at l.sum l.unit l.i
