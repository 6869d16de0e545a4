-- `slot_for` meets its contract: one law for each way out. Assumes nothing.
use mathlib.Core.Path.{refl}
use native.Mathlib.Omega.{arith}
use Rattle.ledger.proofs.SlotForLaws.{find-some, find-none, answer-old, answer-new, answer-full}
use Rattle.ledger.proofs.slot_for.Goals as goal

pub overflow_add-result : goal.overflow_add-result
overflow_add-result c = omega (arith, (find-some _ _ _ _ c.in-Some.ensures).1)

pub returns-in-Some : goal.returns-in-Some
returns-in-Some c = let f = find-some _ _ _ _ c.in-Some.ensures in answer-old _ _ _ (omega arith) c.requires.1 _ f.0 f.1

pub returns-then-used-slots : goal.returns-then-used-slots
returns-then-used-slots c = answer-full _ _ _ (omega arith) c.requires.1 _ refl (find-none _ _ _ c.in_default.ensures) (omega arith)

pub returns : goal.returns
returns c = answer-new _ _ _ (omega arith) c.requires.1 _ refl (find-none _ _ _ c.in_default.ensures) (omega arith) _ c.copy.ensures
