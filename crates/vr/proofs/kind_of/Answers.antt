-- `vr::kind_of` meets its contract. Assumes nothing.
use mathlib.Core.Path.{sym}
use native.Mathlib.Omega.{arith}
use Rattle.vr.proofs.KindsLaws.{kind_of-letters}
use Rattle.vr.proofs.kind_of.Goals as goal

pub returns-then-not-contains : goal.returns-then-not-contains
returns-then-not-contains c = sym (kind_of-letters _ (λ low high. grind (arith, c.if-not-contains.ensures.cases)))
