-- `piece_end` meets its contract. Assumes nothing.
use mathlib.Core.Path.{◌∙◌}
use native.Mathlib.Omega.{arith}
use Rattle.basis.proofs.PieceEndLaws.{piece-found}
use Rattle.basis.proofs.piece_end.Goals as goal

pub returns : goal.returns
returns c = let e = c.unwrap_or.ensures ∙ piece-found _ c.find_backslash.ensures in omega (arith, e)
