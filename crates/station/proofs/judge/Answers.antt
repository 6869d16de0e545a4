-- `station::judge` meets its contract. Assumes nothing.
use Rattle.station.proofs.JudgeLaws.{judged-shape, judged-values}
use Rattle.station.proofs.judge.Goals as goal

pub returns-in-Err : goal.returns-in-Err
returns-in-Err c = judged-shape _ _ _ c.shape_of.ensures _ c.in-Err.is

pub returns-in-Ok : goal.returns-in-Ok
returns-in-Ok c = judged-values _ _ _ c.shape_of.ensures _ c.in-Ok.is c.first_fault.ensures
