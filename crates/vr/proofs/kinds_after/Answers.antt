-- `vr::kinds_after` meets its contract: each number passes its test; no VR has another first letter. Assumes nothing.
use mathlib.Core.Path.{refl}
use native.Mathlib.Omega.{arith}
use Rattle.basis.specs.Choice.{among}
use Rattle.vr.specs.Vr.{kind_of}
use Rattle.vr.proofs.KindsLaws.{tried, tried-kinds, kinds-none}
use Rattle.vr.proofs.kinds_after.Goals as goal

pub returns-in-65 : goal.returns-in-65
unfolding tried kind_of among
returns-in-65 c = tried-kinds _ _ _ c.in-65.is refl

pub returns-in-67 : goal.returns-in-67
unfolding tried kind_of among
returns-in-67 c = tried-kinds _ _ _ c.in-67.is refl

pub returns-in-68 : goal.returns-in-68
unfolding tried kind_of among
returns-in-68 c = tried-kinds _ _ _ c.in-68.is refl

pub returns-in-70 : goal.returns-in-70
unfolding tried kind_of among
returns-in-70 c = tried-kinds _ _ _ c.in-70.is refl

pub returns-in-73 : goal.returns-in-73
unfolding tried kind_of among
returns-in-73 c = tried-kinds _ _ _ c.in-73.is refl

pub returns-in-76 : goal.returns-in-76
unfolding tried kind_of among
returns-in-76 c = tried-kinds _ _ _ c.in-76.is refl

pub returns-in-79 : goal.returns-in-79
unfolding tried kind_of among
returns-in-79 c = tried-kinds _ _ _ c.in-79.is refl

pub returns-in-80 : goal.returns-in-80
unfolding tried kind_of among
returns-in-80 c = tried-kinds _ _ _ c.in-80.is refl

pub returns-in-83 : goal.returns-in-83
unfolding tried kind_of among
returns-in-83 c = tried-kinds _ _ _ c.in-83.is refl

pub returns-in-84 : goal.returns-in-84
unfolding tried kind_of among
returns-in-84 c = tried-kinds _ _ _ c.in-84.is refl

pub returns-in-85 : goal.returns-in-85
unfolding tried kind_of among
returns-in-85 c = tried-kinds _ _ _ c.in-85.is refl

pub returns-in_default : goal.returns-in_default
unfolding among
returns-in_default c = kinds-none _ c.requires (grind arith)
