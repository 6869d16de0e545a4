-- What the walk over the top level remembers. The contracts of the search and of the view do not speak of it. Assumes nothing.
--     met_of found tag wanted a    what is found once an element with this tag was passed, whose VR and part are a: the first that is wanted
use Rattle.std.specs.Prelude.{Option, None, Some, ℕ, eqb}
use Rattle.basis.specs.Choice.{pick}
use Rattle.view.specs.declared.Attribute.{Attribute}

abbrev pub met_of : Option Attribute → ℕ → ℕ → Attribute → Option Attribute
met_of (Some a) tag wanted b = Some a
met_of None tag wanted b = pick (eqb tag wanted) (Some b) None
