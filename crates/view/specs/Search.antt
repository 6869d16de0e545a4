-- The search that the second entry stands on: where on the top level an element stands, and its VR; readings V1 to V3. It is apart from
-- the view because what is shown of an element may hang on its VR, and because another reader may want the place and no view.
--     find tag es         the VR of the element with this tag on the level es, and where it stands
--     sought_at p         what was found, or None
--     sought_in r tag     the search in what was read: a fault anywhere, or found, or None
--     search_of x tag     the search in the data set x
--     SoughtFits n a      the part that is told of lies within n bytes
-- What is found is the code's own struct, `Attribute` of `src/lib.rt`. Laws: `proofs/SearchLaws.antt`. Assumes nothing.
use Rattle.std.specs.Prelude.{Option, None, Some, Result as Answer, Ok, Err, ℕ, ◌≤◌, eqb, ltb, length}
use Rattle.basis.specs.Choice.{pick, fork}
use Rattle.refusals.specs.declared.Refusal.TheVariants.{TooLong}
use Rattle.refusals.specs.declared.Fault.{Fault}
use Rattle.layout.specs.Limits.{deepest, longest}
use Rattle.layout.specs.Source.{Source}
use Rattle.layout.specs.Tree.{Elements, nil, elem, Place}
use Rattle.layout.specs.Read.{Result, good, fault, read}
use Rattle.view.specs.declared.Attribute.{Attribute}

-- the elements of a level only (V2); its tags rise, so there is one at most
unfoldable pub find : ℕ → Elements Place → Option (ℕ × Place)
find tag nil = None
find tag (elem p t vr f es) = fork (eqb t tag) (λ _. Some (vr, p)) (λ _. find tag es)

-- the part that is told of runs from after the length field to the element's end, its end mark included (V3)
abbrev pub sought_at : Option (ℕ × Place) → Option Attribute
sought_at None = None
sought_at (Some p) = Some (record { vr = p.0; body = p.1.body; past = p.1.past })

abbrev pub sought_in : Result (Elements Place) → ℕ → Answer (Option Attribute) Fault
sought_in (good es past) tag = Ok (sought_at (find tag es))
sought_in (fault r offset) tag = Err (record { refusal = r; offset = offset })

-- the length is judged first, then the whole shape (V1)
unfoldable pub search_of : Source → ℕ → Answer (Option Attribute) Fault
search_of x tag = pick (ltb longest (length x.bytes)) (Err (record { refusal = TooLong; offset = 0 })) (sought_in (read deepest x) tag)

abbrev pub SoughtFits : ℕ → Answer (Option Attribute) Fault → Type 0
SoughtFits n (Ok (Some a)) = (a.body ≤ a.past) × (a.past ≤ n)
SoughtFits n (Ok None) = Unit {0}
SoughtFits n (Err f) = Unit {0}
