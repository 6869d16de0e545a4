-- Laws of `specs/View.antt`. No contract cites this file. Assumes nothing.
--     shown-refused      what is refused to the view was refused to the search
--     view_of-refused    a refusal of the view is one of 5 to 10, with an offset within the data set
--     shows-numbers      the part that is shown is the one that the numbers of the C interface tell
use mathlib.Core.Path.{◌≡◌, ap}
use mathlib.Core.List.{List}
use Rattle.std.specs.Prelude.{Option, None, Some, Result, Ok, Err}
use Rattle.view.specs.declared.Part.{Part}
use Prim.Native.Nat.{ℕ, ◌+◌, ◌-◌, ◌≤◌}
use native.Mathlib.Omega.{arith}
use denote.Ref.{Bor}
use lib.ListN.{length}
use Rattle.basis.specs.Parts.{IsPart}
use Rattle.refusals.specs.Refusals.{too_long, too_deep, number}
use Rattle.refusals.specs.declared.Fault.{Fault}
use Rattle.layout.specs.Source.{Source}
use Rattle.view.specs.Search.{search_of}
use Rattle.view.specs.View.{shown, view_of, start_of, length_of, Shows, Fits}
use Rattle.view.specs.declared.Attribute.{Attribute}
use Rattle.view.proofs.SearchLaws.{search_of-refused}

-- ---- view_of

pub shown-refused : (a : Result (Option Attribute) Fault) (f : Fault) → shown a ≡ Err f → a ≡ Err f
shown-refused (Ok (Some a)) f e = absurd (let z : ◌≡◌ {A = ℕ} 0 1 = cc in omega arith)
shown-refused (Ok None) f e = absurd (let z : ◌≡◌ {A = ℕ} 0 1 = cc in omega arith)
shown-refused (Err g) f e = ap Err cc

pub view_of-refused : (x : Source) (tag : ℕ) (f : Fault) → view_of x tag ≡ Err f
    → (too_long ≤ number f.refusal) × (number f.refusal ≤ too_deep) × (f.offset ≤ length x.bytes)
unfolding view_of
view_of-refused x tag f e = search_of-refused x tag f (shown-refused (search_of x tag) f e)

-- ---- Shows

pub shows-numbers : (n : ℕ) (a : Result (Option Part) Fault) (r lent : Bor (List ℕ)) → Fits n a → Shows a r lent
    → IsPart r lent (start_of a) (start_of a + length_of a)
shows-numbers n (Ok (Some part)) r lent f h = let e : part.start + (part.end - part.start) ≡ part.end = omega arith in rw e h
shows-numbers n (Ok None) r lent f h = h
shows-numbers n (Err k) r lent f h = h
