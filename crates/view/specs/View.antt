-- The second entry, which shows one attribute: document 01, the last paragraph of "When the station says no"; readings V1 to V5.
--     shown a                     the view of what a search found
--     view_of x tag               the answer for the data set x: a fault, or the part that is shown, or None
--     refusal_of, offset_of, found_of, start_of, length_of    the numbers that are handed back for each case of the answer
--                                 (a refusal's number and offset are document 01's; 0 where there is none, and the rest, are ours: R9)
--     Shows a r lent              the slice r is the very part of `lent` that the answer a speaks of, else an empty part of it
--     Fits n a                    the part that the answer speaks of lies within n bytes
-- Laws: `proofs/ViewLaws.antt`. Assumes nothing.
use Rattle.std.specs.Prelude.{List, ℕ, ◌-◌, ◌≤◌, Option, None, Some, Result, Ok, Err}
use Rattle.std.specs.Borrow.{Bor}
use Rattle.view.specs.declared.Part.{Part}
use Rattle.basis.specs.Parts.{IsPart}
use Rattle.refusals.specs.Refusals.{number}
use Rattle.refusals.specs.declared.Fault.{Fault}
use Rattle.layout.specs.Source.{Source}
use Rattle.view.specs.Search.{search_of}
use Rattle.view.specs.declared.Attribute.{Attribute}

-- whatever its VR is, the part that was found is shown
abbrev pub shown : Result (Option Attribute) Fault → Result (Option Part) Fault
shown (Ok (Some a)) = Ok (Some (record { start = a.body; end = a.past }))
shown (Ok None) = Ok None
shown (Err f) = Err f

unfoldable pub view_of : Source → ℕ → Result (Option Part) Fault
view_of x tag = shown (search_of x tag)

-- the refusal's number, 0 where there is none
abbrev pub refusal_of : Result (Option Part) Fault → ℕ
refusal_of (Ok found) = 0
refusal_of (Err f) = number f.refusal

abbrev pub offset_of : Result (Option Part) Fault → ℕ
offset_of (Ok found) = 0
offset_of (Err f) = f.offset

-- 1 where the attribute was found, else 0
abbrev pub found_of : Result (Option Part) Fault → ℕ
found_of (Ok (Some part)) = 1
found_of (Ok None) = 0
found_of (Err f) = 0

-- where the part that is shown begins, and its length; 0 and 0 where none is
abbrev pub start_of : Result (Option Part) Fault → ℕ
start_of (Ok (Some part)) = part.start
start_of (Ok None) = 0
start_of (Err f) = 0

abbrev pub length_of : Result (Option Part) Fault → ℕ
length_of (Ok (Some part)) = part.end - part.start
length_of (Ok None) = 0
length_of (Err f) = 0

abbrev pub Shows : Result (Option Part) Fault → Bor (List ℕ) → Bor (List ℕ) → Type 0
Shows (Ok (Some part)) r lent = IsPart r lent part.start part.end
Shows (Ok None) r lent = IsPart r lent 0 0
Shows (Err f) r lent = IsPart r lent 0 0

abbrev pub Fits : ℕ → Result (Option Part) Fault → Type 0
Fits n (Ok (Some part)) = (part.start ≤ part.end) × (part.end ≤ n)
Fits n (Ok None) = Unit {0}
Fits n (Err f) = Unit {0}
