-- The rows of CID 7050 that are used and the edges of refusal 1, as one table: by computation. Assumes nothing.
--     rows                 document 001, Table CID 7050: code values, meanings and how many bytes those have, by rising code
--     fine, refused        option numbers and shifts on either side of each limit
-- The claim has the words of (0028,0303) too: for no date option, Full Dates, Modified Dates
use mathlib.Core.Path.{◌≡◌, refl}
use mathlib.Core.Bool.{true, false}
use mathlib.Core.List.{List, [], ◌∷◌, map}
use Prim.Native.Nat.{ℕ}
use lib.IntN.{ℤ, pos, negsuc}
use lib.ListN.{length}
use Rattle.basis.specs.Text.{ascii}
use Rattle.options.specs.Options.{options, meaning_of, basic_code, basic_meaning, chosen_in, chosen}
use Rattle.options.specs.Settings.{settings_fault, date_word}
use Rattle.options.specs.declared.Opt.TheVariants.{ModifiedDates, DeviceIdentity, InstitutionIdentity}
use Rattle.options.proofs.OptionsLaws.{code_number}

abbrev Row : Type 0
Row = ℕ × List ℕ × ℕ

abbrev rows : List Row
rows =
    (113106, ascii "Retain Longitudinal Temporal Information Full Dates Option", 58)
    ∷ (113107, ascii "Retain Longitudinal Temporal Information Modified Dates Option", 62)
    ∷ (113108, ascii "Retain Patient Characteristics Option", 37)
    ∷ (113109, ascii "Retain Device Identity Option", 29)
    ∷ (113110, ascii "Retain UIDs Option", 18)
    ∷ (113112, ascii "Retain Institution Identity Option", 34)
    ∷ []

-- 61 and 62 are all options but one of the two on dates; -36,500 is `negsuc 36_499`
abbrev fine : List (ℕ × ℤ)
fine = (0, pos 0) ∷ (1, pos 0) ∷ (2, pos 0) ∷ (61, pos 0) ∷ (62, pos 36_500) ∷ (62, negsuc 36_499) ∷ (2, pos 1) ∷ []

-- above 63; both date options; out of range, to the ends of 64 bits; not zero without Modified Dates
abbrev refused : List (ℕ × ℤ)
refused =
    (64, pos 0)
    ∷ (0xFFFF_FFFF_FFFF_FFFF, pos 0)
    ∷ (66, pos 1)
    ∷ (3, pos 0)
    ∷ (63, pos 0)
    ∷ (2, pos 36_501)
    ∷ (2, negsuc 36_500)
    ∷ (2, pos 0x7FFF_FFFF_FFFF_FFFF)
    ∷ (2, negsuc 0x7FFF_FFFF_FFFF_FFFF)
    ∷ (0, pos 1)
    ∷ (1, negsuc 0)
    ∷ (60, pos 36_500)
    ∷ []

-- the first bytes are document 01's own, in its second sample
pub cases :
    (map (λ o. (code_number o, meaning_of o, length (meaning_of o))) options ≡ rows)
    × (basic_code ≡ 0x31 ∷ 0x31 ∷ 0x33 ∷ 0x31 ∷ 0x30 ∷ 0x30 ∷ [])
    × (length basic_meaning ≡ 41)
    × (chosen 42 ≡ ModifiedDates ∷ DeviceIdentity ∷ InstitutionIdentity ∷ [])
    × (map (λ (c : ℕ × ℤ). settings_fault c.0 c.1) fine ≡ map (λ _. false) fine)
    × (map (λ (c : ℕ × ℤ). settings_fault c.0 c.1) refused ≡ map (λ _. true) refused)
    × (map date_word (0 ∷ 1 ∷ 2 ∷ 61 ∷ []) ≡ ascii "REMOVED" ∷ ascii "UNMODIFIED" ∷ ascii "MODIFIED" ∷ ascii "UNMODIFIED" ∷ [])
unfolding chosen_in settings_fault date_word
cases = (refl, refl, refl, refl, refl, refl, refl)
