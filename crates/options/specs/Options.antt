-- The six options: document 01, "Which action an element gets", last paragraph; readings W16 and W17. Code values and meanings are
-- those of document 001, CID 7050 De-identification Method. Laws: `proofs/OptionsLaws.antt`. Assumes nothing.
--     options                      the options by bit, which is by rising code
--     bit_of o                     the bit of the option number that stands for o
--     code_of o, meaning_of o      its code value and its meaning
--     basic_code, basic_meaning    those of the basic profile itself
--     is_chosen number o           whether the option number has the bit of o
--     chosen_in number os          those of the options os that the option number has
--     chosen number                all options that it has, by rising code
--     opt_at number bit            the option of that bit, where it is one and the option number has it
use Rattle.std.specs.Prelude.{Bool, List, [], ◌∷◌, ℕ, Option, None, Some}
use Rattle.std.specs.Prelude.{slice_get}
use Rattle.basis.specs.Choice.{pick, fork, then}
use Rattle.basis.specs.Bytes.{has_bit}
use Rattle.basis.specs.Text.{ascii}
use Rattle.options.specs.declared.Opt.{Opt}
use Rattle.options.specs.declared.Opt.TheVariants.{FullDates, ModifiedDates, PatientCharacteristics, DeviceIdentity, RetainUids, InstitutionIdentity}

-- Document 01, Which action, last paragraph, 1st sentence: the bits
abbrev pub options : List Opt
options = FullDates ∷ ModifiedDates ∷ PatientCharacteristics ∷ DeviceIdentity ∷ RetainUids ∷ InstitutionIdentity ∷ []

abbrev pub bit_of : Opt → ℕ
bit_of FullDates = 0
bit_of ModifiedDates = 1
bit_of PatientCharacteristics = 2
bit_of DeviceIdentity = 3
bit_of RetainUids = 4
bit_of InstitutionIdentity = 5

-- Document 01, Which action, last paragraph, 3rd sentence: code values
abbrev pub code_of : Opt → List ℕ
code_of FullDates = ascii "113106"
code_of ModifiedDates = ascii "113107"
code_of PatientCharacteristics = ascii "113108"
code_of DeviceIdentity = ascii "113109"
code_of RetainUids = ascii "113110"
code_of InstitutionIdentity = ascii "113112"

-- ... and meanings: document 001, Table CID 7050, Code Meaning (W16)
abbrev pub meaning_of : Opt → List ℕ
meaning_of FullDates = ascii "Retain Longitudinal Temporal Information Full Dates Option"
meaning_of ModifiedDates = ascii "Retain Longitudinal Temporal Information Modified Dates Option"
meaning_of PatientCharacteristics = ascii "Retain Patient Characteristics Option"
meaning_of DeviceIdentity = ascii "Retain Device Identity Option"
meaning_of RetainUids = ascii "Retain UIDs Option"
meaning_of InstitutionIdentity = ascii "Retain Institution Identity Option"

-- Document 01, What each action writes, last paragraph: the item that is always there
abbrev pub basic_code : List ℕ
basic_code = ascii "113100"

abbrev pub basic_meaning : List ℕ
basic_meaning = ascii "Basic Application Confidentiality Profile"

abbrev pub is_chosen : ℕ → Opt → Bool
is_chosen number o = has_bit number (bit_of o)

unfoldable pub chosen_in : ℕ → List Opt → List Opt
chosen_in number [] = []
chosen_in number (o ∷ os) = fork (is_chosen number o) (λ _. o ∷ chosen_in number os) (λ _. chosen_in number os)

abbrev pub chosen : ℕ → List Opt
chosen number = chosen_in number options

unfoldable pub opt_at : ℕ → ℕ → Option Opt
opt_at number bit = then (slice_get options bit) (λ o. pick (is_chosen number o) (Some o) None)
