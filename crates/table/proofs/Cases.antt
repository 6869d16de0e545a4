-- Cases of `specs/Action.antt`: one claim, proved by computation over the whole table. Assumes nothing.
--     none, full, modified, patient, device, uids, institution     option numbers: no option, and each option alone
--     widest                                                       all that can be chosen beside Full Dates
--     at_top, in_item options tag action                           a case: the action that is right at the top level, or in an item
--     cases                                                        the cases, in document 01's order
--     samples                                                      each of them gets the action that is right
use mathlib.Core.Path.{◌≡◌, refl}
use mathlib.Core.Bool.{Bool, true, false}
use mathlib.Core.List.{List, [], ◌∷◌, map}
use Prim.Native.Nat.{ℕ, ◌+◌}
use Rattle.basis.specs.Choice.{among}
use Rattle.table.specs.Rows.{table}
use Rattle.table.specs.Table.{row_in}
use Rattle.table.specs.Rules.{ruled}
use Rattle.table.specs.Override.{overriding}
use Rattle.table.specs.Action.{action_for, on_row, action_of}
use Rattle.table.specs.declared.Action.{Action}
use Rattle.table.specs.declared.Action.TheVariants.{Remove, Keep, Empty, Dummy, Rename, Clean, CleanDates}

abbrev pub none : ℕ
none = 0

abbrev pub full : ℕ
full = 1

abbrev pub modified : ℕ
modified = 2

abbrev pub patient : ℕ
patient = 4

abbrev pub device : ℕ
device = 8

abbrev pub uids : ℕ
uids = 16

abbrev pub institution : ℕ
institution = 32

abbrev pub widest : ℕ
widest = full + patient + device + uids + institution

-- a case: the option number, the level, the tag and the action that is right
pub data Case : Type 0 where
  case : ℕ → Bool → ℕ → Action → Case

abbrev pub at_top : ℕ → ℕ → Action → Case
at_top options tag action = case options true tag action

abbrev pub in_item : ℕ → ℕ → Action → Case
in_item options tag action = case options false tag action

abbrev pub got : Case → Action
got (case options top tag action) = action_of options top tag

abbrev pub right : Case → Action
right (case options top tag action) = action

abbrev pub cases : List Case
cases =
    -- (50xx,xxxx) for even groups; (5100,0010) is none
    at_top none 0x5002_0030 Remove ∷ in_item uids 0x50FE_FFFE Remove ∷ at_top none 0x5100_0010 Keep ∷
    -- private, whatever is chosen
    at_top none 0x0009_0010 Remove ∷ in_item widest 0x0029_1010 Remove ∷ at_top none 0x5001_0010 Remove ∷
    -- (60xx,3000) and (60xx,4000) for even groups; other elements of theirs are K
    at_top none 0x6000_3000 Remove ∷ in_item none 0x60FE_4000 Remove ∷ at_top none 0x6002_0010 Keep ∷ at_top none 0x6100_3000 Keep ∷
    -- element 0000
    at_top none 0x0008_0000 Remove ∷ in_item none 0x6000_0000 Remove ∷
    -- the reserved tags, at the top level and in an item
    at_top none 0x0012_0062 Remove ∷ at_top full 0x0012_0063 Remove ∷ at_top widest 0x0012_0064 Remove ∷ at_top modified 0x0028_0303 Remove ∷
    in_item none 0x0012_0063 Keep ∷ in_item none 0x0012_0064 Keep ∷
    -- no row: SOP Class UID, Pixel Data
    at_top none 0x0008_0016 Keep ∷ at_top none 0x7FE0_0010 Keep ∷
    -- the first row and the last
    at_top none 0x0000_1000 Remove ∷ at_top none 0xFFFC_FFFC Remove ∷
    -- Patient's Name, Accession Number, Patient's Birth Date: Z
    at_top none 0x0010_0010 Empty ∷ in_item widest 0x0008_0050 Empty ∷ at_top modified 0x0010_0030 Empty ∷
    -- either-or: Z/D, X/D, X/Z/D are D; X/Z is Z; X/Z/U* is U
    at_top none 0x0018_0010 Dummy ∷ at_top none 0x0008_0012 Dummy ∷ at_top none 0x0008_0080 Dummy ∷
    at_top none 0x0008_1110 Empty ∷ at_top none 0x0008_1140 Rename ∷
    -- Study Date by each date option
    at_top none 0x0008_0020 Empty ∷ at_top full 0x0008_0020 Keep ∷ at_top modified 0x0008_0020 CleanDates ∷
    -- Ethnic Group; SOP Instance UID; Institution Name: by their own option alone
    at_top none 0x0010_2160 Remove ∷ at_top patient 0x0010_2160 Keep ∷ at_top (modified + device) 0x0010_2160 Remove ∷
    at_top none 0x0008_0018 Rename ∷ at_top uids 0x0008_0018 Keep ∷ at_top institution 0x0008_0080 Keep ∷
    -- A8, Date of Last Calibration: K by Device, but C by Modified Dates wins
    at_top none 0x0018_1200 Remove ∷ at_top device 0x0018_1200 Keep ∷ at_top (modified + device) 0x0018_1200 CleanDates ∷
    -- A7, Allergies and Station AE Title: the C of another column is not Modified Dates'
    at_top patient 0x0010_2110 Clean ∷ at_top (modified + patient) 0x0010_2110 Clean ∷ at_top (modified + device) 0x0008_0055 Clean ∷
    -- A16, the three tags that are printed twice, with C and with K by Device
    at_top device 0x0032_1021 Clean ∷ at_top device 0x0040_0001 Clean ∷ at_top device 0x0040_0241 Clean ∷
    -- taken as document 002 prints them: Referenced Patient Sequence by Retain UIDs, Beam Hold Transition DateTime by Device
    at_top uids 0x0008_1120 Keep ∷ at_top device 0x300C_0127 Keep ∷
    []

pub samples : map got cases ≡ map right cases
unfolding among table row_in ruled action_for overriding on_row action_of
samples = refl
