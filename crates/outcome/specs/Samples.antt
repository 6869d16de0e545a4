-- The sample exports that document 01 marks with a star: document 01, "Sample exports". `proofs/SampleTable.antt` has the one claim
-- about all of them. Assumes nothing.
--     Sample              what a run is handed, what it reports, the bytes that its output begins with, the slots in use afterwards
--     samples             one line for each sample, in document 01's order (room 148 is ours)
--     further, untouched  cases of our own, for what those do not reach
--     tried c, told c     what the definitions say of a sample, and what the sample says
use Rattle.std.specs.Prelude.{List, [], ◌∷◌, ◌++◌, ℕ, ◌-◌, ℤ, pos, negsuc, length, take, drop, replicate}
use Rattle.basis.specs.Text.{ascii, hex}
use Rattle.vr.specs.Names.{DA, LO, SQ, TM, UI}
use Rattle.layout.specs.Source.{explicitly}
use Rattle.layout.specs.Heads.{item_tag, item_end, sequence_end, undefined}
use Rattle.layout.specs.Write.{mark, header}
use Rattle.ledger.specs.Slots.{slot_of, flat}
use Rattle.treatment.specs.Settings.{Settings}
use Rattle.kept.specs.Counts.{Counts, nothing, counts}
use Rattle.outcome.specs.Input.{Input}
use Rattle.outcome.specs.Outcome.{Report, filled_up, report_of, output_of, ledger_of}

pub record Sample : Type 0 where
  pub input : Input
  pub report : Report
  pub begins : List ℕ
  pub slots : List (List ℕ)

-- ---- how samples are put together

abbrev pub element : ℕ → ℕ → List ℕ → List ℕ
element tag vr v = header tag vr (length v) ++ v

-- no options, no shift, the root 1.9, empty lists
abbrev pub plain : Settings
plain = record { options = 0; shift = pos 0; root = ascii "1.9"; study = []; site = [] }

abbrev pub rooted : List ℕ → Settings
rooted root = record { options = 0; shift = pos 0; root = root; study = []; site = [] }

-- Modified Dates, by so many days
abbrev pub moving : ℤ → Settings
moving days = record { options = 2; shift = days; root = ascii "1.9"; study = []; site = [] }

abbrev pub study_listed : List ℕ → Settings
study_listed study = record { options = 0; shift = pos 0; root = ascii "1.9"; study = study; site = [] }

-- a ledger with two slots and no entries, and room for so many bytes
abbrev pub run : Settings → ℕ → List ℕ → Input
run s room lent = record { lent = explicitly lent; settings = s; ledger = replicate 128 0; used = 0; room = room }

abbrev pub accepted : ℕ → ℕ → Counts → Report
accepted n used c = record { refusal = 0; offset = 0; written = n; used = used; counts = c }

abbrev pub no : ℕ → ℕ → Report
no number offset = record { refusal = number; offset = offset; written = 0; used = 0; counts = nothing }

-- ---- the bytes that document 01 prints

abbrev pub doe_jane : List ℕ
doe_jane = hex "10 00 10 00 50 4E 08 00 44 6F 65 5E 4A 61 6E 65"

abbrev pub empty_name : List ℕ
empty_name = hex "10 00 10 00 50 4E 00 00"

abbrev pub gained : List ℕ
gained =
    hex "12 00 62 00 43 53 04 00 59 45 53 20"
    ++ hex "12 00 64 00 53 51 00 00 FF FF FF FF"
    ++ hex "FE FF 00 E0 FF FF FF FF"
    ++ hex "08 00 00 01 53 48 06 00 31 31 33 31 30 30"
    ++ hex "08 00 02 01 53 48 04 00 44 43 4D 20"
    ++ hex "08 00 04 01 4C 4F 2A 00" ++ ascii "Basic Application Confidentiality Profile "
    ++ hex "FE FF 0D E0 00 00 00 00"
    ++ hex "FE FF DD E0 00 00 00 00"
    ++ hex "28 00 03 03 43 53 08 00 52 45 4D 4F 56 45 44 20"

abbrev pub subject7 : List ℕ
subject7 = hex "90 80 40 05 53 55 42 4A 37"

-- ---- Study and Series Instance UID, a study date, a private element, roots

abbrev pub two_uids : List ℕ → List ℕ → List ℕ
two_uids study series = element 0x0020_000D UI study ++ element 0x0020_000E UI series

-- the new ones stand between the markers
abbrev pub between_markers : List ℕ → List ℕ → List ℕ
between_markers study series = take 124 gained ++ two_uids (study ++ 0 ∷ []) (series ++ 0 ∷ []) ++ drop 124 gained

-- a UID of five characters, with its zero byte
abbrev pub uid : List ℕ → List ℕ
uid u = u ++ 0 ∷ []

abbrev pub study_date : List ℕ → List ℕ
study_date d = element 0x0008_0020 DA d

-- 1. and so many ones
abbrev pub root_of : ℕ → List ℕ
root_of n = ascii "1." ++ replicate n 0x31

abbrev pub sample : Input → Report → List ℕ → List (List ℕ) → Sample
sample i r b ks = record { input = i; report = r; begins = b; slots = ks }

abbrev pub samples : List Sample
samples =
    -- empty input, no options
    sample (run plain 300 []) (accepted 140 0 nothing) gained []
    -- Doe^Jane: 148 bytes, replaced 1
    ∷ sample (run plain 300 doe_jane) (accepted 148 0 (counts 0 1 0 0)) (empty_name ++ gained) []
    -- the same with room 148, and with room 147: refusal 14, and all zeros
    ∷ sample (run plain 148 doe_jane) (accepted 148 0 (counts 0 1 0 0)) (empty_name ++ gained) []
    ∷ sample (run plain 147 doe_jane) (no 14 0) (replicate 147 0) []
    -- with the list above: 154 bytes
    ∷ sample (run (study_listed subject7) 300 doe_jane) (accepted 154 0 (counts 0 1 0 0)) (hex "10 00 10 00 50 4E 06 00 53 55 42 4A 37 20" ++ gained) []
    -- both UIDs 1.2.3: both 1.9.1, one slot; different ones: 1.9.1 and 1.9.2
    ∷ sample (run plain 300 (two_uids (uid (ascii "1.2.3")) (uid (ascii "1.2.3")))) (accepted 168 1 (counts 0 0 2 0))
    (between_markers (ascii "1.9.1") (ascii "1.9.1")) (slot_of (ascii "1.2.3") ∷ [])
    ∷ sample (run plain 300 (two_uids (uid (ascii "1.2.3")) (uid (ascii "1.2.4")))) (accepted 168 2 (counts 0 0 2 0))
    (between_markers (ascii "1.9.1") (ascii "1.9.2")) (slot_of (ascii "1.2.3") ∷ slot_of (ascii "1.2.4") ∷ [])
    -- dates: by -1 day twice, by 30, and out of the years
    ∷ sample (run (moving (negsuc 0)) 300 (study_date (ascii "20200301"))) (accepted 268 0 (counts 0 1 0 0)) (study_date (ascii "20200229")) []
    ∷ sample (run (moving (negsuc 0)) 300 (study_date (ascii "20190301"))) (accepted 268 0 (counts 0 1 0 0)) (study_date (ascii "20190228")) []
    ∷ sample (run (moving (pos 30)) 300 (study_date (ascii "20240131"))) (accepted 268 0 (counts 0 1 0 0)) (study_date (ascii "20240301")) []
    ∷ sample (run (moving (negsuc 0)) 300 (study_date (ascii "00010101"))) (no 12 0) (replicate 300 0) []
    -- a root of 59 characters, and of 60
    ∷ sample (run (rooted (root_of 57)) 300 []) (accepted 140 0 nothing) gained []
    ∷ sample (run (rooted (root_of 58)) 300 []) (no 2 0) (replicate 300 0) []
    -- (0009,0010) is removed
    ∷ sample (run plain 300 (element 0x0009_0010 LO (ascii "ACME"))) (accepted 140 0 (counts 0 0 0 1)) gained []
    ∷ []

-- ---- ours: what the starred samples do not reach

-- a ledger with one UID in use, and dirt behind it
abbrev pub dirty : List ℕ
dirty = slot_of (ascii "1.2.3") ++ replicate 64 0x55

abbrev pub from : List ℕ → ℕ → Settings → List ℕ → Input
from ledger used s lent = record { lent = explicitly lent; settings = s; ledger = ledger; used = used; room = 400 }

abbrev pub both_lists : Settings
both_lists = record { options = 0; shift = pos 0; root = ascii "1.9"; study = subject7; site = hex "90 80 40 04 53 49 54 45" }

abbrev pub site_only : Settings
site_only = record { options = 0; shift = pos 0; root = ascii "1.9"; study = []; site = hex "90 80 40 04 53 49 54 45" }

-- a refusal with one entry in use, or with more than there are
abbrev pub no_with : ℕ → ℕ → ℕ → Report
no_with used number offset = record { refusal = number; offset = offset; written = 0; used = used; counts = nothing }

-- (0008,1199) has no row and is walked into: its item holds a time under Modified Dates, and a sequence that becomes one empty item
abbrev pub in_item : List ℕ → List ℕ
in_item es = header 0x0008_1199 SQ undefined ++ mark item_tag undefined ++ es ++ mark item_end 0 ++ mark sequence_end 0

abbrev pub empty_item : ℕ → List ℕ
empty_item tag = header tag SQ undefined ++ mark item_tag undefined ++ mark item_end 0 ++ mark sequence_end 0

abbrev pub further : List Sample
further =
    -- both lists have the tag: the study's; the site's alone
    sample (from (replicate 128 0) 0 both_lists doe_jane) (accepted 154 0 (counts 0 1 0 0)) (hex "10 00 10 00 50 4E 06 00 53 55 42 4A 37 20" ++ gained) []
    ∷ sample (from (replicate 128 0) 0 site_only doe_jane) (accepted 152 0 (counts 0 1 0 0)) (hex "10 00 10 00 50 4E 04 00 53 49 54 45" ++ gained) []
    -- a UID that is in use keeps its number, and what lies behind is zeroed; a new one is the next
    ∷ sample (from dirty 1 plain (two_uids (uid (ascii "1.2.4")) (uid (ascii "1.2.3")))) (accepted 168 2 (counts 0 0 2 0))
    (between_markers (ascii "1.9.2") (ascii "1.9.1")) (slot_of (ascii "1.2.3") ∷ slot_of (ascii "1.2.4") ∷ [])
    -- refusal 12 at the second element: its offset, the count as it was, the slot in use as it was, the rest zeroed
    ∷ sample (from dirty 1 (moving (pos 1)) (study_date (ascii "20200301") ++ element 0x0008_0021 DA (ascii "20200230"))) (no_with 1 12 16) []
    (slot_of (ascii "1.2.3") ∷ [])
    -- more new UIDs than free slots: 13, before the room is asked
    ∷ sample (from (slot_of (ascii "1.2.3")) 1 plain (two_uids (uid (ascii "1.2.3")) (uid (ascii "1.2.4")))) (no_with 1 13 0) [] (slot_of (ascii "1.2.3") ∷ [])
    -- a sequence is walked into: the time in its item is kept, and (0008,1111), which is D, becomes one empty item
    ∷ sample (from (replicate 128 0) 0 (moving (pos 0)) (in_item (element 0x0008_0030 TM (ascii "101500") ++ element 0x0008_1111 SQ [])))
    (accepted 338 0 (counts 2 1 0 0)) (in_item (element 0x0008_0030 TM (ascii "101500") ++ empty_item 0x0008_1111)) []
    ∷ []

-- a count above the slots leaves the ledger as it is, whichever number is returned
abbrev pub untouched : List (Input × Report)
untouched =
    (from dirty 3 plain doe_jane, no_with 3 3 0)
    ∷ (from dirty 3 (rooted []) doe_jane, no_with 3 2 0)
    ∷ (from dirty 3 (rooted (root_of 57)) [], no_with 3 3 0)
    ∷ []

-- the report, what the output begins with, what follows its length, and the whole ledger
abbrev pub Seen : Type 0
Seen = Report × List ℕ × List ℕ × List ℕ

abbrev pub tried : Sample → Seen
tried c = (
  report_of c.input,
  take (length c.begins) (output_of c.input),
  drop (report_of c.input).written (output_of c.input),
  ledger_of c.input,
)

abbrev pub told : Sample → Seen
told c = (c.report, c.begins, replicate (c.input.room - c.report.written) 0, filled_up (length c.input.ledger) (flat c.slots))

abbrev pub tried_untouched : Input × Report → Report × List ℕ
tried_untouched c = (report_of c.0, ledger_of c.0)

abbrev pub told_untouched : Input × Report → Report × List ℕ
told_untouched c = (c.1, c.0.ledger)
