-- The refusals: document 01, "When the station says no", in the order of its table. A definition that refuses names the number, or the
-- case of the code's own enum, `Refusal` of `src/lib.rt`, that has the same name. Assumes nothing.
--     bad_settings, bad_root, bad_count, bad_list, too_long        1 to 5: what is judged before the data set is read
--     cut_short, bad_tag, bad_vr, bad_length, too_deep             6 to 10: faults of shape
--     bad_uids, bad_dates                                          11 and 12: faults of values
--     no_slot, no_room                                             13 and 14: no room for what has to be written
--     number r                                                     the number of the refusal r
--     as_fault r                                                   r as a fault of the whole input: its offset is 0
use Rattle.std.specs.Prelude.{ℕ}
use Rattle.refusals.specs.declared.Fault.{Fault}
use Rattle.refusals.specs.declared.Refusal.{Refusal}
use Rattle.refusals.specs.declared.Refusal.TheVariants.{BadSettings, BadRoot, BadCount, BadList, TooLong, CutShort, BadTag, BadVr, BadLength, TooDeep, BadUids, BadDates, NoSlot, NoRoom}

-- the settings may not be asked for: a number with a bit of no option, both date options, a shift out of its range, or a shift without
-- Modified Dates
abbrev pub bad_settings : ℕ
bad_settings = 1

-- the root is not a UID, or too long a one to be followed by a number
abbrev pub bad_root : ℕ
bad_root = 2

-- more slots are said to be in use than the ledger has
abbrev pub bad_count : ℕ
bad_count = 3

-- a replacement list breaks the rule of lists
abbrev pub bad_list : ℕ
bad_list = 4

-- the data set is longer than a data set may be
abbrev pub too_long : ℕ
too_long = 5

-- the data set, or the container, ends before a header, a value, an item or an end mark is whole
abbrev pub cut_short : ℕ
cut_short = 6

-- a tag that may not stand here: not allowed, not above the one before it, or neither an item's nor an end mark's where one has to stand
abbrev pub bad_tag : ℕ
bad_tag = 7

-- a VR that is none of the 34, or two bytes after a VR that should be zero and are not
abbrev pub bad_vr : ℕ
bad_vr = 8

-- a length that is odd, or undefined where it may not be, or an end mark with a length
abbrev pub bad_length : ℕ
bad_length = 9

-- an item inside as many items as may nest
abbrev pub too_deep : ℕ
too_deep = 10

-- an element that is to be renamed is neither UI nor SQ, or its value breaks the rule of UIDs
abbrev pub bad_uids : ℕ
bad_uids = 11

-- a date that is to be shifted is malformed, is no day of the calendar, or leaves the years
abbrev pub bad_dates : ℕ
bad_dates = 12

-- more new UIDs than slots that are free
abbrev pub no_slot : ℕ
no_slot = 13

-- the output is longer than the buffer lent for it
abbrev pub no_room : ℕ
no_room = 14

-- the number by which the table names a refusal
abbrev pub number : Refusal → ℕ
number BadSettings = bad_settings
number BadRoot = bad_root
number BadCount = bad_count
number BadList = bad_list
number TooLong = too_long
number CutShort = cut_short
number BadTag = bad_tag
number BadVr = bad_vr
number BadLength = bad_length
number TooDeep = too_deep
number BadUids = bad_uids
number BadDates = bad_dates
number NoSlot = no_slot
number NoRoom = no_room

-- the fault that is a refusal by the whole input: its offset is 0
abbrev pub as_fault : Refusal → Fault
as_fault r = record { refusal = r; offset = 0 }
