-- The 34 VRs by name: the number that the two letters of each spell, lowest byte first, as they stand in a header.
-- Document 01, "Layout of a data set", 1st point. 0x4541 is "AE": 41 hex is A and stands first, 45 hex is E. Assumes nothing.
use Rattle.std.specs.Prelude.{ℕ}

abbrev pub AE : ℕ
AE = 0x4541

abbrev pub AS : ℕ
AS = 0x5341

abbrev pub AT : ℕ
AT = 0x5441

abbrev pub CS : ℕ
CS = 0x5343

abbrev pub DA : ℕ
DA = 0x4144

abbrev pub DS : ℕ
DS = 0x5344

abbrev pub DT : ℕ
DT = 0x5444

abbrev pub FD : ℕ
FD = 0x4446

abbrev pub FL : ℕ
FL = 0x4C46

abbrev pub IS : ℕ
IS = 0x5349

abbrev pub LO : ℕ
LO = 0x4F4C

abbrev pub LT : ℕ
LT = 0x544C

abbrev pub OB : ℕ
OB = 0x424F

abbrev pub OD : ℕ
OD = 0x444F

abbrev pub OF : ℕ
OF = 0x464F

abbrev pub OL : ℕ
OL = 0x4C4F

abbrev pub OV : ℕ
OV = 0x564F

abbrev pub OW : ℕ
OW = 0x574F

abbrev pub PN : ℕ
PN = 0x4E50

abbrev pub SH : ℕ
SH = 0x4853

abbrev pub SL : ℕ
SL = 0x4C53

abbrev pub SQ : ℕ
SQ = 0x5153

abbrev pub SS : ℕ
SS = 0x5353

abbrev pub ST : ℕ
ST = 0x5453

abbrev pub SV : ℕ
SV = 0x5653

abbrev pub TM : ℕ
TM = 0x4D54

abbrev pub UC : ℕ
UC = 0x4355

abbrev pub UI : ℕ
UI = 0x4955

abbrev pub UL : ℕ
UL = 0x4C55

abbrev pub UN : ℕ
UN = 0x4E55

abbrev pub UR : ℕ
UR = 0x5255

abbrev pub US : ℕ
US = 0x5355

abbrev pub UT : ℕ
UT = 0x5455

abbrev pub UV : ℕ
UV = 0x5655
