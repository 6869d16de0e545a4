-- The rows of DICOM PS3.15, edition 2023b, Table E.1-1, as document 01, "Which action an element gets", reads them.
-- Made by tools/make-table from data/table-e1-1.tsv. Do not edit: `tools/make-table --check` compares. Assumes nothing.
--     table        the rows, one for each single tag that a line names, rising by tag; a tag that is printed twice is one row (A16)
--     row_count    how many they are: 604
-- A row reads: group, element, the basic action, then the letters of the options of bits 6 to 0. `Table.antt` has the digits.
use Rattle.std.specs.Prelude.{List, [], ◌∷◌, ℕ}

abbrev pub row_count : ℕ
row_count = 604

unfoldable pub table : List ℕ
table =
    0x0000_1000_1_0040000 ∷  -- Affected SOP Instance UID
    0x0000_1001_3_0040000 ∷  -- Requested SOP Instance UID
    0x0002_0003_3_0040000 ∷  -- Media Storage SOP Instance UID
    0x0004_1511_3_0040000 ∷  -- Referenced SOP Instance UID in File
    0x0008_0012_D_00000C4 ∷  -- Instance Creation Date
    0x0008_0013_D_00000C4 ∷  -- Instance Creation Time
    0x0008_0014_3_0040000 ∷  -- Instance Creator UID
    0x0008_0015_1_00000C4 ∷  -- Instance Coercion DateTime
    0x0008_0017_3_0040000 ∷  -- Acquisition UID
    0x0008_0018_3_0040000 ∷  -- SOP Instance UID
    0x0008_0019_3_0040000 ∷  -- Pyramid UID
    0x0008_0020_2_00000C4 ∷  -- Study Date
    0x0008_0021_D_00000C4 ∷  -- Series Date
    0x0008_0022_2_00000C4 ∷  -- Acquisition Date
    0x0008_0023_D_00000C4 ∷  -- Content Date
    0x0008_0024_1_00000C4 ∷  -- Overlay Date
    0x0008_0025_1_00000C4 ∷  -- Curve Date
    0x0008_002A_D_00000C4 ∷  -- Acquisition DateTime
    0x0008_0030_2_00000C4 ∷  -- Study Time
    0x0008_0031_D_00000C4 ∷  -- Series Time
    0x0008_0032_2_00000C4 ∷  -- Acquisition Time
    0x0008_0033_D_00000C4 ∷  -- Content Time
    0x0008_0034_1_00000C4 ∷  -- Overlay Time
    0x0008_0035_1_00000C4 ∷  -- Curve Time
    0x0008_0050_2_0000000 ∷  -- Accession Number
    0x0008_0054_1_000C000 ∷  -- Retrieve AE Title
    0x0008_0055_1_000C000 ∷  -- Station AE Title
    0x0008_0058_3_0040000 ∷  -- Failed SOP Instance UID List
    0x0008_0080_D_0400000 ∷  -- Institution Name
    0x0008_0081_1_0400000 ∷  -- Institution Address
    0x0008_0082_D_0400000 ∷  -- Institution Code Sequence
    0x0008_0090_2_0000000 ∷  -- Referring Physician's Name
    0x0008_0092_1_0000000 ∷  -- Referring Physician's Address
    0x0008_0094_1_0000000 ∷  -- Referring Physician's Telephone Numbers
    0x0008_0096_1_0000000 ∷  -- Referring Physician Identification Sequence
    0x0008_009C_2_0000000 ∷  -- Consulting Physician's Name
    0x0008_009D_1_0000000 ∷  -- Consulting Physician Identification Sequence
    0x0008_0106_D_00000C4 ∷  -- Context Group Version
    0x0008_0107_D_00000C4 ∷  -- Context Group Local Version
    0x0008_0201_1_00000C4 ∷  -- Timezone Offset From UTC
    0x0008_1000_1_000C000 ∷  -- Network ID
    0x0008_1010_D_0004000 ∷  -- Station Name
    0x0008_1030_1_C000000 ∷  -- Study Description
    0x0008_103E_1_C000000 ∷  -- Series Description
    0x0008_1040_1_0400000 ∷  -- Institutional Department Name
    0x0008_1041_1_0400000 ∷  -- Institutional Department Type Code Sequence
    0x0008_1048_1_0000000 ∷  -- Physician(s) of Record
    0x0008_1049_1_0000000 ∷  -- Physician(s) of Record Identification Sequence
    0x0008_1050_1_0000000 ∷  -- Performing Physician's Name
    0x0008_1052_1_0000000 ∷  -- Performing Physician Identification Sequence
    0x0008_1060_1_0000000 ∷  -- Name of Physician(s) Reading Study
    0x0008_1062_1_0000000 ∷  -- Physician(s) Reading Study Identification Sequence
    0x0008_1070_D_0000000 ∷  -- Operators' Name
    0x0008_1072_D_0000000 ∷  -- Operator Identification Sequence
    0x0008_1080_1_C000000 ∷  -- Admitting Diagnoses Description
    0x0008_1084_1_C000000 ∷  -- Admitting Diagnoses Code Sequence
    0x0008_1088_1_C000000 ∷  -- Pyramid Description
    0x0008_1110_2_0040000 ∷  -- Referenced Study Sequence
    0x0008_1111_D_0040000 ∷  -- Referenced Performed Procedure Step Sequence
    0x0008_1120_1_0040000 ∷  -- Referenced Patient Sequence
    0x0008_1140_3_0040000 ∷  -- Referenced Image Sequence
    0x0008_1155_3_0040000 ∷  -- Referenced SOP Instance UID
    0x0008_1195_3_0040000 ∷  -- Transaction UID
    0x0008_2111_1_C000000 ∷  -- Derivation Description
    0x0008_2112_3_0040000 ∷  -- Source Image Sequence
    0x0008_3010_3_0040000 ∷  -- Irradiation Event UID
    0x0008_4000_1_C000000 ∷  -- Identifying Comments
    0x0010_0010_2_0000000 ∷  -- Patient's Name
    0x0010_0020_2_0000000 ∷  -- Patient ID
    0x0010_0021_1_0000000 ∷  -- Issuer of Patient ID
    0x0010_0030_2_0000000 ∷  -- Patient's Birth Date
    0x0010_0032_1_0000000 ∷  -- Patient's Birth Time
    0x0010_0040_2_0000400 ∷  -- Patient's Sex
    0x0010_0050_1_0000000 ∷  -- Patient's Insurance Plan Code Sequence
    0x0010_0101_1_0000000 ∷  -- Patient's Primary Language Code Sequence
    0x0010_0102_1_0000000 ∷  -- Patient's Primary Language Modifier Code Sequence
    0x0010_1000_1_0000000 ∷  -- Other Patient IDs
    0x0010_1001_1_0000000 ∷  -- Other Patient Names
    0x0010_1002_1_0000000 ∷  -- Other Patient IDs Sequence
    0x0010_1005_1_0000000 ∷  -- Patient's Birth Name
    0x0010_1010_1_0000400 ∷  -- Patient's Age
    0x0010_1020_1_0000400 ∷  -- Patient's Size
    0x0010_1030_1_0000400 ∷  -- Patient's Weight
    0x0010_1040_1_0000000 ∷  -- Patient's Address
    0x0010_1050_1_0000000 ∷  -- Insurance Plan Identification
    0x0010_1060_1_0000000 ∷  -- Patient's Mother's Birth Name
    0x0010_1080_1_0000000 ∷  -- Military Rank
    0x0010_1081_1_0000000 ∷  -- Branch of Service
    0x0010_1090_1_0000000 ∷  -- Medical Record Locator
    0x0010_1100_1_0000000 ∷  -- Referenced Patient Photo Sequence
    0x0010_2000_1_C000000 ∷  -- Medical Alerts
    0x0010_2110_1_C000C00 ∷  -- Allergies
    0x0010_2150_1_0000000 ∷  -- Country of Residence
    0x0010_2152_1_0000000 ∷  -- Region of Residence
    0x0010_2154_1_0000000 ∷  -- Patient's Telephone Numbers
    0x0010_2155_1_0000000 ∷  -- Patient's Telecom Information
    0x0010_2160_1_0000400 ∷  -- Ethnic Group
    0x0010_2180_1_C000000 ∷  -- Occupation
    0x0010_21A0_1_0000400 ∷  -- Smoking Status
    0x0010_21B0_1_C000000 ∷  -- Additional Patient History
    0x0010_21C0_1_0000400 ∷  -- Pregnancy Status
    0x0010_21D0_1_00000C4 ∷  -- Last Menstrual Date
    0x0010_21F0_1_0000000 ∷  -- Patient's Religious Preference
    0x0010_2203_2_0000400 ∷  -- Patient's Sex Neutered
    0x0010_2297_1_0000000 ∷  -- Responsible Person
    0x0010_2299_1_0000000 ∷  -- Responsible Organization
    0x0010_4000_1_C000000 ∷  -- Patient Comments
    0x0012_0010_D_0000000 ∷  -- Clinical Trial Sponsor Name
    0x0012_0020_D_0000000 ∷  -- Clinical Trial Protocol ID
    0x0012_0021_2_0000000 ∷  -- Clinical Trial Protocol Name
    0x0012_0030_2_0400000 ∷  -- Clinical Trial Site ID
    0x0012_0031_2_0400000 ∷  -- Clinical Trial Site Name
    0x0012_0040_D_0000000 ∷  -- Clinical Trial Subject ID
    0x0012_0042_D_0000000 ∷  -- Clinical Trial Subject Reading ID
    0x0012_0050_2_0000000 ∷  -- Clinical Trial Time Point ID
    0x0012_0051_1_C000000 ∷  -- Clinical Trial Time Point Description
    0x0012_0060_2_0400000 ∷  -- Clinical Trial Coordinating Center Name
    0x0012_0071_1_0000000 ∷  -- Clinical Trial Series ID
    0x0012_0072_1_C000000 ∷  -- Clinical Trial Series Description
    0x0012_0081_D_0400000 ∷  -- Clinical Trial Protocol Ethics Committee Name
    0x0012_0082_1_0000000 ∷  -- Clinical Trial Protocol Ethics Committee Approval Number
    0x0012_0086_1_00000C4 ∷  -- Ethics Committee Approval Effectiveness Start Date
    0x0012_0087_1_00000C4 ∷  -- Ethics Committee Approval Effectiveness End Date
    0x0014_407C_1_00040C4 ∷  -- Calibration Time
    0x0014_407E_1_00040C4 ∷  -- Calibration Date
    0x0016_002B_1_C000000 ∷  -- Maker Note
    0x0016_004B_1_C000000 ∷  -- Device Setting Description
    0x0016_004D_1_0000000 ∷  -- Camera Owner Name
    0x0016_004E_1_0004000 ∷  -- Lens Specification
    0x0016_004F_1_0004000 ∷  -- Lens Make
    0x0016_0050_1_0004000 ∷  -- Lens Model
    0x0016_0051_1_0004000 ∷  -- Lens Serial Number
    0x0016_0070_1_0000000 ∷  -- GPS Version ID
    0x0016_0071_1_0000000 ∷  -- GPS Latitude Ref
    0x0016_0072_1_0000000 ∷  -- GPS Latitude
    0x0016_0073_1_0000000 ∷  -- GPS Longitude Ref
    0x0016_0074_1_0000000 ∷  -- GPS Longitude
    0x0016_0075_1_0000000 ∷  -- GPS Altitude Ref
    0x0016_0076_1_0000000 ∷  -- GPS Altitude
    0x0016_0077_1_0000000 ∷  -- GPS Time Stamp
    0x0016_0078_1_0000000 ∷  -- GPS Satellites
    0x0016_0079_1_0000000 ∷  -- GPS Status
    0x0016_007A_1_0000000 ∷  -- GPS Measure Mode
    0x0016_007B_1_0000000 ∷  -- GPS DOP
    0x0016_007C_1_0000000 ∷  -- GPS Speed Ref
    0x0016_007D_1_0000000 ∷  -- GPS Speed
    0x0016_007E_1_0000000 ∷  -- GPS Track Ref
    0x0016_007F_1_0000000 ∷  -- GPS Track
    0x0016_0080_1_0000000 ∷  -- GPS Img Direction Ref
    0x0016_0081_1_0000000 ∷  -- GPS Img Direction
    0x0016_0082_1_0000000 ∷  -- GPS Map Datum
    0x0016_0083_1_0000000 ∷  -- GPS Dest Latitude Ref
    0x0016_0084_1_0000000 ∷  -- GPS Dest Latitude
    0x0016_0085_1_0000000 ∷  -- GPS Dest Longitude Ref
    0x0016_0086_1_0000000 ∷  -- GPS Dest Longitude
    0x0016_0087_1_0000000 ∷  -- GPS Dest Bearing Ref
    0x0016_0088_1_0000000 ∷  -- GPS Dest Bearing
    0x0016_0089_1_0000000 ∷  -- GPS Dest Distance Ref
    0x0016_008A_1_0000000 ∷  -- GPS Dest Distance
    0x0016_008B_1_0000000 ∷  -- GPS Processing Method
    0x0016_008C_1_0000000 ∷  -- GPS Area Information
    0x0016_008D_1_00000C4 ∷  -- GPS Date Stamp
    0x0016_008E_1_0000000 ∷  -- GPS Differential
    0x0018_0010_D_C000000 ∷  -- Contrast/Bolus Agent
    0x0018_0027_1_00000C4 ∷  -- Intervention Drug Stop Time
    0x0018_0035_1_00000C4 ∷  -- Intervention Drug Start Time
    0x0018_1000_D_0004000 ∷  -- Device Serial Number
    0x0018_1002_3_0044000 ∷  -- Device UID
    0x0018_1004_1_0004000 ∷  -- Plate ID
    0x0018_1005_1_0004000 ∷  -- Generator ID
    0x0018_1007_1_0004000 ∷  -- Cassette ID
    0x0018_1008_1_0004000 ∷  -- Gantry ID
    0x0018_1009_1_0004000 ∷  -- Unique Device Identifier
    0x0018_100A_1_0004000 ∷  -- UDI Sequence
    0x0018_100B_3_0044000 ∷  -- Manufacturer's Device Class UID
    0x0018_1012_1_00000C4 ∷  -- Date of Secondary Capture
    0x0018_1014_1_00000C4 ∷  -- Time of Secondary Capture
    0x0018_1030_D_C000000 ∷  -- Protocol Name
    0x0018_1042_1_00000C4 ∷  -- Contrast/Bolus Start Time
    0x0018_1043_1_00000C4 ∷  -- Contrast/Bolus Stop Time
    0x0018_1072_1_00000C4 ∷  -- Radiopharmaceutical Start Time
    0x0018_1073_1_00000C4 ∷  -- Radiopharmaceutical Stop Time
    0x0018_1078_1_00000C4 ∷  -- Radiopharmaceutical Start DateTime
    0x0018_1079_1_00000C4 ∷  -- Radiopharmaceutical Stop DateTime
    0x0018_11BB_D_C000000 ∷  -- Acquisition Field Of View Label
    0x0018_1200_1_00040C4 ∷  -- Date of Last Calibration
    0x0018_1201_1_00040C4 ∷  -- Time of Last Calibration
    0x0018_1202_1_00040C4 ∷  -- DateTime of Last Calibration
    0x0018_1203_2_00040C4 ∷  -- Calibration DateTime
    0x0018_1400_D_C000000 ∷  -- Acquisition Device Processing Description
    0x0018_2042_3_0040000 ∷  -- Target UID
    0x0018_4000_1_C000000 ∷  -- Acquisition Comments
    0x0018_5011_1_0004000 ∷  -- Transducer Identification Sequence
    0x0018_700A_D_0004000 ∷  -- Detector ID
    0x0018_700C_D_00040C4 ∷  -- Date of Last Detector Calibration
    0x0018_700E_D_00040C4 ∷  -- Time of Last Detector Calibration
    0x0018_9074_D_00000C4 ∷  -- Frame Acquisition DateTime
    0x0018_9151_D_00000C4 ∷  -- Frame Reference DateTime
    0x0018_9185_1_C000000 ∷  -- Respiratory Motion Compensation Technique Description
    0x0018_9367_D_0004000 ∷  -- X-Ray Source ID
    0x0018_9369_D_00000C4 ∷  -- Source Start DateTime
    0x0018_936A_D_00000C4 ∷  -- Source End DateTime
    0x0018_9371_D_0004000 ∷  -- X-Ray Detector ID
    0x0018_9373_1_0004000 ∷  -- X-Ray Detector Label
    0x0018_937B_1_C000000 ∷  -- Multi-energy Acquisition Description
    0x0018_937F_1_C000000 ∷  -- Decomposition Description
    0x0018_9424_1_C000000 ∷  -- Acquisition Protocol Description
    0x0018_9516_D_00000C4 ∷  -- Start Acquisition DateTime
    0x0018_9517_D_00000C4 ∷  -- End Acquisition DateTime
    0x0018_9623_D_00000C4 ∷  -- Functional Sync Pulse
    0x0018_9701_D_00000C4 ∷  -- Decay Correction DateTime
    0x0018_9804_D_00000C4 ∷  -- Exclusion Start DateTime
    0x0018_9919_D_00000C4 ∷  -- Instruction Performed DateTime
    0x0018_9937_1_C000000 ∷  -- Requested Series Description
    0x0018_A002_1_00000C4 ∷  -- Contribution DateTime
    0x0018_A003_1_C000000 ∷  -- Contribution Description
    0x0020_000D_3_0040000 ∷  -- Study Instance UID
    0x0020_000E_3_0040000 ∷  -- Series Instance UID
    0x0020_0010_2_0000000 ∷  -- Study ID
    0x0020_0027_1_C000000 ∷  -- Pyramid Label
    0x0020_0052_3_0040000 ∷  -- Frame of Reference UID
    0x0020_0200_3_0040000 ∷  -- Synchronization Frame of Reference UID
    0x0020_3401_1_0004000 ∷  -- Modifying Device ID
    0x0020_3403_1_00000C4 ∷  -- Modified Image Date
    0x0020_3405_1_00000C4 ∷  -- Modified Image Time
    0x0020_3406_1_0000000 ∷  -- Modified Image Description
    0x0020_4000_1_C000000 ∷  -- Image Comments
    0x0020_9158_1_C000000 ∷  -- Frame Comments
    0x0020_9161_3_0040000 ∷  -- Concatenation UID
    0x0020_9164_3_0040000 ∷  -- Dimension Organization UID
    0x0028_1199_3_0040000 ∷  -- Palette Color Lookup Table UID
    0x0028_1214_3_0040000 ∷  -- Large Palette Color Lookup Table UID
    0x0028_4000_1_0000000 ∷  -- Image Presentation Comments
    0x0032_0012_1_0000000 ∷  -- Study ID Issuer
    0x0032_0032_1_00000C4 ∷  -- Study Verified Date
    0x0032_0033_1_00000C4 ∷  -- Study Verified Time
    0x0032_0034_1_00000C4 ∷  -- Study Read Date
    0x0032_0035_1_00000C4 ∷  -- Study Read Time
    0x0032_1000_1_00000C4 ∷  -- Scheduled Study Start Date
    0x0032_1001_1_00000C4 ∷  -- Scheduled Study Start Time
    0x0032_1010_1_00000C4 ∷  -- Scheduled Study Stop Date
    0x0032_1011_1_00000C4 ∷  -- Scheduled Study Stop Time
    0x0032_1020_1_0004000 ∷  -- Scheduled Study Location
    0x0032_1021_1_000C000 ∷  -- Scheduled Study Location AE Title
    0x0032_1030_1_C000000 ∷  -- Reason for Study
    0x0032_1032_1_0000000 ∷  -- Requesting Physician
    0x0032_1033_1_0000000 ∷  -- Requesting Service
    0x0032_1040_1_00000C4 ∷  -- Study Arrival Date
    0x0032_1041_1_00000C4 ∷  -- Study Arrival Time
    0x0032_1050_1_00000C4 ∷  -- Study Completion Date
    0x0032_1051_1_00000C4 ∷  -- Study Completion Time
    0x0032_1060_2_C000000 ∷  -- Requested Procedure Description
    0x0032_1066_1_C000000 ∷  -- Reason for Visit
    0x0032_1067_1_C000000 ∷  -- Reason for Visit Code Sequence
    0x0032_1070_1_C000000 ∷  -- Requested Contrast Agent
    0x0032_4000_1_C000000 ∷  -- Study Comments
    0x0034_0001_D_0000000 ∷  -- Flow Identifier Sequence
    0x0034_0002_D_0000000 ∷  -- Flow Identifier
    0x0034_0005_D_0000000 ∷  -- Source Identifier
    0x0034_0007_D_00000C4 ∷  -- Frame Origin Timestamp
    0x0038_0004_1_0000000 ∷  -- Referenced Patient Alias Sequence
    0x0038_0010_1_0000000 ∷  -- Admission ID
    0x0038_0011_1_0000000 ∷  -- Issuer of Admission ID
    0x0038_0014_1_0000000 ∷  -- Issuer of Admission ID Sequence
    0x0038_001A_1_00000C4 ∷  -- Scheduled Admission Date
    0x0038_001B_1_00000C4 ∷  -- Scheduled Admission Time
    0x0038_001C_1_00000C4 ∷  -- Scheduled Discharge Date
    0x0038_001D_1_00000C4 ∷  -- Scheduled Discharge Time
    0x0038_001E_1_0000000 ∷  -- Scheduled Patient Institution Residence
    0x0038_0020_1_00000C4 ∷  -- Admitting Date
    0x0038_0021_1_00000C4 ∷  -- Admitting Time
    0x0038_0030_1_00000C4 ∷  -- Discharge Date
    0x0038_0032_1_00000C4 ∷  -- Discharge Time
    0x0038_0040_1_C000000 ∷  -- Discharge Diagnosis Description
    0x0038_0050_1_0000C00 ∷  -- Special Needs
    0x0038_0060_1_0000000 ∷  -- Service Episode ID
    0x0038_0061_1_0000000 ∷  -- Issuer of Service Episode ID
    0x0038_0062_1_C000000 ∷  -- Service Episode Description
    0x0038_0064_1_0000000 ∷  -- Issuer of Service Episode ID Sequence
    0x0038_0300_1_0000000 ∷  -- Current Patient Location
    0x0038_0400_1_0000000 ∷  -- Patient's Institution Residence
    0x0038_0500_1_C000C00 ∷  -- Patient State
    0x0038_4000_1_C000000 ∷  -- Visit Comments
    0x003A_0310_3_0040000 ∷  -- Multiplex Group UID
    0x003A_0314_D_00000C4 ∷  -- Impedance Measurement DateTime
    0x003A_0329_1_C000000 ∷  -- Waveform Filter Description
    0x003A_032B_1_C000000 ∷  -- Filter Lookup Table Description
    0x0040_0001_1_000C000 ∷  -- Scheduled Station AE Title
    0x0040_0002_1_00000C4 ∷  -- Scheduled Procedure Step Start Date
    0x0040_0003_1_00000C4 ∷  -- Scheduled Procedure Step Start Time
    0x0040_0004_1_00000C4 ∷  -- Scheduled Procedure Step End Date
    0x0040_0005_1_00000C4 ∷  -- Scheduled Procedure Step End Time
    0x0040_0006_1_0000000 ∷  -- Scheduled Performing Physician's Name
    0x0040_0007_1_C000000 ∷  -- Scheduled Procedure Step Description
    0x0040_0009_1_0000000 ∷  -- Scheduled Procedure Step ID
    0x0040_000B_1_0000000 ∷  -- Scheduled Performing Physician Identification Sequence
    0x0040_0010_1_0004000 ∷  -- Scheduled Station Name
    0x0040_0011_1_0004000 ∷  -- Scheduled Procedure Step Location
    0x0040_0012_1_0000C00 ∷  -- Pre-Medication
    0x0040_0241_1_000C000 ∷  -- Performed Station AE Title
    0x0040_0242_1_0004000 ∷  -- Performed Station Name
    0x0040_0243_1_0000000 ∷  -- Performed Location
    0x0040_0244_1_00000C4 ∷  -- Performed Procedure Step Start Date
    0x0040_0245_1_00000C4 ∷  -- Performed Procedure Step Start Time
    0x0040_0250_1_00000C4 ∷  -- Performed Procedure Step End Date
    0x0040_0251_1_00000C4 ∷  -- Performed Procedure Step End Time
    0x0040_0253_1_0000000 ∷  -- Performed Procedure Step ID
    0x0040_0254_1_C000000 ∷  -- Performed Procedure Step Description
    0x0040_0275_1_C000000 ∷  -- Request Attributes Sequence
    0x0040_0280_1_C000000 ∷  -- Comments on the Performed Procedure Step
    0x0040_0310_1_C000000 ∷  -- Comments on Radiation Dose
    0x0040_050A_1_0000000 ∷  -- Specimen Accession Number
    0x0040_0512_D_0000000 ∷  -- Container Identifier
    0x0040_0513_2_0000000 ∷  -- Issuer of the Container Identifier Sequence
    0x0040_051A_1_C000000 ∷  -- Container Description
    0x0040_0551_D_0000000 ∷  -- Specimen Identifier
    0x0040_0554_3_0040000 ∷  -- Specimen UID
    0x0040_0555_2_0000000 ∷  -- Acquisition Context Sequence
    0x0040_0562_2_0000000 ∷  -- Issuer of the Specimen Identifier Sequence
    0x0040_0600_1_C000000 ∷  -- Specimen Short Description
    0x0040_0602_1_C000000 ∷  -- Specimen Detailed Description
    0x0040_0610_2_0000000 ∷  -- Specimen Preparation Sequence
    0x0040_06FA_1_0000000 ∷  -- Slide Identifier
    0x0040_1001_1_0000000 ∷  -- Requested Procedure ID
    0x0040_1002_1_C000000 ∷  -- Reason for the Requested Procedure
    0x0040_1004_1_0000000 ∷  -- Patient Transport Arrangements
    0x0040_1005_1_0000000 ∷  -- Requested Procedure Location
    0x0040_100A_1_C000000 ∷  -- Reason for Requested Procedure Code Sequence
    0x0040_1010_1_0000000 ∷  -- Names of Intended Recipients of Results
    0x0040_1011_1_0000000 ∷  -- Intended Recipients of Results Identification Sequence
    0x0040_1101_D_0000000 ∷  -- Person Identification Code Sequence
    0x0040_1102_1_0000000 ∷  -- Person's Address
    0x0040_1103_1_0000000 ∷  -- Person's Telephone Numbers
    0x0040_1104_1_0000000 ∷  -- Person's Telecom Information
    0x0040_1400_1_C000000 ∷  -- Requested Procedure Comments
    0x0040_2001_1_C000000 ∷  -- Reason for the Imaging Service Request
    0x0040_2004_1_00000C4 ∷  -- Issue Date of Imaging Service Request
    0x0040_2005_1_00000C4 ∷  -- Issue Time of Imaging Service Request
    0x0040_2008_1_0000000 ∷  -- Order Entered By
    0x0040_2009_1_0000000 ∷  -- Order Enterer's Location
    0x0040_2010_1_0000000 ∷  -- Order Callback Phone Number
    0x0040_2011_1_0000000 ∷  -- Order Callback Telecom Information
    0x0040_2016_2_0000000 ∷  -- Placer Order Number / Imaging Service Request
    0x0040_2017_2_0000000 ∷  -- Filler Order Number / Imaging Service Request
    0x0040_2400_1_C000000 ∷  -- Imaging Service Request Comments
    0x0040_3001_1_0000000 ∷  -- Confidentiality Constraint on Patient Data Description
    0x0040_4005_1_00000C4 ∷  -- Scheduled Procedure Step Start DateTime
    0x0040_4008_1_00000C4 ∷  -- Scheduled Procedure Step Expiration DateTime
    0x0040_4010_1_00000C4 ∷  -- Scheduled Procedure Step Modification DateTime
    0x0040_4011_1_00000C4 ∷  -- Expected Completion DateTime
    0x0040_4023_3_0040000 ∷  -- Referenced General Purpose Scheduled Procedure Step Transaction UID
    0x0040_4025_1_0004000 ∷  -- Scheduled Station Name Code Sequence
    0x0040_4027_1_0004000 ∷  -- Scheduled Station Geographic Location Code Sequence
    0x0040_4028_1_0004000 ∷  -- Performed Station Name Code Sequence
    0x0040_4030_1_0004000 ∷  -- Performed Station Geographic Location Code Sequence
    0x0040_4034_1_0000000 ∷  -- Scheduled Human Performers Sequence
    0x0040_4035_1_0000000 ∷  -- Actual Human Performers Sequence
    0x0040_4036_1_0000000 ∷  -- Human Performer's Organization
    0x0040_4037_1_0000000 ∷  -- Human Performer's Name
    0x0040_4050_1_00000C4 ∷  -- Performed Procedure Step Start DateTime
    0x0040_4051_1_00000C4 ∷  -- Performed Procedure Step End DateTime
    0x0040_4052_1_00000C4 ∷  -- Procedure Step Cancellation DateTime
    0x0040_A023_1_00000C4 ∷  -- Findings Group Recording Date (Trial)
    0x0040_A024_1_00000C4 ∷  -- Findings Group Recording Time (Trial)
    0x0040_A027_D_0000000 ∷  -- Verifying Organization
    0x0040_A030_D_00000C4 ∷  -- Verification DateTime
    0x0040_A032_D_00000C4 ∷  -- Observation DateTime
    0x0040_A033_1_00000C4 ∷  -- Observation Start DateTime
    0x0040_A073_D_0000000 ∷  -- Verifying Observer Sequence
    0x0040_A075_D_0000000 ∷  -- Verifying Observer Name
    0x0040_A078_1_0000000 ∷  -- Author Observer Sequence
    0x0040_A07A_1_0000000 ∷  -- Participant Sequence
    0x0040_A07C_1_0000000 ∷  -- Custodial Organization Sequence
    0x0040_A082_2_00000C4 ∷  -- Participation DateTime
    0x0040_A088_2_0000000 ∷  -- Verifying Observer Identification Code Sequence
    0x0040_A110_1_00000C4 ∷  -- Date of Document or Verbal Transaction (Trial)
    0x0040_A112_1_00000C4 ∷  -- Time of Document or Verbal Transaction (Trial)
    0x0040_A120_D_00000C4 ∷  -- DateTime
    0x0040_A121_D_00000C4 ∷  -- Date
    0x0040_A122_D_00000C4 ∷  -- Time
    0x0040_A123_D_0000000 ∷  -- Person Name
    0x0040_A124_3_0000000 ∷  -- UID
    0x0040_A13A_D_00000C4 ∷  -- Referenced DateTime
    0x0040_A171_3_0040000 ∷  -- Observation UID
    0x0040_A172_3_0040000 ∷  -- Referenced Observation UID (Trial)
    0x0040_A192_1_00000C4 ∷  -- Observation Date (Trial)
    0x0040_A193_1_00000C4 ∷  -- Observation Time (Trial)
    0x0040_A307_1_0000000 ∷  -- Current Observer (Trial)
    0x0040_A352_1_0000000 ∷  -- Verbal Source (Trial)
    0x0040_A353_1_0000000 ∷  -- Address (Trial)
    0x0040_A354_1_0000000 ∷  -- Telephone Number (Trial)
    0x0040_A358_1_0000000 ∷  -- Verbal Source Identifier Code Sequence (Trial)
    0x0040_A402_3_0040000 ∷  -- Observation Subject UID (Trial)
    0x0040_A730_D_0000000 ∷  -- Content Sequence
    0x0040_DB06_1_00000C4 ∷  -- Template Version
    0x0040_DB07_1_00000C4 ∷  -- Template Local Version
    0x0040_DB0C_3_0040000 ∷  -- Template Extension Organization UID
    0x0040_DB0D_3_0040000 ∷  -- Template Extension Creator UID
    0x0040_E004_1_00000C4 ∷  -- HL7 Document Effective Time
    0x0042_0011_D_0000000 ∷  -- Encapsulated Document
    0x0044_0004_1_00000C4 ∷  -- Approval Status DateTime
    0x0044_000B_1_00000C4 ∷  -- Product Expiration DateTime
    0x0044_0010_1_00000C4 ∷  -- Substance Administration DateTime
    0x0044_0104_D_00000C4 ∷  -- Assertion DateTime
    0x0044_0105_1_00000C4 ∷  -- Assertion Expiration DateTime
    0x0050_001B_1_0000000 ∷  -- Container Component ID
    0x0050_0020_1_0004000 ∷  -- Device Description
    0x0050_0021_1_C000000 ∷  -- Long Device Description
    0x0062_0021_3_0040000 ∷  -- Tracking UID
    0x0064_0003_3_0040000 ∷  -- Source Frame of Reference UID
    0x0068_6226_D_00000C4 ∷  -- Effective DateTime
    0x0068_6270_D_00000C4 ∷  -- Information Issue DateTime
    0x006A_0003_D_0040000 ∷  -- Annotation Group UID
    0x006A_0005_D_C000000 ∷  -- Annotation Group Label
    0x006A_0006_1_C000000 ∷  -- Annotation Group Description
    0x0070_0001_D_0000000 ∷  -- Graphic Annotation Sequence
    0x0070_0082_1_00000C4 ∷  -- Presentation Creation Date
    0x0070_0083_1_00000C4 ∷  -- Presentation Creation Time
    0x0070_0084_D_0000000 ∷  -- Content Creator's Name
    0x0070_0086_1_0000000 ∷  -- Content Creator's Identification Code Sequence
    0x0070_031A_3_0040000 ∷  -- Fiducial UID
    0x0070_1101_3_0040000 ∷  -- Presentation Display Collection UID
    0x0070_1102_3_0040000 ∷  -- Presentation Sequence Collection UID
    0x0072_000A_D_00000C4 ∷  -- Hanging Protocol Creation DateTime
    0x0072_005E_D_000C000 ∷  -- Selector AE Value
    0x0072_005F_D_0000400 ∷  -- Selector AS Value
    0x0072_0061_D_00000C4 ∷  -- Selector DA Value
    0x0072_0063_D_00000C4 ∷  -- Selector DT Value
    0x0072_0065_D_0000000 ∷  -- Selector OB Value
    0x0072_0066_D_C000000 ∷  -- Selector LO Value
    0x0072_0068_D_C000000 ∷  -- Selector LT Value
    0x0072_006A_D_0000000 ∷  -- Selector PN Value
    0x0072_006B_D_00000C4 ∷  -- Selector TM Value
    0x0072_006C_D_C000000 ∷  -- Selector SH Value
    0x0072_006D_D_0000000 ∷  -- Selector UN Value
    0x0072_006E_D_C000000 ∷  -- Selector ST Value
    0x0072_0070_D_C000000 ∷  -- Selector UT Value
    0x0072_0071_D_0000000 ∷  -- Selector UR Value
    0x0074_1234_1_000C000 ∷  -- Receiving AE
    0x0074_1236_1_000C000 ∷  -- Requesting AE
    0x0088_0140_3_0040000 ∷  -- Storage Media File-set UID
    0x0088_0200_1_0000000 ∷  -- Icon Image Sequence (see Note 12)
    0x0088_0904_1_0000000 ∷  -- Topic Title
    0x0088_0906_1_0000000 ∷  -- Topic Subject
    0x0088_0910_1_0000000 ∷  -- Topic Author
    0x0088_0912_1_0000000 ∷  -- Topic Keywords
    0x0100_0420_1_00000C4 ∷  -- SOP Authorization DateTime
    0x0400_0100_3_0000000 ∷  -- Digital Signature UID
    0x0400_0105_D_00000C4 ∷  -- Digital Signature DateTime
    0x0400_0115_D_0000000 ∷  -- Certificate of Signer
    0x0400_0310_1_00000C4 ∷  -- Certified Timestamp
    0x0400_0402_1_0000000 ∷  -- Referenced Digital Signature Sequence
    0x0400_0403_1_0000000 ∷  -- Referenced SOP Instance MAC Sequence
    0x0400_0404_1_0000000 ∷  -- MAC
    0x0400_0550_1_0000000 ∷  -- Modified Attributes Sequence
    0x0400_0551_1_0000000 ∷  -- Nonconforming Modified Attributes Sequence
    0x0400_0552_1_0000000 ∷  -- Nonconforming Data Element Value
    0x0400_0561_1_0000000 ∷  -- Original Attributes Sequence
    0x0400_0562_D_00000C4 ∷  -- Attribute Modification DateTime
    0x0400_0563_D_0004000 ∷  -- Modifying System
    0x0400_0564_2_0400000 ∷  -- Source of Previous Values
    0x0400_0565_D_C000000 ∷  -- Reason for the Attribute Modification
    0x0400_0600_1_0000000 ∷  -- Instance Origin Status
    0x2030_0020_1_0000000 ∷  -- Text String
    0x2100_0040_1_00000C4 ∷  -- Creation Date
    0x2100_0050_1_00000C4 ∷  -- Creation Time
    0x2100_0070_1_000C000 ∷  -- Originator
    0x2100_0140_D_000C000 ∷  -- Destination AE
    0x2200_0002_2_C000000 ∷  -- Label Text
    0x2200_0005_2_0000000 ∷  -- Barcode Value
    0x3002_0121_1_C000000 ∷  -- Position Acquisition Template Name
    0x3002_0123_1_C000000 ∷  -- Position Acquisition Template Description
    0x3006_0002_D_C000000 ∷  -- Structure Set Label
    0x3006_0004_1_C000000 ∷  -- Structure Set Name
    0x3006_0006_1_C000000 ∷  -- Structure Set Description
    0x3006_0008_2_00000C4 ∷  -- Structure Set Date
    0x3006_0009_2_00000C4 ∷  -- Structure Set Time
    0x3006_0024_3_0040000 ∷  -- Referenced Frame of Reference UID
    0x3006_0026_2_C000000 ∷  -- ROI Name
    0x3006_0028_1_C000000 ∷  -- ROI Description
    0x3006_0038_1_C000000 ∷  -- ROI Generation Description
    0x3006_0085_1_C000000 ∷  -- ROI Observation Label
    0x3006_0088_1_C000000 ∷  -- ROI Observation Description
    0x3006_00A6_2_0000000 ∷  -- ROI Interpreter
    0x3006_00C2_3_0040000 ∷  -- Related Frame of Reference UID
    0x3008_0024_D_00000C4 ∷  -- Treatment Control Point Date
    0x3008_0025_D_00000C4 ∷  -- Treatment Control Point Time
    0x3008_0054_D_00000C4 ∷  -- First Treatment Date
    0x3008_0056_D_00000C4 ∷  -- Most Recent Treatment Date
    0x3008_0105_2_0004000 ∷  -- Source Serial Number
    0x3008_0162_D_00000C4 ∷  -- Safe Position Exit Date
    0x3008_0164_D_00000C4 ∷  -- Safe Position Exit Time
    0x3008_0166_D_00000C4 ∷  -- Safe Position Return Date
    0x3008_0168_D_00000C4 ∷  -- Safe Position Return Time
    0x3008_0250_D_00000C4 ∷  -- Treatment Date
    0x3008_0251_D_00000C4 ∷  -- Treatment Time
    0x300A_0002_D_C000000 ∷  -- RT Plan Label
    0x300A_0003_1_C000000 ∷  -- RT Plan Name
    0x300A_0004_1_C000000 ∷  -- RT Plan Description
    0x300A_0006_D_00000C4 ∷  -- RT Plan Date
    0x300A_0007_D_00000C4 ∷  -- RT Plan Time
    0x300A_000B_1_C000000 ∷  -- Treatment Sites
    0x300A_000E_1_C000000 ∷  -- Prescription Description
    0x300A_0013_3_0040000 ∷  -- Dose Reference UID
    0x300A_0016_1_C000000 ∷  -- Dose Reference Description
    0x300A_0072_1_C000000 ∷  -- Fraction Group Description
    0x300A_0083_3_0040000 ∷  -- Referenced Dose Reference UID
    0x300A_00B2_2_0004000 ∷  -- Treatment Machine Name
    0x300A_00C3_1_C000000 ∷  -- Beam Description
    0x300A_00DD_1_C000000 ∷  -- Bolus Description
    0x300A_0196_1_C000000 ∷  -- Fixation Device Description
    0x300A_01A6_1_C000000 ∷  -- Shielding Device Description
    0x300A_01B2_1_C000000 ∷  -- Setup Technique Description
    0x300A_0216_1_0004000 ∷  -- Source Manufacturer
    0x300A_022C_D_00000C4 ∷  -- Source Strength Reference Date
    0x300A_022E_D_00000C4 ∷  -- Source Strength Reference Time
    0x300A_02EB_1_C000000 ∷  -- Compensator Description
    0x300A_0608_D_C000000 ∷  -- Treatment Position Group Label
    0x300A_0609_3_0040000 ∷  -- Treatment Position Group UID
    0x300A_0611_2_0000000 ∷  -- RT Accessory Holder Slot ID
    0x300A_0615_2_0000000 ∷  -- RT Accessory Device Slot ID
    0x300A_0619_D_C000000 ∷  -- Radiation Dose Identification Label
    0x300A_0623_D_C000000 ∷  -- Radiation Dose In-Vivo Measurement Label
    0x300A_062A_D_C000000 ∷  -- RT Tolerance Set Label
    0x300A_0650_3_0040000 ∷  -- Patient Setup UID
    0x300A_0676_1_C000000 ∷  -- Equipment Frame of Reference Description
    0x300A_067C_D_C000000 ∷  -- Radiation Generation Mode Label
    0x300A_067D_2_C000000 ∷  -- Radiation Generation Mode Description
    0x300A_0700_3_0040000 ∷  -- Treatment Session UID
    0x300A_0734_D_C000000 ∷  -- Treatment Tolerance Violation Description
    0x300A_0736_D_00000C4 ∷  -- Treatment Tolerance Violation DateTime
    0x300A_073A_D_00000C4 ∷  -- Recorded RT Control Point DateTime
    0x300A_0741_D_00000C4 ∷  -- Interlock DateTime
    0x300A_0742_D_C000000 ∷  -- Interlock Description
    0x300A_0760_D_00000C4 ∷  -- Override DateTime
    0x300A_0783_D_C000000 ∷  -- Interlock Origin Description
    0x300A_0785_3_0040000 ∷  -- Referenced Treatment Position Group UID
    0x300A_078E_1_C000000 ∷  -- Patient Treatment Preparation Procedure Parameter Description
    0x300A_0792_1_C000000 ∷  -- Patient Treatment Preparation Method Description
    0x300A_0794_1_C000000 ∷  -- Patient Setup Photo Description
    0x300A_079A_1_C000000 ∷  -- Displacement Reference Label
    0x300C_0113_1_C000000 ∷  -- Reason for Omission Description
    0x300C_0127_D_00040C4 ∷  -- Beam Hold Transition DateTime
    0x300E_0004_2_00000C4 ∷  -- Review Date
    0x300E_0005_2_00000C4 ∷  -- Review Time
    0x300E_0008_2_0000000 ∷  -- Reviewer Name
    0x3010_0006_3_0040000 ∷  -- Conceptual Volume UID
    0x3010_000B_3_0040000 ∷  -- Referenced Conceptual Volume UID
    0x3010_000F_2_C000000 ∷  -- Conceptual Volume Combination Description
    0x3010_0013_3_0040000 ∷  -- Constituent Conceptual Volume UID
    0x3010_0015_3_0040000 ∷  -- Source Conceptual Volume UID
    0x3010_0017_2_C000000 ∷  -- Conceptual Volume Description
    0x3010_001B_2_0000000 ∷  -- Device Alternate Identifier
    0x3010_002D_D_0004000 ∷  -- Device Label
    0x3010_0031_3_0040000 ∷  -- Referenced Fiducials UID
    0x3010_0033_D_C000000 ∷  -- User Content Label
    0x3010_0034_D_C000000 ∷  -- User Content Long Label
    0x3010_0035_D_C000000 ∷  -- Entity Label
    0x3010_0036_1_C000000 ∷  -- Entity Name
    0x3010_0037_1_C000000 ∷  -- Entity Description
    0x3010_0038_D_C000000 ∷  -- Entity Long Label
    0x3010_003B_3_0040000 ∷  -- RT Treatment Phase UID
    0x3010_0043_2_0004000 ∷  -- Manufacturer's Device Identifier
    0x3010_004C_D_00000C4 ∷  -- Intended Phase Start Date
    0x3010_004D_D_00000C4 ∷  -- Intended Phase End Date
    0x3010_0054_D_C000000 ∷  -- RT Prescription Label
    0x3010_0056_D_C000000 ∷  -- RT Treatment Approach Label
    0x3010_005A_2_C000000 ∷  -- RT Physician Intent Narrative
    0x3010_005C_2_C000000 ∷  -- Reason for Superseding
    0x3010_0061_1_C000000 ∷  -- Prior Treatment Dose Description
    0x3010_006E_3_0040000 ∷  -- Dosimetric Objective UID
    0x3010_006F_3_0040000 ∷  -- Referenced Dosimetric Objective UID
    0x3010_0077_D_C000000 ∷  -- Treatment Site
    0x3010_007A_2_C000000 ∷  -- Treatment Technique Notes
    0x3010_007B_2_C000000 ∷  -- Prescription Notes
    0x3010_007F_2_C000000 ∷  -- Fractionation Notes
    0x3010_0081_2_C000000 ∷  -- Prescription Notes Sequence
    0x3010_0085_1_00000C4 ∷  -- Intended Fraction Start Time
    0x4000_0010_1_0000000 ∷  -- Arbitrary
    0x4000_4000_1_0000000 ∷  -- Text Comments
    0x4008_0040_1_0000000 ∷  -- Results ID
    0x4008_0042_1_0000000 ∷  -- Results ID Issuer
    0x4008_0100_1_00000C4 ∷  -- Interpretation Recorded Date
    0x4008_0101_1_00000C4 ∷  -- Interpretation Recorded Time
    0x4008_0102_1_0000000 ∷  -- Interpretation Recorder
    0x4008_0108_1_00000C4 ∷  -- Interpretation Transcription Date
    0x4008_0109_1_00000C4 ∷  -- Interpretation Transcription Time
    0x4008_010A_1_0000000 ∷  -- Interpretation Transcriber
    0x4008_010B_1_C000000 ∷  -- Interpretation Text
    0x4008_010C_1_0000000 ∷  -- Interpretation Author
    0x4008_0111_1_0000000 ∷  -- Interpretation Approver Sequence
    0x4008_0112_1_00000C4 ∷  -- Interpretation Approval Date
    0x4008_0113_1_00000C4 ∷  -- Interpretation Approval Time
    0x4008_0114_1_0000000 ∷  -- Physician Approving Interpretation
    0x4008_0115_1_C000000 ∷  -- Interpretation Diagnosis Description
    0x4008_0118_1_0000000 ∷  -- Results Distribution List Sequence
    0x4008_0119_1_0000000 ∷  -- Distribution Name
    0x4008_011A_1_0000000 ∷  -- Distribution Address
    0x4008_0200_1_0000000 ∷  -- Interpretation ID
    0x4008_0202_1_0000000 ∷  -- Interpretation ID Issuer
    0x4008_0300_1_C000000 ∷  -- Impressions
    0x4008_4000_1_C000000 ∷  -- Results Comments
    0xFFFA_FFFA_1_0000000 ∷  -- Digital Signatures Sequence
    0xFFFC_FFFC_1_0000000 ∷  -- Data Set Trailing Padding
    []
