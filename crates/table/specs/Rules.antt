-- The rules that come before the rows: document 01, "Which action an element gets", 2nd to 4th sentence, with readings A1 to A5. Whatever
-- a rule speaks of is X. Laws: `proofs/RulesLaws.antt`. Assumes nothing.
--     group_of tag, element_of tag    the two halves of a tag
--     curve tag                       a test: an element of an even group 50xx
--     private tag                     a test: an element of an odd group
--     overlay tag                     a test: (60xx,3000) or (60xx,4000) of an even group
--     zeroth tag                      a test: element 0000 of any group
--     patient_identity_removed_tag, deidentification_method_tag, deidentification_codes_tag, longitudinal_time_tag
--                                     the four tags that are taken off the top level, by their names in PS3.6
--     reserved                        these four
--     ruled top tag                   a test: a rule speaks of the tag, at the top level or, where top is false, in an item
use Rattle.std.specs.Prelude.{Bool, ◌&&◌, ◌||◌, List, [], ◌∷◌, ℕ, ◌/◌, ◌%◌, eqb}
use Rattle.basis.specs.Choice.{among}

abbrev pub group_of : ℕ → ℕ
group_of tag = tag / 65536

abbrev pub element_of : ℕ → ℕ
element_of tag = tag % 65536

-- Document 01, Which action, 2nd sentence: the line (50xx,xxxx), for even groups, is X
abbrev pub curve : ℕ → Bool
curve tag = eqb (group_of tag / 256) 0x50 && eqb (group_of tag % 2) 0

-- the same sentence: the private line, for odd groups, is X
abbrev pub private : ℕ → Bool
private tag = eqb (group_of tag % 2) 1

-- the same sentence: the lines (60xx,3000) and (60xx,4000), for even groups; both say X (A2)
abbrev pub overlay : ℕ → Bool
overlay tag = eqb (group_of tag / 256) 0x60 && (eqb (group_of tag % 2) 0 && among (element_of tag) (0x3000 ∷ 0x4000 ∷ []))

-- 3rd sentence: element 0000 is X, at every level (A3)
abbrev pub zeroth : ℕ → Bool
zeroth tag = eqb (element_of tag) 0

-- 4th sentence, and What each action writes, last paragraph: Patient Identity Removed, De-identification Method, De-identification Method
-- Code Sequence, Longitudinal Temporal Information Modified
abbrev pub patient_identity_removed_tag : ℕ
patient_identity_removed_tag = 0x0012_0062

abbrev pub deidentification_method_tag : ℕ
deidentification_method_tag = 0x0012_0063

abbrev pub deidentification_codes_tag : ℕ
deidentification_codes_tag = 0x0012_0064

abbrev pub longitudinal_time_tag : ℕ
longitudinal_time_tag = 0x0028_0303

-- 4th sentence: these are X at the top level only; (0012,0063) goes too, though none is written (A5)
abbrev pub reserved : List ℕ
reserved = patient_identity_removed_tag ∷ deidentification_method_tag ∷ deidentification_codes_tag ∷ longitudinal_time_tag ∷ []

unfoldable pub ruled : Bool → ℕ → Bool
ruled top tag = curve tag || (private tag || (overlay tag || (zeroth tag || (top && among tag reserved))))
