-- What document 01 says of a VR, as four questions about its two letters.
--     all_vrs             the 34 VRs
--     long, served        those with a length of four bytes; those that list values serve
--     kind_of vr          how an element's header goes on after the VR: Short, Long or Sequence; None where it is none of the 34
--     served_by_lists vr  a replacement list may give a value for it
--     dummy_of vr         what D writes where no list has a value, before padding; nothing for UI and SQ, which D treats otherwise, and for no VR
--     in_room xs          xs and then zeros, 14 bytes in all: how the code hands a dummy over
-- Laws: `proofs/VrLaws.antt`. Assumes nothing.
use Rattle.std.specs.Prelude.{Bool, List, [], ◌∷◌, ◌++◌, ℕ, ◌-◌, eqb, length, replicate, Option, None, Some}
use Rattle.basis.specs.Choice.{pick, among}
use Rattle.basis.specs.Text.{ascii}
use Rattle.vr.specs.Names.{AE, AS, AT, CS, DA, DS, DT, FD, FL, IS, LO, LT, OB, OD, OF, OL, OV, OW, PN, SH, SL, SQ, SS, ST, SV, TM, UC, UI, UL, UN, UR, US, UT, UV}
use Rattle.vr.specs.declared.Kind.{Kind}
use Rattle.vr.specs.declared.Kind.TheVariants.{Short, Long, Sequence}

-- Document 01, Layout, 1st point: the VRs that may stand in a data set
abbrev pub all_vrs : List ℕ
all_vrs =
    AE ∷ AS ∷ AT ∷ CS ∷ DA ∷ DS ∷ DT ∷ FD ∷ FL ∷ IS ∷ LO ∷ LT ∷ OB ∷ OD ∷ OF ∷ OL ∷ OV ∷ OW ∷ PN ∷ SH ∷ SL ∷ SQ ∷ SS ∷ ST ∷ SV ∷ TM ∷ UC ∷ UI ∷ UL ∷ UN ∷ UR ∷ US ∷ UT ∷ UV ∷ []

-- Document 01, Layout, 1st point: those with two zero bytes and then a length of four bytes; the others have one of two bytes
abbrev pub long : List ℕ
long = OB ∷ OD ∷ OF ∷ OL ∷ OV ∷ OW ∷ SQ ∷ SV ∷ UC ∷ UN ∷ UR ∷ UT ∷ UV ∷ []

unfoldable pub kind_of : ℕ → Option Kind
kind_of vr =
    pick (eqb vr SQ) (Some Sequence)
    (pick (among vr long) (Some Long)
    (pick (among vr all_vrs) (Some Short)
    None))

-- Document 01, What each action writes, 2nd paragraph: the VRs that list values serve
abbrev pub served : List ℕ
served = AE ∷ AS ∷ CS ∷ DA ∷ DS ∷ DT ∷ IS ∷ LO ∷ LT ∷ PN ∷ SH ∷ ST ∷ TM ∷ UC ∷ UR ∷ UT ∷ []

unfoldable pub served_by_lists : ℕ → Bool
served_by_lists vr = among vr served

-- Document 01, What each action writes, 2nd paragraph: the dummies, in its order
unfoldable pub dummy_of : ℕ → List ℕ
dummy_of vr =
    pick (among vr (AE ∷ CS ∷ LO ∷ LT ∷ PN ∷ SH ∷ ST ∷ UC ∷ UR ∷ UT ∷ [])) (ascii "ANON")
    (pick (eqb vr AS) (ascii "000Y")
    (pick (eqb vr DA) (ascii "19000101")
    (pick (eqb vr DT) (ascii "19000101000000")
    (pick (eqb vr TM) (ascii "000000")
    (pick (among vr (DS ∷ IS ∷ [])) (ascii "0")
    (pick (among vr (OB ∷ OW ∷ UN ∷ US ∷ SS ∷ [])) (replicate 2 0)
    (pick (among vr (AT ∷ FL ∷ OF ∷ OL ∷ SL ∷ UL ∷ [])) (replicate 4 0)
    (pick (among vr (FD ∷ OD ∷ OV ∷ SV ∷ UV ∷ [])) (replicate 8 0)
    []))))))))

abbrev pub in_room : List ℕ → List ℕ
in_room xs = xs ++ replicate (14 - length xs) 0
