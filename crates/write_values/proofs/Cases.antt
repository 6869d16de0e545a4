-- An element in full, computed: what the definitions that the contracts cite come to. No contract cites this file. Assumes nothing.
--     dummied-sample      a sequence after D: 36 bytes
use mathlib.Core.Path.{◌≡◌, refl}
use mathlib.Core.List.{[], ◌∷◌}
use Rattle.basis.specs.Choice.{among}
use Rattle.vr.specs.Names.{SQ}
use Rattle.vr.specs.Vr.{kind_of}
use Rattle.layout.specs.Write.{mark, header, put_elements, put_field, put_sequence, put_items}
use Rattle.kept.specs.Fillers.{dummied_as}
use Rattle.write_values.specs.Element.{element_bytes, with_lists}

dummied-sample : element_bytes 0x00081115 SQ (dummied_as (with_lists [] []) 0x00081115 SQ)
    ≡ 0x08 ∷ 0x00 ∷ 0x15 ∷ 0x11 ∷ 0x53 ∷ 0x51 ∷ 0x00 ∷ 0x00 ∷ 0xFF ∷ 0xFF ∷ 0xFF ∷ 0xFF
    ∷ 0xFE ∷ 0xFF ∷ 0x00 ∷ 0xE0 ∷ 0xFF ∷ 0xFF ∷ 0xFF ∷ 0xFF
    ∷ 0xFE ∷ 0xFF ∷ 0x0D ∷ 0xE0 ∷ 0x00 ∷ 0x00 ∷ 0x00 ∷ 0x00
    ∷ 0xFE ∷ 0xFF ∷ 0xDD ∷ 0xE0 ∷ 0x00 ∷ 0x00 ∷ 0x00 ∷ 0x00 ∷ []
unfolding among kind_of mark header put_elements put_field put_sequence put_items dummied_as
dummied-sample = refl
