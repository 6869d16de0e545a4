-- A renamed element in full, computed: what the definitions that the contracts cite come to. No contract cites this file. Assumes nothing.
--     renamed-sample      1.2.3 and 1.2.4 and again 1.2.3, numbered from an empty ledger under the root 1.9: an element of 26 bytes
use mathlib.Core.Path.{◌≡◌, refl}
use mathlib.Core.List.{[], ◌∷◌, ◌++◌}
use native.Mathlib.Decide.{ℕ_discrete}
use Rattle.basis.specs.Choice.{among}
use Rattle.basis.specs.Pieces.{after, joined}
use Rattle.basis.specs.Text.{ascii}
use Rattle.vr.specs.Vr.{kind_of}
use Rattle.layout.specs.Write.{header, put_field}
use Rattle.uid.specs.Value.{zero_pad, value_of}
use Rattle.uid.specs.NewUid.{digits_in, decimal, new_uid}
use Rattle.ledger.specs.FirstMet.{first_at, number_of, learn, numbers, same_uid}
use Rattle.ledger.specs.Slots.{slot_of, slots_in}
use Rattle.write_uids.specs.Renamed.{renamed_element}

renamed-sample : renamed_element 0x0020000D (ascii "1.9") [] 0 (ascii "1.2.3" ∷ ascii "1.2.4" ∷ ascii "1.2.3" ∷ [])
    ≡ 0x20 ∷ 0x00 ∷ 0x0D ∷ 0x00 ∷ 0x55 ∷ 0x49 ∷ 18 ∷ 0 ∷ (ascii "1.9.1\\1.9.2\\1.9.1" ++ 0 ∷ [])
unfolding ℕ_discrete among after joined kind_of header put_field zero_pad value_of digits_in decimal new_uid first_at number_of learn numbers same_uid slot_of slots_in
renamed-sample = refl
