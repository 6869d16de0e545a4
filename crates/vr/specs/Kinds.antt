-- How the code keeps the kinds of many VRs in one number. Nothing of document 01: only `kinds_after` cites it. Assumes nothing.
--     kind_number k        the number of two bits that stands for a kind, or for none
--     KindsAfter first r   r holds the kinds of the VRs with that first letter, two bits for each second letter from 64 to 95
use Rattle.std.specs.Prelude.{◌≡◌, ℕ, ◌+◌, ◌*◌, ◌/◌, ◌%◌, ◌^◌, ◌<◌, Option, None, Some}
use Rattle.vr.specs.Vr.{kind_of}
use Rattle.vr.specs.declared.Kind.{Kind}
use Rattle.vr.specs.declared.Kind.TheVariants.{Short, Long, Sequence}

abbrev pub kind_number : Option Kind → ℕ
kind_number None = 0
kind_number (Some Short) = 1
kind_number (Some Long) = 2
kind_number (Some Sequence) = 3

abbrev pub KindsAfter : ℕ → ℕ → Type 0
KindsAfter first r = (letter : ℕ) → letter < 32 → r / 2 ^ (2 * letter) % 4 ≡ kind_number (kind_of (first + 256 * (64 + letter)))
