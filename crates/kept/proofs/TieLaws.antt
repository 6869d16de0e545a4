-- The table's bits are the options' bits: `table` knows an option by its bit alone, and counts them. No contract cites this file.
-- Assumes nothing.
--     modified_dates-tie    the bit that the table gives Modified Dates
--     option_count-tie      how many options there are
--     chosen-tie            an option is chosen for the table where it is for its code and meaning
use mathlib.Core.Path.{◌≡◌, refl}
use Prim.Native.Nat.{ℕ}
use lib.ListN.{length}
use Rattle.basis.specs.Bytes.{has_bit}
use Rattle.table.specs.Override.{option_count, modified_dates}
use Rattle.options.specs.Options.{options, bit_of, is_chosen}
use Rattle.options.specs.declared.Opt.{Opt}
use Rattle.options.specs.declared.Opt.TheVariants.{ModifiedDates}

pub modified_dates-tie : modified_dates ≡ bit_of ModifiedDates
modified_dates-tie = refl

pub option_count-tie : option_count ≡ length options
option_count-tie = refl

pub chosen-tie : (number : ℕ) (o : Opt) → has_bit number (bit_of o) ≡ is_chosen number o
chosen-tie number o = refl
