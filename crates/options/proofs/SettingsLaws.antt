-- Laws of `specs/Settings.antt`. No contract cites this file. Assumes nothing.
--     settings_fault-number, -dates, -shift, -zero     what settings that are not refused are, one for each condition of refusal 1
--     date_word-length                                 the word has 1 to 10 bytes
use mathlib.Core.Path.{◌≡◌}
use mathlib.Core.Bool.{true, false}
use Prim.Native.Nat.{ℕ, ◌≤◌}
use native.Mathlib.Omega.{arith}
use lib.IntN.{ℤ, nat_abs}
use lib.ListN.{length}
use Rattle.std.proofs.lemmas.Bool.Decides.{nat_tests}
use Rattle.options.specs.Options.{is_chosen}
use Rattle.options.specs.Settings.{most_number, most_shift, settings_fault, date_word}
use Rattle.options.specs.declared.Opt.TheVariants.{FullDates, ModifiedDates}

-- ---- settings_fault

module _ (number : ℕ) (shift : ℤ) (fine : settings_fault number shift ≡ false) where
  pub settings_fault-number : number ≤ most_number
  unfolding settings_fault
  settings_fault-number = grind (arith, nat_tests)

  pub settings_fault-dates : is_chosen number FullDates ≡ true → is_chosen number ModifiedDates ≡ false
  unfolding settings_fault
  settings_fault-dates full = grind (arith, nat_tests)

  pub settings_fault-shift : nat_abs shift ≤ most_shift
  unfolding settings_fault
  settings_fault-shift = grind (arith, nat_tests)

  pub settings_fault-zero : is_chosen number ModifiedDates ≡ false → nat_abs shift ≡ 0
  unfolding settings_fault
  settings_fault-zero none = grind (arith, nat_tests)

-- ---- date_word

pub date_word-length : (number : ℕ) → (1 ≤ length (date_word number)) × (length (date_word number) ≤ 10)
unfolding date_word
date_word-length number = (grind arith, grind arith)
