-- The judgement of option number and shift: document 01, "When the station says no", No. 1; readings R6 and R10. And the word that
-- says what became of dates. Laws: `proofs/SettingsLaws.antt`. Assumes nothing.
--     most_number, most_shift         the largest option number; the most days of a shift, either way
--     settings_fault number shift     whether one of the four conditions of refusal 1 holds
--     options_ok number shift         whether none does
--     date_word number                the value of (0028,0303)
use Rattle.std.specs.Prelude.{Bool, ◌&&◌, ◌||◌, not, List, ℕ, eqb, ltb, ℤ, nat_abs}
use Rattle.basis.specs.Choice.{pick}
use Rattle.basis.specs.Text.{ascii}
use Rattle.options.specs.Options.{is_chosen}
use Rattle.options.specs.declared.Opt.TheVariants.{FullDates, ModifiedDates}

-- Document 01, refusal 1: six bits
abbrev pub most_number : ℕ
most_number = 63

-- Document 01, UIDs, dates, lists, second paragraph, 1st sentence: the range of a shift
abbrev pub most_shift : ℕ
most_shift = 36_500

-- Refusal 1, in the order of its row: the number too large; both date options; the shift out of range; a shift with nothing to shift
unfoldable pub settings_fault : ℕ → ℤ → Bool
settings_fault number shift =
    ltb most_number number
    || is_chosen number FullDates && is_chosen number ModifiedDates
    || ltb most_shift (nat_abs shift)
    || not (eqb (nat_abs shift) 0) && not (is_chosen number ModifiedDates)

abbrev pub options_ok : ℕ → ℤ → Bool
options_ok number shift = not (settings_fault number shift)

-- Document 01, What each action writes, last paragraph: by the date option
unfoldable pub date_word : ℕ → List ℕ
date_word number = pick (is_chosen number FullDates) (ascii "UNMODIFIED") (pick (is_chosen number ModifiedDates) (ascii "MODIFIED") (ascii "REMOVED"))
