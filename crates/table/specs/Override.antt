-- How chosen options override a row's basic action: document 01, "Which action an element gets", 7th and 8th sentence, with readings A6 to A9.
-- Laws: `proofs/OverrideLaws.antt`. Assumes nothing.
--     option_count                 how many options there are; their bits are those below
--     modified_dates               the bit of Modified Dates
--     given options row bit        the letter that the option of that bit gives on a row: none where it is not chosen
--     over letter next             next where that is a letter, else letter
--     stronger letter next         the same, but a C stays
--     overriding options row n     what the options of the bits below n give together on a row
--     cleans_dates options row     a test: Modified Dates is chosen and has C on the row
use Rattle.std.specs.Prelude.{Bool, ℕ, zero, suc, eqb}
use Rattle.basis.specs.Choice.{pick}
use Rattle.basis.specs.Bytes.{has_bit}
use Rattle.table.specs.Table.{no_letter, C, letter_of}

-- Document 01, Which action, 7th sentence: an option is chosen by its bit of the option number; these are the bits 0 to 5
abbrev pub option_count : ℕ
option_count = 6

abbrev pub modified_dates : ℕ
modified_dates = 1

abbrev pub given : ℕ → ℕ → ℕ → ℕ
given options row bit = pick (has_bit options bit) (letter_of row bit) no_letter

-- 8th sentence: a chosen option's letter overrides the basic action; where chosen options give both K and C, C wins (A6)
abbrev pub over : ℕ → ℕ → ℕ
over letter next = pick (eqb next no_letter) letter next

abbrev pub stronger : ℕ → ℕ → ℕ
stronger letter next = pick (eqb letter C) C (over letter next)

unfoldable pub overriding : ℕ → ℕ → ℕ → ℕ
overriding options row zero = no_letter
overriding options row (suc bit) = stronger (overriding options row bit) (given options row bit)

-- What each action writes, the line for C: a C is Modified Dates' where its own column has it, whatever else is chosen (A7)
abbrev pub cleans_dates : ℕ → ℕ → Bool
cleans_dates options row = eqb (given options row modified_dates) C
