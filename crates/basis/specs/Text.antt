-- A text in quotes, as the bytes that spell it, bytes as a paper prints them, and decimal digits. Laws: `proofs/TextLaws.antt`. Assumes nothing.
--     ascii t           the codes of the characters of t, in order
--     hex t             the bytes that t has in hexadecimal, two digits each, with blanks between them
--     digit0, digit9    the bytes 30 and 39 hex: the characters 0 and 9
--     is_digit x        the byte x is a decimal digit
use Rattle.std.specs.Prelude.{Bool, ◌&&◌, List, [] as []ᴸ, ◌∷◌ as ◌∷ᴸ◌, ℕ, ◌+◌, ◌-◌, ◌*◌, eqb, leb}
use Prim.Native.Char.{Char, code}
use Prim.Native.String.{String, [], ◌∷◌}
use Rattle.basis.specs.Choice.{pick, fork}

abbrev pub ascii : String → List ℕ
ascii [] = []ᴸ
ascii (c ∷ t) = code c ∷ᴸ ascii t

-- 0 to 9, A to F
abbrev pub digit_of : Char → ℕ
digit_of c = pick (leb (code c) 57) (code c - 48) (code c - 55)

unfoldable pub hex : String → List ℕ
hex [] = []ᴸ
hex (c ∷ []) = []ᴸ
hex (c ∷ (d ∷ t)) = fork (eqb (code c) 32) (λ _. hex (d ∷ t)) (λ _. (16 * digit_of c + digit_of d) ∷ᴸ hex t)

abbrev pub digit0 : ℕ
digit0 = 48

abbrev pub digit9 : ℕ
digit9 = 57

abbrev pub is_digit : ℕ → Bool
is_digit x = leb digit0 x && leb x digit9
