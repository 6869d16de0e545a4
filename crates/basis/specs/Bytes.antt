-- Bytes and the numbers that they spell, lowest byte first: document 01, "Layout of a data set", first point. Assumes nothing.
--     part s a e           the bytes of s from the place a up to the place e
--     le2 s i, le4 s i     the number that the two, or four, bytes at i spell
--     low2 n, low4 n       the two, or four, lowest bytes of n
--     AllBytes s           each number of s is a byte
--     has_bit n k          a test: the bit k of the number n is 1, the lowest being the bit 0
use Rattle.std.specs.Prelude.{Bool, List, [], ◌∷◌, ℕ, ◌+◌, ◌-◌, ◌*◌, ◌/◌, ◌%◌, ◌^◌, ◌<◌, eqb, take, drop, get_or}

abbrev pub part : List ℕ → ℕ → ℕ → List ℕ
part s a e = take (e - a) (drop a s)

abbrev pub le2 : List ℕ → ℕ → ℕ
le2 s i = get_or s i 0 + 256 * get_or s (i + 1) 0

abbrev pub le4 : List ℕ → ℕ → ℕ
le4 s i = le2 s i + 65536 * le2 s (i + 2)

abbrev pub low2 : ℕ → List ℕ
low2 n = n % 256 ∷ n / 256 % 256 ∷ []

abbrev pub low4 : ℕ → List ℕ
low4 n = n % 256 ∷ n / 256 % 256 ∷ n / 65536 % 256 ∷ n / 16777216 % 256 ∷ []

abbrev pub AllBytes : List ℕ → Type 0
AllBytes s = (i : ℕ) → get_or s i 0 < 256

abbrev pub has_bit : ℕ → ℕ → Bool
has_bit n k = eqb (n / 2 ^ k % 2) 1
