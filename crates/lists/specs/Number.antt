-- Numbers as a list spells them: document 01, "UIDs, dates, lists", third paragraph, 2nd sentence; reading L1. The code cites
-- `number_at`. Laws: `proofs/NumberLaws.antt`. Assumes nothing.
--     onto b r                   the number whose first group is b, where r is the number that the groups after it spell, and its bytes;
--                                none where those groups are a zero: one group too many
--     seven_bit s                the number at the front of s, and how many bytes it takes; none where s ends before its last group
--     held low high at r         the number r that begins at the place `at` and the place past it, where it is one of low to high
--     number_at low high s at    the number at the place `at` of s, where it is one of low to high, and the place past it
use Rattle.std.specs.Prelude.{◌&&◌, List, [], ◌∷◌, ℕ, ◌+◌, ◌*◌, ◌%◌, eqb, leb, ltb, drop, Option, None, Some}
use Rattle.basis.specs.Choice.{pick, fork, then}

abbrev pub onto : ℕ → ℕ × ℕ → Option (ℕ × ℕ)
onto b r = pick (eqb r.0 0) None (Some (b % 128 + 128 * r.0, 1 + r.1))

-- Document 01, Lists, 2nd sentence: seven bits a group, the lowest first; a byte of 80 hex or more is not the last one
unfoldable pub seven_bit : List ℕ → Option (ℕ × ℕ)
seven_bit [] = None
seven_bit (b ∷ s) = fork (ltb b 128) (λ _. Some (b, 1)) (λ _. then (seven_bit s) (onto b))

abbrev pub held : ℕ → ℕ → ℕ → ℕ × ℕ → Option (ℕ × ℕ)
held low high at r = pick (leb low r.0 && leb r.0 high) (Some (r.0, at + r.1)) None

unfoldable pub number_at : ℕ → ℕ → List ℕ → ℕ → Option (ℕ × ℕ)
number_at low high s at = then (seven_bit (drop at s)) (held low high at)
