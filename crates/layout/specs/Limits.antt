-- The limits of a data set, each named here and nowhere else in the definitions. Assumes nothing.
--     deepest     how many items may nest: document 01, Layout, 3rd point, and refusal 10
--     longest     how many bytes a data set may have: document 01, refusal 5
use Rattle.std.specs.Prelude.{ℕ}

abbrev pub deepest : ℕ
deepest = 8

abbrev pub longest : ℕ
longest = 268435456
