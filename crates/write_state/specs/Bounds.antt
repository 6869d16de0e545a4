-- How much the walk that writes may write, so that no place and no count passes what a number of the machine holds. None of these is a
-- limit that a caller meets: each is a round number above what can be, with some to spare. Assumes nothing.
--     per_byte          bytes written for a byte read: a UID of one character becomes one of 64 with its backslash, and a value is a header shorter
--     one_element       what one element may write beyond that: a header, a list value or a dummy, a pad
--     marked_element    an element, and what the top level gains before it (`all_markers` of write_markers, 1,024)
--     one_item          an item: its elements gain no more than the top level does, and it has a tag and an end mark
--     one_mark          the mark that ends a sequence
--     farthest          a place and a count stay below this
use Rattle.std.specs.Prelude.{ℕ, ◌+◌, ◌^◌}
use Rattle.write_markers.specs.Gains.{all_markers}

abbrev pub per_byte : ℕ
per_byte = 256

abbrev pub one_element : ℕ
one_element = 128

abbrev pub marked_element : ℕ
marked_element = all_markers + one_element

abbrev pub one_mark : ℕ
one_mark = 16

abbrev pub one_item : ℕ
one_item = all_markers + 32

abbrev pub farthest : ℕ
farthest = 2 ^ 63
