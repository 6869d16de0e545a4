-- Laws of `specs/Parts.antt`. No contract cites this file. Assumes nothing.
--     is-part     what the code's `&s[a..e]` is
use mathlib.Core.Path.{refl}
use mathlib.Core.List.{List}
use Prim.Native.Nat.{ℕ, ◌+◌, ◌-◌}
use native.Mathlib.Nat.{add_comm}
use Rattle.std.specs.Borrow.{Bor}
use lib.ListN.{take, drop}
use Rattle.basis.specs.Parts.{IsPart}

pub is-part : (s : Bor (List ℕ)) (a e : ℕ) → IsPart (record { ref_ptr = (s.ref_ptr.0, a + s.ref_ptr.1); now = take (e - a) (drop a s.now) }) s a e
is-part s a e = record { block = refl; start = add_comm _ _; bytes = refl }
