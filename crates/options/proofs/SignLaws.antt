-- A signed number of few days fits 32 bits. No contract cites this file. Assumes nothing.
use Prim.Native.Nat.{ℕ, ◌≤◌, ◌<◌}
use native.Mathlib.Omega.{arith}
use lib.IntN.{ℤ, pos, negsuc, nat_abs}
use mir.Syntax.{w32}
use mir.Val.{SFits}

pub fits-i32 : (z : ℤ) (n : ℕ) → nat_abs z ≤ n → n < 2_147_483_648 → SFits w32 z
fits-i32 (pos m) n h k = record { sfits = omega arith }
fits-i32 (negsuc m) n h k = record { sfits = omega arith }
