-- Laws of `specs/Text.antt`. No contract cites this file. Assumes nothing.
--     is_digit-range, is_digit-yes, is_digit-low, is_digit-high    a digit is 30 to 39 hex
use mathlib.Core.Path.{◌≡◌, refl}
use mathlib.Core.Bool.{true, false, and-eq-true_iff}
use Prim.Native.Nat.{ℕ, ◌≤◌, ◌<◌}
use native.Mathlib.Omega.{arith}
use borrow.Author.Tests.{leb-true, le-leb, lt-leb}
use lib.Dec.{leb}
use Rattle.basis.specs.Text.{digit0, digit9, is_digit}

-- ---- is_digit

pub is_digit-range : (x : ℕ) → is_digit x ≡ true → (digit0 ≤ x) × (x ≤ digit9)
is_digit-range x e = let b = (and-eq-true_iff (leb digit0 x) (leb x digit9)).0 e in (leb-true digit0 x b.0, leb-true x digit9 b.1)

pub is_digit-yes : (x : ℕ) → digit0 ≤ x → x ≤ digit9 → is_digit x ≡ true
is_digit-yes x h k = (and-eq-true_iff (leb digit0 x) (leb x digit9)).1 (le-leb digit0 x h, le-leb x digit9 k)

pub is_digit-low : (x : ℕ) → x < digit0 → is_digit x ≡ false
is_digit-low x h = rw (lt-leb digit0 x h) refl

pub is_digit-high : (x : ℕ) → digit9 < x → is_digit x ≡ false
is_digit-high x h = rw (le-leb digit0 x (omega arith), lt-leb x digit9 h) refl
