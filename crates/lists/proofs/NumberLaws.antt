-- Laws of `specs/Number.antt`. No contract cites this file. Assumes nothing.
--     seven_bit-end, seven_bit-last, seven_bit-more    the number at a place: past the end, a last group, a group that is not the last
--     number_at-end, number_at-last, number_at-small   the same of a number within limits; of one that is small enough
--     number_at-one                             a number of at most 127 is one byte
--     Going high s at sum unit i                the groups from the place `at` up to i come to sum, and one at i is worth unit: what is left says the whole
--     going-start, going-more, going-last, going-end, going-past      one for each way of the loop of `tag_at`
--     worth                                     a group is worth less than 128 units
use mathlib.Core.Path.{◌≡◌, refl, ap, ◌∙◌}
use mathlib.Core.Bool.{Bool, true, false, not, ◌&&◌, and-false}
use mathlib.Core.List.{List}
use Rattle.std.specs.Prelude.{Option, None, Some}
use Rattle.std.specs.Bool.{then_some}
use Prim.Native.Nat.{ℕ, ◌+◌, ◌*◌, ◌%◌, ◌≤◌, ◌<◌}
use native.Mathlib.Numerals.{add-one}
use native.Mathlib.Nat.{mul-le-mul_left}
use native.Mathlib.Omega.{arith}
use borrow.Author.Tests.{lt-ltb, le-ltb, le-leb, lt-leb, ne_eqb, ltb-true, ltb-false, eqb-false}
use lib.Dec.{eqb, leb, ltb, leb-zero}
use lib.ListN.{length, get_or, drop, drop_of_length-le}
use lib.Seq.{drop-cons}
use Rattle.basis.specs.Choice.{pick, then}
use Rattle.lists.specs.Number.{onto, seven_bit, held, number_at}

above : {n : ℕ} → (n ≡ 0 → ⊥) → 1 ≤ n
above h = omega arith

-- ---- seven_bit

module _ (s : List ℕ) (at : ℕ) where
  pub seven_bit-end : length s ≤ at → seven_bit (drop at s) ≡ None
  unfolding seven_bit
  seven_bit-end h = rw (drop_of_length-le s h) refl

  pub seven_bit-last : at < length s → get_or s at 0 < 128 → seven_bit (drop at s) ≡ Some (get_or s at 0, 1)
  unfolding seven_bit
  seven_bit-last h l = rw (drop-cons s at 0 h, lt-ltb (get_or s at 0) 128 l) refl

  pub seven_bit-more : at < length s → 128 ≤ get_or s at 0 → seven_bit (drop at s) ≡ then (seven_bit (drop (at + 1) s)) (onto (get_or s at 0))
  unfolding seven_bit
  seven_bit-more h l = rw (drop-cons s at 0 h, le-ltb (get_or s at 0) 128 l, add-one at) refl

-- ---- number_at

module _ (low high : ℕ) (s : List ℕ) (at : ℕ) where
  pub number_at-end : length s ≤ at → number_at low high s at ≡ None
  unfolding number_at
  number_at-end h = rw (seven_bit-end s at h) refl

  pub number_at-last : at < length s → get_or s at 0 < 128 → number_at low high s at ≡ held low high at (get_or s at 0, 1)
  unfolding number_at
  number_at-last h l = rw (seven_bit-last s at h l) refl

  -- more groups come to at least 128, where they are not one too many
  large : (b : ℕ) (x : Option (ℕ × ℕ)) → high < 128 → then (then x (onto b)) (held low high at) ≡ None
  large b None h = refl
  large b (Some r) h = go (eqb r.0 0) refl
    where
      go : (t : Bool) → eqb r.0 0 ≡ t → then (pick t None (Some (b % 128 + 128 * r.0, 1 + r.1))) (held low high at) ≡ None
      go true e = refl
      go false e =
          let n : r.0 ≡ 0 → ⊥ = eqb-false r.0 0 e in
          rw (lt-leb (b % 128 + 128 * r.0) high (omega arith), and-false (leb low (b % 128 + 128 * r.0))) refl

  pub number_at-one : at < length s → high < 128 → number_at low high s at ≡ held low high at (get_or s at 0, 1)
  unfolding number_at
  number_at-one h k = go (ltb (get_or s at 0) 128) refl
    where
      go : (t : Bool) → ltb (get_or s at 0) 128 ≡ t → number_at low high s at ≡ held low high at (get_or s at 0, 1)
      go true e = number_at-last h (ltb-true (get_or s at 0) 128 e)
      go false e =
          let l : 128 ≤ get_or s at 0 = ltb-false (get_or s at 0) 128 e in
          rw (lt-leb (get_or s at 0) high (omega arith), and-false (leb low (get_or s at 0)), seven_bit-more s at h l)
          (large (get_or s at 0) (seven_bit (drop (at + 1) s)) k)

pub number_at-small : (high : ℕ) (s : List ℕ) (at : ℕ) → 127 ≤ high → at < length s → get_or s at 0 < 128 → number_at 0 high s at ≡ Some (get_or s at 0, at + 1)
number_at-small high s at k h l =
    number_at-last 0 high s at h l ∙ rw (leb-zero (get_or s at 0), le-leb (get_or s at 0) high (omega arith)) refl

-- ---- a number of several groups, as `tag_at` reads it

-- a number and the place past it, where it is at most high
abbrev up_to : ℕ → ℕ → ℕ → Option (ℕ × ℕ)
up_to high n place = pick (leb n high) (Some (n, place)) None

abbrev carried : ℕ → ℕ → ℕ → ℕ → Option (ℕ × ℕ) → Option (ℕ × ℕ)
carried high sum unit i x = then x (λ r. pick (eqb r.0 0) None (up_to high (sum + unit * r.0) (i + r.1)))

pub record Going (high : ℕ) (s : List ℕ) (at sum unit i : ℕ) : Type 0 where
  pub whole : number_at 0 high s at ≡ carried high sum unit i (seven_bit (drop i s))

begun : (high at b : ℕ) (x : Option (ℕ × ℕ)) → then (then x (onto b)) (held 0 high at) ≡ carried high (b % 128) 128 (at + 1) x
begun high at b None = refl
begun high at b (Some r) = go (eqb r.0 0)
  where
    go : (t : Bool) → then (pick t None (Some (b % 128 + 128 * r.0, 1 + r.1))) (held 0 high at) ≡ pick t None (up_to high (b % 128 + 128 * r.0) (at + 1 + r.1))
    go true = refl
    go false =
        let e : at + (1 + r.1) ≡ at + 1 + r.1 = omega arith in
        rw (leb-zero (b % 128 + 128 * r.0), e) refl

pub going-start : (high : ℕ) (s : List ℕ) (at : ℕ) → at < length s → 128 ≤ get_or s at 0 → Going high s at (get_or s at 0 % 128) 128 (at + 1)
unfolding number_at
going-start high s at h l = record { whole = rw (seven_bit-more s at h l) (begun high at (get_or s at 0) (seven_bit (drop (at + 1) s))) }

turned : (high sum unit i b : ℕ) (x : Option (ℕ × ℕ)) → carried high sum unit i (then x (onto b)) ≡ carried high (sum + unit * (b % 128)) (unit * 128) (i + 1) x
turned high sum unit i b None = refl
turned high sum unit i b (Some r) = go (eqb r.0 0) refl
  where
    go : (t : Bool) → eqb r.0 0 ≡ t
        → carried high sum unit i (pick t None (Some (b % 128 + 128 * r.0, 1 + r.1)))
        ≡ pick t None (up_to high (sum + unit * (b % 128) + unit * 128 * r.0) (i + 1 + r.1))
    go true e = refl
    go false e =
        let n : r.0 ≡ 0 → ⊥ = eqb-false r.0 0 e in
        let v : sum + unit * (b % 128 + 128 * r.0) ≡ sum + unit * (b % 128) + unit * 128 * r.0 = omega arith in
        let p : i + (1 + r.1) ≡ i + 1 + r.1 = omega arith in
        rw (ne_eqb (b % 128 + 128 * r.0) 0 (λ z. n (omega arith)), v, p) refl

past : (high sum unit i : ℕ) (x : Option (ℕ × ℕ)) → high < unit → carried high sum unit i x ≡ None
past high sum unit i None h = refl
past high sum unit i (Some r) h = go (eqb r.0 0) refl
  where
    go : (t : Bool) → eqb r.0 0 ≡ t → pick t None (up_to high (sum + unit * r.0) (i + r.1)) ≡ None
    go true e = refl
    go false e =
        let k : unit * 1 ≤ unit * r.0 = mul-le-mul_left unit (above (eqb-false r.0 0 e)) in
        rw (lt-leb (sum + unit * r.0) high (omega arith)) refl

module _ {high : ℕ} {s : List ℕ} {at sum unit i : ℕ} (g : Going high s at sum unit i) where
  -- a group that is not the last
  pub going-more : i < length s → 128 ≤ get_or s i 0 → Going high s at (sum + unit * (get_or s i 0 % 128)) (unit * 128) (i + 1)
  going-more h l =
      record { whole = g.whole ∙ ap (carried high sum unit i) (seven_bit-more s i h l) ∙ turned high sum unit i (get_or s i 0) (seven_bit (drop (i + 1) s)) }

  -- the last group: a zero is one too many; the number may be too large
  pub going-last : i < length s → get_or s i 0 < 128
      → number_at 0 high s at ≡ then_some (not (eqb (get_or s i 0) 0) && leb (sum + unit * get_or s i 0) high) (sum + unit * get_or s i 0, i + 1)
  going-last h l =
      g.whole ∙ rw (seven_bit-last s i h l) (go (eqb (get_or s i 0) 0) (leb (sum + unit * get_or s i 0) high) (sum + unit * get_or s i 0, i + 1))
    where
      go : (z k : Bool) (x : ℕ × ℕ) → pick z None (pick k (Some x) None) ≡ then_some (not z && k) x
      go true k x = refl
      go false true x = refl
      go false false x = refl

  -- no more bytes; a group that is worth more than the largest number
  pub going-end : length s ≤ i → number_at 0 high s at ≡ None
  going-end h = g.whole ∙ rw (seven_bit-end s i h) refl

  pub going-past : high < unit → number_at 0 high s at ≡ None
  going-past h = g.whole ∙ past high sum unit i (seven_bit (drop i s)) h

-- a group is worth less than 128 units
pub worth : (unit b : ℕ) → b ≤ 127 → unit * b ≤ unit * 127
worth unit b h = mul-le-mul_left unit h
