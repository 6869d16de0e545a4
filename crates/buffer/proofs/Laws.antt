-- Laws of what a buffer holds.
-- Assumes nothing.
use mathlib.Core.Path.{◌≡◌, refl, sym, ap, ◌∙◌}
use mathlib.Core.List.{List, [], ◌∷◌, ◌++◌}
use Prim.Native.Nat.{ℕ, zero, suc, ◌+◌, ◌-◌, ◌≤◌, ◌<◌}
use native.Mathlib.Omega.{arith}
use lib.ListN.{length, take, drop, get_or, set, replicate, length-drop, length-replicate}
use lib.Seq.{take-suc, take_all, length-take-le}
use Prim.Native.Nat.{min}
use borrow.Rule.Slice.PartMut.{mid_of, put_mid}
use Rattle.buffer.specs.Buffer.{laid, cleared}

pub length-laid : (o : List ℕ) (p : ℕ) (xs : List ℕ) → length (laid o p xs) ≡ length o
unfolding laid
length-laid [] p xs = refl
length-laid (y ∷ o) (suc p) xs = ap suc (length-laid o p xs)
length-laid (y ∷ o) zero [] = refl
length-laid (y ∷ o) zero (x ∷ xs) = ap suc (length-laid o zero xs)

pub length-cleared : (o : List ℕ) (p : ℕ) → length (cleared o p) ≡ length o
unfolding cleared
length-cleared [] p = refl
length-cleared (y ∷ o) (suc p) = ap suc (length-cleared o p)
length-cleared (y ∷ o) zero = ap suc (length-cleared o zero)

-- nothing written; written past the end
pub laid-none : (o : List ℕ) (p : ℕ) → laid o p [] ≡ o
unfolding laid
laid-none [] p = refl
laid-none (y ∷ o) (suc p) = ap (λ l. y ∷ l) (laid-none o p)
laid-none (y ∷ o) zero = refl

pub laid-past : (o : List ℕ) (p : ℕ) (xs : List ℕ) → length o ≤ p → laid o p xs ≡ o
unfolding laid
laid-past [] p xs h = refl
laid-past (y ∷ o) (suc p) xs h = ap (λ l. y ∷ l) (laid-past o p xs (omega arith))
laid-past (y ∷ o) zero xs h = absurd (omega arith)

-- one byte
pub laid-set : (o : List ℕ) (p x : ℕ) → p < length o → set o p x ≡ laid o p (x ∷ [])
unfolding laid
laid-set [] p x h = absurd (omega arith)
laid-set (y ∷ o) (suc p) x h = ap (λ l. y ∷ l) (laid-set o p x (omega arith))
laid-set (y ∷ o) zero x h = ap (λ l. x ∷ l) (sym (laid-none o zero))

laid-laid0 : (o xs ys : List ℕ) → laid (laid o zero xs) (length xs) ys ≡ laid o zero (xs ++ ys)
unfolding laid
laid-laid0 [] xs ys = refl
laid-laid0 (y ∷ o) [] ys = refl
laid-laid0 (y ∷ o) (x ∷ xs) ys = ap (λ l. x ∷ l) (laid-laid0 o xs ys)

-- THE LAW: what is written next to what was written is one write
pub laid-laid : (o : List ℕ) (p : ℕ) (xs ys : List ℕ) → laid (laid o p xs) (p + length xs) ys ≡ laid o p (xs ++ ys)
unfolding laid
laid-laid [] p xs ys = refl
laid-laid (y ∷ o) (suc p) xs ys = let e : suc p + length xs ≡ suc (p + length xs) = omega arith in rw e (ap (λ l. y ∷ l) (laid-laid o p xs ys))
laid-laid (y ∷ o) zero xs ys = let e : 0 + length xs ≡ length xs = omega arith in rw e (laid-laid0 (y ∷ o) xs ys)

laid-front0 : (o xs ys : List ℕ) → laid (laid o (length xs) ys) zero xs ≡ laid o zero (xs ++ ys)
unfolding laid
laid-front0 [] xs ys = refl
laid-front0 (y ∷ o) [] ys = laid-none (laid (y ∷ o) zero ys) zero
laid-front0 (y ∷ o) (x ∷ xs) ys = ap (λ l. x ∷ l) (laid-front0 o xs ys)

-- ... in front of what was written
pub laid-front : (o : List ℕ) (p : ℕ) (xs ys : List ℕ) → laid (laid o (p + length xs) ys) p xs ≡ laid o p (xs ++ ys)
unfolding laid
laid-front [] p xs ys = refl
laid-front (y ∷ o) (suc p) xs ys = let e : suc p + length xs ≡ suc (p + length xs) = omega arith in rw e (ap (λ l. y ∷ l) (laid-front o p xs ys))
laid-front (y ∷ o) zero xs ys = let e : 0 + length xs ≡ length xs = omega arith in rw e (laid-front0 (y ∷ o) xs ys)

-- ... over what was written
pub laid-over : (o : List ℕ) (p : ℕ) (xs ys : List ℕ) → length xs ≤ length ys → laid (laid o p xs) p ys ≡ laid o p ys
unfolding laid
laid-over [] p xs ys h = refl
laid-over (y ∷ o) (suc p) xs ys h = ap (λ l. y ∷ l) (laid-over o p xs ys h)
laid-over (y ∷ o) zero [] ys h = refl
laid-over (y ∷ o) zero (x ∷ xs) [] h = absurd (omega arith)
laid-over (y ∷ o) zero (x ∷ xs) (z ∷ ys) h = ap (λ l. z ∷ l) (laid-over o zero xs ys (omega arith))

-- the same with the place as a number of its own
pub laid-more : (o : List ℕ) (p : ℕ) (xs ys : List ℕ) {o₁ o₂ : List ℕ} {mid : ℕ} → o₁ ≡ laid o p xs → mid ≡ p + length xs → o₂ ≡ laid o₁ mid ys → o₂ ≡ laid o p (xs ++ ys)
laid-more o p xs ys {o₁} {o₂} {mid} e m f = f ∙ ap (λ z. laid z mid ys) e ∙ ap (λ n. laid (laid o p xs) n ys) m ∙ laid-laid o p xs ys

-- clipped
pub laid-fits : (o : List ℕ) (p n : ℕ) (xs : List ℕ) → min (length xs) (length o - p) ≤ n → laid o p (take n xs) ≡ laid o p xs
unfolding laid
laid-fits [] p n xs h = refl
laid-fits (y ∷ o) (suc p) n xs h = ap (λ l. y ∷ l) (laid-fits o p n xs (omega arith))
laid-fits (y ∷ o) zero n [] h = ap (laid (y ∷ o) zero) (take_all n [] (omega arith))
laid-fits (y ∷ o) zero zero (x ∷ xs) h = absurd (omega arith)
laid-fits (y ∷ o) zero (suc n) (x ∷ xs) h = ap (λ l. x ∷ l) (laid-fits o zero n xs (omega arith))

-- with room
pub laid-whole : (o xs : List ℕ) → length xs ≤ length o → laid o zero xs ≡ xs ++ drop (length xs) o
unfolding laid
laid-whole [] [] h = refl
laid-whole [] (x ∷ xs) h = absurd (omega arith)
laid-whole (y ∷ o) [] h = refl
laid-whole (y ∷ o) (x ∷ xs) h = ap (λ l. x ∷ l) (laid-whole o xs (omega arith))

pub get_or-laid-other : (o : List ℕ) (p : ℕ) (xs : List ℕ) (i : ℕ) → i < p → get_or (laid o p xs) i 0 ≡ get_or o i 0
unfolding laid
get_or-laid-other [] p xs i h = refl
get_or-laid-other (y ∷ o) (suc p) xs zero h = refl
get_or-laid-other (y ∷ o) (suc p) xs (suc i) h = get_or-laid-other o p xs i (omega arith)
get_or-laid-other (y ∷ o) zero xs i h = absurd (omega arith)

pub take-laid : (o : List ℕ) (p : ℕ) (xs : List ℕ) → take p (laid o p xs) ≡ take p o
unfolding laid
take-laid [] p xs = refl
take-laid (y ∷ o) (suc p) xs = ap (λ l. y ∷ l) (take-laid o p xs)
take-laid (y ∷ o) zero xs = refl

cleared-all : (o : List ℕ) → cleared o zero ≡ replicate (length o) 0
unfolding cleared
cleared-all [] = refl
cleared-all (y ∷ o) = ap (λ l. 0 ∷ l) (cleared-all o)

-- written bytes and then zeros
pub cleared-laid : (o xs : List ℕ) → length xs ≤ length o → cleared (laid o zero xs) (length xs) ≡ xs ++ replicate (length o - length xs) 0
unfolding laid cleared
cleared-laid [] [] h = refl
cleared-laid [] (x ∷ xs) h = absurd (omega arith)
cleared-laid (y ∷ o) [] h = let e : length (y ∷ o) - 0 ≡ length (y ∷ o) = omega arith in rw e (cleared-all (y ∷ o))
cleared-laid (y ∷ o) (x ∷ xs) h = let e : length (y ∷ o) - length (x ∷ xs) ≡ length o - length xs = omega arith in rw e (ap (λ l. x ∷ l) (cleared-laid o xs (omega arith)))

zeros-all : (o : List ℕ) (n : ℕ) → length o ≤ n → laid o zero (replicate n 0) ≡ cleared o zero
unfolding laid cleared
zeros-all [] n h = refl
zeros-all (y ∷ o) zero h = absurd (omega arith)
zeros-all (y ∷ o) (suc n) h = ap (λ l. 0 ∷ l) (zeros-all o n (omega arith))

pub cleared-is : (o : List ℕ) (p i : ℕ) → length o ≤ i → p ≤ i → laid o p (replicate (i - p) 0) ≡ cleared o p
unfolding laid cleared
cleared-is [] p i h k = refl
cleared-is (y ∷ o) (suc p) zero h k = absurd (omega arith)
cleared-is (y ∷ o) (suc p) (suc i) h k =
    let e : suc i - suc p ≡ i - p = omega arith in rw e (ap (λ l. y ∷ l) (cleared-is o p i (omega arith) (omega arith)))
cleared-is (y ∷ o) zero i h k = let e : i - 0 ≡ i = omega arith in rw e (zeros-all (y ∷ o) i h)

pub cleared-past : (o : List ℕ) (p : ℕ) → length o ≤ p → o ≡ cleared o p
unfolding cleared
cleared-past [] p h = refl
cleared-past (y ∷ o) (suc p) h = ap (λ l. y ∷ l) (cleared-past o p (omega arith))
cleared-past (y ∷ o) zero h = absurd (omega arith)

-- one byte more of a block
pub block-more : (o xs : List ℕ) (p i : ℕ) → i < length xs → p + i < length o → set (laid o p (take i xs)) (p + i) (get_or xs i 0) ≡ laid o p (take (i + 1) xs)
block-more o xs p i h k =
    let n : suc i ≡ i + 1 = omega arith in
    let m : length (take i xs) ≡ i = length-take-le i xs (omega arith) in
    laid-set (laid o p (take i xs)) (p + i) (get_or xs i 0) (rw (length-laid o p (take i xs)) k)
    ∙ ap (λ n. laid (laid o p (take i xs)) (p + n) (get_or xs i 0 ∷ [])) (sym m)
    ∙ laid-laid o p (take i xs) (get_or xs i 0 ∷ [])
    ∙ ap (laid o p) (sym (take-suc xs i 0 h) ∙ ap (λ n. take n xs) n)

-- ... by the part of it, k bytes from p on, in one piece
pub laid-part : (o : List ℕ) (p k : ℕ) (xs ys : List ℕ) → p + k ≤ length o → k ≡ length xs → ys ≡ xs → put_mid p k o ys ≡ laid o p xs
unfolding laid
laid-part [] zero k [] ys h e f = rw (f, e) refl
laid-part [] zero k (x ∷ xs) ys h e f = absurd (omega arith)
laid-part [] (suc p) k xs ys h e f = absurd (omega arith)
laid-part (y ∷ o) (suc p) k xs ys h e f = ap (λ l. y ∷ l) (laid-part o p k xs ys (omega arith) e f)
laid-part (y ∷ o) zero k xs ys h e f = rw (f, e) (sym (laid-whole (y ∷ o) xs (omega arith)))

pub cleared-part : (o : List ℕ) (p : ℕ) (ys : List ℕ) → p ≤ length o → ys ≡ replicate (length (mid_of p (length o - p) o)) 0
    → put_mid p (length o - p) o ys ≡ cleared o p
cleared-part o p ys h e =
    let n : length (mid_of p (length o - p) o) ≡ length o - p = length-take-le (length o - p) (drop p o) (simp length-drop (omega arith)) in
    laid-part o p (length o - p) (replicate (length o - p) 0) ys (omega arith) (sym (length-replicate (length o - p) 0)) (e ∙ ap (λ k. replicate k 0) n)
    ∙ cleared-is o p (length o) (omega arith) h
