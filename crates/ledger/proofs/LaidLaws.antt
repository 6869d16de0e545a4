-- Laws of `laid` of `Rattle.buffer.specs.Buffer` that the ledger uses. No contract cites this file. Assumes nothing.
--     laid-zeros      bytes written over zeros
--     laid-same       what stands there already
--     take-laid-le    what stands before the place
--     drop-laid       what stands from a place before it on
use mathlib.Core.Path.{◌≡◌, refl, ap}
use mathlib.Core.List.{List, [], ◌∷◌, ◌++◌}
use Prim.Native.Nat.{ℕ, zero, suc, ◌+◌, ◌-◌, ◌≤◌}
use native.Mathlib.Omega.{arith}
use lib.ListN.{length, take, drop, replicate}
use lib.Seq.{drop-nil}
use Rattle.buffer.specs.Buffer.{laid}

-- ---- laid

pub laid-zeros : (n : ℕ) (u : List ℕ) → length u ≤ n → laid (replicate n 0) 0 u ≡ u ++ replicate (n - length u) 0
unfolding laid
laid-zeros zero [] h = refl
laid-zeros zero (x ∷ u) h = absurd (omega arith)
laid-zeros (suc n) [] h = let e : suc n - 0 ≡ suc n = omega arith in rw e refl
laid-zeros (suc n) (x ∷ u) h =
    let e : suc n - length (x ∷ u) ≡ n - length u = omega arith in
    rw e (ap (λ (l : List ℕ). x ∷ l) (laid-zeros n u (omega arith)))

pub laid-same : (l : List ℕ) (n : ℕ) → laid l 0 (take n l) ≡ l
unfolding laid
laid-same [] n = refl
laid-same (y ∷ l) zero = refl
laid-same (y ∷ l) (suc n) = ap (λ z. y ∷ z) (laid-same l n)

pub take-laid-le : (o : List ℕ) (n p : ℕ) (xs : List ℕ) → n ≤ p → take n (laid o p xs) ≡ take n o
unfolding laid
take-laid-le [] n p xs h = refl
take-laid-le (y ∷ o) zero p xs h = refl
take-laid-le (y ∷ o) (suc n) (suc p) xs h = ap (λ l. y ∷ l) (take-laid-le o n p xs (omega arith))
take-laid-le (y ∷ o) (suc n) zero xs h = absurd (omega arith)

pub drop-laid : (o : List ℕ) (n p q : ℕ) (xs : List ℕ) → q ≡ n + p → drop n (laid o q xs) ≡ laid (drop n o) p xs
unfolding laid
drop-laid [] n p q xs e = let f : ◌≡◌ {A = List ℕ} (drop n []) [] = drop-nil n in rw f refl
drop-laid (y ∷ o) zero p q xs e = let f : q ≡ p = omega arith in rw f refl
drop-laid (y ∷ o) (suc n) p (suc q) xs e = drop-laid o n p q xs (omega arith)
drop-laid (y ∷ o) (suc n) p zero xs e = absurd (omega arith)
