-- Laws of `specs/FirstMet.antt`. No contract cites this file. Assumes nothing.
--     Begins l m                                l is the front of m
--     begins-refl, begins-trans, begins-cons, begins-member, begins-length
--     first_at-le, first_at-yes, first_at-no    a place is at most the length; the first UID is it; it is not
--     first_at-append                           a UID that is there keeps its place as UIDs are added
--     first_at-learn                            what is learnt stands where it is found, or next
--     number_of-le, number_of-member            a number is at most one more than the length; of a UID that is there, at most the length
--     number_of-begins                          and stays as UIDs are added
--     stands_for, stands_for-number_of          what a number stands for
--     learn-old, learn-new                      a UID that is there changes nothing; another is added
--     learn-begins, learn-member, learn-length
--     learns-begins, learns-member, learns-append, learns-length
--     numbers-final                             THE LAW: the numbers given on the way are those of the last ledger, or of any that it begins
--     numbers-append, numbers-length, numbers-le     of two lists; as many as UIDs; 1 to the count in the end
use mathlib.Core.Path.{◌≡◌, refl, sym, ap, ap₂, ◌∙◌}
use mathlib.Core.Logic.{ite, if_pos, if_neg, ◌⊎◌, inl, inr}
use mathlib.Core.List.Memᴰ
use mathlib.Core.List.{List, [], ◌∷◌, ◌++◌, map, append_assoc, append-nil, Memᴰ}
use Prim.Native.Nat.{ℕ, zero, suc, ◌+◌, ◌≤◌, ◌<◌}
use native.Mathlib.Omega.{arith}
use lib.ListN.{length, get_or, length-append}
use Rattle.ledger.specs.FirstMet.{first_at, number_of, learn, learns, numbers}

-- ---- Begins

pub record Begins {X : Type 0} (l m : List X) : Type 0 where
  pub more : List X
  pub split : m ≡ l ++ more

module _ {X : Type 0} where
  pub begins-refl : (l : List X) → Begins l l
  begins-refl l = record { more = []; split = sym (append-nil l) }

  pub begins-trans : {l m n : List X} → Begins l m → Begins m n → Begins l n
  begins-trans {l} {m} {n} p q = record {
    more = p.more ++ q.more;
    split = q.split ∙ (ap (λ (k : List X). k ++ q.more) p.split ∙ append_assoc l p.more q.more);
  }

  pub begins-cons : (x : X) {l m : List X} → Begins l m → Begins (x ∷ l) (x ∷ m)
  begins-cons x p = record { more = p.more; split = ap (λ (k : List X). x ∷ k) p.split }

  pub begins-member : {l m : List X} → Begins l m → {u : X} → Memᴰ u l → Memᴰ u m
  begins-member p {u} h = rw p.split (Memᴰ.append_left p.more h)

  pub begins-length : {l m : List X} → Begins l m → length l ≤ length m
  begins-length {l} {m} p = omega (arith, ap length p.split, length-append l p.more)

module _ {X : Type 0} (same : Discrete X) where
  -- ---- first_at

  pub first_at-le : (l : List X) (u : X) → first_at same l u ≤ length l
  unfolding first_at
  first_at-le [] u = omega arith
  first_at-le (x ∷ xs) u = step (same x u) (first_at-le xs u)
    where
      step : (d : Dec (x ≡ u)) → first_at same xs u ≤ length xs → ite d zero (suc (first_at same xs u)) ≤ suc (length xs)
      step (yes p) ih = omega arith
      step (no n) ih = omega arith

  pub first_at-yes : (x : X) (xs : List X) (u : X) → x ≡ u → first_at same (x ∷ xs) u ≡ 0
  unfolding first_at
  first_at-yes x xs u e = if_pos (same x u) e zero (suc (first_at same xs u))

  pub first_at-no : (x : X) (xs : List X) (u : X) → (x ≡ u → ⊥) → first_at same (x ∷ xs) u ≡ suc (first_at same xs u)
  unfolding first_at
  first_at-no x xs u n = if_neg (same x u) n zero (suc (first_at same xs u))

  pub first_at-append : (l m : List X) (u : X) → Memᴰ u l → first_at same (l ++ m) u ≡ first_at same l u
  unfolding first_at
  first_at-append [] m u h = elim h [ ]
  first_at-append (x ∷ xs) m u h = step (same x u) (Memᴰ.cases_cons h) (λ k. first_at-append xs m u k)
    where
      step : (d : Dec (x ≡ u)) → (u ≡ x) ⊎ Memᴰ u xs → (Memᴰ u xs → first_at same (xs ++ m) u ≡ first_at same xs u)
          → ite d zero (suc (first_at same (xs ++ m) u)) ≡ ite d zero (suc (first_at same xs u))
      step (yes p) c ih = refl
      step (no n) (inl e) ih = absurd (n (sym e))
      step (no n) (inr k) ih = ap suc (ih k)

  pub first_at-learn : (l : List X) (u : X) → first_at same (learn same l u) u ≡ first_at same l u
  unfolding first_at learn
  first_at-learn [] u = if_pos (same u u) refl zero (suc zero)
  first_at-learn (x ∷ xs) u = step (same x u) (first_at-learn xs u)
    where
      step : (d : Dec (x ≡ u)) → first_at same (learn same xs u) u ≡ first_at same xs u
          → ite d zero (suc (first_at same (ite d xs (learn same xs u)) u)) ≡ ite d zero (suc (first_at same xs u))
      step (yes p) ih = refl
      step (no n) ih = ap suc ih

  -- ---- number_of

  pub number_of-le : (l : List X) (u : X) → number_of same l u ≤ suc (length l)
  unfolding number_of
  number_of-le l u = omega (arith, first_at-le l u)

  -- ... and at most the length, of a UID that is there
  pub number_of-member : (l : List X) (u : X) → Memᴰ u l → (1 ≤ number_of same l u) × (number_of same l u ≤ length l)
  unfolding number_of first_at
  number_of-member [] u h = elim h [ ]
  number_of-member (x ∷ xs) u h = step (same x u) (Memᴰ.cases_cons h) (λ k. number_of-member xs u k)
    where
      step : (d : Dec (x ≡ u)) → (u ≡ x) ⊎ Memᴰ u xs → (Memᴰ u xs → (1 ≤ suc (first_at same xs u)) × (suc (first_at same xs u) ≤ length xs))
          → (1 ≤ suc (ite d zero (suc (first_at same xs u)))) × (suc (ite d zero (suc (first_at same xs u))) ≤ suc (length xs))
      step (yes p) c ih = omega arith
      step (no n) (inl e) ih = absurd (n (sym e))
      step (no n) (inr k) ih = omega (arith, ih k)

  pub number_of-begins : {l m : List X} (u : X) → Begins l m → Memᴰ u l → number_of same l u ≡ number_of same m u
  unfolding number_of
  number_of-begins {l} {m} u p h = ap suc (sym (rw p.split (first_at-append l p.more u h)))

  -- what a number stands for; d where it stands for nothing
  unfoldable pub stands_for : List X → X → ℕ → X
  stands_for l d zero = d
  stands_for l d (suc n) = get_or l n d

  pub stands_for-number_of : (l : List X) (d u : X) → Memᴰ u l → stands_for l d (number_of same l u) ≡ u
  unfolding stands_for number_of first_at
  stands_for-number_of [] d u h = elim h [ ]
  stands_for-number_of (x ∷ xs) d u h = step (same x u) (Memᴰ.cases_cons h) (λ k. stands_for-number_of xs d u k)
    where
      step : (e : Dec (x ≡ u)) → (u ≡ x) ⊎ Memᴰ u xs → (Memᴰ u xs → get_or xs (first_at same xs u) d ≡ u)
          → get_or (x ∷ xs) (ite e zero (suc (first_at same xs u))) d ≡ u
      step (yes p) c ih = p
      step (no n) (inl e) ih = absurd (n (sym e))
      step (no n) (inr k) ih = ih k

  -- ---- learn

  pub learn-old : (l : List X) (u : X) → first_at same l u < length l → learn same l u ≡ l
  unfolding first_at learn
  learn-old [] u h = absurd (omega arith)
  learn-old (x ∷ xs) u h = step (same x u) h (learn-old xs u)
    where
      step : (d : Dec (x ≡ u)) → ite d zero (suc (first_at same xs u)) < suc (length xs) → (first_at same xs u < length xs → learn same xs u ≡ xs)
          → ◌≡◌ {A = List X} (x ∷ ite d xs (learn same xs u)) (x ∷ xs)
      step (yes p) k ih = refl
      step (no n) k ih = ap (λ (z : List X). x ∷ z) (ih (omega arith))

  pub learn-new : (l : List X) (u : X) → length l ≤ first_at same l u → learn same l u ≡ l ++ u ∷ []
  unfolding first_at learn
  learn-new [] u h = refl
  learn-new (x ∷ xs) u h = step (same x u) h (learn-new xs u)
    where
      step : (d : Dec (x ≡ u)) → suc (length xs) ≤ ite d zero (suc (first_at same xs u)) → (length xs ≤ first_at same xs u → learn same xs u ≡ xs ++ u ∷ [])
          → ◌≡◌ {A = List X} (x ∷ ite d xs (learn same xs u)) (x ∷ (xs ++ u ∷ []))
      step (yes p) k ih = absurd (omega arith)
      step (no n) k ih = ap (λ (z : List X). x ∷ z) (ih (omega arith))

  pub learn-begins : (l : List X) (u : X) → Begins l (learn same l u)
  unfolding learn
  learn-begins [] u = record { more = u ∷ []; split = refl }
  learn-begins (x ∷ xs) u = step (same x u) (learn-begins xs u)
    where
      step : (d : Dec (x ≡ u)) → Begins xs (learn same xs u) → Begins (x ∷ xs) (x ∷ ite d xs (learn same xs u))
      step (yes p) ih = begins-refl (x ∷ xs)
      step (no n) ih = begins-cons x ih

  pub learn-member : (l : List X) (u : X) → Memᴰ u (learn same l u)
  unfolding learn
  learn-member [] u = Memᴰ.head refl
  learn-member (x ∷ xs) u = step (same x u) (learn-member xs u)
    where
      step : (d : Dec (x ≡ u)) → Memᴰ u (learn same xs u) → Memᴰ u (x ∷ ite d xs (learn same xs u))
      step (yes p) ih = Memᴰ.head (sym p)
      step (no n) ih = Memᴰ.tail ih

  pub learn-length : (l : List X) (u : X) → (length l ≤ length (learn same l u)) × (length (learn same l u) ≤ suc (length l))
  unfolding learn
  learn-length [] u = omega arith
  learn-length (x ∷ xs) u = step (same x u) (learn-length xs u)
    where
      step : (d : Dec (x ≡ u)) → (length xs ≤ length (learn same xs u)) × (length (learn same xs u) ≤ suc (length xs))
          → (suc (length xs) ≤ suc (length (ite d xs (learn same xs u)))) × (suc (length (ite d xs (learn same xs u))) ≤ suc (suc (length xs)))
      step (yes p) ih = omega arith
      step (no n) ih = omega arith

  -- ---- learns

  pub learns-begins : (l us : List X) → Begins l (learns same l us)
  unfolding learns
  learns-begins l [] = begins-refl l
  learns-begins l (u ∷ us) = begins-trans (learn-begins l u) (learns-begins (learn same l u) us)

  pub learns-member : (l us : List X) (u : X) → Memᴰ u us → Memᴰ u (learns same l us)
  unfolding learns
  learns-member l [] u x' = elim x' [ ]
  learns-member l (w ∷ us) u (Memᴰ.head p) = begins-member (learns-begins (learn same l w) us) (rw p (learn-member l w))
  learns-member l (w ∷ us) u (Memᴰ.tail m) = learns-member (learn same l w) us u m

  pub learns-append : (l us ws : List X) → learns same l (us ++ ws) ≡ learns same (learns same l us) ws
  unfolding learns
  learns-append l [] ws = refl
  learns-append l (u ∷ us) ws = learns-append (learn same l u) us ws

  pub learns-length : (l us : List X) → (length l ≤ length (learns same l us)) × (length (learns same l us) ≤ length l + length us)
  unfolding learns
  learns-length l [] = omega arith
  learns-length l (u ∷ us) = omega (arith, learn-length l u, learns-length (learn same l u) us)

  -- ---- numbers

  -- THE LAW: as the ledger grows no number changes
  pub numbers-final : (l us m : List X) → Begins (learns same l us) m → numbers same l us ≡ map (number_of same m) us
  unfolding numbers learns
  numbers-final l [] m p = refl
  numbers-final l (u ∷ us) m p =
      ap₂ ◌∷◌ (number_of-begins u (begins-trans (learns-begins (learn same l u) us) p) (learn-member l u)) (numbers-final (learn same l u) us m p)

  pub numbers-append : (l us ws : List X) → numbers same l (us ++ ws) ≡ numbers same l us ++ numbers same (learns same l us) ws
  unfolding numbers learns
  numbers-append l [] ws = refl
  numbers-append l (u ∷ us) ws = ap (λ (ns : List ℕ). number_of same (learn same l u) u ∷ ns) (numbers-append (learn same l u) us ws)

  pub numbers-length : (l us : List X) → length (numbers same l us) ≡ length us
  unfolding numbers
  numbers-length l [] = refl
  numbers-length l (u ∷ us) = ap suc (numbers-length (learn same l u) us)

  -- 1 to the count that there is in the end
  pub numbers-le : (l us : List X) (n : ℕ) → Memᴰ n (numbers same l us) → (1 ≤ n) × (n ≤ length (learns same l us))
  unfolding numbers learns
  numbers-le l [] n h = absurd (Memᴰ.not-nil h)
  numbers-le l (u ∷ us) n h = step (Memᴰ.cases_cons h) (numbers-le (learn same l u) us n)
    where
      step : (n ≡ number_of same (learn same l u) u) ⊎ Memᴰ n (numbers same (learn same l u) us)
          → (Memᴰ n (numbers same (learn same l u) us) → (1 ≤ n) × (n ≤ length (learns same (learn same l u) us)))
          → (1 ≤ n) × (n ≤ length (learns same (learn same l u) us))
      step (inl e) ih = omega (arith, e, number_of-member (learn same l u) u (learn-member l u), learns-length (learn same l u) us)
      step (inr k) ih = ih k
