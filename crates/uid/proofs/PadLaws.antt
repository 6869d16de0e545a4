-- Laws of `specs/Value.antt`, on padding. No contract cites this file. Assumes nothing.
--     trimmed-snoc, trimmed-free                  the last byte decides; no zero byte, nothing is taken off
--     length-trimmed                              it is no longer than before
--     trimmed-zero, trimmed-same                  what `trimmed` hands back
--     zero_pad-even, zero_pad-odd, length-padded      a padded text is even
--     trimmed-zero_pad, zero_pad-trimmed              the zero byte of an even value is the one that the rule asks for
use mathlib.Core.Path.{◌≡◌, refl, sym, ap, ◌∙◌}
use mathlib.Core.Bool.{Bool, true, false, true≢false}
use mathlib.Core.Logic.{◌⊎◌, inl, inr}
use Rattle.std.specs.List.{ends_with}
use Rattle.std.proofs.lemmas.Bool.Decides.{Decides-eqb}
use Rattle.std.proofs.lemmas.Slice.Eq.{ends_is}
use mathlib.Core.List.{List, [], ◌∷◌, ◌++◌, append-nil}
use Prim.Native.Nat.{ℕ, ◌+◌, ◌-◌, ◌%◌, ◌≤◌}
use native.Mathlib.Omega.{arith}
use borrow.Author.Tests.{eqb-true, eqb-false, eq-eqb, ne_eqb}
use lib.Dec.{eqb}
use lib.ListN.{length, length-append, take}
use Rattle.basis.specs.Choice.{pick}
use Rattle.basis.proofs.PiecesLaws.{Free}
use Rattle.uid.specs.Value.{trimmed, zero_pad}

-- ---- trimmed

pub trimmed-snoc : (t : List ℕ) (x : ℕ) → trimmed (t ++ x ∷ []) ≡ pick (eqb x 0) t (t ++ x ∷ [])
unfolding trimmed
trimmed-snoc [] x = refl
trimmed-snoc (y ∷ []) x = step (eqb x 0)
  where
    step : (b : Bool) → y ∷ pick b [] (x ∷ []) ≡ pick b (y ∷ []) (y ∷ x ∷ [])
    step true = refl
    step false = refl
trimmed-snoc (y ∷ z ∷ t) x = ap (λ u. y ∷ u) (trimmed-snoc (z ∷ t) x) ∙ step (eqb x 0)
  where
    step : (b : Bool) → y ∷ pick b (z ∷ t) (z ∷ (t ++ x ∷ [])) ≡ pick b (y ∷ z ∷ t) (y ∷ z ∷ (t ++ x ∷ []))
    step true = refl
    step false = refl

pub trimmed-free : (t : List ℕ) → Free 0 t → trimmed t ≡ t
unfolding trimmed
trimmed-free [] f = refl
trimmed-free (x ∷ []) f = rw (ne_eqb x 0 f.0) refl
trimmed-free (x ∷ y ∷ t) f = ap (λ u. x ∷ u) (trimmed-free (y ∷ t) f.1)

-- nothing is taken off, or one zero byte
trimmed-off : (v : List ℕ) → (trimmed v ≡ v) ⊎ (v ≡ trimmed v ++ 0 ∷ [])
unfolding trimmed
trimmed-off [] = inl refl
trimmed-off (x ∷ []) = step (eqb x 0) refl
  where
    step : (b : Bool) → eqb x 0 ≡ b → (pick b [] (x ∷ []) ≡ x ∷ []) ⊎ (x ∷ [] ≡ pick b [] (x ∷ []) ++ 0 ∷ [])
    step true e = inr (ap (λ y. y ∷ []) (eqb-true x 0 e))
    step false e = inl refl
trimmed-off (x ∷ y ∷ v) = step (trimmed-off (y ∷ v))
  where
    step : (trimmed (y ∷ v) ≡ y ∷ v) ⊎ (y ∷ v ≡ trimmed (y ∷ v) ++ 0 ∷ [])
        → (x ∷ trimmed (y ∷ v) ≡ x ∷ y ∷ v) ⊎ (x ∷ y ∷ v ≡ x ∷ (trimmed (y ∷ v) ++ 0 ∷ []))
    step (inl e) = inl (ap (λ u. x ∷ u) e)
    step (inr e) = inr (ap (λ u. x ∷ u) e)

pub length-trimmed : (v : List ℕ) → length (trimmed v) ≤ length v
length-trimmed v = step (trimmed-off v)
  where
    step : (trimmed v ≡ v) ⊎ (v ≡ trimmed v ++ 0 ∷ []) → length (trimmed v) ≤ length v
    step (inl e) = omega (arith, ap length e)
    step (inr e) = omega (arith, ap length e, length-append (trimmed v) (0 ∷ []))

-- where a zero byte ends the value, and where none does
module _ (v : List ℕ) {b : Bool} (is : b ≡ ends_with eqb v (0 ∷ [])) where
  pub trimmed-zero : b ≡ true → take (length v - 1) v ≡ trimmed v
  trimmed-zero e =
      let s : v ≡ take (length v - 1) v ++ 0 ∷ [] = (ends_is Decides-eqb v (0 ∷ []) b is).0 e in
      sym (ap trimmed s ∙ trimmed-snoc (take (length v - 1) v) 0)

  pub trimmed-same : b ≡ false → v ≡ trimmed v
  trimmed-same e = step (trimmed-off v)
    where
      step : (trimmed v ≡ v) ⊎ (v ≡ trimmed v ++ 0 ∷ []) → v ≡ trimmed v
      step (inl f) = sym f
      step (inr f) = absurd (true≢false (sym ((ends_is Decides-eqb v (0 ∷ []) b is).1 (trimmed v) f) ∙ e))

-- ---- zero_pad

pub zero_pad-even : (t : List ℕ) → length t % 2 ≡ 0 → zero_pad t ≡ []
unfolding zero_pad
zero_pad-even t e = rw (eq-eqb (length t % 2) 0 e) refl

pub zero_pad-odd : (t : List ℕ) → (length t % 2 ≡ 0 → ⊥) → zero_pad t ≡ 0 ∷ []
unfolding zero_pad
zero_pad-odd t n = rw (ne_eqb (length t % 2) 0 n) refl

-- even, and not much longer
pub length-padded : (t : List ℕ) → (length (t ++ zero_pad t) % 2 ≡ 0) × (length (t ++ zero_pad t) ≤ length t + 1)
length-padded t = step (eqb (length t % 2) 0) refl
  where
    step : (b : Bool) → eqb (length t % 2) 0 ≡ b → (length (t ++ zero_pad t) % 2 ≡ 0) × (length (t ++ zero_pad t) ≤ length t + 1)
    step true e =
        let h : length t % 2 ≡ 0 = eqb-true (length t % 2) 0 e in
        let k : t ++ zero_pad t ≡ t = ap (λ z. t ++ z) (zero_pad-even t h) ∙ append-nil t in
        omega (arith, ap length k)
    step false e =
        let n : (length t % 2 ≡ 0 → ⊥) = eqb-false (length t % 2) 0 e in
        let k : length (t ++ zero_pad t) ≡ length t + 1 = ap (λ z. length (t ++ z)) (zero_pad-odd t n) ∙ length-append t (0 ∷ []) in
        omega arith

pub trimmed-zero_pad : (t : List ℕ) → Free 0 t → trimmed (t ++ zero_pad t) ≡ t
trimmed-zero_pad t f = step (eqb (length t % 2) 0) refl
  where
    step : (b : Bool) → eqb (length t % 2) 0 ≡ b → trimmed (t ++ zero_pad t) ≡ t
    step true e = ap (λ z. trimmed (t ++ z)) (zero_pad-even t (eqb-true (length t % 2) 0 e)) ∙ ap trimmed (append-nil t) ∙ trimmed-free t f
    step false e = ap (λ z. trimmed (t ++ z)) (zero_pad-odd t (eqb-false (length t % 2) 0 e)) ∙ trimmed-snoc t 0

pub zero_pad-trimmed : (v : List ℕ) → length v % 2 ≡ 0 → v ≡ trimmed v ++ zero_pad (trimmed v)
zero_pad-trimmed v h = step (trimmed-off v)
  where
    step : (trimmed v ≡ v) ⊎ (v ≡ trimmed v ++ 0 ∷ []) → v ≡ trimmed v ++ zero_pad (trimmed v)
    step (inl e) = sym (ap (λ z. trimmed v ++ z) (zero_pad-even (trimmed v) (ap (λ u. length u % 2) e ∙ h)) ∙ append-nil (trimmed v) ∙ e)
    step (inr e) =
        let m : length v ≡ length (trimmed v) + 1 = ap length e ∙ length-append (trimmed v) (0 ∷ []) in
        e ∙ ap (λ z. trimmed v ++ z) (sym (zero_pad-odd (trimmed v) (λ k. omega arith)))
