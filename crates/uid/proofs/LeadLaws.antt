-- The front of a text that is a component, as `component_len` finds it. No contract cites this file. Assumes nothing.
--     lead-zero      a zero is a component
--     lead-digits    where no zero leads, the digits are: up to the first byte that is none
use mathlib.Core.Path.{◌≡◌, refl, sym, ap, ◌∙◌}
use mathlib.Core.Bool.{Bool, true, false, not, false≢true, and-true}
use mathlib.Core.List.{List, [], ◌∷◌}
use Prim.Native.Nat.{ℕ, suc, ◌+◌, ◌≤◌}
use native.Mathlib.Omega.{arith}
use borrow.Author.Tests.{ltb-false, eqb-true, eqb-false, eq-eqb, ne_eqb}
use lib.Dec.{eqb, ltb}
use lib.ListN.{length}
use Rattle.std.proofs.Common.{cond, position, Option, Some, None}
use Rattle.std.specs.List.{position_or_len, starts_with}
use Rattle.std.specs.Option.{unwrap_or}
use Rattle.std.proofs.lemmas.List.Recursion.{is_position_or_len}
use Rattle.std.proofs.lemmas.List.Sums.{prefix_len-le-length}
use Rattle.basis.specs.Choice.{pick, fork}
use Rattle.basis.specs.Text.{digit0, is_digit}
use Rattle.basis.proofs.ChoiceLaws.{both-true}
use Rattle.uid.specs.Scan.{digits, lead}

digits-place : (v : List ℕ) → digits v ≡ position_or_len (λ x. not (is_digit x)) v
unfolding digits
digits-place = is_position_or_len digits (λ x. not (is_digit x)) refl (λ x v. step (is_digit x) v)
  where
    step : (b : Bool) (v : List ℕ) → fork b (λ _. suc (digits v)) (λ _. 0) ≡ cond (not b) 0 (1 + digits v)
    step true v = omega arith
    step false v = refl

digits-found : (v : List ℕ) {found : Option ℕ} → found ≡ position (λ x. not (is_digit x)) v → unwrap_or found (length v) ≡ digits v
digits-found v e =
    ap (λ o. unwrap_or o (length v)) e
    ∙ step (position_or_len (λ x. not (is_digit x)) v) (digits-place v) (prefix_len-le-length (λ x. not (not (is_digit x))) v) (ltb (position_or_len (λ x. not (is_digit x)) v) (length v)) refl
  where
    step : (i : ℕ) → digits v ≡ i → i ≤ length v → (b : Bool) → ltb i (length v) ≡ b → unwrap_or (cond b (Some i) None) (length v) ≡ digits v
    step i is le true lt = sym is
    step i is le false lt = omega (arith, ltb-false i (length v) lt)

zero-leads : (v : List ℕ) → starts_with eqb v (digit0 ∷ []) ≡ true → lead v ≡ 1
unfolding lead
zero-leads [] h = absurd (false≢true h)
zero-leads (x ∷ v) h =
    let z : x ≡ digit0 = sym (eqb-true digit0 x (both-true (eqb digit0 x) true h).0) in
    ap (λ b. pick b 1 (digits (x ∷ v))) (eq-eqb x digit0 z)

other-leads : (v : List ℕ) → starts_with eqb v (digit0 ∷ []) ≡ false → lead v ≡ digits v
unfolding lead digits
other-leads [] h = refl
other-leads (x ∷ v) h =
    let n : eqb x digit0 ≡ false = ne_eqb x digit0 (λ z. eqb-false digit0 x (sym (and-true (eqb digit0 x)) ∙ h) (sym z)) in
    ap (λ b. pick b 1 (digits (x ∷ v))) n

pub lead-zero : (v : List ℕ) {b : Bool} → b ≡ starts_with eqb v (digit0 ∷ []) → b ≡ true → 1 ≡ lead v
lead-zero v e is = sym (zero-leads v (sym e ∙ is))

pub lead-digits : (v : List ℕ) {b : Bool} {found : Option ℕ} → b ≡ starts_with eqb v (digit0 ∷ []) → b ≡ false → found ≡ position (λ x. not (is_digit x)) v
    → unwrap_or found (length v) ≡ lead v
lead-digits v e isnt f = digits-found v f ∙ sym (other-leads v (sym e ∙ isnt))
