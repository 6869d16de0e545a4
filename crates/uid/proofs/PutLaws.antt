-- What `put_decimal` and `put_uid` leave in the buffer. No contract cites this file. Assumes nothing.
--     put-small, put-more     one digit; the digits of a tenth of the number and one more
--     put-whole               the root, a dot and the number
use mathlib.Core.Path.{◌≡◌, sym, ap, ap₂, ◌∙◌}
use mathlib.Core.List.{List, [], ◌∷◌, ◌++◌, append_assoc}
use Prim.Native.Nat.{ℕ, ◌+◌, ◌/◌, ◌%◌, ◌≤◌, ◌<◌}
use native.Mathlib.Omega.{arith}
use lib.ListN.{length, length-append}
use Rattle.basis.specs.Text.{digit0}
use Rattle.buffer.specs.Buffer.{laid}
use Rattle.buffer.proofs.Laws.{laid-more}
use Rattle.uid.specs.Uid.{dot}
use Rattle.uid.specs.NewUid.{decimal, new_uid}
use Rattle.uid.proofs.NewUidLaws.{decimal-small, decimal-more, length-decimal-small, length-decimal-more, length-new_uid}

pub put-small : (n : ℕ) (o : List ℕ) (pos : ℕ) {p : ℕ} {o₁ o₂ : List ℕ} → n < 10 → p ≡ pos → o₁ ≡ o → o₂ ≡ laid o₁ p ((digit0 + n % 10) ∷ [])
    → (p + 1 ≡ pos + length (decimal n)) × (o₂ ≡ laid o pos (decimal n))
put-small n o pos {p} {o₁} {o₂} h e f g =
    let d : n % 10 ≡ n = omega arith in
    (omega (arith, length-decimal-small n h), g ∙ ap₂ (λ l k. laid l k ((digit0 + n % 10) ∷ [])) f e ∙ ap (λ k. laid o pos ((digit0 + k) ∷ [])) d ∙ ap (laid o pos) (sym (decimal-small n h)))

pub put-more : (n : ℕ) (o : List ℕ) (pos : ℕ) {p : ℕ} {o₁ o₂ : List ℕ} → 10 ≤ n
    → p ≡ pos + length (decimal (n / 10)) → o₁ ≡ laid o pos (decimal (n / 10)) → o₂ ≡ laid o₁ p ((digit0 + n % 10) ∷ [])
    → (p + 1 ≡ pos + length (decimal n)) × (o₂ ≡ laid o pos (decimal n))
put-more n o pos h e f g =
    (omega (arith, length-decimal-more n h, e), laid-more o pos (decimal (n / 10)) ((digit0 + n % 10) ∷ []) f e g ∙ ap (laid o pos) (sym (decimal-more n h)))

pub put-whole : (root : List ℕ) (n : ℕ) (o : List ℕ) (pos p r : ℕ) (o₁ o₂ o₃ : List ℕ)
    → (p ≡ pos + length root) × (o₁ ≡ laid o pos root) → o₂ ≡ laid o₁ p (dot ∷ [])
    → (r ≡ p + 1 + length (decimal n)) × (o₃ ≡ laid o₂ (p + 1) (decimal n))
    → (r ≡ pos + length (new_uid root n)) × (o₃ ≡ laid o pos (new_uid root n))
unfolding new_uid
put-whole root n o pos p r o₁ o₂ o₃ e f g =
    let i : o₂ ≡ laid o pos (root ++ dot ∷ []) =
    laid-more o pos root (dot ∷ []) e.1 e.0 f in
    let j : o₃ ≡ laid o pos ((root ++ dot ∷ []) ++ decimal n) =
    laid-more o pos (root ++ dot ∷ []) (decimal n) i (omega (arith, e.0, length-append root (dot ∷ []))) g.1 in
    (omega (arith, e.0, g.0, length-new_uid root n), j ∙ ap (laid o pos) (append_assoc root (dot ∷ []) (decimal n)))
