-- Laws of `specs/Bytes.antt`. No contract cites this file. Assumes nothing.
--     part-none       nothing stands between a place and itself
--     part-all        the part from the first place to the end is the whole
--     length-part     a part is as long as the distance of its ends
--     part-more       one byte more at the end
--     part-part       two parts next to each other are one
--     part-cons       a part that is not empty: its first byte, and the rest
--     part-front      the front of a part
--     part-last       the last byte of a part
use mathlib.Core.Path.{◌≡◌, ap, ◌∙◌}
use mathlib.Core.List.{List, [], ◌∷◌, ◌++◌}
use Prim.Native.Nat.{ℕ, suc, ◌+◌, ◌-◌, ◌≤◌, ◌<◌}
use native.Mathlib.Omega.{arith}
use lib.ListN.{length, take, drop, get_or, length-drop}
use lib.Seq.{length-take-le, take-suc, take-add, take-take, take-length, drop-drop, get_or-take, get_or-drop}
use Rattle.basis.specs.Bytes.{part}

-- ---- part

pub part-none : (s : List ℕ) (a : ℕ) → part s a a ≡ []
part-none s a = let e : a - a ≡ 0 = omega arith in rw e

pub part-all : (s : List ℕ) → part s 0 (length s) ≡ s
part-all s = let z : length s - 0 ≡ length s = omega arith in ap (λ n. take n s) z ∙ take-length s

pub length-part : (s : List ℕ) (a e : ℕ) → e ≤ length s → length (part s a e) ≡ e - a
length-part s a e le = length-take-le (e - a) (drop a s) (simp length-drop (omega arith))

pub part-more : (s : List ℕ) (a i : ℕ) → a ≤ i → i < length s → part s a (i + 1) ≡ part s a i ++ get_or s i 0 ∷ []
part-more s a i le lt =
    let e : i + 1 - a ≡ suc (i - a) = omega arith in
    let f : a + (i - a) ≡ i = omega arith in
    let l : i - a < length (drop a s) = simp length-drop (omega arith) in
    ap (λ n. take n (drop a s)) e
    ∙ take-suc (drop a s) (i - a) 0 l
    ∙ ap (λ x. part s a i ++ x ∷ []) (get_or-drop a s (i - a) 0 ∙ ap (λ n. get_or s n 0) f)

pub part-part : (s : List ℕ) (a b e : ℕ) → a ≤ b → b ≤ e → part s a e ≡ part s a b ++ part s b e
part-part s a b e h k =
    let f : e - a ≡ (b - a) + (e - b) = omega arith in
    let g : a + (b - a) ≡ b = omega arith in
    ap (λ n. take n (drop a s)) f
    ∙ take-add (b - a) (e - b) (drop a s)
    ∙ ap (λ z. part s a b ++ take (e - b) z) (drop-drop (b - a) a s ∙ ap (λ n. drop n s) g)

pub part-cons : (s : List ℕ) (a e : ℕ) → a < e → e ≤ length s → part s a e ≡ get_or s a 0 ∷ part s (a + 1) e
part-cons s a e h k =
    part-part s a (a + 1) e (omega arith) (omega arith)
    ∙ ap (λ z. z ++ part s (a + 1) e) (part-more s a a (omega arith) (omega arith) ∙ ap (λ z. z ++ get_or s a 0 ∷ []) (part-none s a))

pub part-front : (s : List ℕ) (a e n : ℕ) → a + n ≤ e → take n (part s a e) ≡ part s a (a + n)
part-front s a e n h =
    let f : n ≡ a + n - a = omega arith in
    take-take n (e - a) (drop a s) (omega arith) ∙ ap (λ m. take m (drop a s)) f

pub part-last : (s : List ℕ) (a e : ℕ) → a < e → e ≤ length s → get_or (part s a e) (length (part s a e) - 1) 0 ≡ get_or s (e - 1) 0
part-last s a e h k =
    let f : length (part s a e) - 1 ≡ e - 1 - a = omega (arith, length-part s a e k) in
    let g : a + (e - 1 - a) ≡ e - 1 = omega arith in
    ap (λ n. get_or (part s a e) n 0) f ∙ get_or-take (e - a) (drop a s) (e - 1 - a) 0 (omega arith)
    ∙ get_or-drop a s (e - 1 - a) 0 ∙ ap (λ n. get_or s n 0) g
