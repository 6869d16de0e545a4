-- Laws of `specs/Uid.antt`. No contract cites this file. Assumes nothing.
--     every-free                          what is no digit does not stand among digits
--     component-digits                    a component is digits
--     components-some                     there is a component, also of nothing
--     components-append                   the components of two texts with a dot between them
--     components-one, components-dot      what has no dot is one component; and so is what stands before the first dot
--     formed-one, formed-dot, formed-append     a component; one, a dot and more; two such texts with a dot between them
--     formed-free                         what is neither a digit nor a dot does not stand in such a text
--     UidIs, uid_upto-is                  a UID has 1 character or more, no zero byte and no backslash
--     uid_upto-formed, uid_upto-from      and is such a text, of at most n characters
--     is_root-is_uid                      a root is a UID
use mathlib.Core.Path.{◌≡◌, refl, sym, ap, ◌∙◌}
use mathlib.Core.Bool.{Bool, true, false, ◌&&◌, false≢true, true≢false, and-eq-true_iff}
use mathlib.Core.Logic.{◌≢◌}
use mathlib.Core.List.{List, [], ◌∷◌, ◌++◌}
use Prim.Native.Nat.{ℕ, ◌≤◌, ◌<◌}
use native.Mathlib.Omega.{arith}
use borrow.Author.Tests.{eqb-true, ne_eqb, leb-true, le-leb}
use lib.Dec.{eqb, leb}
use lib.ListN.{length}
use Rattle.basis.specs.Choice.{pick, fork, every}
use Rattle.basis.specs.Pieces.{backslash, on_first}
use Rattle.basis.specs.Text.{is_digit, digit0}
use Rattle.basis.proofs.ChoiceLaws.{every-append}
use Rattle.basis.proofs.PiecesLaws.{Free}
use Rattle.uid.specs.Uid.{dot, component, components, formed, uid_upto, is_uid, is_root, longest_uid, longest_root}

-- ---- digits

pub every-free : (c : ℕ) → is_digit c ≡ false → (p : List ℕ) → every is_digit p ≡ true → Free c p
unfolding every
every-free c n [] e = tt
every-free c n (x ∷ p) e =
    let b = (and-eq-true_iff (is_digit x) (every is_digit p)).0 e in
    (λ is. true≢false (sym b.0 ∙ ap is_digit is ∙ n), every-free c n p b.1)

-- ---- component

pub component-digits : (p : List ℕ) → component p ≡ true → every is_digit p ≡ true
unfolding component every
component-digits [] e = refl
component-digits (x ∷ p) e = step (eqb x digit0) refl p e
  where
    step : (b : Bool) → eqb x digit0 ≡ b → (p : List ℕ) → pick b (eqb (length p) 0) (every is_digit (x ∷ p)) ≡ true → every is_digit (x ∷ p) ≡ true
    step true h [] k = let f : x ≡ digit0 = eqb-true x digit0 h in rw f refl
    step true h (y ∷ p) k = absurd (false≢true (sym (ne_eqb (length (y ∷ p)) 0 (omega arith)) ∙ k))
    step false h p k = k

-- ---- components

pub components-some : (u : List ℕ) → 0 < length (components u)
unfolding components
components-some [] = omega arith
components-some (x ∷ u) = step (eqb x dot) (components u)
  where
    step : (b : Bool) (ps : List (List ℕ)) → 0 < length (fork b (λ _. [] ∷ ps) (λ _. on_first x ps))
    step true ps = omega arith
    step false [] = omega arith
    step false (p ∷ ps) = omega arith

first-append : (x : ℕ) (ps qs : List (List ℕ)) → 0 < length ps → on_first x (ps ++ qs) ≡ on_first x ps ++ qs
first-append x [] qs h = absurd (omega arith)
first-append x (p ∷ ps) qs h = refl

pub components-append : (u w : List ℕ) → components (u ++ dot ∷ w) ≡ components u ++ components w
unfolding components
components-append [] w = refl
components-append (x ∷ u) w = step (eqb x dot) (components-append u w)
  where
    step : (b : Bool) → components (u ++ dot ∷ w) ≡ components u ++ components w
        → fork b (λ _. [] ∷ components (u ++ dot ∷ w)) (λ _. on_first x (components (u ++ dot ∷ w))) ≡ fork b (λ _. [] ∷ components u) (λ _. on_first x (components u)) ++ components w
    step true ih = ap (λ (ps : List (List ℕ)). [] ∷ ps) ih
    step false ih = ap (on_first x) ih ∙ first-append x (components u) (components w) (components-some u)

pub components-one : (p : List ℕ) → Free dot p → components p ≡ p ∷ []
unfolding components
components-one [] f = refl
components-one (x ∷ p) f = rw (ne_eqb x dot f.0) (ap (on_first x) (components-one p f.1))

pub components-dot : (p w : List ℕ) → Free dot p → components (p ++ dot ∷ w) ≡ p ∷ components w
components-dot p w f = components-append p w ∙ ap (λ ps. ps ++ components w) (components-one p f)

-- ---- formed

pub formed-one : (p : List ℕ) → component p ≡ true → formed p ≡ true
unfolding formed every
formed-one p e = rw (components-one p (every-free dot refl p (component-digits p e)), e) refl

pub formed-dot : (p w : List ℕ) → component p ≡ true → formed (p ++ dot ∷ w) ≡ formed w
unfolding formed every
formed-dot p w e = rw (components-dot p w (every-free dot refl p (component-digits p e)), e) refl

pub formed-append : (u w : List ℕ) → formed u ≡ true → formed w ≡ true → formed (u ++ dot ∷ w) ≡ true
unfolding formed
formed-append u w e f = ap (every component) (components-append u w) ∙ every-append component (components u) (components w) ∙ (and-eq-true_iff (formed u) (formed w)).1 (e, f)

-- the first component may have lost some of its digits
loose : List (List ℕ) → Bool
loose [] = true
loose (p ∷ ps) = every is_digit p && every component ps

loosen : (ps : List (List ℕ)) → every component ps ≡ true → loose ps ≡ true
unfolding loose every
loosen [] e = refl
loosen (p ∷ ps) e =
    let b = (and-eq-true_iff (component p) (every component ps)).0 e in
    (and-eq-true_iff (every is_digit p) (every component ps)).1 (component-digits p b.0, b.1)

loose-free : (c : ℕ) → is_digit c ≡ false → dot ≢ c → (u : List ℕ) → loose (components u) ≡ true → Free c u
unfolding components loose every
loose-free c n k [] e = tt
loose-free c n k (x ∷ u) e = step (eqb x dot) refl (components u) (loose-free c n k u) e
  where
    step : (b : Bool) → eqb x dot ≡ b → (ps : List (List ℕ)) → (loose ps ≡ true → Free c u) → loose (fork b (λ _. [] ∷ ps) (λ _. on_first x ps)) ≡ true → Free c (x ∷ u)
    step true h ps ih e = (λ is. k (sym (eqb-true x dot h) ∙ is), ih (loosen ps e))
    step false h [] ih e =
        let b = (and-eq-true_iff (is_digit x && true) true).0 e in
        let d = (and-eq-true_iff (is_digit x) true).0 b.0 in
        (λ is. true≢false (sym d.0 ∙ ap is_digit is ∙ n), ih refl)
    step false h (p ∷ ps) ih e =
        let b = (and-eq-true_iff (is_digit x && every is_digit p) (every component ps)).0 e in
        let d = (and-eq-true_iff (is_digit x) (every is_digit p)).0 b.0 in
        (λ is. true≢false (sym d.0 ∙ ap is_digit is ∙ n), ih ((and-eq-true_iff (every is_digit p) (every component ps)).1 (d.1, b.1)))

pub formed-free : (c : ℕ) → is_digit c ≡ false → dot ≢ c → (u : List ℕ) → formed u ≡ true → Free c u
unfolding formed
formed-free c n k u e = loose-free c n k u (loosen (components u) e)

-- ---- uid_upto

pub record UidIs (n : ℕ) (u : List ℕ) : Type 0 where
  pub some : 1 ≤ length u
  pub upto : length u ≤ n
  pub no-zero : Free 0 u
  pub no-backslash : Free backslash u

formed-some : (u : List ℕ) → formed u ≡ true → 1 ≤ length u
unfolding formed components every component
formed-some [] e = absurd (false≢true e)
formed-some (x ∷ u) e = omega arith

pub uid_upto-is : (n : ℕ) (u : List ℕ) → uid_upto n u ≡ true → UidIs n u
uid_upto-is n u e =
    let b = (and-eq-true_iff (leb (length u) n) (formed u)).0 e in
    record {
      some = formed-some u b.1;
      upto = leb-true (length u) n b.0;
      no-zero = formed-free 0 refl (omega arith) u b.1;
      no-backslash = formed-free backslash refl (omega arith) u b.1;
    }

pub uid_upto-formed : (n : ℕ) (u : List ℕ) → uid_upto n u ≡ true → formed u ≡ true
uid_upto-formed n u e = ((and-eq-true_iff (leb (length u) n) (formed u)).0 e).1

pub uid_upto-from : (n : ℕ) (u : List ℕ) → length u ≤ n → formed u ≡ true → uid_upto n u ≡ true
uid_upto-from n u h e = (and-eq-true_iff (leb (length u) n) (formed u)).1 (le-leb (length u) n h, e)

-- a root is a UID
pub is_root-is_uid : (u : List ℕ) → is_root u ≡ true → is_uid u ≡ true
is_root-is_uid u e = uid_upto-from longest_uid u (omega (arith, (uid_upto-is longest_root u e).upto)) (uid_upto-formed longest_root u e)
