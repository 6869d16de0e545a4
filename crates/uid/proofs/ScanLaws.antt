-- Laws of `specs/Scan.antt`, on lists. No contract cites this file. Assumes nothing.
--     digits-le, digits-take, digits-next      digits are digits, and what follows is none
--     lead-le, lead-component, lead-stops      what leads is a component, and nothing longer is
--     formed-not, formed-spoilt, lead-none     a text that begins otherwise is not formed as a UID is
--     span-good, span-bad                      the span of a first piece that is formed so, and of another
use mathlib.Core.Path.{◌≡◌, refl, sym, ap, ◌∙◌}
use mathlib.Core.Bool.{Bool, true, false, ◌&&◌, false≢true, and-eq-true_iff}
use mathlib.Core.Logic.{◌≢◌}
use mathlib.Core.List.{List, [], ◌∷◌, ◌++◌}
use Prim.Native.Nat.{ℕ, zero, suc, ◌≤◌, ◌<◌}
use native.Mathlib.Omega.{arith}
use borrow.Author.Tests.{eqb-true, eqb-false, ne_eqb}
use lib.Dec.{eqb}
use lib.ListN.{length, take, get_or}
use Rattle.basis.specs.Choice.{pick, fork, every}
use Rattle.basis.specs.Pieces.{backslash, on_first, pieces, first_piece}
use Rattle.basis.specs.Text.{is_digit, digit0}
use Rattle.basis.proofs.PieceEndLaws.{first_piece-cons, first_piece-append}
use Rattle.basis.proofs.PiecesLaws.{Free}
use Rattle.uid.specs.Uid.{dot, component, components, formed}
use Rattle.uid.specs.Scan.{uid_span, digits, lead}
use Rattle.uid.proofs.UidLaws.{every-free, component-digits, components-some}

-- ---- digits

pub digits-le : (v : List ℕ) → digits v ≤ length v
unfolding digits
digits-le [] = omega arith
digits-le (x ∷ v) = step (is_digit x) (digits-le v)
  where
    step : (b : Bool) → digits v ≤ length v → fork b (λ _. suc (digits v)) (λ _. 0) ≤ suc (length v)
    step true ih = omega arith
    step false ih = omega arith

pub digits-take : (v : List ℕ) → every is_digit (take (digits v) v) ≡ true
unfolding digits every
digits-take [] = refl
digits-take (x ∷ v) = step (is_digit x) refl (digits-take v)
  where
    step : (b : Bool) → is_digit x ≡ b → every is_digit (take (digits v) v) ≡ true → every is_digit (take (fork b (λ _. suc (digits v)) (λ _. 0)) (x ∷ v)) ≡ true
    step true e ih = (and-eq-true_iff (is_digit x) (every is_digit (take (digits v) v))).1 (e, ih)
    step false e ih = refl

pub digits-next : (v : List ℕ) → digits v < length v → is_digit (get_or v (digits v) 0) ≡ false
unfolding digits
digits-next [] h = absurd (omega arith)
digits-next (x ∷ v) h = step (is_digit x) refl (digits-next v) h
  where
    step : (b : Bool) → is_digit x ≡ b → (digits v < length v → is_digit (get_or v (digits v) 0) ≡ false) → fork b (λ _. suc (digits v)) (λ _. 0) < suc (length v)
        → is_digit (get_or (x ∷ v) (fork b (λ _. suc (digits v)) (λ _. 0)) 0) ≡ false
    step true e ih k = ih (omega arith)
    step false e ih k = e

-- ---- lead

-- digits with something else behind them are no component, whatever follows
every-not : (p : List ℕ) (x : ℕ) (c : List ℕ) → is_digit x ≡ false → every is_digit (p ++ x ∷ c) ≡ false
unfolding every
every-not [] x c e = rw e refl
every-not (y ∷ p) x c e = step (is_digit y) (every-not p x c e)
  where
    step : (b : Bool) → every is_digit (p ++ x ∷ c) ≡ false → b && every is_digit (p ++ x ∷ c) ≡ false
    step true ih = ih
    step false ih = refl

length-snoc : (p : List ℕ) (x : ℕ) (c : List ℕ) → eqb (length (p ++ x ∷ c)) 0 ≡ false
length-snoc [] x c = ne_eqb (suc (length c)) 0 (omega arith)
length-snoc (y ∷ p) x c = ne_eqb (suc (length (p ++ x ∷ c))) 0 (omega arith)

component-not : (p : List ℕ) (x : ℕ) (c : List ℕ) → is_digit x ≡ false → component (p ++ x ∷ c) ≡ false
unfolding component every
component-not [] x c e = let n : x ≢ digit0 = λ is. false≢true (sym e ∙ ap is_digit is) in rw (ne_eqb x digit0 n, e) refl
component-not (y ∷ p) x c e = step (eqb y digit0) (every-not (y ∷ p) x c e)
  where
    step : (b : Bool) → every is_digit (y ∷ (p ++ x ∷ c)) ≡ false → pick b (eqb (length (p ++ x ∷ c)) 0) (every is_digit (y ∷ (p ++ x ∷ c))) ≡ false
    step true ih = length-snoc p x c
    step false ih = ih

pub lead-le : (v : List ℕ) → lead v ≤ length v
unfolding lead
lead-le [] = omega arith
lead-le (x ∷ v) = step (eqb x digit0) (digits-le (x ∷ v))
  where
    step : (b : Bool) → digits (x ∷ v) ≤ suc (length v) → pick b 1 (digits (x ∷ v)) ≤ suc (length v)
    step true h = omega arith
    step false h = h

pub lead-component : (v : List ℕ) → 0 < lead v → component (take (lead v) v) ≡ true
unfolding lead component
lead-component [] h = absurd (omega arith)
lead-component (x ∷ v) h = step (eqb x digit0) refl h
  where
    -- not empty, and no zero in front
    more : (n : ℕ) → eqb x digit0 ≡ false → 0 < n → every is_digit (take n (x ∷ v)) ≡ true → component (take n (x ∷ v)) ≡ true
    more zero e k f = absurd (omega arith)
    more (suc n) e k f = rw e f

    step : (b : Bool) → eqb x digit0 ≡ b → 0 < pick b 1 (digits (x ∷ v)) → component (take (pick b 1 (digits (x ∷ v))) (x ∷ v)) ≡ true
    step true e k = rw e refl
    step false e k = more (digits (x ∷ v)) e k (digits-take (x ∷ v))

pub lead-stops : (v : List ℕ) → 0 < lead v → lead v < length v → (c : List ℕ) → component (take (lead v) v ++ get_or v (lead v) 0 ∷ c) ≡ false
unfolding lead component
lead-stops [] h k c = absurd (omega arith)
lead-stops (x ∷ v) h k c = step (eqb x digit0) refl k
  where
    step : (b : Bool) → eqb x digit0 ≡ b → pick b 1 (digits (x ∷ v)) < suc (length v)
        → component (take (pick b 1 (digits (x ∷ v))) (x ∷ v) ++ get_or (x ∷ v) (pick b 1 (digits (x ∷ v))) 0 ∷ c) ≡ false
    step true e k = rw e (length-snoc [] (get_or v 0 0) c)
    step false e k = component-not (take (digits (x ∷ v)) (x ∷ v)) (get_or (x ∷ v) (digits (x ∷ v)) 0) c (digits-next (x ∷ v) k)

-- ---- formed, of what leads and what follows

-- what has no dot belongs to the first component
components-front : (p q c : List ℕ) (cs : List (List ℕ)) → Free dot p → components q ≡ c ∷ cs → components (p ++ q) ≡ (p ++ c) ∷ cs
unfolding components
components-front [] q c cs f e = e
components-front (x ∷ p) q c cs f e = rw (ne_eqb x dot f.0) (ap (on_first x) (components-front p q c cs f.1 e))

pub formed-not : (p q : List ℕ) → Free dot p → ((c : List ℕ) → component (p ++ c) ≡ false) → formed (p ++ q) ≡ false
unfolding formed every
formed-not p q f n = step (components q) refl (components-some q)
  where
    step : (ps : List (List ℕ)) → components q ≡ ps → 0 < length ps → every component (components (p ++ q)) ≡ false
    step [] e h = absurd (omega arith)
    step (c ∷ cs) e h = ap (every component) (components-front p q c cs f e) ∙ ap (λ b. b && every component cs) (n c)

snoc-append : (p : List ℕ) (x : ℕ) (c : List ℕ) → (p ++ x ∷ []) ++ c ≡ p ++ x ∷ c
snoc-append [] x c = refl
snoc-append (y ∷ p) x c = ap (λ u. y ∷ u) (snoc-append p x c)

free-snoc : (d : ℕ) (p : List ℕ) (x : ℕ) → Free d p → x ≢ d → Free d (p ++ x ∷ [])
free-snoc d [] x f n = (n, tt)
free-snoc d (y ∷ p) x f n = (f.0, free-snoc d p x f.1 n)

-- a component, and behind it what is neither a dot nor a backslash nor makes a longer one
pub formed-spoilt : (p r : List ℕ) (x : ℕ) → component p ≡ true → ((c : List ℕ) → component (p ++ x ∷ c) ≡ false) → x ≢ dot → x ≢ backslash
    → formed (first_piece (p ++ x ∷ r)) ≡ false
formed-spoilt p r x e n d b =
    let s : every is_digit p ≡ true = component-digits p e in
    ap formed (first_piece-append p (x ∷ r) (every-free backslash refl p s) ∙ ap (λ u. p ++ u) (first_piece-cons x r b) ∙ sym (snoc-append p x (first_piece r)))
    ∙ formed-not (p ++ x ∷ []) (first_piece r) (free-snoc dot p x (every-free dot refl p s) d) (λ c. ap component (snoc-append p x c) ∙ n c)

pub lead-none : (v : List ℕ) → lead v ≡ 0 → formed (first_piece v) ≡ false
unfolding lead digits pieces formed components every component
lead-none [] h = refl
lead-none (x ∷ v) h = step (eqb x digit0) refl (is_digit x) refl (eqb x backslash) refl (eqb x dot) refl h
  where
    step : (b : Bool) → eqb x digit0 ≡ b → (d : Bool) → is_digit x ≡ d → (s : Bool) → eqb x backslash ≡ s → (t : Bool) → eqb x dot ≡ t
        → pick b 1 (fork d (λ _. suc (digits v)) (λ _. 0)) ≡ 0 → formed (first_piece (x ∷ v)) ≡ false
    step true e d f s g t i h = absurd (omega arith)
    step false e true f s g t i h = absurd (omega arith)
    step false e false f true g t i h = rw g refl
    step false e false f false g true i h = let k : x ≡ dot = eqb-true x dot i in rw k (ap formed (first_piece-cons dot v (omega arith)))
    step false e false f false g false i h =
        ap formed (first_piece-cons x v (eqb-false x backslash g))
        ∙ formed-not (x ∷ []) (first_piece v) (eqb-false x dot i, tt) (λ c. component-not [] x c f)

-- ---- uid_span

pub span-good : (v : List ℕ) → formed (first_piece v) ≡ true → uid_span v ≡ length (first_piece v)
unfolding uid_span
span-good v e = rw e refl

pub span-bad : (v : List ℕ) → formed (first_piece v) ≡ false → uid_span v ≡ 0
unfolding uid_span
span-bad v e = rw e refl
