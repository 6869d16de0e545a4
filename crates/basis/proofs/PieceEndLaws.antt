-- Laws of `first_piece` and `piece_end` of `specs/Pieces.antt`. No contract cites this file. Assumes nothing.
--     first_piece-cons, first_piece-none, first_piece-stop, first_piece-append    the first piece, byte by byte
--     Cuts, cuts                               a text is one piece, or a piece, a backslash and the rest
--     PieceEnd, piece_end-is                   what the end of a piece shows of the pieces
--     pieces-last, pieces-more                 the piece is the last; others follow it
--     piece-found                              what the search for a backslash finds is where the first piece ends
use mathlib.Core.Path.{◌≡◌, refl, sym, ap, ◌∙◌, subst}
use mathlib.Core.Bool.{Bool, true, false, not}
use mathlib.Core.Logic.{◌≢◌}
use mathlib.Core.List.{List, [], ◌∷◌, ◌++◌, append_cancel_left, tail-eq_of_cons-eq}
use Prim.Native.Nat.{ℕ, suc, ◌+◌, ◌-◌, ◌≤◌, ◌<◌}
use native.Mathlib.Omega.{arith}
use borrow.Author.Tests.{eqb-true, eqb-false, ne_eqb, ltb-false}
use lib.Dec.{eqb, ltb}
use Rattle.std.proofs.Common.{cond, position, Option, Some, None}
use Rattle.std.specs.List.{position_or_len}
use Rattle.std.specs.Option.{unwrap_or}
use Rattle.std.proofs.lemmas.List.Recursion.{is_position_or_len}
use Rattle.std.proofs.lemmas.List.Sums.{prefix_len-le-length}
use lib.ListN.{length, take, get_or, length-append}
use lib.Seq.{take-append_seam}
use Rattle.basis.specs.Bytes.{part}
use Rattle.basis.specs.Pieces.{backslash, on_first, pieces, first_piece, piece_end}
use Rattle.basis.proofs.BytesLaws.{length-part, part-part, part-cons, part-front}
use Rattle.basis.proofs.PiecesLaws.{Free, pieces-some}

-- ---- first_piece

pub first_piece-cons : (x : ℕ) (v : List ℕ) → x ≢ backslash → first_piece (x ∷ v) ≡ x ∷ first_piece v
unfolding pieces
first_piece-cons x v n = rw (ne_eqb x backslash n) (step (pieces v) (pieces-some v))
  where
    step : (us : List (List ℕ)) → 0 < length us → get_or (on_first x us) 0 [] ≡ x ∷ get_or us 0 []
    step [] h = absurd (omega arith)
    step (u ∷ us) h = refl

pub first_piece-none : first_piece [] ≡ []
unfolding pieces
first_piece-none = refl

pub first_piece-stop : (v : List ℕ) → first_piece (backslash ∷ v) ≡ []
unfolding pieces
first_piece-stop v = refl

pub first_piece-append : (p r : List ℕ) → Free backslash p → first_piece (p ++ r) ≡ p ++ first_piece r
first_piece-append [] r f = refl
first_piece-append (x ∷ p) r f = first_piece-cons x (p ++ r) f.0 ∙ ap (λ u. x ∷ u) (first_piece-append p r f.1)

-- a text is one piece, or a piece, a backslash and the rest
pub data Cuts (v : List ℕ) : Type 0 where
  whole : Free backslash v → first_piece v ≡ v → pieces v ≡ v ∷ [] → Cuts v
  cut : (r : List ℕ) → v ≡ first_piece v ++ backslash ∷ r → Free backslash (first_piece v) → pieces v ≡ first_piece v ∷ pieces r → Cuts v

pub cuts : (v : List ℕ) → Cuts v
unfolding pieces
cuts [] = whole tt refl refl
cuts (x ∷ v) = step (eqb x backslash) refl (cuts v)
  where
    step : (b : Bool) → eqb x backslash ≡ b → Cuts v → Cuts (x ∷ v)
    step true e c =
        let f : x ≡ backslash = eqb-true x backslash e in
        rw f (cut v refl tt refl)
    step false e (whole f g h) =
        let n : x ≢ backslash = eqb-false x backslash e in
        let p : first_piece (x ∷ v) ≡ x ∷ first_piece v = first_piece-cons x v n in
        whole (n, f) (p ∙ ap (λ u. x ∷ u) g) (rw e (ap (on_first x) h))
    step false e (cut r is f h) =
        let n : x ≢ backslash = eqb-false x backslash e in
        let p : first_piece (x ∷ v) ≡ x ∷ first_piece v = first_piece-cons x v n in
        cut r (ap (λ u. x ∷ u) is ∙ ap (λ u. u ++ backslash ∷ r) (sym p)) (subst (Free backslash) (sym p) (n, f)) (rw e (ap (on_first x) h) ∙ ap (λ u. u ∷ pieces r) (sym p))

-- ---- piece_end

-- the piece of s that begins at a ends at b, and these are the others up to stop
pub record PieceEnd (s : List ℕ) (a stop b : ℕ) : Type 0 where
  pub from : a ≤ b
  pub upto : b ≤ stop
  pub free : Free backslash (part s a b)
  pub first : first_piece (part s a stop) ≡ part s a b
  pub others : List (List ℕ)
  pub cut : pieces (part s a stop) ≡ part s a b ∷ others
  pub last : b ≡ stop → others ≡ []
  pub more : b < stop → others ≡ pieces (part s (b + 1) stop)

module _ {s : List ℕ} {a stop b : ℕ} (q : PieceEnd s a stop b) where
  pub pieces-last : b ≡ stop → pieces (part s a stop) ≡ part s a b ∷ []
  pieces-last e = q.cut ∙ ap (λ us. part s a b ∷ us) (q.last e)

  pub pieces-more : b < stop → pieces (part s a stop) ≡ part s a b ∷ pieces (part s (b + 1) stop)
  pieces-more lt = q.cut ∙ ap (λ us. part s a b ∷ us) (q.more lt)

module _ (s : List ℕ) (a stop : ℕ) (le : a ≤ stop) (in_s : stop ≤ length s) where
  at-end : Free backslash (part s a stop) → first_piece (part s a stop) ≡ part s a stop → pieces (part s a stop) ≡ part s a stop ∷ [] → PieceEnd s a stop stop
  at-end f e h = record { from = le; upto = omega arith; free = f; first = e; others = []; cut = h; last = λ k. refl; more = λ k. absurd (omega arith) }

  at-mark : (b : ℕ) (p r : List ℕ) → b ≡ a + length p → part s a stop ≡ p ++ backslash ∷ r → Free backslash p → first_piece (part s a stop) ≡ p
      → pieces (part s a stop) ≡ p ∷ pieces r → PieceEnd s a stop b
  at-mark b p r is e f g h =
      let m : length (part s a stop) ≡ stop - a = length-part s a stop in_s in
      let n : length (p ++ backslash ∷ r) ≡ length p + suc (length r) = length-append p (backslash ∷ r) in
      let lt : b < stop = omega (arith, ap length e) in
      let q : part s a b ≡ p =
      ap (part s a) is ∙ sym (part-front s a stop (length p) (omega arith)) ∙ ap (take (length p)) e ∙ take-append_seam p (backslash ∷ r) in
      let t : get_or s b 0 ∷ part s (b + 1) stop ≡ backslash ∷ r =
      append_cancel_left p (get_or s b 0 ∷ part s (b + 1) stop) (backslash ∷ r)
      (ap (λ z. z ++ get_or s b 0 ∷ part s (b + 1) stop) (sym q) ∙ ap (λ z. part s a b ++ z) (sym (part-cons s b stop lt in_s))
      ∙ sym (part-part s a b stop (omega arith) (omega arith)) ∙ e) in
      record {
        from = omega arith;
        upto = omega arith;
        free = subst (Free backslash) (sym q) f;
        first = g ∙ sym q;
        others = pieces (part s (b + 1) stop);
        cut = h ∙ ap (λ z. z ∷ pieces r) (sym q) ∙ ap (λ z. part s a b ∷ pieces z) (sym (tail-eq_of_cons-eq t));
        last = λ k. absurd (omega arith);
        more = λ k. refl;
      }

  pub piece_end-is : (b : ℕ) → b ≡ piece_end s a stop → PieceEnd s a stop b
  piece_end-is b is = step (cuts (part s a stop))
    where
      step : Cuts (part s a stop) → PieceEnd s a stop b
      step (whole f e h) =
          let k : b ≡ stop = is ∙ omega (arith, ap length e, length-part s a stop in_s) in
          subst (λ z. PieceEnd s a stop z) (sym k) (at-end f e h)
      step (cut r e f h) = at-mark b (first_piece (part s a stop)) r is e f refl h

-- ---- the search for the end of a piece

first_piece-place : (v : List ℕ) → length (first_piece v) ≡ position_or_len (λ x. eqb x backslash) v
first_piece-place v = is_position_or_len (λ u. length (first_piece u)) (λ x. eqb x backslash) (ap length first_piece-none) (λ x u. step x u (eqb x backslash) refl) v
  where
    step : (x : ℕ) (u : List ℕ) (b : Bool) → eqb x backslash ≡ b → length (first_piece (x ∷ u)) ≡ cond b 0 (1 + length (first_piece u))
    step x u true e = ap (λ y. length (first_piece (y ∷ u))) (eqb-true x backslash e) ∙ ap length (first_piece-stop u)
    step x u false e = ap length (first_piece-cons x u (eqb-false x backslash e)) ∙ omega arith

-- the place of the first backslash, else the end
pub piece-found : (v : List ℕ) {found : Option ℕ} → found ≡ position (λ x. eqb x backslash) v → unwrap_or found (length v) ≡ length (first_piece v)
piece-found v e =
    ap (λ o. unwrap_or o (length v)) e
    ∙ step (position_or_len (λ x. eqb x backslash) v) (first_piece-place v) (prefix_len-le-length (λ x. not (eqb x backslash)) v) (ltb (position_or_len (λ x. eqb x backslash) v) (length v)) refl
  where
    step : (i : ℕ) → length (first_piece v) ≡ i → i ≤ length v → (b : Bool) → ltb i (length v) ≡ b → unwrap_or (cond b (Some i) None) (length v) ≡ length (first_piece v)
    step i is le true lt = sym is
    step i is le false lt = omega (arith, ltb-false i (length v) lt)
