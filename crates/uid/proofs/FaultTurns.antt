-- The loop of `uids_fault`: what holds at its head, and each way on or out of it. No contract cites this file. Assumes nothing.
--     few_uids i us           us, with i before them, are no more than there may be, and each is a UID
--     fault-none, fault-odd   before the loop: no byte; an odd length
--     Judging                 at its head
--     fault-start, fault-over, fault-bad, fault-long, fault-last, fault-inside, fault-go
use mathlib.Core.Path.{◌≡◌, refl, sym, ap, ap₂, ◌∙◌}
use mathlib.Core.Bool.{Bool, true, false, not, ◌&&◌, and-false}
use Rattle.std.specs.Prelude.{None, Some}
use mathlib.Core.List.{List, [], ◌∷◌}
use Prim.Native.Nat.{ℕ, ◌+◌, ◌%◌, ◌≤◌, ◌<◌}
use native.Mathlib.Omega.{arith}
use borrow.Author.Tests.{le-leb, lt-leb}
use lib.Dec.{leb}
use lib.ListN.{length, length-append}
use Rattle.basis.specs.Choice.{pick, every, is_none}
use Rattle.basis.specs.Bytes.{part}
use Rattle.basis.specs.Pieces.{backslash, pieces, first_piece}
use Rattle.basis.proofs.BytesLaws.{part-all}
use Rattle.basis.proofs.PiecesLaws.{pieces-some}
use Rattle.basis.proofs.PieceEndLaws.{Cuts, whole, cut, cuts, PieceEnd, piece_end-is, pieces-more}
use Rattle.uid.specs.Uid.{formed, is_uid, longest_uid}
use Rattle.uid.specs.Value.{most_uids, if_uids, trimmed, uids_of, uids_fault}
use Rattle.uid.specs.Scan.{uid_span}
use Rattle.uid.proofs.UidLaws.{UidIs, uid_upto-is, uid_upto-from, uid_upto-formed}
use Rattle.uid.proofs.ScanLaws.{span-good, span-bad}
use Rattle.uid.proofs.ValueLaws.{uids_of-some, uids_of-odd}

abbrev pub few_uids : ℕ → List (List ℕ) → Bool
few_uids i us = leb (i + length us) most_uids && every is_uid us

-- ---- before the loop

pub fault-none : (v : List ℕ) → length v ≡ 0 → false ≡ uids_fault v
unfolding uids_of
fault-none [] h = refl
fault-none (x ∷ v) h = absurd (omega arith)

pub fault-odd : (v : List ℕ) → (length v % 2 ≡ 0 → ⊥) → true ≡ uids_fault v
fault-odd v n = sym (ap is_none (uids_of-odd v n))

-- ---- the first piece is a UID, or not

spans : (v : List ℕ) → 0 < uid_span v → formed (first_piece v) ≡ true
spans v h = step (formed (first_piece v)) refl
  where
    step : (b : Bool) → formed (first_piece v) ≡ b → b ≡ true
    step true e = refl
    step false e = absurd (omega (arith, span-bad v e))

first-not : (v : List ℕ) → (is_uid (first_piece v) ≡ true → ⊥) → (i : ℕ) → few_uids i (pieces v) ≡ false
unfolding every
first-not v not-uid i = step (is_uid (first_piece v)) refl (cuts v)
  where
    heads : (us : List (List ℕ)) → pieces v ≡ first_piece v ∷ us → is_uid (first_piece v) ≡ false → few_uids i (pieces v) ≡ false
    heads us e f = ap (few_uids i) e ∙ ap (λ b. leb (i + length (first_piece v ∷ us)) most_uids && (b && every is_uid us)) f ∙ and-false (leb (i + length (first_piece v ∷ us)) most_uids)

    step : (b : Bool) → is_uid (first_piece v) ≡ b → Cuts v → few_uids i (pieces v) ≡ false
    step true e c = absurd (not-uid e)
    step false e (whole f g h) = heads [] (h ∙ ap (λ u. u ∷ []) (sym g)) e
    step false e (cut r is f h) = heads (pieces r) h e

-- ---- the loop

-- at the head, where i UIDs were passed: the value breaks the rule exactly where they and the pieces of the rest are more than there may
-- be, or one of those is no UID
pub record Judging (v rest : List ℕ) (i : ℕ) : Type 0 where
  pub told : uids_fault v ≡ not (few_uids i (pieces rest))

pub fault-start : (v rest : List ℕ) → 0 < length v → length v % 2 ≡ 0 → rest ≡ trimmed v → Judging v rest 0
unfolding if_uids
fault-start v rest some even trim = record {
  told =
      ap is_none (uids_of-some v some even ∙ ap (λ t. if_uids (pieces t)) (sym trim))
      ∙ turn (pieces rest) (leb (length (pieces rest)) most_uids && every is_uid (pieces rest))
      ∙ ap (λ n. not (leb n most_uids && every is_uid (pieces rest))) (omega arith);
}
  where
    turn : (us : List (List ℕ)) (b : Bool) → is_none (pick b (Some us) None) ≡ not b
    turn us true = refl
    turn us false = refl

module _ {v rest : List ℕ} {i : ℕ} (w : Judging v rest i) where
  broken : few_uids i (pieces rest) ≡ false → true ≡ uids_fault v
  broken e = sym (w.told ∙ ap not e)

  -- as many as there may be, and more
  pub fault-over : most_uids ≤ i → true ≡ uids_fault v
  fault-over h = broken (ap (λ b. b && every is_uid (pieces rest)) (lt-leb (i + length (pieces rest)) most_uids (omega (arith, pieces-some rest))))

  module _ {n : ℕ} (is : n ≡ uid_span rest) where
    -- where the first piece is a UID, the span is its length
    sized : is_uid (first_piece rest) ≡ true → (uid_span rest ≡ length (first_piece rest)) × UidIs longest_uid (first_piece rest)
    sized u = (span-good rest (uid_upto-formed longest_uid (first_piece rest) u), uid_upto-is longest_uid (first_piece rest) u)

    pub fault-bad : n ≡ 0 → true ≡ uids_fault v
    fault-bad k = broken (first-not rest (λ u. omega (arith, (sized u).0, (sized u).1.some)) i)

    pub fault-long : longest_uid < n → true ≡ uids_fault v
    fault-long k = broken (first-not rest (λ u. omega (arith, (sized u).0, (sized u).1.upto)) i)

    module _ (new : (n ≡ 0 → ⊥)) (short : n ≤ longest_uid) (some_left : i < most_uids) where
      shaped : formed (first_piece rest) ≡ true
      shaped = spans rest (omega arith)

      size : n ≡ length (first_piece rest)
      size = is ∙ span-good rest shaped

      uid : is_uid (first_piece rest) ≡ true
      uid = uid_upto-from longest_uid (first_piece rest) (omega (arith, size)) shaped

      pub fault-last : n ≡ length rest → false ≡ uids_fault v
      unfolding every
      fault-last k = step (cuts rest)
        where
          step : Cuts rest → false ≡ uids_fault v
          step (whole f e h) =
              sym (w.told ∙ ap not (ap (few_uids i) (h ∙ ap (λ u. u ∷ []) (sym e)) ∙ ap₂ (λ b c. b && (c && true)) (le-leb (i + 1) most_uids (omega arith)) uid))
          step (cut r e f h) = absurd (omega (arith, size, ap length e, length-append (first_piece rest) (backslash ∷ r)))

      pub fault-inside : (n ≡ length rest → ⊥) → n < length rest
      fault-inside before = step (cuts rest)
        where
          step : Cuts rest → n < length rest
          step (whole f e h) = absurd (omega (arith, size, ap length e))
          step (cut r e f h) = omega (arith, size, ap length e, length-append (first_piece rest) (backslash ∷ r))

      pub fault-go : (n ≡ length rest → ⊥) → Judging v (part rest (n + 1) (length rest)) (i + 1)
      unfolding every
      fault-go before =
          let p : pieces rest ≡ part rest 0 n ∷ pieces (part rest (n + 1) (length rest)) = ap pieces (sym (part-all rest)) ∙ pieces-more ends (fault-inside before) in
          let u : is_uid (part rest 0 n) ≡ true = ap is_uid (sym ends.first ∙ ap first_piece (part-all rest)) ∙ uid in
          record {
            told =
                w.told
                ∙ ap not (ap (few_uids i) p ∙ ap₂ (λ k b. leb k most_uids && (b && every is_uid (pieces (part rest (n + 1) (length rest))))) (omega arith) u);
          }
        where
          ends : PieceEnd rest 0 (length rest) n
          ends = piece_end-is rest 0 (length rest) (omega arith) (omega arith) n (omega (arith, size, ap (λ v. length (first_piece v)) (part-all rest)))
