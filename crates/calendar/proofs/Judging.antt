-- The loop of `date_fault`. No contract cites this file. Assumes nothing.
--     judge-nothing        an empty value
--     Judging              what is known where a piece begins: the value is refused exactly where one of the pieces left is
--     judge-start          it is known at the first piece
--     judge-cut            where the piece ends
--     judge-bad, judge-last, judge-on    its date can't be moved; it can, and the piece is the last, or it is not
use mathlib.Core.Path.{◌≡◌, refl, sym, ap, ◌∙◌}
use mathlib.Core.Bool.{Bool, true, false, not, ◌&&◌}
use Rattle.std.specs.Prelude.{Option, None, Some}
use Rattle.std.specs.Option.{is_some as found}
use mathlib.Core.List.{List, [], ◌∷◌}
use Prim.Native.Nat.{ℕ, ◌+◌, ◌≤◌, ◌<◌}
use native.Mathlib.Omega.{arith}
use lib.IntN.{ℤ}
use lib.ListN.{length}
use Rattle.basis.specs.Choice.{fork, is_some, is_none}
use Rattle.basis.specs.Bytes.{part}
use Rattle.basis.specs.Pieces.{pieces, piece_end}
use Rattle.basis.proofs.PieceEndLaws.{PieceEnd, piece_end-is}
use Rattle.calendar.specs.Text.{moved_date}
use Rattle.calendar.specs.Values.{dates_end, date_pieces, shifted_text, all_move, shifted_value}
use Rattle.calendar.specs.declared.Date.{Date}
use Rattle.calendar.proofs.ValuesLaws.{dates-upto, dates-take, shifted_value-nil}

pub judge-nothing : (da : Bool) (v : List ℕ) (days : ℤ) → length v ≡ 0 → false ≡ is_none (shifted_value da days v)
judge-nothing da [] days e = sym (ap is_none (shifted_value-nil da days))
judge-nothing da (x ∷ v) days e = absurd (omega arith)

refused-is : (da : Bool) (days : ℤ) (v : List ℕ) → 0 < length v → is_none (shifted_value da days v) ≡ not (all_move da days (date_pieces da v))
unfolding shifted_value
refused-is da days [] l = absurd (omega arith)
refused-is da days (x ∷ v) l = go (all_move da days (date_pieces da (x ∷ v)))
  where
    go : (b : Bool) → is_none (fork b (λ _. Some (shifted_text da days (x ∷ v))) (λ _. None)) ≡ not b
    go true = refl
    go false = refl

-- the test of `Choice` and std's are one
found-is : (o : Option Date) → is_some o ≡ found o
found-is None = refl
found-is (Some d) = refl

pub record Judging (da : Bool) (v : List ℕ) (days : ℤ) (stop a : ℕ) : Type 0 where
  pub hi : a ≤ stop
  pub upto : stop ≤ length v
  pub left : is_none (shifted_value da days v) ≡ not (all_move da days (pieces (part v a stop)))

pub judge-start : (da : Bool) (v : List ℕ) (days : ℤ) {stop : ℕ} → 0 < length v → stop ≡ dates_end da v → Judging da v days stop 0
judge-start da v days {stop} l e = record {
  hi = omega arith;
  upto = dates-upto da v stop e;
  left = refused-is da days v l ∙ ap (λ u. not (all_move da days (pieces u))) (dates-take da v stop e);
}

module _ {da : Bool} {v : List ℕ} {days : ℤ} {stop a b : ℕ} (g : Judging da v days stop a) (e : b ≡ piece_end v a stop) where
  pub judge-cut : PieceEnd v a stop b
  judge-cut = piece_end-is v a stop g.hi g.upto b e

  module _ {o : Option Date} (m : o ≡ moved_date da days (part v a b)) where
    left-is : is_none (shifted_value da days v) ≡ not (found o && all_move da days judge-cut.others)
    unfolding all_move
    left-is =
        g.left ∙ ap (λ us. not (all_move da days us)) judge-cut.cut
        ∙ ap (λ t. not (t && all_move da days judge-cut.others)) (ap is_some (sym m) ∙ found-is o)

    pub judge-bad : found o ≡ false → true ≡ is_none (shifted_value da days v)
    judge-bad f = sym (left-is ∙ ap (λ t. not (t && all_move da days judge-cut.others)) f)

    module _ (f : found o ≡ true) where
      left-others : is_none (shifted_value da days v) ≡ not (all_move da days judge-cut.others)
      left-others = left-is ∙ ap (λ t. not (t && all_move da days judge-cut.others)) f

      pub judge-last : b ≡ stop → false ≡ is_none (shifted_value da days v)
      unfolding all_move
      judge-last at = sym (left-others ∙ ap (λ us. not (all_move da days us)) (judge-cut.last at))

      pub judge-on : b < stop → Judging da v days stop (b + 1)
      judge-on l = record {
        hi = omega arith;
        upto = g.upto;
        left = left-others ∙ ap (λ us. not (all_move da days us)) (judge-cut.more l);
      }
