-- The loop of `put_shifted`, and the ways through `put_piece`. No contract cites this file. Assumes nothing.
--     put-same, put-moved      the ways out of `put_piece`; `put-long`: a piece whose date can be moved has room for one
--     rest-all                 a slice from a place to the end has all that follows
--     Writing                  what is known where a piece begins: what is written, and that the pieces left make it whole
--     write-start              it is known at the first piece
--     write-cut, write-end     where the piece ends, and its text
--     write-next, write-size   the place of the next piece is no more than that past all; the buffer's length
--     write-last, write-on     the piece is the last, or it is not
use mathlib.Core.Path.{◌≡◌, refl, sym, ap, ap₂, ◌∙◌}
use mathlib.Core.Bool.{Bool}
use Rattle.std.specs.Prelude.{Option, None, Some}
use mathlib.Core.List.{List, [], ◌∷◌, ◌++◌, map, append_assoc}
use Prim.Native.Nat.{ℕ, ◌+◌, ◌-◌, ◌≤◌, ◌<◌}
use native.Mathlib.Omega.{arith}
use lib.IntN.{ℤ}
use lib.ListN.{length, take, drop, length-append, length-drop}
use lib.Seq.{take-length}
use Rattle.basis.specs.Bytes.{part}
use Rattle.basis.specs.Pieces.{backslash, pieces, joined, piece_end}
use Rattle.basis.proofs.BytesLaws.{length-part}
use Rattle.basis.proofs.PiecesLaws.{pieces-some, joined-more, joined-one}
use Rattle.basis.proofs.PieceEndLaws.{PieceEnd, piece_end-is}
use Rattle.buffer.specs.Buffer.{laid}
use Rattle.buffer.proofs.Laws.{laid-none, laid-more, length-laid}
use Rattle.calendar.specs.Text.{date_length, date_text, moved_date, with_date, shifted_piece}
use Rattle.calendar.specs.Values.{dates_end, shifted_text}
use Rattle.calendar.specs.declared.Date.{Date}
use Rattle.calendar.proofs.TextLaws.{right-long, moved-date-is, length-shifted_piece}
use Rattle.calendar.proofs.ValuesLaws.{dates-upto, dates-take, dates-drop}

-- ---- put_piece

module _ (da : Bool) (days : ℤ) (u : List ℕ) {days' : ℤ} (same : days' ≡ days) {r : Option Date} (m : r ≡ moved_date da days' u) where
  now-is : r ≡ moved_date da days u
  now-is = m ∙ ap (λ z. moved_date da z u) same

  pub put-same : r ≡ None → u ≡ shifted_piece da days u
  put-same f = ap (with_date u) (sym f ∙ now-is)

  module _ {d : Date} (f : r ≡ Some d) where
    pub put-long : date_length ≤ length u
    put-long = right-long da (length u) (moved-date-is da days u d (sym now-is ∙ f)).right

    pub put-moved : (o : List ℕ) (pos : ℕ) {o₁ o₂ : List ℕ} → o₁ ≡ laid o pos (date_text d)
        → o₂ ≡ laid o₁ (pos + date_length) (drop date_length u) → o₂ ≡ laid o pos (shifted_piece da days u)
    put-moved o pos g h =
        laid-more o pos (date_text d) (drop date_length u) g refl h
        ∙ ap (λ s. laid o pos (with_date u s)) (sym f ∙ now-is)

-- what a slice from a place to its end has
pub rest-all : (n : ℕ) (u : List ℕ) → take (length u - n) (drop n u) ≡ drop n u
rest-all n u = ap (λ k. take k (drop n u)) (sym (length-drop n u)) ∙ take-length (drop n u)

-- ---- put_shifted

-- the text of the pieces from a on
abbrev ahead : Bool → List ℕ → ℤ → ℕ → ℕ → List ℕ
ahead da v days stop a = joined (map (shifted_piece da days) (pieces (part v a stop)))

pub record Writing (da : Bool) (v : List ℕ) (days : ℤ) (stop : ℕ) (o₀ : List ℕ) (pos : ℕ) (o : List ℕ) (a p : ℕ) : Type 0 where
  pub hi : a ≤ stop
  pub upto : stop ≤ length v
  pub ends : stop ≡ dates_end da v
  pub place : p ≡ pos + a
  pub text : List ℕ
  pub size : length text ≡ a
  pub written : o ≡ laid o₀ pos text
  pub whole : text ++ ahead da v days stop a ≡ ahead da v days stop 0

pub write-start : (da : Bool) (v : List ℕ) (days : ℤ) (o : List ℕ) (pos : ℕ) {stop : ℕ} → stop ≡ dates_end da v → Writing da v days stop o pos o 0 pos
write-start da v days o pos {stop} e = record {
  hi = omega arith;
  upto = dates-upto da v stop e;
  ends = e;
  place = omega arith;
  text = [];
  size = omega arith;
  written = sym (laid-none o pos);
  whole = refl;
}

module _ {da : Bool} {v : List ℕ} {days : ℤ} {stop : ℕ} {o₀ : List ℕ} {pos : ℕ} {o : List ℕ} {a p b : ℕ}
    (g : Writing da v days stop o₀ pos o a p) (e : b ≡ piece_end v a stop) where
  pub write-cut : PieceEnd v a stop b
  write-cut = piece_end-is v a stop g.hi g.upto b e

  abbrev piece : List ℕ
  piece = shifted_piece da days (part v a b)

  module _ {o₁ : List ℕ} {q : ℕ} (w : (q ≡ p + length (part v a b)) × (o₁ ≡ laid o p piece)) where
    pub write-end : q ≡ pos + b
    write-end = omega (arith, w.0, g.place, write-cut.from, length-part v a b (omega (arith, write-cut.upto, g.upto)))

    pub write-next : (n : ℕ) → b < stop → pos + length v < n → q + 1 < n
    write-next n l h = omega (arith, write-end, g.upto)

    pub write-size : length o₁ ≡ length o₀
    write-size = ap length w.1 ∙ length-laid o p piece ∙ ap length g.written ∙ length-laid o₀ pos g.text

    size-more : length (g.text ++ piece) ≡ b
    size-more =
        omega (
          arith,
          g.size,
          write-cut.from,
          length-append g.text piece,
          length-shifted_piece da days (part v a b),
          length-part v a b (omega (arith, write-cut.upto, g.upto)),
        )

    written-more : o₁ ≡ laid o₀ pos (g.text ++ piece)
    written-more = laid-more o₀ pos g.text piece g.written (omega (arith, g.place, g.size)) w.1

    -- what was to be written where the piece began
    whole-is : (us : List (List ℕ)) → write-cut.others ≡ us → g.text ++ joined (piece ∷ map (shifted_piece da days) us) ≡ ahead da v days stop 0
    whole-is us f =
        ap (λ z. g.text ++ joined (map (shifted_piece da days) z)) (sym (write-cut.cut ∙ ap (λ z. part v a b ∷ z) f)) ∙ g.whole

    pub write-last : {o₂ : List ℕ} → b ≡ stop → o₂ ≡ laid o₁ q (part v stop (length v)) → o₂ ≡ laid o₀ pos (shifted_text da days v)
    unfolding shifted_text
    write-last at x =
        laid-more o₀ pos (g.text ++ piece) (part v stop (length v)) written-more (omega (arith, size-more, write-end)) x
        ∙ ap (laid o₀ pos)
        (ap₂ ◌++◌ (ap (λ z. g.text ++ z) (sym (joined-one piece)) ∙ whole-is [] (write-cut.last at)
        ∙ ap (λ u. joined (map (shifted_piece da days) (pieces u))) (sym (dates-take da v stop g.ends)))
        (sym (dates-drop da v stop g.ends)))

    pub write-on : {o₂ : List ℕ} → b < stop → o₂ ≡ laid o₁ q (backslash ∷ []) → Writing da v days stop o₀ pos o₂ (b + 1) (q + 1)
    write-on l x = record {
      hi = omega arith;
      upto = g.upto;
      ends = g.ends;
      place = omega (arith, write-end);
      text = (g.text ++ piece) ++ backslash ∷ [];
      size = omega (arith, size-more, length-append (g.text ++ piece) (backslash ∷ []));
      written = laid-more o₀ pos (g.text ++ piece) (backslash ∷ []) written-more (omega (arith, size-more, write-end)) x;
      whole =
          append_assoc (g.text ++ piece) (backslash ∷ []) _ ∙ append_assoc g.text piece _
          ∙ ap (λ z. g.text ++ z) (sym (next piece (pieces (part v (b + 1) stop)) (pieces-some (part v (b + 1) stop))))
          ∙ whole-is (pieces (part v (b + 1) stop)) (write-cut.more l);
    }
      where
        next : (u : List ℕ) (us : List (List ℕ)) → 0 < length us
            → joined (u ∷ map (shifted_piece da days) us) ≡ u ++ backslash ∷ joined (map (shifted_piece da days) us)
        next u [] l = absurd (omega arith)
        next u (w ∷ us) l = joined-more u (shifted_piece da days w) (map (shifted_piece da days) us)
