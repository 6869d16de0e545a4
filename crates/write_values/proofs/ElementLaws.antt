-- Laws of `specs/Element.antt`, on elements with a value. No contract cites this file. Assumes nothing.
--     length-header                      a header has at most 12 bytes
--     value-bytes, length-value          an element with a value is its header and the value
--     length-spaced                      a text and its space
--     spaced-same, spaced-more           a text of even length, and of odd
--     value_laws, text_laws, dates_laws  what `put_same` and `put_blank_sequence`, `put_text`, and `put_dates` need
use mathlib.Core.Path.{◌≡◌, refl, ap, ◌∙◌}
use mathlib.Core.List.{List, [], ◌∷◌, ◌++◌, append-nil}
use Rattle.std.specs.Prelude.{Option, None, Some}
use Prim.Native.Nat.{ℕ, ◌+◌, ◌%◌, ◌≤◌, ◌<◌}
use native.Mathlib.Omega.{arith}
use mir.Facts.{to_z-of_z}
use borrow.Author.Tests.{eq-eqb, ne_eqb, eqb-true, eqb-false}
use lib.Dec.{eqb}
use lib.ListN.{length, length-append}
use Rattle.basis.proofs.ChoiceLaws.{pick-case}
use Rattle.buffer.proofs.Laws.{laid-laid}
use Rattle.vr.specs.Vr.{kind_of}
use Rattle.vr.specs.declared.Kind.{Kind}
use Rattle.vr.specs.declared.Kind.TheVariants.{Short, Long, Sequence}
use Rattle.layout.specs.Tree.{value}
use Rattle.layout.specs.Write.{header, put_field}
use Rattle.layout.proofs.MarkLaws.{header-unknown, header-short, header-long, header-sequence}
use Rattle.calendar.proofs.ValuesLaws.{length-shifted_text}
use Rattle.kept.specs.Fillers.{spaced}
use Rattle.write_values.specs.Element.{element_bytes}

-- ---- the header

pub length-header : (tag vr n : ℕ) → length (header tag vr n) ≤ 12
length-header tag vr n = step (kind_of vr) refl
  where
    step : (k : Option Kind) → kind_of vr ≡ k → length (header tag vr n) ≤ 12
    step None e = omega (arith, ap length (header-unknown tag vr n e))
    step (Some Short) e = omega (arith, ap length (header-short tag vr n e))
    step (Some Long) e = omega (arith, ap length (header-long tag vr n e))
    step (Some Sequence) e = omega (arith, ap length (header-sequence tag vr n e))

-- ---- an element with a value

module _ (tag vr : ℕ) (v : List ℕ) where
  pub value-bytes : element_bytes tag vr (value v) ≡ header tag vr (length v) ++ v
  unfolding put_field
  value-bytes = ap (λ z. header tag vr (length v) ++ z) (append-nil v)

  pub length-value : length (element_bytes tag vr (value v)) ≡ length (header tag vr (length v)) + length v
  length-value = ap length value-bytes ∙ length-append (header tag vr (length v)) v

-- ---- a text, and a space behind it where its length is odd

pub length-spaced : (t : List ℕ) → length (spaced t) ≡ length t + length t % 2
unfolding spaced
length-spaced t =
    pick-case (λ u. length u ≡ length t + length t % 2) (eqb (length t % 2) 0) t (t ++ 0x20 ∷ [])
    (λ e. omega (arith, eqb-true (length t % 2) 0 e))
    (λ e. omega (arith, eqb-false (length t % 2) 0 e, length-append t (0x20 ∷ [])))

pub spaced-same : (t : List ℕ) → length t % 2 ≡ 0 → spaced t ≡ t
unfolding spaced
spaced-same t e = rw (eq-eqb (length t % 2) 0 e) refl

pub spaced-more : (t : List ℕ) → 0 < length t % 2 → spaced t ≡ t ++ 0x20 ∷ []
unfolding spaced
spaced-more t n = rw (ne_eqb (length t % 2) 0 (λ z. omega arith)) refl

-- ---- what the functions need that write an element

pub ruleset value_laws = (length-header, value-bytes, length-value, laid-laid)

pub ruleset text_laws = (value_laws, length-spaced, spaced-same, spaced-more)

-- shifted dates are as long as the value; the shift is handed on as a word, which stands for the same number
pub ruleset dates_laws = (value_laws, length-shifted_text, to_z-of_z)
