-- What the functions of `src/lib.rt` need: their writes, one next to the other, are the pieces that the contracts name.
-- No contract cites this file. Assumes nothing.
--     Wrote o pos xs r o'                                         o' is o with xs written from pos on, and r is the place past it: what each function ensures
--     next, marked                                                one write next to another; a mark
--     left, left-..                                               the items of the options from a bit on
--     on                                                          one of them written
--     gained-below, gained-above                                  one of the three has no bytes below its tag, nor above
--     put-in, put-out, put-due                                    one of the three where it is due, and where it is not; one after the other
--     item_laws, options_laws, codes_laws, due_laws, gained_laws  the laws that each function needs
use mathlib.Core.Path.{◌≡◌, refl, sym, ap, ◌∙◌}
use mathlib.Core.Bool.{true, false}
use mathlib.Core.List.{List, [], ◌++◌}
use Prim.Native.Nat.{ℕ, ◌+◌, ◌≤◌, ◌<◌}
use native.Mathlib.Omega.{arith}
use lib.ListN.{length, drop, length-append}
use Rattle.std.specs.Prelude.{None, Some}
use Rattle.buffer.specs.Buffer.{laid}
use Rattle.buffer.proofs.Laws.{laid-none, laid-laid, laid-more}
use Rattle.layout.specs.Tree.{Field, nil, Data}
use Rattle.layout.specs.Write.{mark, put_elements, put_field, bytes_of}
use Rattle.options.specs.Options.{options, code_of, meaning_of, chosen_in, opt_at}
use Rattle.options.specs.declared.Opt.{Opt}
use Rattle.options.proofs.OptionsLaws.{code_of-length, meaning_of-length, chosen_in-yes, chosen_in-no, chosen_in-end}
use Rattle.kept.specs.Markers.{code_item, option_items}
use Rattle.kept.proofs.FillersLaws.{spaced-length}
use Rattle.write_markers.specs.Gains.{due, gain, gaining}
use Rattle.write_markers.specs.Parts.{item_bytes, items_bytes}
use Rattle.write_markers.proofs.GainsLaws.{gain-below, gain-above}
use Rattle.write_markers.proofs.StepLaws.{yes_due, codes_due, dates_due, gaining-parts}
use Rattle.write_markers.proofs.PartLaws.{mark-length, code-length, scheme-length, meaning-length, yes-length, word-length, item-parts, sequence-length, basic-length, options-length, codes-length, codes-parts}

abbrev pub Wrote : List ℕ → ℕ → List ℕ → ℕ → List ℕ → Type 0
Wrote o pos xs r o' = (r ≡ pos + length xs) × (o' ≡ laid o pos xs)

pub next : (o : List ℕ) (pos : ℕ) (xs ys : List ℕ) {o₁ o₂ : List ℕ} {p r : ℕ} → Wrote o pos xs p o₁ → Wrote o₁ p ys r o₂ → Wrote o pos (xs ++ ys) r o₂
next o pos xs ys w v = (omega (arith, w.0, v.0, length-append xs ys), laid-more o pos xs ys w.1 w.0 v.1)

pub marked : (o : List ℕ) (pos tag n : ℕ) {o₁ : List ℕ} {r : ℕ} → (r ≡ pos + 8) × (o₁ ≡ laid o pos (mark tag n)) → Wrote o pos (mark tag n) r o₁
marked o pos tag n w = (omega (arith, w.0, mark-length tag n), w.1)

-- ---- the loop over the options

-- the items of the options from a bit on
abbrev pub left : ℕ → ℕ → List ℕ
left number bit = items_bytes (option_items (chosen_in number (drop bit options)))

-- the item of an option
abbrev option_bytes : Opt → List ℕ
option_bytes opt = item_bytes (code_item (code_of opt) (meaning_of opt))

module _ (number bit : ℕ) where
  pub left-yes : (opt : Opt) → opt_at number bit ≡ Some opt → left number bit ≡ option_bytes opt ++ left number (bit + 1)
  unfolding items_bytes option_items
  left-yes opt e = ap (λ (os : List Opt). items_bytes (option_items os)) (chosen_in-yes number bit opt e)

  pub left-no : opt_at number bit ≡ None → left number bit ≡ left number (bit + 1)
  left-no e = ap (λ (os : List Opt). items_bytes (option_items os)) (chosen_in-no number bit e)

  pub left-none : length options ≤ bit → left number bit ≡ []
  unfolding items_bytes option_items
  left-none h = ap (λ (os : List Opt). items_bytes (option_items os)) (chosen_in-end number bit h)

-- what is written so far, and then the items that are left, are all the items
pub on : (o : List ℕ) (pos : ℕ) (one rest : List ℕ) {o₁ o₂ : List ℕ} {p r : ℕ} → Wrote o pos one p o₁
    → (pos + length (one ++ rest) ≡ r) × (laid o pos (one ++ rest) ≡ o₂) → (p + length rest ≡ r) × (laid o₁ p rest ≡ o₂)
on o pos one rest w g = (omega (arith, w.0, g.0, length-append one rest), laid-more o pos one rest w.1 w.0 refl ∙ g.1)

-- ---- where one of the three is due

module _ (low high m vr : ℕ) (f : Field (Unit {0})) where
  pub gained-below : m < low → bytes_of (gain low high m vr f nil) ≡ []
  unfolding bytes_of put_elements
  gained-below h = ap (λ (d : Data). put_elements d []) (gain-below m vr f low high nil h)

  pub gained-above : high ≤ m → bytes_of (gain low high m vr f nil) ≡ []
  unfolding bytes_of put_elements
  gained-above h = ap (λ (d : Data). put_elements d []) (gain-above m vr f low high nil h)

module _ (o : List ℕ) (pos low high m vr : ℕ) (f : Field (Unit {0})) where
  pub put-in : {r : ℕ} {o' : List ℕ} → due low high m ≡ true → Wrote o pos (put_field m vr f []) r o' → Wrote o pos (bytes_of (gain low high m vr f nil)) r o'
  unfolding gain bytes_of put_elements
  put-in e w = rw e w

  pub put-out : due low high m ≡ false → Wrote o pos (bytes_of (gain low high m vr f nil)) pos o
  unfolding gain bytes_of put_elements
  put-out e = rw e (omega arith, sym (laid-none o pos))

pub put-due : (o : List ℕ) (pos number low high : ℕ) (o₁ : List ℕ) (p : ℕ) (o₂ : List ℕ) (q : ℕ) {o₃ : List ℕ} {r : ℕ}
    → Wrote o pos (yes_due number low high) p o₁ → Wrote o₁ p (codes_due number low high) q o₂ → Wrote o₂ q (dates_due number low high) r o₃
    → Wrote o pos (bytes_of (gaining number low high nil)) r o₃
put-due o pos number low high o₁ p o₂ q y c d = rw (gaining-parts number low high) (next o pos _ _ y (next o₁ p _ _ c d))

-- ---- what the functions need

pub ruleset item_laws = (code-length, scheme-length, meaning-length, spaced-length)

pub ruleset options_laws = (left-none, options-length, code_of-length, meaning_of-length, laid-none)

pub ruleset codes_laws = (sequence-length, basic-length, options-length)

pub ruleset due_laws = (yes-length, codes-length, word-length)

pub ruleset gained_laws = (gaining-parts, gained-below, gained-above, laid-none)
