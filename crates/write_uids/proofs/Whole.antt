-- A finished UI element, and the whole of a renamed one: the ways out of `finish` and of `put_renamed`. No contract cites this file.
-- Assumes nothing.
--     ui-header                   the header of a UI element has eight bytes
--     finish-even, finish-odd     the ways out of `finish`
--     empty-value                 a value without any byte
--     stopped, finished           no slot was left for a UID; all of them have one
use mathlib.Core.Path.{◌≡◌, refl, sym, ap, ap₂, ◌∙◌, subst}
use mathlib.Core.Bool.{true, false}
use Rattle.std.specs.Prelude.{None, Some}
use Rattle.std.proofs.lemmas.Option.{same_Some}
use mathlib.Core.List.{List, [], ◌∷◌, ◌++◌, append-nil}
use Prim.Native.Nat.{ℕ, ◌+◌, ◌-◌, ◌*◌, ◌%◌, ◌≤◌, ◌<◌}
use native.Mathlib.Omega.{arith}
use borrow.Author.Tests.{eqb-true, eqb-false}
use lib.Dec.{eqb}
use lib.ListN.{length, length-append}
use Rattle.basis.specs.Choice.{among, every}
use Rattle.basis.specs.Pieces.{pieces, joined}
use Rattle.buffer.specs.Buffer.{laid}
use Rattle.buffer.proofs.Laws.{laid-more, laid-front, length-laid}
use Rattle.vr.specs.Names.{UI}
use Rattle.vr.specs.Vr.{kind_of}
use Rattle.vr.specs.declared.Kind.TheVariants.{Short}
use Rattle.layout.specs.Tree.{value}
use Rattle.layout.specs.Write.{header}
use Rattle.layout.proofs.MarkLaws.{header-short}
use Rattle.uid.specs.Uid.{is_uid}
use Rattle.uid.specs.Value.{trimmed, zero_pad, uids_of, value_of}
use Rattle.uid.proofs.PadLaws.{length-trimmed, zero_pad-even, zero_pad-odd}
use Rattle.uid.proofs.ValueLaws.{UidsAre, uids_of-are}
use Rattle.ledger.specs.FirstMet.{learns, numbers}
use Rattle.ledger.specs.Slots.{slot_size, slots_of, slots_in, flat}
use Rattle.ledger.proofs.LaidLaws.{laid-same}
use Rattle.ledger.proofs.SlotLaws.{slots_of-fits, length-slots_in, flat-slots_in}
use Rattle.write_values.specs.Element.{element_bytes}
use Rattle.write_uids.specs.Renamed.{slots_once_met, renamed_text, renamed_element, RenamedRightly, RenamedValue}
use Rattle.write_uids.specs.Steps.{text_of, Texted, Finished}
use Rattle.write_values.proofs.ElementLaws.{value-bytes, length-value}

-- ---- the header of a UI element

ui-short : kind_of UI ≡ Some Short
unfolding kind_of among
ui-short = refl

pub ui-header : (tag n : ℕ) → length (header tag UI n) ≡ 8
ui-header tag n = ap length (header-short tag UI n ui-short)

length-element : (tag : ℕ) (t : List ℕ) → length (element_bytes tag UI (value t)) ≡ 8 + length t
length-element tag t = omega (arith, length-value tag UI t, ui-header tag (length t))

-- in front of a text that stands eight bytes on
headed : (o₀ o : List ℕ) (tag pos n : ℕ) (t o' : List ℕ) → o ≡ laid o₀ (pos + 8) t → n ≡ length t → o' ≡ laid o pos (header tag UI n)
    → o' ≡ laid o₀ pos (element_bytes tag UI (value t))
headed o₀ o tag pos n t o' e m f =
    f ∙ ap₂ (λ z k. laid z pos (header tag UI k)) (e ∙ ap (λ k. laid o₀ (pos + k) t) (sym (ui-header tag (length t)))) m
    ∙ laid-front o₀ pos (header tag UI (length t)) t ∙ ap (laid o₀ pos) (sym (value-bytes tag UI t))

-- ---- finish

-- the text's length
abbrev text_len : ℕ → ℕ → ℕ
text_len pos p = p - (pos + 8)

-- o₁ is what the pad left of o
module _ {o : List ℕ} {tag pos p : ℕ} (le : pos + 8 ≤ p) where
  pub finish-even : {o₁ o' : List ℕ} → text_len pos p % 2 ≡ 0 → o₁ ≡ o → o' ≡ laid o₁ pos (header tag UI (text_len pos p + text_len pos p % 2)) → Finished o o' tag pos p (p + text_len pos p % 2)
  finish-even {o₁} {o'} even d f = record {
    out_size = ap length f ∙ length-laid _ _ _ ∙ ap length d;
    upto = omega arith;
    whole = λ o₀ t e m.
        let c : text_len pos p ≡ length t = omega arith in
        let k : t ++ zero_pad t ≡ t = ap (λ z. t ++ z) (zero_pad-even t (ap (λ z. z % 2) (sym c) ∙ even)) ∙ append-nil t in (
          omega (arith, m, even, ap (λ z. length (element_bytes tag UI (value z))) k, length-element tag t),
          headed o₀ o₁ tag pos (text_len pos p + text_len pos p % 2) t o' (d ∙ e) (omega (arith, c, even)) f ∙ ap (λ z. laid o₀ pos (element_bytes tag UI (value z))) (sym k),
        );
  }

  pub finish-odd : {o₁ o' : List ℕ} → text_len pos p % 2 ≡ 1 → o₁ ≡ laid o p (0 ∷ []) → o' ≡ laid o₁ pos (header tag UI (text_len pos p + text_len pos p % 2)) → Finished o o' tag pos p (p + text_len pos p % 2)
  finish-odd {o₁} {o'} odd d f = record {
    out_size = ap length f ∙ length-laid _ _ _ ∙ ap length d ∙ length-laid _ _ _;
    upto = omega arith;
    whole = λ o₀ t e m.
        let c : text_len pos p ≡ length t = omega arith in
        let k : zero_pad t ≡ 0 ∷ [] = zero_pad-odd t (λ z. omega (arith, ap (λ y. y % 2) c, odd, z)) in
        let l : length (t ++ 0 ∷ []) ≡ length t + 1 = length-append t (0 ∷ []) in
        let g : o₁ ≡ laid o₀ (pos + 8) (t ++ 0 ∷ []) = laid-more o₀ (pos + 8) t (0 ∷ []) e m d in (
          omega (arith, m, odd, ap (λ z. length (element_bytes tag UI (value (t ++ z)))) k, length-element tag (t ++ 0 ∷ []), l),
          headed o₀ o₁ tag pos (text_len pos p + text_len pos p % 2) (t ++ 0 ∷ []) o' g (omega (arith, c, odd, l)) f
              ∙ ap (λ z. laid o₀ pos (element_bytes tag UI (value (t ++ z)))) (sym k),
        );
  }

-- ---- put_renamed

-- of no UID there is no text and no new slot
no-text : (root l : List ℕ) (used : ℕ) → renamed_text root l used [] ≡ []
unfolding numbers value_of joined zero_pad
no-text root l used = refl

none-met : (l : List ℕ) (used : ℕ) → slots_once_met l used [] ≡ slots_in l used
unfolding learns
none-met l used = refl

no-uids : (v : List ℕ) (us : List (List ℕ)) → length v ≡ 0 → uids_of v ≡ Some us → us ≡ []
unfolding uids_of
no-uids [] us z e = sym (same_Some [] us e)
no-uids (x ∷ v) us z e = absurd (omega arith)

-- the UIDs of a value that has some
are : (v t : List ℕ) → eqb (length v) 0 ≡ false → t ≡ trimmed v → (us : List (List ℕ)) → uids_of v ≡ Some us → (pieces t ≡ us) × (every is_uid (pieces t) ≡ true)
are v t some trim us h =
    let u : UidsAre v us = uids_of-are v us h in
    let e : pieces t ≡ us = ap pieces trim ∙ sym (u.cut (omega (arith, eqb-false (length v) 0 some))) in
    (e, ap (every is_uid) e ∙ u.uids)

module _ {tag : ℕ} {v root l : List ℕ} {used : ℕ} {o : List ℕ} {pos : ℕ} where
  pub empty-value : used ≤ slots_of l → eqb (length v) 0 ≡ true → {p : ℕ} {o' : List ℕ} → (p ≡ pos + length (header tag UI 0)) × (o' ≡ laid o pos (header tag UI 0))
      → RenamedValue tag v root l l used o o' pos (Some (p, used))
  empty-value room none {p} {o'} h = record {
    out_size = ap length h.1 ∙ length-laid _ _ _;
    ledger_size = refl;
    kept = refl;
    bounds = omega (arith, h.0, ui-header tag 0);
    right = λ us is.
        let n : us ≡ [] = no-uids v us (eqb-true (length v) 0 none) is in
        let b : renamed_element tag root l used [] ≡ header tag UI 0
        = ap (λ z. element_bytes tag UI (value z)) (no-text root l used) ∙ value-bytes tag UI [] ∙ append-nil (header tag UI 0) in
        subst (λ z. RenamedRightly o o' pos (renamed_element tag root l used z) l l (slots_once_met l used z) (Some (p, used))) (sym n) (
          omega (arith, h.0, ap length b),
          h.1 ∙ ap (laid o pos) (sym b),
          sym (ap length (none-met l used) ∙ length-slots_in l used),
          sym (none-met l used),
          sym (ap (λ z. laid l 0 (flat z)) (none-met l used) ∙ ap (laid l 0) (flat-slots_in l used (slots_of-fits l used room)) ∙ laid-same l (slot_size * used)),
        );
  }

  module _ (some : eqb (length v) 0 ≡ false) {t : List ℕ} (trim : t ≡ trimmed v) where
    pub stopped : {l' o' : List ℕ} → Texted t root l l' used o o' (pos + 8) None → RenamedValue tag v root l l' used o o' pos None
    stopped q = record {
      out_size = q.out_size;
      ledger_size = q.ledger_size;
      kept = q.kept;
      bounds = tt;
      right = λ us h. let e = are v t some trim us h in subst (λ z. slots_of l < length (slots_once_met l used z)) e.0 (q.right e.1);
    }

    pub finished : {l' o₁ o' : List ℕ} {p m r : ℕ} → Texted t root l l' used o o₁ (pos + 8) (Some (p, m)) → Finished o₁ o' tag pos p r
        → RenamedValue tag v root l l' used o o' pos (Some (r, m))
    unfolding value_of
    finished {l'} {o₁} {o'} {p} {m} {r} q w = record {
      out_size = w.out_size ∙ q.out_size;
      ledger_size = q.ledger_size;
      kept = q.kept;
      bounds = omega (arith, q.bounds, w.upto, ap length trim, length-trimmed v);
      right = λ us h.
          let e = are v t some trim us h in
          let y = q.right e.1 in
          let f = w.whole o (text_of root (slots_in l used) (pieces t)) y.1 y.0 in
          subst (λ z. RenamedRightly o o' pos (renamed_element tag root l used z) l l' (slots_once_met l used z) (Some (r, m))) e.0 (f.0, f.1, y.2, y.3, y.4);
    }
