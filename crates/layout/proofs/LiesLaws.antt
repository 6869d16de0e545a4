-- What the heads of `specs/Heads.antt` say of themselves, whatever the bytes are: where they lie, and what was tested before they
-- were found. The laws of `MadeLaws` rest on it. No contract cites this file. Assumes nothing.
--     LiesHead s at end low h        the places of an element's head rise within its container; a fault is one of 6 to 10
--     LiesItem at end depth h    likewise of an item's
use mathlib.Core.Path.{◌≡◌, refl}
use mathlib.Core.Bool.{Bool, true, false, not, ◌&&◌}
use mathlib.Core.List.{List}
use Rattle.std.specs.Prelude.{Option, None, Some, Result, Ok, Err}
use Prim.Native.Nat.{ℕ, ◌+◌, ◌-◌, ◌%◌, ◌≤◌, ◌<◌}
use native.Mathlib.Omega.{arith}
use lib.Dec.{eqb, ltb, leb}
use borrow.Author.Tests.{eqb-false, ltb-false, leb-true}
use Rattle.basis.specs.Bytes.{le2, le4, AllBytes}
use Rattle.basis.proofs.ChoiceLaws.{pick-case, both-true}
use Rattle.refusals.specs.Refusals.{cut_short, too_deep, number}
use Rattle.refusals.specs.declared.Refusal.{Refusal}
use Rattle.vr.specs.Vr.{kind_of}
use Rattle.vr.specs.declared.Kind.{Kind}
use Rattle.vr.specs.declared.Kind.TheVariants.{Short, Long, Sequence}
use Rattle.layout.specs.Source.{Encoding, explicit, Source}
use Rattle.layout.specs.Heads.{tag_at, item_tag, item_end, sequence_end, undefined, allowed, length_fault, value_head, sequence_head, long_head, vr_head, body_head, tag_head, element_head, item_body, item_at, item_head}
use Rattle.layout.specs.Made.{lengths_below}
use Rattle.layout.specs.declared.Head.{Head}
use Rattle.layout.specs.declared.Head.TheVariants.{End, Plain, Seq}
use Rattle.layout.specs.declared.Spot.{Spot}
use Rattle.layout.specs.declared.Spot.TheVariants.{Over, Item}
use Rattle.layout.proofs.HeadLaws.{length_fault-none, length_fault-number, unless-case, vr_head-unknown, vr_head-short, vr_head-long, vr_head-sequence}

abbrev pub LiesHead : List ℕ → ℕ → ℕ → ℕ → Result Head Refusal → Type 0
LiesHead s at end low (Err r) = (cut_short ≤ number r) × (number r ≤ too_deep)
LiesHead s at end low (Ok (End p)) = (at ≤ p) × (p ≤ end)
LiesHead s at end low (Ok (Plain tag vr body p)) =
    (at + 8 ≤ body) × (body ≤ p) × (p ≤ end) × (low ≤ tag) × (allowed tag ≡ true) × ((p - body) % 2 ≡ 0) × (AllBytes s → p - body < lengths_below vr)
LiesHead s at end low (Ok (Seq tag body stop m)) = (at + 12 ≤ body) × (body ≤ stop) × (stop ≤ end) × (low ≤ tag) × (allowed tag ≡ true)

abbrev pub LiesItem : ℕ → ℕ → ℕ → Result Spot Refusal → Type 0
LiesItem at end depth (Err r) = (cut_short ≤ number r) × (number r ≤ too_deep)
LiesItem at end depth (Ok (Over p)) = (at ≤ p) × (p ≤ end)
LiesItem at end depth (Ok (Item body stop m)) = (at + 8 ≤ body) × (body ≤ stop) × (stop ≤ end) × (0 < depth)

-- ---- lengths_below

pub lengths_below-unknown : (vr : ℕ) → kind_of vr ≡ None → lengths_below vr ≡ 0
unfolding lengths_below
lengths_below-unknown vr e = rw (e, lengths_below)

pub lengths_below-sequence : (vr : ℕ) → kind_of vr ≡ Some Sequence → lengths_below vr ≡ 0
unfolding lengths_below
lengths_below-sequence vr e = rw (e, lengths_below)

pub lengths_below-short : (vr : ℕ) → kind_of vr ≡ Some Short → lengths_below vr ≡ 65536
unfolding lengths_below
lengths_below-short vr e = rw (e, lengths_below)

pub lengths_below-long : (vr : ℕ) → kind_of vr ≡ Some Long → lengths_below vr ≡ undefined
unfolding lengths_below
lengths_below-long vr e = rw (e, lengths_below)

-- ---- elements

module _ (s : List ℕ) (at end low tag : ℕ) (rises : low ≤ tag) (may : allowed tag ≡ true) where
  value-lies : (vr body n : ℕ) → at + 8 ≤ body → body ≤ end → (AllBytes s → n % 2 ≡ 0 → n < lengths_below vr) → LiesHead s at end low (value_head tag vr body end n)
  unfolding value_head
  value-lies vr body n h k fits =
      unless-case (LiesHead s at end low) (length_fault n (end - body)) _
      (λ e. let f = length_fault-none n (end - body) e in
      (h, omega arith, omega arith, rises, may, omega arith, λ b. let l = fits b f.0 in omega arith))
      (length_fault-number n (end - body))

  sequence-lies : (body n : ℕ) → at + 12 ≤ body → body ≤ end → LiesHead s at end low (sequence_head tag body end n)
  unfolding sequence_head
  sequence-lies body n h k =
      pick-case (LiesHead s at end low) (eqb n undefined) _ _
      (λ e. (h, k, omega arith, rises, may))
      (λ _. unless-case (LiesHead s at end low) (length_fault n (end - body)) _
      (λ e. let f = length_fault-none n (end - body) e in (h, omega arith, omega arith, rises, may))
      (length_fault-number n (end - body)))

  long-lies : (vr : ℕ) (holds : Bool) → at + 8 ≤ end → (holds ≡ false → kind_of vr ≡ Some Long) → LiesHead s at end low (long_head s at end tag vr holds)
  unfolding long_head
  long-lies vr holds h kind =
      pick-case (LiesHead s at end low) (ltb (end - at) 12) _ _
      (λ _. (omega arith, omega arith))
      (λ e. let w : 12 ≤ end - at = ltb-false _ _ e in
      pick-case (LiesHead s at end low) (not (eqb (le2 s (at + 6)) 0)) _ _
      (λ _. (omega arith, omega arith))
      (λ _. pick-case (LiesHead s at end low) holds _ _
      (λ _. sequence-lies (at + 12) (le4 s (at + 8)) (omega arith) (omega arith))
      (λ q. value-lies vr (at + 12) (le4 s (at + 8)) (omega arith) (omega arith)
      (λ b even. rw (lengths_below-long vr (kind q)) (omega (arith, b (at + 8), b (at + 8 + 1), b (at + 8 + 2), b (at + 8 + 2 + 1)))))))

  vr-lies : (vr : ℕ) → at + 8 ≤ end → LiesHead s at end low (vr_head s at end tag vr)
  vr-lies vr h = step (kind_of vr) refl
    where
      step : (k : Option Kind) → kind_of vr ≡ k → LiesHead s at end low (vr_head s at end tag vr)
      step None e = rw (vr_head-unknown s at end tag vr e) (omega arith, omega arith)
      step (Some Short) e = rw (vr_head-short s at end tag vr e)
          (value-lies vr (at + 8) (le2 s (at + 6)) (omega arith) (omega arith) (λ b even. rw (lengths_below-short vr e) (omega (arith, b (at + 6), b (at + 6 + 1)))))
      step (Some Long) e = rw (vr_head-long s at end tag vr e) (long-lies vr false h (λ _. e))
      step (Some Sequence) e = rw (vr_head-sequence s at end tag vr e) (long-lies vr true h (λ q. absurd (let z : ◌≡◌ {A = ℕ} 0 1 = cc in omega arith)))

-- in every encoding
body-lies : (e : Encoding) (s : List ℕ) (at end low tag : ℕ) → low ≤ tag → allowed tag ≡ true → at + 8 ≤ end → LiesHead s at end low (body_head e s at end tag)
body-lies explicit s at end low tag rises may h = vr-lies s at end low tag rises may (le2 s (at + 4)) h

pub element_head-lies : (x : Source) (at end : ℕ) (unstated : Bool) (low : ℕ) → at ≤ end → LiesHead x.bytes at end low (element_head x at end unstated low)
unfolding element_head tag_head
element_head-lies x at end unstated low le =
    pick-case (LiesHead x.bytes at end low) (eqb at end && not unstated) _ _
    (λ e. (omega arith, le))
    (λ _. pick-case (LiesHead x.bytes at end low) (ltb (end - at) 8) _ _
    (λ _. (omega arith, omega arith))
    (λ e. let h : 8 ≤ end - at = ltb-false _ _ e in
    pick-case (LiesHead x.bytes at end low) (unstated && eqb (tag_at x.bytes at) item_end) _ _
    (λ _. pick-case (LiesHead x.bytes at end low) (eqb (le4 x.bytes (at + 4)) 0) _ _ (λ _. (omega arith, omega arith)) (λ _. (omega arith, omega arith)))
    (λ _. pick-case (LiesHead x.bytes at end low) (leb low (tag_at x.bytes at) && allowed (tag_at x.bytes at)) _ _
    (λ t. let b = both-true _ _ t in body-lies x.encoding x.bytes at end low (tag_at x.bytes at) (leb-true _ _ b.0) b.1 (omega arith))
    (λ _. (omega arith, omega arith)))))

-- ---- items

item-lies : (at end depth body n : ℕ) → at + 8 ≤ body → body ≤ end → 0 < depth → LiesItem at end depth (item_body body end n)
unfolding item_body
item-lies at end depth body n h k d =
    pick-case (LiesItem at end depth) (eqb n undefined) _ _
    (λ e. (h, k, omega arith, d))
    (λ _. unless-case (LiesItem at end depth) (length_fault n (end - body)) _
    (λ e. let f = length_fault-none n (end - body) e in (h, omega arith, omega arith, d))
    (length_fault-number n (end - body)))

pub item_head-lies : (s : List ℕ) (at end : ℕ) (unstated : Bool) (depth : ℕ) → at ≤ end → LiesItem at end depth (item_head s at end unstated depth)
unfolding item_head item_at
item_head-lies s at end unstated depth le =
    pick-case (LiesItem at end depth) (eqb at end && not unstated) _ _
    (λ e. (omega arith, le))
    (λ _. pick-case (LiesItem at end depth) (ltb (end - at) 8) _ _
    (λ _. (omega arith, omega arith))
    (λ e. let h : 8 ≤ end - at = ltb-false _ _ e in
    pick-case (LiesItem at end depth) (unstated && eqb (tag_at s at) sequence_end) _ _
    (λ _. pick-case (LiesItem at end depth) (eqb (le4 s (at + 4)) 0) _ _ (λ _. (omega arith, omega arith)) (λ _. (omega arith, omega arith)))
    (λ _. pick-case (LiesItem at end depth) (eqb (tag_at s at) item_tag) _ _
    (λ _. pick-case (LiesItem at end depth) (eqb depth 0) _ _
    (λ _. (omega arith, omega arith))
    (λ z. let nz : depth ≡ 0 → ⊥ = eqb-false _ _ z in item-lies at end depth (at + 8) (le4 s (at + 4)) (omega arith) (omega arith) (omega arith)))
    (λ _. (omega arith, omega arith)))))
