-- What the walk is told by the heads that it meets, whatever the bytes are: tags rise, and an element with a value is no sequence.
-- Assumes nothing.
--     Fits low h        of a head: its tag is at least low, and a value's VR is not SQ
--     head-fits         every head does
--     read-rises        the elements that were read rise
use mathlib.Core.Path.{◌≡◌, refl, sym, ap, ◌∙◌}
use mathlib.Core.Logic.{◌≢◌}
use mathlib.Core.Bool.{Bool, true, false, ◌&&◌, not}
use mathlib.Core.List.{List}
use Prim.Native.Nat.{ℕ, zero, suc, ◌+◌, ◌-◌, ◌≤◌}
use native.Mathlib.Omega.{arith}
use lib.Dec.{eqb, ltb, leb}
use Rattle.refusals.specs.declared.Refusal.{Refusal}
use Rattle.std.specs.Prelude.{Option, None, Some, Result, Ok, Err}
use Rattle.basis.specs.Bytes.{le2, le4}
use Rattle.basis.proofs.ChoiceLaws.{pick-case, both-true}
use Rattle.vr.specs.Names.{SQ}
use Rattle.vr.specs.Vr.{kind_of}
use Rattle.vr.specs.declared.Kind.{Kind}
use Rattle.vr.specs.declared.Kind.TheVariants.{Short, Long, Sequence}
use Rattle.layout.specs.Source.{Encoding, explicit, Source}
use Rattle.layout.specs.Tree.{Elements, Place}
use Rattle.layout.specs.Heads.{item_end, tag_at, allowed, length_fault, value_head, sequence_head, long_head, vr_head, body_head, tag_head, element_head, unless}
use Rattle.layout.specs.Read.{good, elements_at}
use Rattle.layout.specs.declared.Head.{Head}
use Rattle.layout.specs.declared.Head.TheVariants.{End, Plain, Seq}
use borrow.Author.Tests.{leb-true}
use Rattle.layout.proofs.ReadLaws.{no-fault, was-bad, was-end, was-plain, was-seq}
use Rattle.write_markers.proofs.GainsLaws.{Rises}

abbrev pub Fits : ℕ → Result Head Refusal → Type 0
Fits low (Err r) = Unit {0}
Fits low (Ok (End past)) = Unit {0}
Fits low (Ok (Plain tag vr body past)) = (low ≤ tag) × (vr ≢ SQ)
Fits low (Ok (Seq tag body stop m)) = low ≤ tag

unless-fits : (low : ℕ) (f : Option Refusal) (h : Head) → Fits low (Ok h) → Fits low (unless f h)
unless-fits low None h p = p
unless-fits low (Some r) h p = tt

module _ (s : List ℕ) (at end low tag : ℕ) (rises : low ≤ tag) where
  value-fits : (vr body n : ℕ) → vr ≢ SQ → Fits low (value_head tag vr body end n)
  unfolding value_head
  value-fits vr body n other =
      unless-fits low (length_fault n (end - body)) (Plain tag vr body (body + n)) (rises, other)

  sequence-fits : (body n : ℕ) → Fits low (sequence_head tag body end n)
  unfolding sequence_head
  sequence-fits body n =
      pick-case (Fits low) (eqb n _) _ _ (λ _. rises)
      (λ _. unless-fits low (length_fault n (end - body)) (Seq tag body (body + n) false) rises)

  long-fits : (vr : ℕ) (holds : Bool) → (holds ≡ false → vr ≢ SQ) → Fits low (long_head s at end tag vr holds)
  unfolding long_head
  long-fits vr holds other =
      pick-case (Fits low) (ltb (end - at) 12) _ _ (λ _. tt)
      (λ _. pick-case (Fits low) (not (eqb (le2 s (at + 6)) 0)) _ _ (λ _. tt)
      (λ _. pick-case (Fits low) holds _ _ (λ _. sequence-fits (at + 12) (le4 s (at + 8)))
      (λ q. value-fits vr (at + 12) (le4 s (at + 8)) (other q))))

  not-sequence : (vr : ℕ) (k : Option Kind) → kind_of vr ≡ k → k ≢ Some Sequence → vr ≢ SQ
  unfolding kind_of
  not-sequence vr k e n q = n (sym e ∙ ap kind_of q)

  vr-fits : (vr : ℕ) → Fits low (vr_head s at end tag vr)
  unfolding vr_head
  vr-fits vr = step (kind_of vr) refl
    where
      step : (k : Option Kind) → kind_of vr ≡ k → Fits low (vr_head s at end tag vr)
      step None e = rw (e, vr_head) tt
      step (Some Short) e = rw (e, vr_head) (value-fits vr (at + 8) (le2 s (at + 6)) (not-sequence vr (Some Short) e (λ q. let z : ◌≡◌ {A = ℕ} 0 1 = cc in omega arith)))
      step (Some Long) e = rw (e, vr_head) (long-fits vr false (λ _. not-sequence vr (Some Long) e (λ q. let z : ◌≡◌ {A = ℕ} 0 1 = cc in omega arith)))
      step (Some Sequence) e = rw (e, vr_head) (long-fits vr true (λ q. absurd (let z : ◌≡◌ {A = ℕ} 0 1 = cc in omega arith)))

-- whatever the encoding
body-fits : (e : Encoding) (s : List ℕ) (at end low tag : ℕ) → low ≤ tag → Fits low (body_head e s at end tag)
body-fits explicit s at end low tag rises = vr-fits s at end low tag rises (le2 s (at + 4))

pub head-fits : (x : Source) (at end : ℕ) (unstated : Bool) (low : ℕ) → Fits low (element_head x at end unstated low)
unfolding element_head tag_head
head-fits x at end unstated low =
    pick-case (Fits low) (eqb at end && not unstated) _ _ (λ _. tt)
    (λ _. pick-case (Fits low) (ltb (end - at) 8) _ _ (λ _. tt)
    (λ _. pick-case (Fits low) (unstated && eqb (tag_at x.bytes at) item_end) _ _
    (λ _. pick-case (Fits low) (eqb (le4 x.bytes (at + 4)) 0) _ _ (λ _. tt) (λ _. tt))
    (λ _. pick-case (Fits low) (leb low (tag_at x.bytes at) && allowed (tag_at x.bytes at)) _ _
    (λ t. body-fits x.encoding x.bytes at end low (tag_at x.bytes at) (leb-true _ _ (both-true _ _ t).0))
    (λ _. tt))))

pub read-rises : (k : ℕ) (x : Source) (at end : ℕ) (unstated : Bool) (depth low : ℕ) (es : Elements Place) (past : ℕ)
    → elements_at k x at end unstated depth low ≡ good es past → Rises low es
unfolding elements_at Rises
read-rises zero x at end unstated depth low es past e = absurd (no-fault refl e)
read-rises (suc k) x at end unstated depth low es past e =
    step (element_head x at end unstated low) refl (head-fits x at end unstated low) (λ p tag es' f. read-rises k x p end unstated depth (tag + 1) es' past f)
  where
    step : (h : Result Head Refusal) → h ≡ element_head x at end unstated low → Fits low h
        → ((p tag : ℕ) (es' : Elements Place) → elements_at k x p end unstated depth (tag + 1) ≡ good es' past → Rises (tag + 1) es') → Rises low es
    step (Err r) q f rest = absurd (was-bad x at end unstated depth low k es past e r q)
    step (Ok (End p)) q f rest = rw (was-end x at end unstated depth low k es past e p q).0 tt
    step (Ok (Plain tag vr body p)) q f rest =
        let w = was-plain x at end unstated depth low k es past e tag vr body p q in
        rw w.2 (f.0, rest p tag w.0 w.1)
    step (Ok (Seq tag body stop m)) q f rest =
        let w = was-seq x at end unstated depth low k es past e tag body stop m q in
        rw w.5 (f, rest w.1 tag w.2 w.4)
