-- Laws of `specs/Read.antt`: what is read at a place by the head that stands there, and what a tree that was read is made of.
-- Every walk over a data set cites them. No contract cites this file. Assumes nothing.
--     no-fault                a result is one thing
--     with-good, after-good   what a good result was made of
--     at-HEAD                 elements_at, items_at where HEAD stands
--     was-HEAD                the tree that was read, where HEAD stood at its beginning
use mathlib.Core.Path.{◌≡◌, refl, sym, ap, ◌∙◌}
use mathlib.Core.Bool.{Bool}
use Rattle.std.specs.Prelude.{Ok, Err}
use Prim.Native.Nat.{ℕ, suc, ◌+◌, ◌-◌}
use native.Mathlib.Omega.{arith}
use Rattle.basis.specs.Bytes.{part}
use Rattle.refusals.specs.declared.Refusal.{Refusal}
use Rattle.vr.specs.Names.{SQ}
use Rattle.layout.specs.Source.{Source}
use Rattle.layout.specs.Tree.{value, items, Elements, nil, elem, Items, none, item, Place}
use Rattle.layout.specs.Heads.{element_head, item_head}
use Rattle.layout.specs.Read.{Result, good, fault, with, after, placed, elements_at, items_at}
use Rattle.layout.specs.declared.Head.TheVariants.{End, Plain, Seq}
use Rattle.layout.specs.declared.Spot.TheVariants.{Over, Item}

-- ---- Result

pub no-fault : {A : Type 0} {r : Result A} {refusal : Refusal} {offset : ℕ} {a : A} {p : ℕ} → r ≡ fault refusal offset → r ≡ good a p → ⊥
no-fault e f = let z : ◌≡◌ {A = ℕ} 0 1 = cc in omega arith

pub with-good : {A B : Type 0} (f : A → B) (r : Result A) (b : B) (p : ℕ) → with f r ≡ good b p → (a : A) × (r ≡ good a p) × (b ≡ f a)
with-good f (good a q) b p e = (a, (let i : q ≡ p = cc in ap (good a) i), cc)
with-good f (fault r offset) b p e = absurd (no-fault refl e)

pub after-good : {A B : Type 0} (r : Result A) (f : A → ℕ → Result B) (b : B) (p : ℕ) → after r f ≡ good b p
    → (a : A) × (q : ℕ) × (r ≡ good a q) × (f a q ≡ good b p)
after-good (good a q) f b p e = (a, q, refl, e)
after-good (fault r offset) f b p e = absurd (no-fault refl e)

-- ---- elements_at

module _ (x : Source) (at end : ℕ) (unstated : Bool) (depth low k : ℕ) where
  pub at-bad : (r : Refusal) → Err r ≡ element_head x at end unstated low → elements_at (suc k) x at end unstated depth low ≡ fault r at
  unfolding elements_at
  at-bad r e = rw (← e, elements_at)

  pub at-end : (past : ℕ) → Ok (End past) ≡ element_head x at end unstated low → elements_at (suc k) x at end unstated depth low ≡ good nil past
  unfolding elements_at
  at-end past e = rw (← e, elements_at)

  pub at-plain : (tag vr body past : ℕ) → Ok (Plain tag vr body past) ≡ element_head x at end unstated low
      → elements_at (suc k) x at end unstated depth low
      ≡ with (elem (placed at body past) tag vr (value (part x.bytes body past))) (elements_at k x past end unstated depth (tag + 1))
  unfolding elements_at
  at-plain tag vr body past e = rw (← e, elements_at)

  pub at-seq : (tag body stop : ℕ) (m : Bool) → Ok (Seq tag body stop m) ≡ element_head x at end unstated low
      → elements_at (suc k) x at end unstated depth low
      ≡ after (items_at k x body stop m depth) (λ is past.
      with (elem (placed at body past) tag SQ (items is)) (elements_at k x past end unstated depth (tag + 1)))
  unfolding elements_at
  at-seq tag body stop m e = rw (← e, elements_at)

module _ (x : Source) (at end : ℕ) (unstated : Bool) (depth low k : ℕ) (es : Elements Place) (past : ℕ)
    (found : elements_at (suc k) x at end unstated depth low ≡ good es past) where
  pub was-bad : (r : Refusal) → Err r ≡ element_head x at end unstated low → ⊥
  was-bad r e = no-fault (at-bad x at end unstated depth low k r e) found

  pub was-end : (p : ℕ) → Ok (End p) ≡ element_head x at end unstated low → (es ≡ nil) × (p ≡ past)
  was-end p e = let g : good nil p ≡ good es past = sym (at-end x at end unstated depth low k p e) ∙ found in (cc, cc)

  pub was-plain : (tag vr body p : ℕ) → Ok (Plain tag vr body p) ≡ element_head x at end unstated low
      → (es' : Elements Place) × (elements_at k x p end unstated depth (tag + 1) ≡ good es' past)
      × (es ≡ elem (placed at body p) tag vr (value (part x.bytes body p)) es')
  was-plain tag vr body p e = with-good _ _ es past (sym (at-plain x at end unstated depth low k tag vr body p e) ∙ found)

  pub was-seq : (tag body stop : ℕ) (m : Bool) → Ok (Seq tag body stop m) ≡ element_head x at end unstated low
      → (is : Items Place) × (p : ℕ) × (es' : Elements Place) × (items_at k x body stop m depth ≡ good is p)
      × (elements_at k x p end unstated depth (tag + 1) ≡ good es' past) × (es ≡ elem (placed at body p) tag SQ (items is) es')
  was-seq tag body stop m e =
      let a = after-good _ _ es past (sym (at-seq x at end unstated depth low k tag body stop m e) ∙ found) in
      let w = with-good _ _ es past a.3 in
      (a.0, a.1, w.0, a.2, w.1, w.2)

-- ---- items_at

module _ (x : Source) (at end : ℕ) (unstated : Bool) (depth k : ℕ) where
  pub at-wrong : (r : Refusal) → Err r ≡ item_head x.bytes at end unstated depth → items_at (suc k) x at end unstated depth ≡ fault r at
  unfolding items_at
  at-wrong r e = rw (← e, items_at)

  pub at-over : (past : ℕ) → Ok (Over past) ≡ item_head x.bytes at end unstated depth → items_at (suc k) x at end unstated depth ≡ good none past
  unfolding items_at
  at-over past e = rw (← e, items_at)

  pub at-item : (body stop : ℕ) (m : Bool) → Ok (Item body stop m) ≡ item_head x.bytes at end unstated depth
      → items_at (suc k) x at end unstated depth
      ≡ after (elements_at k x body stop m (depth - 1) 0) (λ es past. with (item es) (items_at k x past end unstated depth))
  unfolding items_at
  at-item body stop m e = rw (← e, items_at)

module _ (x : Source) (at end : ℕ) (unstated : Bool) (depth k : ℕ) (is : Items Place) (past : ℕ)
    (found : items_at (suc k) x at end unstated depth ≡ good is past) where
  pub was-wrong : (r : Refusal) → Err r ≡ item_head x.bytes at end unstated depth → ⊥
  was-wrong r e = no-fault (at-wrong x at end unstated depth k r e) found

  pub was-over : (p : ℕ) → Ok (Over p) ≡ item_head x.bytes at end unstated depth → (is ≡ none) × (p ≡ past)
  was-over p e = let g : good none p ≡ good is past = sym (at-over x at end unstated depth k p e) ∙ found in (cc, cc)

  pub was-item : (body stop : ℕ) (m : Bool) → Ok (Item body stop m) ≡ item_head x.bytes at end unstated depth
      → (es : Elements Place) × (p : ℕ) × (is' : Items Place) × (elements_at k x body stop m (depth - 1) 0 ≡ good es p)
      × (items_at k x p end unstated depth ≡ good is' past) × (is ≡ item es is')
  was-item body stop m e =
      let a = after-good _ _ is past (sym (at-item x at end unstated depth k body stop m e) ∙ found) in
      let w = with-good _ _ is past a.3 in
      (a.0, a.1, w.0, a.2, w.1, w.2)
