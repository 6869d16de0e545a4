-- What is read is well-made, and a fault is one of document 01's, within the data set. No contract cites this file. Assumes nothing.
--     Sound at end r        what was read from `at` on ends within the container; a fault's number is one of 6 to 10, its offset within it
--     read-sound            so it is with every data set: in particular the bound that `read` gives is always enough
--     read-fault            the parts of a shape fault
--     read-made             the tree that was read is well-made
--     made-deeper           what is well-made at a depth is so at every greater one
--     made-lower            what rises from a tag on rises from every lower one
--     made-bare             labels play no part in it
use mathlib.Core.Path.{◌≡◌, refl}
use mathlib.Core.Bool.{Bool, false}
use Rattle.std.specs.Prelude.{Result as Answer, Ok, Err}
use Prim.Native.Nat.{ℕ, zero, suc, ◌+◌, ◌-◌, ◌≤◌, ◌<◌}
use native.Mathlib.Omega.{arith}
use lib.ListN.{length}
use Rattle.basis.specs.Bytes.{part, AllBytes}
use Rattle.basis.proofs.BytesLaws.{length-part}
use Rattle.refusals.specs.Refusals.{cut_short, too_deep, number}
use Rattle.refusals.specs.declared.Refusal.{Refusal}
use Rattle.vr.specs.Names.{SQ}
use Rattle.layout.specs.Source.{Source}
use Rattle.layout.specs.Tree.{Field, value, items, Elements, nil, elem, Items, none, item, Place, bare, bare_field, bare_items}
use Rattle.layout.specs.Heads.{element_head, item_head}
use Rattle.layout.specs.Read.{Result, good, fault, with, after, placed, elements_at, items_at, read}
use Rattle.layout.specs.Made.{Made, MadeField, MadeItems}
use Rattle.layout.specs.declared.Head.{Head}
use Rattle.layout.specs.declared.Head.TheVariants.{End, Plain, Seq}
use Rattle.layout.specs.declared.Spot.{Spot}
use Rattle.layout.specs.declared.Spot.TheVariants.{Over, Item}
use Rattle.layout.proofs.LiesLaws.{LiesHead, LiesItem, element_head-lies, item_head-lies}
use Rattle.layout.proofs.ReadLaws.{at-bad, at-end, at-plain, at-seq, at-wrong, at-over, at-item}

-- ---- read: what a result says, the tree with it. P is what is known of what was read.

abbrev pub Sound : {A : Type 0} → (A → Type 0) → ℕ → ℕ → Result A → Type 0
Sound P at end (good a p) = (at ≤ p) × (p ≤ end) × P a
Sound P at end (fault r offset) = (cut_short ≤ number r) × (number r ≤ too_deep) × (at ≤ offset) × (offset ≤ end)

sound-with : {A B : Type 0} (P : A → Type 0) (Q : B → Type 0) (f : A → B) (from at end : ℕ) (r : Result A) → ((a : A) → P a → Q (f a)) → from ≤ at
    → Sound P at end r → Sound Q from end (with f r)
sound-with P Q f from at end (good a p) g h w = (omega arith, w.1, g a w.2)
sound-with P Q f from at end (fault r offset) g h w = (w.0, w.1, omega arith, w.3)

sound-after : {A B : Type 0} (P : A → Type 0) (Q : B → Type 0) (from at stop end : ℕ) (r : Result A) (f : A → ℕ → Result B) → from ≤ at → stop ≤ end
    → ((a : A) (p : ℕ) → P a → at ≤ p → p ≤ stop → Sound Q from end (f a p)) → Sound P at stop r → Sound Q from end (after r f)
sound-after P Q from at stop end (good a p) f h k g w = g a p w.2 w.0 w.1
sound-after P Q from at stop end (fault r offset) f h k g w = (w.0, w.1, omega arith, omega arith)

-- what is known of the tree: where the data set's numbers are bytes, it is well-made
abbrev Well : Source → ℕ → ℕ → Elements Place → Type 0
Well x depth low es = AllBytes x.bytes → Made depth low es

abbrev WellItems : Source → ℕ → Items Place → Type 0
WellItems x depth is = AllBytes x.bytes → MadeItems depth is

abbrev Next : ℕ → Source → ℕ → Bool → ℕ → Type 0
Next k x end unstated depth = (at low : ℕ) → at ≤ end → end - at < k → Sound (Well x depth low) at end (elements_at k x at end unstated depth low)

abbrev NextItems : ℕ → Source → ℕ → Bool → ℕ → Type 0
NextItems k x end unstated depth = (at : ℕ) → at ≤ end → end - at < k → Sound (WellItems x depth) at end (items_at k x at end unstated depth)

step-elements : (k : ℕ) (x : Source) (at end : ℕ) (unstated : Bool) (depth low : ℕ) → at ≤ end → end - at < suc k → end ≤ length x.bytes
    → Next k x end unstated depth → ((stop : ℕ) (m : Bool) → stop ≤ length x.bytes → NextItems k x stop m depth)
    → (h : Answer Head Refusal) → h ≡ element_head x at end unstated low → LiesHead x.bytes at end low h → Sound (Well x depth low) at end (elements_at (suc k) x at end unstated depth low)
unfolding Made MadeField
step-elements k x at end unstated depth low le lt inside next next_items (Err r) e w =
    rw (at-bad x at end unstated depth low k r e) (w.0, w.1, omega arith, le)
step-elements k x at end unstated depth low le lt inside next next_items (Ok (End p)) e w =
    rw (at-end x at end unstated depth low k p e) (w.0, w.1, λ b. tt)
step-elements k x at end unstated depth low le lt inside next next_items (Ok (Plain tag vr body p)) e w =
    rw (at-plain x at end unstated depth low k tag vr body p e)
    (sound-with (Well x depth (tag + 1)) (Well x depth low) (elem (placed at body p) tag vr (value (part x.bytes body p))) at p end
    (elements_at k x p end unstated depth (tag + 1))
    (λ es made b. let l : length (part x.bytes body p) ≡ p - body = length-part x.bytes body p (omega arith) in
    (w.3, w.4, (rw l w.5, rw l (w.6 b)), made b))
    (omega arith) (next p (tag + 1) w.2 (omega arith)))
step-elements k x at end unstated depth low le lt inside next next_items (Ok (Seq tag body stop m)) e w =
    rw (at-seq x at end unstated depth low k tag body stop m e)
    (sound-after (WellItems x depth) (Well x depth low) at body stop end (items_at k x body stop m depth) _ (omega arith) w.2
    (λ is p made_items ge up. sound-with (Well x depth (tag + 1)) (Well x depth low) (elem (placed at body p) tag SQ (items is)) at p end
    (elements_at k x p end unstated depth (tag + 1))
    (λ es made b. (w.3, w.4, (refl, made_items b), made b))
    (omega arith) (next p (tag + 1) (omega arith) (omega arith)))
    (next_items stop m (omega arith) body w.1 (omega arith)))

step-items : (k : ℕ) (x : Source) (at end : ℕ) (unstated : Bool) (depth : ℕ) → at ≤ end → end - at < suc k → end ≤ length x.bytes
    → NextItems k x end unstated depth → ((stop : ℕ) (m : Bool) → stop ≤ length x.bytes → Next k x stop m (depth - 1))
    → (h : Answer Spot Refusal) → h ≡ item_head x.bytes at end unstated depth → LiesItem at end depth h → Sound (WellItems x depth) at end (items_at (suc k) x at end unstated depth)
unfolding MadeItems
step-items k x at end unstated depth le lt inside next_items next (Err r) e w =
    rw (at-wrong x at end unstated depth k r e) (w.0, w.1, omega arith, le)
step-items k x at end unstated depth le lt inside next_items next (Ok (Over p)) e w =
    rw (at-over x at end unstated depth k p e) (w.0, w.1, λ b. tt)
step-items k x at end unstated depth le lt inside next_items next (Ok (Item body stop m)) e w =
    rw (at-item x at end unstated depth k body stop m e)
    (sound-after (Well x (depth - 1) 0) (WellItems x depth) at body stop end (elements_at k x body stop m (depth - 1) 0) _ (omega arith) w.2
    (λ es p made ge up. sound-with (WellItems x depth) (WellItems x depth) (item es) at p end
    (items_at k x p end unstated depth)
    (λ is made_items b. (w.3, made b, made_items b))
    (omega arith) (next_items p (omega arith) (omega arith)))
    (next stop m (omega arith) body 0 w.1 (omega arith)))

mutual
  elements-sound : (k : ℕ) (x : Source) (end : ℕ) (unstated : Bool) (depth : ℕ) → end ≤ length x.bytes → Next k x end unstated depth
  elements-sound zero x end unstated depth inside at low le lt = absurd (omega arith)
  elements-sound (suc k) x end unstated depth inside at low le lt =
      step-elements k x at end unstated depth low le lt inside (λ a l h i. elements-sound k x end unstated depth inside a l h i)
      (λ stop m j a h i. items-sound k x stop m depth j a h i)
      (element_head x at end unstated low) refl (element_head-lies x at end unstated low le)

  items-sound : (k : ℕ) (x : Source) (end : ℕ) (unstated : Bool) (depth : ℕ) → end ≤ length x.bytes → NextItems k x end unstated depth
  items-sound zero x end unstated depth inside at le lt = absurd (omega arith)
  items-sound (suc k) x end unstated depth inside at le lt =
      step-items k x at end unstated depth le lt inside (λ a h i. items-sound k x end unstated depth inside a h i)
      (λ stop m j a l h i. elements-sound k x stop m (depth - 1) j a l h i)
      (item_head x.bytes at end unstated depth) refl (item_head-lies x.bytes at end unstated depth le)

abbrev WellRead : ℕ → Source → Elements Place → Type 0
WellRead depth x es = AllBytes x.bytes → Made depth 0 es

pub read-sound : (depth : ℕ) (x : Source) → Sound (WellRead depth x) 0 (length x.bytes) (read depth x)
unfolding read
read-sound depth x = elements-sound (suc (length x.bytes)) x (length x.bytes) false depth (omega arith) 0 0 (omega arith) (omega arith)

-- a fault's number is one of document 01's, and its offset is at most the length
pub read-fault : (depth : ℕ) (x : Source) (r : Refusal) (offset : ℕ) → read depth x ≡ fault r offset → (cut_short ≤ number r) × (number r ≤ too_deep) × (offset ≤ length x.bytes)
read-fault depth x r offset e =
    let f : Sound (WellRead depth x) 0 (length x.bytes) (fault r offset) = rw e at (read-sound depth x) in (f.0, f.1, f.3)

pub read-made : (depth : ℕ) (x : Source) (es : Elements Place) (p : ℕ) → AllBytes x.bytes → read depth x ≡ good es p → Made depth 0 es
read-made depth x es p b e =
    let f : Sound (WellRead depth x) 0 (length x.bytes) (good es p) = rw e at (read-sound depth x) in f.2 b

-- ---- Made

pub made-lower : {L : Type 0} (es : Elements L) (depth low low' : ℕ) → low' ≤ low → Made depth low es → Made depth low' es
unfolding Made
made-lower nil depth low low' h m = tt
made-lower (elem l tag vr f es) depth low low' h m = (omega arith, m.1, m.2, m.3)

mutual
  unfolding Made MadeField MadeItems

  made-deeper-field : {L : Type 0} (f : Field L) (vr depth depth' : ℕ) → depth ≤ depth' → MadeField depth vr f → MadeField depth' vr f
  made-deeper-field (value v) vr depth depth' h m = m
  made-deeper-field (items is) vr depth depth' h m = (m.0, made-deeper-items is depth depth' h m.1)

  pub made-deeper : {L : Type 0} (es : Elements L) (depth depth' low : ℕ) → depth ≤ depth' → Made depth low es → Made depth' low es
  made-deeper nil depth depth' low h m = tt
  made-deeper (elem l tag vr f es) depth depth' low h m =
      (m.0, m.1, made-deeper-field f vr depth depth' h m.2, made-deeper es depth depth' (tag + 1) h m.3)

  made-deeper-items : {L : Type 0} (is : Items L) (depth depth' : ℕ) → depth ≤ depth' → MadeItems depth is → MadeItems depth' is
  made-deeper-items none depth depth' h m = tt
  made-deeper-items (item es is) depth depth' h m =
      (omega arith, made-deeper es (depth - 1) (depth' - 1) 0 (omega arith) m.1, made-deeper-items is depth depth' h m.2)

mutual
  unfolding Made MadeField MadeItems bare bare_field bare_items

  made-bare-field : {L : Type 0} (f : Field L) (vr depth : ℕ) → MadeField depth vr f → MadeField depth vr (bare_field f)
  made-bare-field (value v) vr depth m = m
  made-bare-field (items is) vr depth m = (m.0, made-bare-items is depth m.1)

  pub made-bare : {L : Type 0} (es : Elements L) (depth low : ℕ) → Made depth low es → Made depth low (bare es)
  made-bare nil depth low m = tt
  made-bare (elem l tag vr f es) depth low m = (m.0, m.1, made-bare-field f vr depth m.2, made-bare es depth (tag + 1) m.3)

  made-bare-items : {L : Type 0} (is : Items L) (depth : ℕ) → MadeItems depth is → MadeItems depth (bare_items is)
  made-bare-items none depth m = tt
  made-bare-items (item es is) depth m = (m.0, made-bare es (depth - 1) 0 m.1, made-bare-items is depth m.2)
