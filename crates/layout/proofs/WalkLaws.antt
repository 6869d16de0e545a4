-- What the loops of the shape walk keep, and how a turn of each goes: the laws that the cycle's proof cites, an answer each.
-- `Going` and `GoingItems` are the loops' invariants: from any bound above the bytes that were left, the definition at the start is
-- the definition at the present place, at some bound above the bytes that are left now. So nothing asks that the bound does not matter.
-- Assumes nothing.
use mathlib.Core.Path.{◌≡◌, refl, sym, ap, ◌∙◌}
use mathlib.Core.Bool.{Bool}
use Rattle.std.specs.Prelude.{Result as Answer, Ok, Err}
use Prim.Native.Nat.{ℕ, ◌+◌, ◌-◌, ◌≤◌}
use native.Mathlib.Omega.{arith}
use Rattle.basis.specs.Bytes.{part}
use Rattle.refusals.specs.declared.Refusal.{Refusal}
use Rattle.refusals.specs.declared.Fault.{Fault}
use Rattle.vr.specs.Names.{SQ}
use Rattle.layout.specs.Source.{Source}
use Rattle.layout.specs.Tree.{value, items, elem, item}
use Rattle.layout.specs.Heads.{element_head, item_head}
use Rattle.layout.specs.Read.{Result, good, fault, with, after, placed, elements_at, items_at, shape_of}
use Rattle.layout.specs.Walks.{Inside, Within, Stays, container, deeper, Walked, WalkedItems}
use Rattle.layout.specs.declared.Container.{Container}
use Rattle.layout.specs.declared.Head.{Head}
use Rattle.layout.specs.declared.Head.TheVariants.{End, Plain, Seq}
use Rattle.layout.specs.declared.Spot.{Spot}
use Rattle.layout.specs.declared.Spot.TheVariants.{Over, Item}
use Rattle.layout.proofs.Fuel.{Run, run-start, run-turn, run-stop}
use Rattle.layout.proofs.ReadLaws.{at-bad, at-end, at-plain, at-seq, at-wrong, at-over, at-item}

-- ---- shape_of

pub shape-with : {A B : Type 0} (f : A → B) (r : Result A) → shape_of (with f r) ≡ shape_of r
shape-with f (good a p) = refl
shape-with f (fault r offset) = refl

-- what follows, under f, after a result that is fine; and a result that is a fault
pub shape-after : {A B C : Type 0} (r : Result A) (g : A → ℕ → B → C) (rest : ℕ → Result B) (p : ℕ) → Ok p ≡ shape_of r
    → shape_of (after r (λ a q. with (g a q) (rest q))) ≡ shape_of (rest p)
shape-after (good a q) g rest p e = shape-with (g a q) (rest q) ∙ ap (λ i. shape_of (rest i)) (let i : q ≡ p = cc in i)
shape-after (fault r offset) g rest p e = absurd (let z : ◌≡◌ {A = ℕ} 0 1 = cc in omega arith)

pub shape-fault : {A B : Type 0} (r : Result A) (f : A → ℕ → Result B) (x : Fault) → Err x ≡ shape_of r → shape_of (after r f) ≡ Err x
shape-fault (good a q) f x e = absurd (let z : ◌≡◌ {A = ℕ} 0 1 = cc in omega arith)
shape-fault (fault m q) f x e = sym e

-- a refusal at a place
abbrev pub fault_at : Refusal → ℕ → Fault
fault_at r at = record { refusal = r; offset = at }

-- ---- the definitions as states that a loop goes through: the place, and the least tag that may stand there

abbrev pub shapes : Source → Container → ℕ → ℕ × ℕ → Answer ℕ Fault
shapes x c k place = shape_of (elements_at k x place.0 c.end c.unstated c.depth place.1)

abbrev pub item_shapes : Source → Container → ℕ → ℕ → Answer ℕ Fault
item_shapes x c k at = shape_of (items_at k x at c.end c.unstated c.depth)

pub record Going (x : Source) (c : Container) (at low : ℕ) : Type 0 where
  pub ge : c.from ≤ at
  pub le : at ≤ c.end
  pub run : Run (shapes x c) (λ place. c.end - place.0) (c.from, 0) (at, low)

pub record GoingItems (x : Source) (c : Container) (at : ℕ) : Type 0 where
  pub ge : c.from ≤ at
  pub le : at ≤ c.end
  pub run : Run (item_shapes x c) (λ at. c.end - at) c.from at

module _ {x : Source} {c : Container} where
  pub start : c.from ≤ c.end → Going x c c.from 0
  start h = record { ge = omega arith; le = h; run = run-start }

  pub start-items : c.from ≤ c.end → GoingItems x c c.from
  start-items h = record { ge = omega arith; le = h; run = run-start }

  -- ---- a turn over elements

  module _ {at low : ℕ} (g : Going x c at low) {h : Answer Head Refusal} (is : h ≡ element_head x at c.end c.unstated low) (inside : Inside at c.end h) where
    pub stop-bad : (f : Fault) → h ≡ Err f.refusal → f.offset ≡ at → Walked x c (Err f)
    stop-bad f e place = record {
      stays = tt;
      shape = run-stop g.run (Err f) (λ j _. ap shape_of (at-bad x at c.end c.unstated c.depth low j f.refusal (sym e ∙ is)) ∙ ap (λ o. Err (fault_at f.refusal o)) (sym place));
    }

    pub stop-end : (p : ℕ) → h ≡ Ok (End p) → Walked x c (Ok p)
    stop-end p e = let i : Inside at c.end (Ok (End p)) = rw e at inside in record {
      stays = omega (arith, g.ge);
      shape = run-stop g.run (Ok p) (λ j _. ap shape_of (at-end x at c.end c.unstated c.depth low j p (sym e ∙ is)));
    }

    pub go-plain : (tag vr body p : ℕ) → h ≡ Ok (Plain tag vr body p) → Going x c p (tag + 1)
    go-plain tag vr body p e = let i : Inside at c.end (Ok (Plain tag vr body p)) = rw e at inside in record {
      ge = omega (arith, g.ge);
      le = i.2;
      run = run-turn g.run (p, tag + 1) (omega arith) (λ j _. ap shape_of (at-plain x at c.end c.unstated c.depth low j tag vr body p (sym e ∙ is))
          ∙ shape-with (elem (placed at body p) tag vr (value (part x.bytes body p))) (elements_at j x p c.end c.unstated c.depth (tag + 1)));
    }

    module _ {tag body last : ℕ} {m : Bool} (e : h ≡ Ok (Seq tag body last m)) {q : Answer ℕ Fault} (w : WalkedItems x (container body last m c.depth) q) where
      pub stop-seq : (f : Fault) → q ≡ Err f → Walked x c (Err f)
      stop-seq f eq = let i : Inside at c.end (Ok (Seq tag body last m)) = rw e at inside in record {
        stays = tt;
        shape = run-stop g.run (Err f) (λ j lt. ap shape_of (at-seq x at c.end c.unstated c.depth low j tag body last m (sym e ∙ is))
            ∙ shape-fault (items_at j x body last m c.depth) _ f (sym eq ∙ w.shape j (omega arith)));
      }

      pub go-seq : (p : ℕ) → q ≡ Ok p → Going x c p (tag + 1)
      go-seq p eq = let i : Inside at c.end (Ok (Seq tag body last m)) = rw e at inside in
          let st : Stays body last (Ok p) = rw eq at w.stays in record {
            ge = omega (arith, g.ge);
            le = omega arith;
            run = run-turn g.run (p, tag + 1) (omega arith) (λ j lt. ap shape_of (at-seq x at c.end c.unstated c.depth low j tag body last m (sym e ∙ is))
                ∙ shape-after (items_at j x body last m c.depth) (λ is q. elem (placed at body q) tag SQ (items is))
                (λ q. elements_at j x q c.end c.unstated c.depth (tag + 1)) p (sym eq ∙ w.shape j (omega arith)));
          }

  -- ---- a turn over items

  module _ {at : ℕ} (g : GoingItems x c at) {h : Answer Spot Refusal} (is : h ≡ item_head x.bytes at c.end c.unstated c.depth) (within : Within at c.end c.depth h) where
    pub stop-wrong : (f : Fault) → h ≡ Err f.refusal → f.offset ≡ at → WalkedItems x c (Err f)
    stop-wrong f e place = record {
      stays = tt;
      shape = run-stop g.run (Err f) (λ j _. ap shape_of (at-wrong x at c.end c.unstated c.depth j f.refusal (sym e ∙ is)) ∙ ap (λ o. Err (fault_at f.refusal o)) (sym place));
    }

    pub stop-over : (p : ℕ) → h ≡ Ok (Over p) → WalkedItems x c (Ok p)
    stop-over p e = let i : Within at c.end c.depth (Ok (Over p)) = rw e at within in record {
      stays = omega (arith, g.ge);
      shape = run-stop g.run (Ok p) (λ j _. ap shape_of (at-over x at c.end c.unstated c.depth j p (sym e ∙ is)));
    }

    module _ {body last : ℕ} {m : Bool} (e : h ≡ Ok (Item body last m)) {q : Answer ℕ Fault} (w : Walked x (deeper (container body last m c.depth)) q) where
      pub stop-item : (f : Fault) → q ≡ Err f → WalkedItems x c (Err f)
      stop-item f eq = let i : Within at c.end c.depth (Ok (Item body last m)) = rw e at within in record {
        stays = tt;
        shape = run-stop g.run (Err f) (λ j lt. ap shape_of (at-item x at c.end c.unstated c.depth j body last m (sym e ∙ is))
            ∙ shape-fault (elements_at j x body last m (c.depth - 1) 0) _ f (sym eq ∙ w.shape j (omega arith)));
      }

      pub go-item : (p : ℕ) → q ≡ Ok p → GoingItems x c p
      go-item p eq = let i : Within at c.end c.depth (Ok (Item body last m)) = rw e at within in
          let st : Stays body last (Ok p) = rw eq at w.stays in record {
            ge = omega (arith, g.ge);
            le = omega arith;
            run = run-turn g.run p (omega arith) (λ j lt. ap shape_of (at-item x at c.end c.unstated c.depth j body last m (sym e ∙ is))
                ∙ shape-after (elements_at j x body last m (c.depth - 1) 0) (λ es q. item es) (λ q. items_at j x q c.end c.unstated c.depth) p (sym eq ∙ w.shape j (omega arith)));
          }
