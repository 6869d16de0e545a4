-- The tree that a data set's bytes are, or the first fault front to back: document 01, Layout, and the shape part of
-- "When the station says no" (F20, F23). Everything that comes after the shape speaks of this tree.
--     Result A          what was read and the place past it, or a fault: its refusal and its offset
--     with f r          r, with f of what was read
--     after r f         f of what was read and the place past it, or r's fault
--     placed at body past      a label
--     elements_at, items_at    the elements of a container, the items of a sequence, from a place on (m: its end mark closes it)
--     read depth x      the tree of the data set x, where items may nest `depth` deep
--     shape_of r        the code's answer to a result: the place past what was read, or its fault
-- The first argument of elements_at and items_at bounds how far the calls go; where it is used up, the fault is none of the shape's. `read`
-- gives one that is always enough (`read-fault` in `proofs/MadeLaws.antt` shows it). Laws: `proofs/ReadLaws.antt`. Assumes nothing.
use Rattle.std.specs.Prelude.{Bool, false, ℕ, zero, suc, ◌+◌, ◌-◌, length, Result as Answer, Ok, Err}
use Rattle.basis.specs.Bytes.{part}
use Rattle.refusals.specs.declared.Refusal.{Refusal}
use Rattle.refusals.specs.declared.Refusal.TheVariants.{BadSettings}
use Rattle.refusals.specs.declared.Fault.{Fault}
use Rattle.vr.specs.Names.{SQ}
use Rattle.layout.specs.Source.{Source}
use Rattle.layout.specs.Tree.{value, items, Elements, nil, elem, Items, none, item, Place}
use Rattle.layout.specs.Heads.{element_head, item_head}
use Rattle.layout.specs.declared.Head.TheVariants.{End, Plain, Seq}
use Rattle.layout.specs.declared.Spot.TheVariants.{Over, Item}

pub data Result (A : Type 0) : Type 0 where
  good : A → (past : ℕ) → Result A
  fault : (refusal : Refusal) → (offset : ℕ) → Result A

abbrev pub with : {A B : Type 0} → (A → B) → Result A → Result B
with f (good a past) = good (f a) past
with f (fault r offset) = fault r offset

abbrev pub after : {A B : Type 0} → Result A → (A → ℕ → Result B) → Result B
after (good a past) f = f a past
after (fault r offset) f = fault r offset

abbrev pub placed : ℕ → ℕ → ℕ → Place
placed at body past = record { at = at; body = body; past = past }

unfoldable mutual
  pub elements_at : ℕ → Source → ℕ → ℕ → Bool → ℕ → ℕ → Result (Elements Place)
  elements_at zero x at end unstated depth low = fault BadSettings 0
  elements_at (suc k) x at end unstated depth low =
      elim (element_head x at end unstated low) [
        | Err r ↦ fault r at
        | Ok (End past) ↦ good nil past
        | Ok (Plain tag vr body past) ↦
            with (elem (placed at body past) tag vr (value (part x.bytes body past))) (elements_at k x past end unstated depth (tag + 1))
        | Ok (Seq tag body stop m) ↦
            after (items_at k x body stop m depth) (λ is past.
            with (elem (placed at body past) tag SQ (items is)) (elements_at k x past end unstated depth (tag + 1)))
      ]

  pub items_at : ℕ → Source → ℕ → ℕ → Bool → ℕ → Result (Items Place)
  items_at zero x at end unstated depth = fault BadSettings 0
  items_at (suc k) x at end unstated depth =
      elim (item_head x.bytes at end unstated depth) [
        | Err r ↦ fault r at
        | Ok (Over past) ↦ good none past
        | Ok (Item body stop m) ↦
            after (elements_at k x body stop m (depth - 1) 0) (λ es past.
            with (item es) (items_at k x past end unstated depth))
      ]

unfoldable pub read : ℕ → Source → Result (Elements Place)
read depth x = elements_at (suc (length x.bytes)) x 0 (length x.bytes) false depth 0

abbrev pub shape_of : {A : Type 0} → Result A → Answer ℕ Fault
shape_of (good a past) = Ok past
shape_of (fault r offset) = Err (record { refusal = r; offset = offset })
