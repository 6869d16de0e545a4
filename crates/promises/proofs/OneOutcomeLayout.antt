-- One outcome for the public routines of `layout` and `view`, in the words of `OneOutcome`. No contract cites this file.
-- Assumes nothing.
use mathlib.Core.Path.{◌≡◌, sym, ◌∙◌}
use mathlib.Core.Bool.{Bool}
use Rattle.std.specs.Prelude.{Option, None, Some, Result, Ok, Err}
use Rattle.view.specs.declared.Part.{Part}
use Rattle.std.specs.declared.clone.Clone.{Ghosts}
use Prim.Native.Nat.{ℕ, suc, ◌-◌}
use native.Mathlib.Omega.{arith}
use contract.Lifetimes.{Lfts}
use denote.Ref.{MutBor}
use denote.RattleType.{RattleType}
use denote.Param.Laws.{Laws, IsCopy}
use mir.Syntax.{Dict}
use Rattle.refusals.specs.declared.Refusal.{Refusal}
use Rattle.refusals.specs.declared.Fault.{Fault}
use Rattle.layout.specs.declared.Head.{Head}
use Rattle.layout.specs.declared.Spot.{Spot}
use Rattle.view.specs.View.{view_of, Shows}
use Rattle.layout.specs.Source.{explicitly}
use Rattle.layout.specs.declared.Container.{Container}
use Rattle.view.specs.declared.Attribute.{Attribute}
use Rattle.layout.proofs.u16_at.Reads as u16-at
use Rattle.layout.proofs.u32_at.Reads as u32-at
use Rattle.layout.proofs.tag_at.Reads as tag_at
use Rattle.layout.proofs.element_head.Reads as element-head
use Rattle.layout.proofs.item_head.Reads as item-head
use Rattle.layout.proofs.located.Reads as located
use Rattle.layout.proofs.sequence.Reads as sequence
use Rattle.layout.proofs.shape_of.Reads as shape_of
use Rattle.view.proofs.answer_to.Reads as answer-to
use Rattle.view.proofs.search.Reads as search
use Rattle.view.proofs.view.Reads as view
use Rattle.promises.proofs.OneOutcome.{Slice, OneRead, SamePart, part-one}

-- ---- layout

pub u16-at-one : (at : ℕ) → OneRead 1 ℕ (λ κs s r. u16-at.Learnt κs (s, (at, tt)) r (s, (at, tt)))
u16-at-one at κs κs' s s' r r' e a b = cc

pub u32-at-one : (at : ℕ) → OneRead 1 ℕ (λ κs s r. u32-at.Learnt κs (s, (at, tt)) r (s, (at, tt)))
u32-at-one at κs κs' s s' r r' e a b = cc

pub tag-at-one : (at : ℕ) → OneRead 1 ℕ (λ κs s r. tag_at.Learnt κs (s, (at, tt)) r (s, (at, tt)))
tag-at-one at κs κs' s s' r r' e a b = cc

pub element-head-one : (at end : ℕ) (unstated : Bool) (low : ℕ)
    → OneRead 1 (Result Head Refusal) (λ κs s r. element-head.Learnt κs (s, (at, (end, (unstated, (low, tt))))) r (s, (at, (end, (unstated, (low, tt))))))
element-head-one at end unstated low κs κs' s s' r r' e a b = cc

pub item-head-one : (at end : ℕ) (unstated : Bool) (depth : ℕ)
    → OneRead 1 (Result Spot Refusal) (λ κs s r. item-head.Learnt κs (s, (at, (end, (unstated, (depth, tt))))) r (s, (at, (end, (unstated, (depth, tt))))))
item-head-one at end unstated depth κs κs' s s' r r' e a b = cc

-- what is found may be of any type that is copied
pub located-one : (T : RattleType) (laws : Laws T) (copies : IsCopy T) (clones : Ghosts T.Denot) (dict : Dict) (κs κs' : Lfts 1) (found : Result T.Denot Refusal)
    (at : ℕ) (r r' : Result T.Denot Fault) → located.Learnt T laws copies clones dict κs (found, (at, tt)) r (found, (at, tt))
    → located.Learnt T laws copies clones dict κs' (found, (at, tt)) r' (found, (at, tt)) → r ≡ r'
located-one T laws copies clones dict κs κs' found at r r' a b = a ∙ sym b

pub sequence-one : (c : Container) → OneRead 1 (Result ℕ Fault) (λ κs s r. sequence.Learnt κs (s, (c, tt)) r (s, (c, tt)))
sequence-one c κs κs' s s' r r' e a b =
    cc (a.shape (suc (c.end - c.from)) (omega arith), b.shape (suc (c.end - c.from)) (omega arith))

pub shape-of-one : OneRead 1 (Result ℕ Fault) (λ κs s r. shape_of.Learnt κs (s, tt) r (s, tt))
shape-of-one κs κs' s s' r r' e a b = cc

-- ---- view

pub search-one : (tag : ℕ) → OneRead 1 (Result (Option Attribute) Fault) (λ κs s r. search.Learnt κs (s, (tag, tt)) r (s, (tag, tt)))
search-one tag κs κs' s s' r r' e a b = cc

pub answer-to-one : (tag : ℕ) → OneRead 1 (Result (Option Part) Fault) (λ κs s r. answer-to.Learnt κs (s, (tag, tt)) r (s, (tag, tt)))
answer-to-one tag κs κs' s s' r r' e a b = cc

abbrev pub Views : Lfts 4 → ℕ → Slice → MutBor ℕ → MutBor ℕ → MutBor ℕ → Slice → MutBor ℕ → MutBor ℕ → MutBor ℕ → Type 0
Views κs tag s n o f r n₁ o₁ f₁ = view.Learnt κs (s, (tag, (n, (o, (f, tt))))) r (s, (tag, (n₁, (o₁, (f₁, tt)))))

shows-one : (x : Result (Option Part) Fault) (r r' s s' : Slice) → s.now ≡ s'.now → Shows x r s → Shows x r' s' → SamePart (s.ref_ptr ≡ s'.ref_ptr) r r'
shows-one (Ok (Some part)) r r' s s' e a b = part-one r r' s s' part.start part.end e a b
shows-one (Ok None) r r' s s' e a b = part-one r r' s s' 0 0 e a b
shows-one (Err f) r r' s s' e a b = part-one r r' s s' 0 0 e a b

-- the numbers that were there before the call don't matter
pub view-one : (κs κs' : Lfts 4) (tag : ℕ) (s s' : Slice) (n n' o o' f f' : MutBor ℕ) (r r' : Slice) (n₁ n₁' o₁ o₁' f₁ f₁' : MutBor ℕ)
    → s.now ≡ s'.now → Views κs tag s n o f r n₁ o₁ f₁ → Views κs' tag s' n' o' f' r' n₁' o₁' f₁'
    → (n₁.now ≡ n₁'.now) × (o₁.now ≡ o₁'.now) × (f₁.now ≡ f₁'.now) × SamePart (s.ref_ptr ≡ s'.ref_ptr) r r'
view-one κs κs' tag s s' n n' o o' f f' r r' n₁ n₁' o₁ o₁' f₁ f₁' e a b =
    (cc, cc, cc, shows-one (view_of (explicitly s.now) tag) r r' s s' e a.0 (rw e b.0))
