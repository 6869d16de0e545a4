-- Laws of `specs/Heads.antt`. No contract cites this file. Assumes nothing.
--     length_fault-none    a length without fault is even and stays within its container
--     length_fault-number  a fault's number is one of document 01's
--     unless-case          the cases of a head that a length decides
--     vr_head-..           the rest of an element's head, by the kind of its VR
--     apart                eight bytes before its end a container does not end
use mathlib.Core.Path.{◌≡◌, refl, sym}
use mathlib.Core.Bool.{Bool, true, false}
use mathlib.Core.List.{List}
use Prim.Native.Nat.{ℕ, ◌+◌, ◌-◌, ◌%◌, ◌≤◌}
use native.Mathlib.Omega.{arith}
use lib.Dec.{eqb, ltb}
use borrow.Author.Tests.{eqb-true, ltb-false, ne_eqb}
use Rattle.basis.specs.Choice.{pick}
use Rattle.basis.specs.Bytes.{le2}
use Rattle.std.specs.Prelude.{Option, None, Some, Result, Ok, Err}
use Rattle.std.proofs.lemmas.Option.{none-some, same_Some}
use Rattle.refusals.specs.Refusals.{cut_short, too_deep, number}
use Rattle.refusals.specs.declared.Refusal.{Refusal}
use Rattle.refusals.specs.declared.Refusal.TheVariants.{CutShort, BadVr, BadLength}
use Rattle.vr.specs.Vr.{kind_of}
use Rattle.vr.specs.declared.Kind.TheVariants.{Short, Long, Sequence}
use Rattle.layout.specs.Heads.{length_fault, unless, value_head, long_head, vr_head}

-- ---- length_fault

pub length_fault-none : (n left : ℕ) → length_fault n left ≡ None → (n % 2 ≡ 0) × (n ≤ left)
unfolding length_fault
length_fault-none n left e = step (eqb (n % 2) 0) (ltb left n) refl refl e
  where
    step : (a b : Bool) → eqb (n % 2) 0 ≡ a → ltb left n ≡ b → pick a (pick b (Some CutShort) None) (Some BadLength) ≡ None → (n % 2 ≡ 0) × (n ≤ left)
    step true true p q e = absurd (none-some _ (sym e))
    step true false p q e = (eqb-true (n % 2) 0 p, ltb-false left n q)
    step false b p q e = absurd (none-some _ (sym e))

pub length_fault-number : (n left : ℕ) (r : Refusal) → length_fault n left ≡ Some r → (cut_short ≤ number r) × (number r ≤ too_deep)
unfolding length_fault
length_fault-number n left r e = step (eqb (n % 2) 0) (ltb left n) e
  where
    step : (a b : Bool) → pick a (pick b (Some CutShort) None) (Some BadLength) ≡ Some r → (cut_short ≤ number r) × (number r ≤ too_deep)
    step true true e = rw (← same_Some _ _ e) (omega arith, omega arith)
    step true false e = absurd (none-some _ e)
    step false b e = rw (← same_Some _ _ e) (omega arith, omega arith)

-- what holds of x where there is no fault, and of each fault, holds of x unless there is one
pub unless-case : {A : Type 0} (P : Result A Refusal → Type 0) (f : Option Refusal) (x : A) → (f ≡ None → P (Ok x)) → ((r : Refusal) → f ≡ Some r → P (Err r))
    → P (unless f x)
unless-case P None x good bad = good refl
unless-case P (Some r) x good bad = bad r refl

-- ---- vr_head: one law for each kind of VR

module _ (s : List ℕ) (at end tag vr : ℕ) where
  pub vr_head-unknown : kind_of vr ≡ None → vr_head s at end tag vr ≡ Err BadVr
  unfolding vr_head
  vr_head-unknown e = rw (e, vr_head)

  pub vr_head-short : kind_of vr ≡ Some Short → vr_head s at end tag vr ≡ value_head tag vr (at + 8) end (le2 s (at + 6))
  unfolding vr_head
  vr_head-short e = rw (e, vr_head)

  pub vr_head-long : kind_of vr ≡ Some Long → vr_head s at end tag vr ≡ long_head s at end tag vr false
  unfolding vr_head
  vr_head-long e = rw (e, vr_head)

  pub vr_head-sequence : kind_of vr ≡ Some Sequence → vr_head s at end tag vr ≡ long_head s at end tag vr true
  unfolding vr_head
  vr_head-sequence e = rw (e, vr_head)

-- ---- element_head, item_head

-- eight bytes are left, so the container does not end here
pub apart : (at end : ℕ) → 8 ≤ end - at → eqb at end ≡ false
apart at end h = ne_eqb at end (λ e. omega arith)
