-- Laws of `early`: what is known where no condition holds. No contract cites this file. Assumes nothing.
--     NotEarly, not-early    what is known then
--     days-are               the days of a shift that was not refused
use mathlib.Core.Path.{◌≡◌, refl, sym, subst, ◌∙◌}
use mathlib.Core.Bool.{Bool, true, false, not, ◌&&◌}
use mathlib.Core.List.{List}
use Prim.Native.Nat.{ℕ, ◌≤◌}
use native.Mathlib.Omega.{arith}
use lib.Dec.{ltb}
use lib.IntN.{ℤ, nat_abs}
use mir.Syntax.{w32}
use mir.Val.{to_z, of_z}
use mir.Facts.{to_z-of_z}
use lib.ListN.{length}
use borrow.Author.Tests.{ltb-false}
use Rattle.std.proofs.lemmas.Option.{none-some}
use Rattle.std.specs.Prelude.{Option, None, Some, Result, Ok}
use Rattle.basis.specs.Choice.{pick}
use Rattle.refusals.specs.declared.Refusal.{Refusal}
use Rattle.refusals.specs.declared.Refusal.TheVariants.{BadSettings, BadRoot, BadCount, BadList, TooLong}
use Rattle.layout.specs.Heads.{unless}
use Rattle.layout.specs.Limits.{longest}
use Rattle.uid.specs.Uid.{is_root, longest_root}
use Rattle.uid.proofs.UidLaws.{uid_upto-is}
use Rattle.ledger.specs.Slots.{slots_of}
use Rattle.lists.specs.Lists.{list_ok}
use Rattle.options.specs.Settings.{most_shift, settings_fault}
use Rattle.options.proofs.SettingsLaws.{settings_fault-shift}
use Rattle.options.proofs.SignLaws.{fits-i32}
use Rattle.treatment.specs.Settings.{Settings}
use Rattle.station.specs.Steps.{early}

not-false : (b : Bool) → not b ≡ false → b ≡ true
not-false true e = refl
not-false false e = sym e

none-of-five : (a b c d e : Bool) → None ≡ pick a (Some BadSettings) (pick b (Some BadRoot) (pick c (Some BadCount) (pick d (Some BadList) (pick e (Some TooLong) None)))) → (a ≡ false) × (b ≡ false) × (c ≡ false) × (e ≡ false)
none-of-five true b c d e z = absurd (none-some _ z)
none-of-five false true c d e z = absurd (none-some _ z)
none-of-five false false true d e z = absurd (none-some _ z)
none-of-five false false false true e z = absurd (none-some _ z)
none-of-five false false false false true z = absurd (none-some _ z)
none-of-five false false false false false z = (refl, refl, refl, refl)

pub record NotEarly (n : ℕ) (s : Settings) (ledger : List ℕ) (used : ℕ) : Type 0 where
  pub days : nat_abs s.shift ≤ most_shift
  pub root_fits : length s.root ≤ longest_root
  pub slots : used ≤ slots_of ledger
  pub short : n ≤ longest

none-early : {u : Unit {0}} (f : Option Refusal) → Ok u ≡ unless {A = Unit {0}} f tt → None ≡ f
none-early None q = refl
none-early (Some r) q = absurd (let z : ◌≡◌ {A = ℕ} 0 1 = cc in omega arith)

pub not-early : (n : ℕ) (s : Settings) (ledger : List ℕ) (used : ℕ) {r : Result (Unit {0}) Refusal} {u : Unit {0}} → r ≡ unless (early n s ledger used) tt
    → r ≡ Ok u → NotEarly n s ledger used
unfolding early
not-early n s ledger used e z =
    let f = none-of-five (settings_fault s.options s.shift) (not (is_root s.root)) (ltb (slots_of ledger) used)
    (not (list_ok s.study && list_ok s.site)) (ltb longest n) (none-early _ (sym z ∙ e)) in
    record {
      days = settings_fault-shift s.options s.shift f.0;
      root_fits = (uid_upto-is longest_root s.root (not-false _ f.1)).upto;
      slots = ltb-false _ _ f.2;
      short = ltb-false _ _ f.3;
    }

-- the days that the walks are given are the shift's
pub days-are : {shift shift' d : ℤ} → shift' ≡ shift → nat_abs shift' ≤ most_shift → d ≡ shift' → shift ≡ to_z w32 (of_z w32 d)
days-are {shift} {shift'} {d} same small e = sym (to_z-of_z (fits-i32 d most_shift (subst (λ z. nat_abs z ≤ most_shift) (sym e) small) (omega arith)) ∙ e ∙ same)
