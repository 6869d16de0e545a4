-- Laws of `specs/Faults.antt`. No contract cites this file. Assumes nothing.
--     Eleven x              a fault among the values is 11 or 12
--     first_fault-number    so it is with the first of every data set
use mathlib.Core.Path.{◌≡◌, refl}
use mathlib.Core.Logic.{◌⊎◌, inl, inr}
use mathlib.Core.Bool.{Bool, true, false}
use mathlib.Core.List.{List}
use Rattle.std.specs.Prelude.{Option, None, Some}
use Prim.Native.Nat.{ℕ}
use lib.Dec.{eqb}
use Rattle.basis.specs.Choice.{pick, is_none}
use Rattle.basis.proofs.ChoiceLaws.{pick-case}
use Rattle.refusals.specs.Refusals.{number}
use Rattle.refusals.specs.declared.Refusal.TheVariants.{BadUids, BadDates}
use Rattle.refusals.specs.declared.Fault.{Fault}
use Rattle.vr.specs.Names.{DA}
use Rattle.layout.specs.Tree.{Field, value, items, Elements, nil, elem, Items, none as no_item, item, Place}
use Rattle.uid.specs.Value.{uids_fault}
use Rattle.calendar.specs.Values.{shifted_value}
use Rattle.treatment.specs.Settings.{Settings}
use Rattle.treatment.specs.Fates.{fate, walks_into, below}
use Rattle.treatment.specs.declared.Level.{Level}
use Rattle.treatment.specs.declared.Fate.{Fate}
use Rattle.treatment.specs.declared.Fate.TheVariants.{Removed, Kept, Walked, Emptied, Dummied, Renamed, Shifted, Wrong}
use Rattle.kept.specs.Faults.{value_fault, at, first, sequence_fault, field_fault, first_fault, items_fault}

abbrev pub Eleven : Option Fault → Type 0
Eleven None = Unit {0}
Eleven (Some f) = (number f.refusal ≡ 11) ⊎ (number f.refusal ≡ 12)

-- ---- value_fault

if-fault : (b : Bool) (offset : ℕ) → Eleven (at (pick b (Some BadUids) None) offset)
if-fault true offset = inl refl
if-fault false offset = tt

if-date : (b : Bool) (offset : ℕ) → Eleven (at (pick b (Some BadDates) None) offset)
if-date true offset = inr refl
if-date false offset = tt

value-eleven : (s : Settings) (φ : Fate) (vr : ℕ) (v : List ℕ) (offset : ℕ) → Eleven (at (value_fault s φ vr v) offset)
value-eleven s Removed vr v offset = tt
value-eleven s Kept vr v offset = tt
value-eleven s Walked vr v offset = tt
value-eleven s Emptied vr v offset = tt
value-eleven s Dummied vr v offset = tt
value-eleven s Renamed vr v offset = if-fault (uids_fault v) offset
value-eleven s Shifted vr v offset = if-date (is_none (shifted_value (eqb vr DA) s.shift v)) offset
value-eleven s Wrong vr v offset = inl refl

-- ---- first_fault

first-eleven : (x y : Option Fault) → Eleven x → Eleven y → Eleven (first x y)
first-eleven None y p q = q
first-eleven (Some f) y p q = p

sequence-eleven : (x : Option Fault) (φ : Fate) → Eleven x → Eleven (sequence_fault x φ)
sequence-eleven x φ p = pick-case Eleven (walks_into φ) x None (λ _. p) (λ _. tt)

mutual
  unfolding field_fault first_fault items_fault

  field-eleven : (f : Field Place) (s : Settings) (level : Level) (φ : Fate) (vr offset : ℕ) → Eleven (field_fault f s level φ vr offset)
  field-eleven (value v) s level φ vr offset = value-eleven s φ vr v offset
  field-eleven (items is) s level φ vr offset =
      sequence-eleven (items_fault is s (below φ level)) φ (items-eleven is s (below φ level))

  pub first_fault-number : (es : Elements Place) (s : Settings) (level : Level) → Eleven (first_fault es s level)
  first_fault-number nil s level = tt
  first_fault-number (elem p tag vr f es) s level =
      first-eleven (field_fault f s level (fate s level tag vr) vr p.at) (first_fault es s level)
      (field-eleven f s level (fate s level tag vr) vr p.at) (first_fault-number es s level)

  items-eleven : (is : Items Place) (s : Settings) (level : Level) → Eleven (items_fault is s level)
  items-eleven no_item s level = tt
  items-eleven (item es is) s level =
      first-eleven (first_fault es s level) (items_fault is s level) (first_fault-number es s level) (items-eleven is s level)
