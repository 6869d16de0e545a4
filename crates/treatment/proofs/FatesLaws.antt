-- Laws of `specs/Fates.antt`. No contract cites this file. Assumes nothing.
--     Suits φ vr        what the fate φ says of the VR
--     fate_of-suits     so it is with every element, under every option number
--     fate-suits        the same under settings
--     fate-walked, fate-renamed, fate-shifted, fate-kept, fate-dummied, fate-wrong    the same, one fate each
--     Sequential φ      a sequence can have the fate φ: removed, walked into, emptied or dummied
--     sequence-fate     a sequence has such a fate
--     fate-reserved     the reserved tags are removed on the top level
use mathlib.Core.Path.{◌≡◌, refl}
use mathlib.Core.Logic.{◌≢◌, ◌⊎◌}
use mathlib.Core.Bool.{true}
use Prim.Native.Nat.{ℕ}
use native.Mathlib.Omega.{arith}
use Rattle.std.proofs.lemmas.Bool.Decides.{nat_tests}
use Rattle.basis.specs.Choice.{among}
use Rattle.vr.specs.Names.{DA, DT, SQ, UI}
use Rattle.table.specs.Rules.{reserved}
use Rattle.table.specs.Action.{action_of}
use Rattle.table.specs.declared.Action.{Action}
use Rattle.table.specs.declared.Action.TheVariants.{Remove, Keep, Empty, Dummy, Rename, Clean, CleanDates}
use Rattle.table.proofs.ActionLaws.{reserved-removed}
use Rattle.treatment.specs.Settings.{Settings}
use Rattle.treatment.specs.Fates.{is_top, by_action, fate_of, fate}
use Rattle.treatment.specs.declared.Level.{Level}
use Rattle.treatment.specs.declared.Level.TheVariants.{Top}
use Rattle.treatment.specs.declared.Fate.{Fate}
use Rattle.treatment.specs.declared.Fate.TheVariants.{Removed, Kept, Walked, Emptied, Dummied, Renamed, Shifted, Wrong}

-- ---- by_action

abbrev pub Suits : Fate → ℕ → Type 0
Suits Removed vr = Unit {0}
Suits Kept vr = vr ≢ SQ
Suits Walked vr = vr ≡ SQ
Suits Emptied vr = Unit {0}
Suits Dummied vr = vr ≢ UI
Suits Renamed vr = vr ≡ UI
Suits Shifted vr = (vr ≡ DA) ⊎ (vr ≡ DT)
Suits Wrong vr = (vr ≢ UI) × (vr ≢ SQ)

by_action-suits : (a : Action) (vr : ℕ) → Suits (by_action a vr) vr
unfolding among
by_action-suits Remove vr = tt
by_action-suits Keep vr = grind (arith, nat_tests)
by_action-suits Empty vr = tt
by_action-suits Dummy vr = grind (arith, nat_tests)
by_action-suits Rename vr = grind (arith, nat_tests)
by_action-suits Clean vr = grind (arith, nat_tests)
by_action-suits CleanDates vr = grind (arith, nat_tests)

-- ---- fate

pub fate-reserved : (s : Settings) (tag vr : ℕ) → among tag reserved ≡ true → fate s Top tag vr ≡ Removed
unfolding fate_of
fate-reserved s tag vr e = rw (reserved-removed s.options tag e)

pub fate_of-suits : (options : ℕ) (level : Level) (tag vr : ℕ) → Suits (fate_of options level tag vr) vr
unfolding fate_of
fate_of-suits options level tag vr = by_action-suits (action_of options (is_top level) tag) vr

module _ (s : Settings) (level : Level) (tag vr : ℕ) where
  pub fate-suits : Suits (fate s level tag vr) vr
  fate-suits = fate_of-suits s.options level tag vr

  pub fate-walked : fate s level tag vr ≡ Walked → vr ≡ SQ
  fate-walked e = rw e at fate-suits

  pub fate-renamed : fate s level tag vr ≡ Renamed → vr ≡ UI
  fate-renamed e = rw e at fate-suits

  pub fate-shifted : fate s level tag vr ≡ Shifted → (vr ≡ DA) ⊎ (vr ≡ DT)
  fate-shifted e = rw e at fate-suits

  pub fate-kept : fate s level tag vr ≡ Kept → vr ≢ SQ
  fate-kept e = rw e at fate-suits

  pub fate-dummied : fate s level tag vr ≡ Dummied → vr ≢ UI
  fate-dummied e = rw e at fate-suits

  pub fate-wrong : fate s level tag vr ≡ Wrong → (vr ≢ UI) × (vr ≢ SQ)
  fate-wrong e = rw e at fate-suits

-- ---- what a fate says of a sequence

-- a sequence can have this fate
abbrev pub Sequential : Fate → Type 0
Sequential Removed = Unit {0}
Sequential Kept = ⊥
Sequential Walked = Unit {0}
Sequential Emptied = Unit {0}
Sequential Dummied = Unit {0}
Sequential Renamed = ⊥
Sequential Shifted = ⊥
Sequential Wrong = ⊥

suits-sequential : (φ : Fate) → Suits φ SQ → Sequential φ
suits-sequential Removed u = tt
suits-sequential Kept u = u refl
suits-sequential Walked u = tt
suits-sequential Emptied u = tt
suits-sequential Dummied u = tt
suits-sequential Renamed u = absurd (omega (arith, u))
suits-sequential Shifted u = grind arith
suits-sequential Wrong u = u.1 refl

pub sequence-fate : (s : Settings) (level : Level) (tag : ℕ) → Sequential (fate s level tag SQ)
sequence-fate s level tag = suits-sequential (fate s level tag SQ) (fate-suits s level tag SQ)
