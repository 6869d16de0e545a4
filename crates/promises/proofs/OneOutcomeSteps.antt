-- One outcome for the steps of the station, which an entry for another kind of input takes too. No contract cites this file. Assumes nothing.
--     early-refusal-one    the refusal of the first of the conditions 1 to 5 that holds
--     judge-one            the first fault of shape or among the values
--     refuse-one           a refusal: the answer, the output and the ledger
--     finish-one           what follows the walk that writes: the answer, the output and the ledger
use mathlib.Core.Path.{◌≡◌, refl}
use mathlib.Core.List.{[]}
use Rattle.std.specs.Prelude.{Result}
use Prim.Native.Nat.{ℕ}
use lib.IntN.{ℤ}
use contract.Lifetimes.{Lfts}
use denote.RattleType.{RattleType}
use denote.Param.Laws.{Laws}
use Rattle.refusals.specs.declared.Refusal.{Refusal}
use Rattle.refusals.specs.declared.Fault.{Fault}
use Rattle.treatment.specs.Settings.{Settings, settings_of, Given}
use Rattle.treatment.specs.declared.SettingNumbers.{SettingNumbers}
use Rattle.write_state.specs.Wrote.{Walk}
use Rattle.write_state.specs.declared.Progress.{Progress}
use Rattle.station.proofs.early_refusal.Reads as early-refusal
use Rattle.station.proofs.judge.Reads as judge
use Rattle.station.proofs.refuse.Reads as refuse
use Rattle.station.proofs.finish.Reads as finish
use Rattle.promises.proofs.OneOutcome.{Slice, Buffer}

abbrev pub Early : Lfts 4 → ℕ → ℕ → ℤ → Slice → Slice → Slice → Slice → ℕ → Result (Unit {0}) Refusal → Type 0
Early κs len options shift root study site l used r =
    early-refusal.Learnt κs (len, (options, (shift, (root, (study, (site, (l, (used, tt)))))))) r (len, (options, (shift, (root, (study, (site, (l, (used, tt))))))))

pub early-refusal-one : (κs κs' : Lfts 4) (len options : ℕ) (shift : ℤ) (root root' study study' site site' l l' : Slice) (used : ℕ) (r r' : Result (Unit {0}) Refusal)
    → root.now ≡ root'.now → study.now ≡ study'.now → site.now ≡ site'.now → l.now ≡ l'.now
    → Early κs len options shift root study site l used r → Early κs' len options shift root' study' site' l' used r' → r ≡ r'
early-refusal-one κs κs' len options shift root root' study study' site site' l l' used r r' c d e f a b = cc

pub judge-one : (κs κs' : Lfts 2) (n : SettingNumbers) (rows rows' s s' : Slice) (r r' : Result ℕ Fault) → s.now ≡ s'.now
    → judge.Learnt κs (rows, (n, (s, tt))) r (rows, (n, (s, tt))) → judge.Learnt κs' (rows', (n, (s', tt))) r' (rows', (n, (s', tt))) → r ≡ r'
judge-one κs κs' n rows rows' s s' r r' e a b = cc (a.right w has, b.right w has)
  where
    w : Settings
    w = settings_of n [] [] []

    has : Given n w
    has = record { options_are = refl; shift_is = refl }

-- what names the refusal may be of any type
pub refuse-one : (R : RattleType) (laws : Laws R) (κs κs' : Lfts 3) (refusal : R.Denot) (offset used : ℕ) (l l' o o' m m' p p' : Buffer) (r r' : Result Progress (R.Denot × ℕ))
    → l.now ≡ l'.now → o.now ≡ o'.now
    → refuse.Learnt R laws κs (refusal, (offset, (l, (used, (o, tt))))) r (tt, (offset, (m, (used, (p, tt)))))
    → refuse.Learnt R laws κs' (refusal, (offset, (l', (used, (o', tt))))) r' (tt, (offset, (m', (used, (p', tt)))))
    → (r ≡ r') × (p.now ≡ p'.now) × (m.now ≡ m'.now)
refuse-one R laws κs κs' refusal offset used l l' o o' m m' p p' r r' d e a b = (cc, cc, cc)

pub finish-one : (κs κs' : Lfts 2) (walk : Walk) (used : ℕ) (l l' o o' m m' p p' : Buffer) (r r' : Result Progress Fault) → l.now ≡ l'.now → o.now ≡ o'.now
    → finish.Learnt κs (walk, (l, (used, (o, tt)))) r (walk, (m, (used, (p, tt))))
    → finish.Learnt κs' (walk, (l', (used, (o', tt)))) r' (walk, (m', (used, (p', tt))))
    → (r ≡ r') × (p.now ≡ p'.now) × (m.now ≡ m'.now)
finish-one κs κs' walk used l l' o o' m m' p p' r r' d e a b = (cc, cc, cc)
