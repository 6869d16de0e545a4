-- The three demands for the running code. They are stated over the contract of `station::deidentify` as its source has it (`Learnt`, which
-- the kit makes of the source), so that a weakened `ensures` there is refused here. That a call comes to an end is what a proved
-- contract says. Proofs: `proofs/RunningProof.antt`, `proofs/RunningBatches.antt`. Assumes nothing.
--     Lent              what a call of the station is lent and handed
--     input x           the same in the words of crate `outcome`
--     Runs x r l out      a call may answer r, and leave the ledger l and the output out
--     outcome r         the refusal that the answer r says, or that it is done
--     RunningDemand1    whatever a call is lent: it ends rightly
--     RunningDemand2    where it is done, it has exported rightly
--     RunningDemand2Other    where something could be exported rightly, and none of the conditions 1 to 5 holds, it is done
--     RanBy s l n xs outs    the data sets xs were run in order by calls of the station under the settings s, from the ledger l with n entries in
--                       use; each was accepted and was handed the ledger and the count that the one before it left; outs is what they left
--     RunningDemand3    the outputs of two batches are equal exactly when their kept contents are, up to one renaming
use Rattle.std.specs.Prelude.{◌≡◌, ◌↔◌, List, [], ◌∷◌, map, ℕ, ℤ, length, take, Result, Ok, Err}
use contract.Lifetimes.{Lfts}
use Rattle.std.specs.Borrow.{Bor, MutBor}
use Rattle.basis.specs.Bytes.{AllBytes}
use Rattle.refusals.specs.Refusals.{number}
use Rattle.refusals.specs.declared.Fault.{Fault}
use Rattle.layout.specs.Source.{Source, explicitly}
use Rattle.treatment.specs.Settings.{Settings}
use Rattle.kept.specs.Renaming.{OneRenaming}
use Rattle.outcome.specs.Input.{Input}
use Rattle.outcome.specs.Outcome.{Outcome, refused, done, Report}
use Rattle.write_state.specs.declared.Progress.{Progress}
use Rattle.station.specs.Entry.{told, input_of, report}
use Rattle.station.proofs.deidentify.Reads as station
use Rattle.promises.specs.Demand1.{EndsRightly}
use Rattle.promises.specs.Demand2.{Exports, EarlyClear}
use Rattle.promises.specs.Demand3.{content_of}

-- the data set, the settings, the ledger with its count in use, and the output buffer
pub record Lent : Type 0 where
  pub lifetimes : Lfts 5
  pub lent : Bor (List ℕ)
  pub options : ℕ
  pub shift : ℤ
  pub root : Bor (List ℕ)
  pub study : Bor (List ℕ)
  pub site : Bor (List ℕ)
  pub ledger : MutBor (List ℕ)
  pub used : ℕ
  pub out : MutBor (List ℕ)

abbrev pub input : Lent → Input
input x =
    input_of (explicitly x.lent.now) (told x.options x.shift x.root.now x.study.now x.site.now) x.ledger.now x.used
    (length x.out.now)

abbrev pub Runs : Lent → Result Progress Fault → MutBor (List ℕ) → MutBor (List ℕ) → Type 0
Runs x r l out =
    station.Learnt x.lifetimes (x.lent, (x.options, (x.shift, (x.root, (x.study, (x.site, (x.ledger, (x.used, (x.out, tt)))))))))
    r (x.lent, (x.options, (x.shift, (x.root, (x.study, (x.site, (l, (x.used, (out, tt)))))))))

abbrev pub outcome : Result Progress Fault → Outcome
outcome (Err f) = refused (number f.refusal) f.offset
outcome (Ok t) = done

abbrev pub RunningDemand1 : Type 0
RunningDemand1 = (x : Lent) (r : Result Progress Fault) (l out : MutBor (List ℕ)) → Runs x r l out → EndsRightly (input x) (outcome r) (report x.used r) out.now l.now

abbrev pub RunningDemand2 : Type 0
RunningDemand2 =
    (x : Lent) (r : Result Progress Fault) (l out : MutBor (List ℕ)) → Runs x r l out → AllBytes x.lent.now → outcome r ≡ done
    → Exports (input x) (report x.used r) out.now l.now

abbrev pub RunningDemand2Other : Type 0
RunningDemand2Other =
    (x : Lent) (r : Result Progress Fault) (l out : MutBor (List ℕ)) → Runs x r l out → EarlyClear (input x) → (q : Report) (bytes k : List ℕ) → Exports (input x) q bytes k
    → outcome r ≡ done

-- a call that was lent the data set d, under the settings s, with the ledger l and n entries in use
pub record Call (s : Settings) (l : List ℕ) (n : ℕ) (d : Source) : Type 0 where
  pub given : Lent
  pub lent_is : explicitly given.lent.now ≡ d
  pub settings_are : (input given).settings ≡ s
  pub ledger_is : given.ledger.now ≡ l
  pub used_is : given.used ≡ n
  pub bytes : AllBytes d.bytes
  pub result : Result Progress Fault
  pub ledger : MutBor (List ℕ)
  pub out : MutBor (List ℕ)
  pub runs : Runs given result ledger out
  pub accepted : outcome result ≡ done

pub data RanBy (s : Settings) : List ℕ → ℕ → List Source → List (List ℕ) → Type 0 where
  none : {l : List ℕ} {n : ℕ} → RanBy s l n [] []
  next : {l : List ℕ} {n : ℕ} {d : Source} {ds : List Source} {outs : List (List ℕ)} (c : Call s l n d)
      → RanBy s c.ledger.now (report n c.result).used ds outs
      → RanBy s l n (d ∷ ds) (take (report n c.result).written c.out.now ∷ outs)

abbrev pub RunningDemand3 : Type 0
RunningDemand3 =
    (s : Settings) (l k : List ℕ) (xs ys : List Source) (outs ends : List (List ℕ)) → length xs ≡ length ys → RanBy s l 0 xs outs → RanBy s k 0 ys ends
    → (outs ≡ ends) ↔ OneRenaming (map (content_of s) xs) (map (content_of s) ys)
