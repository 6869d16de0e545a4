-- The three demands for the C interface: the same as in `Running.antt`, stated over the contract of `corravisk_deidentify` as its source has
-- it, in the eight numbers that a call leaves. Proofs: `proofs/RunningCProof.antt`. Assumes nothing.
--     Calls κs x n l out m     a call that is lent what the station is, x, and the numbers n, may leave the ledger l, the output out and the numbers m
--     report_in ns           the report that eight numbers are, in the order of `include/corravisk.h`
--     outcome_in ns          the outcome that they say: done where the refusal is 0
--     CDemand1               whatever a call is lent: it leaves eight numbers and ends rightly
--     CDemand2               where it is done, it has exported rightly
--     CDemand2Other          where something could be exported rightly, and none of the conditions 1 to 5 holds, it is done
--     CCall, RanByC s l n xs outs    the data sets xs were run in order by such calls under the settings s, from the ledger l with n entries in use;
--                            each was accepted and was handed the ledger and the count that the one before it left; outs is what they left
--     CDemand3               the outputs of two batches are equal exactly when their kept contents are, up to one renaming
use Rattle.std.specs.Prelude.{◌≡◌, ◌↔◌, List, [], ◌∷◌, map, ℕ, zero, suc, length, take, get_or}
use contract.Lifetimes.{Lfts}
use Rattle.std.specs.Borrow.{MutBor}
use Rattle.basis.specs.Bytes.{AllBytes}
use Rattle.layout.specs.Source.{Source, explicitly}
use Rattle.treatment.specs.Settings.{Settings}
use Rattle.kept.specs.Counts.{counts}
use Rattle.kept.specs.Renaming.{OneRenaming}
use Rattle.outcome.specs.Outcome.{Outcome, refused, done, Report}
use Rattle.abi.proofs.corravisk_deidentify.Reads as corravisk-deidentify
use Rattle.promises.specs.Demand1.{EndsRightly}
use Rattle.promises.specs.Demand2.{Exports, EarlyClear}
use Rattle.promises.specs.Demand3.{content_of}
use Rattle.promises.specs.Running.{Lent, input}

abbrev pub Calls : Lfts 6 → Lent → MutBor (List ℕ) → MutBor (List ℕ) → MutBor (List ℕ) → MutBor (List ℕ) → Type 0
Calls κs x n l out m =
    corravisk-deidentify.Learnt κs
    (x.lent, (x.options, (x.shift, (x.root, (x.study, (x.site, (x.ledger, (x.used, (x.out, (n, tt))))))))))
    tt (x.lent, (x.options, (x.shift, (x.root, (x.study, (x.site, (l, (x.used, (out, (m, tt))))))))))

-- refusal, offset, length, count in use; kept, replaced, renamed, removed
abbrev pub report_in : List ℕ → Report
report_in ns = record {
  refusal = get_or ns 0 0;
  offset = get_or ns 1 0;
  written = get_or ns 2 0;
  used = get_or ns 3 0;
  counts = counts (get_or ns 4 0) (get_or ns 5 0) (get_or ns 6 0) (get_or ns 7 0);
}

abbrev pub outcome_by : ℕ → ℕ → Outcome
outcome_by zero offset = done
outcome_by (suc n) offset = refused (suc n) offset

abbrev pub outcome_in : List ℕ → Outcome
outcome_in ns = outcome_by (report_in ns).refusal (report_in ns).offset

abbrev pub CDemand1 : Type 0
CDemand1 =
    (κs : Lfts 6) (x : Lent) (n l out m : MutBor (List ℕ)) → Calls κs x n l out m
    → (length m.now ≡ 8) × EndsRightly (input x) (outcome_in m.now) (report_in m.now) out.now l.now

abbrev pub CDemand2 : Type 0
CDemand2 =
    (κs : Lfts 6) (x : Lent) (n l out m : MutBor (List ℕ)) → Calls κs x n l out m → AllBytes x.lent.now → (report_in m.now).refusal ≡ 0
    → Exports (input x) (report_in m.now) out.now l.now

abbrev pub CDemand2Other : Type 0
CDemand2Other =
    (κs : Lfts 6) (x : Lent) (n l out m : MutBor (List ℕ)) → Calls κs x n l out m → EarlyClear (input x) → (q : Report) (bytes k : List ℕ)
    → Exports (input x) q bytes k → (report_in m.now).refusal ≡ 0

-- a call that was lent the data set d, under the settings s, with the ledger l and n entries in use
pub record CCall (s : Settings) (l : List ℕ) (n : ℕ) (d : Source) : Type 0 where
  pub lifetimes : Lfts 6
  pub given : Lent
  pub numbers : MutBor (List ℕ)
  pub lent_is : explicitly given.lent.now ≡ d
  pub settings_are : (input given).settings ≡ s
  pub ledger_is : given.ledger.now ≡ l
  pub used_is : given.used ≡ n
  pub bytes : AllBytes d.bytes
  pub ledger : MutBor (List ℕ)
  pub out : MutBor (List ℕ)
  pub report : MutBor (List ℕ)
  pub calls : Calls lifetimes given numbers ledger out report
  pub accepted : (report_in report.now).refusal ≡ 0

pub data RanByC (s : Settings) : List ℕ → ℕ → List Source → List (List ℕ) → Type 0 where
  none : {l : List ℕ} {n : ℕ} → RanByC s l n [] []
  next : {l : List ℕ} {n : ℕ} {d : Source} {ds : List Source} {outs : List (List ℕ)} (c : CCall s l n d)
      → RanByC s c.ledger.now (report_in c.report.now).used ds outs
      → RanByC s l n (d ∷ ds) (take (report_in c.report.now).written c.out.now ∷ outs)

abbrev pub CDemand3 : Type 0
CDemand3 =
    (s : Settings) (l k : List ℕ) (xs ys : List Source) (outs ends : List (List ℕ)) → length xs ≡ length ys → RanByC s l 0 xs outs → RanByC s k 0 ys ends
    → (outs ≡ ends) ↔ OneRenaming (map (content_of s) xs) (map (content_of s) ys)
