-- The customer's second demand. What a run writes is what Annex E orders, as document 01 reads it: at every depth, what is marked goes or
-- is replaced, what is to be kept survives byte for byte, UIDs are renamed consistently, and the written length, the four counts and the
-- ledger are the ones defined there. The data set that came in and the one that goes out stand in the relations of `Treated.antt`,
-- `Markers.antt` and `LedgerAfter.antt`, which are to be held against document 01. Proof: `proofs/Demand2Proof.antt`. That the
-- relations allow one outcome only: `proofs/Demand2One.antt`. That they leave nothing to refuse: `proofs/Demand2Accepted.antt`. Assumes
-- nothing.
--     NoneRemoved ds options level   no element whose action is X on its level stands in ds, at any depth
--     Exports i r out l              a run that was handed i, reports r, and leaves the output out and the ledger l, has exported rightly
--     Demand2                        the demand
--     EarlyClear i                   none of the conditions 1 to 5 holds, which look at the settings, the ledger's count and the length alone
--     Demand2Other                   the other half: where something stands in the relations to what a run was handed, the run is accepted
--     Demand2Exactly                 both: just what an accepted run leaves stands in them
use Rattle.std.specs.Prelude.{◌≡◌, ◌≢◌, ◌↔◌, List, ◌++◌, ℕ, suc, ◌-◌, ◌≤◌, length, take, replicate}
use Rattle.basis.specs.Bytes.{AllBytes}
use Rattle.layout.specs.Limits.{deepest}
use Rattle.layout.specs.Source.{explicitly}
use Rattle.layout.specs.Tree.{Field, value, items, nil, elem, Items, none as no_item, item, Data, bare}
use Rattle.layout.specs.Read.{good, with, read}
use Rattle.layout.specs.Write.{bytes_of}
use Rattle.layout.specs.Made.{Made}
use Rattle.table.specs.Action.{action_of}
use Rattle.table.specs.declared.Action.TheVariants.{Remove}
use Rattle.treatment.specs.Fates.{is_top, below}
use Rattle.treatment.specs.declared.Level.{Level}
use Rattle.treatment.specs.declared.Level.TheVariants.{Top}
use Rattle.treatment.specs.declared.Fate.TheVariants.{Walked}
use Rattle.outcome.specs.Input.{Input}
use Rattle.outcome.specs.Conditions.{conditions}
use Rattle.outcome.specs.Outcome.{Report, done, outcome_of, report_of, output_of, ledger_of}
use Rattle.promises.specs.Demand1.{NoneHolds}
use Rattle.promises.specs.Treated.{Treated}
use Rattle.promises.specs.Markers.{GainsMarkers}
use Rattle.promises.specs.LedgerAfter.{LedgerAfter}

unfoldable mutual
  pub NoneRemovedField : Field (Unit {0}) → ℕ → Level → Type 0
  NoneRemovedField (value v) options level = Unit {0}
  NoneRemovedField (items is) options level = NoneRemovedItems is options (below Walked level)

  pub NoneRemoved : Data → ℕ → Level → Type 0
  NoneRemoved nil options level = Unit {0}
  NoneRemoved (elem l tag vr f ds) options level =
      (action_of options (is_top level) tag ≢ Remove) × NoneRemovedField f options level × NoneRemoved ds options level

  pub NoneRemovedItems : Items (Unit {0}) → ℕ → Level → Type 0
  NoneRemovedItems no_item options level = Unit {0}
  NoneRemovedItems (item ds is) options level = NoneRemoved ds options level × NoneRemovedItems is options level

pub record Exports (i : Input) (r : Report) (out l : List ℕ) : Type 0 where
  -- the data set that came in
  pub came : Data
  pub past : ℕ
  pub reads : with bare (read deepest i.lent) ≡ good came past
  -- what is left of it, the UIDs that were renamed in output order, and the number of each
  pub left : Data
  pub uids : List (List ℕ)
  pub number_for : List ℕ → ℕ
  pub treated : Treated i.settings number_for Top came left r.counts uids
  pub none_removed : NoneRemoved left i.settings.options Top
  -- the data set that goes out: what is left, and the markers
  pub goes : Data
  pub markers : GainsMarkers i.settings.options left goes
  -- its tags are allowed and rise strictly on every level, values are even and fit their headers; an export may nest one deeper (W4)
  pub made : Made (suc deepest) 0 goes
  -- the output holds its bytes, each sequence and item in the style that document 01 orders, and then zeros to the end
  pub length_is : r.written ≡ length (bytes_of goes)
  pub fits : r.written ≤ i.room
  pub output : out ≡ bytes_of goes ++ replicate (i.room - r.written) 0
  -- and it reads back
  pub reads_back : with bare (read (suc deepest) (explicitly (take r.written out))) ≡ good goes r.written
  pub ledger : LedgerAfter i r l uids number_for
  -- no refusal
  pub refusal_zero : r.refusal ≡ 0
  pub offset_zero : r.offset ≡ 0

abbrev pub Demand2 : Type 0
Demand2 = (i : Input) → AllBytes i.lent.bytes → outcome_of i ≡ done → Exports i (report_of i) (output_of i) (ledger_of i)

abbrev pub EarlyClear : Input → Type 0
EarlyClear i = NoneHolds i (take 5 conditions)

-- so a definition that refuses by 6 to 14 what stands in the relations is shut out
abbrev pub Demand2Other : Type 0
Demand2Other = (i : Input) (r : Report) (out l : List ℕ) → EarlyClear i → Exports i r out l → outcome_of i ≡ done

abbrev pub Demand2Exactly : Type 0
Demand2Exactly =
    (i : Input) (r : Report) (out l : List ℕ) → AllBytes i.lent.bytes → EarlyClear i
    → Exports i r out l ↔ ((outcome_of i ≡ done) × (r ≡ report_of i) × (out ≡ output_of i) × (l ≡ ledger_of i))
