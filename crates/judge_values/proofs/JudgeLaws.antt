-- What the loops of the walk over the values keep, and how a turn of each goes: the laws that the cycle's proof cites, an answer each.
-- `Going` and `GoingItems` are the loops' invariants: whatever tree stands at the start, some tree stands at the present place, and the
-- first fault of the two is the same, since nothing that was passed has one. n are the settings that are numbers, x is the data set, c the
-- container in it, and level that of the elements. Assumes nothing.
use mathlib.Core.Path.{◌≡◌, refl, sym, ap, ◌∙◌}
use mathlib.Core.Bool.{Bool, true, false}
use mathlib.Core.List.{List}
use Rattle.std.specs.Prelude.{Option, None, Some, Result as Answer, Ok, Err}
use Prim.Native.Nat.{ℕ, suc, ◌+◌, ◌-◌, ◌≤◌}
use native.Mathlib.Omega.{arith}
use lib.ListN.{length}
use Rattle.basis.specs.Bytes.{part}
use Rattle.refusals.specs.declared.Refusal.{Refusal}
use Rattle.refusals.specs.declared.Fault.{Fault}
use Rattle.vr.specs.Names.{SQ}
use Rattle.layout.specs.Source.{Source}
use Rattle.layout.specs.Tree.{value, items, Elements, nil, elem, Items, none as no_item, item, Place}
use Rattle.layout.specs.Heads.{unless, element_head, item_head}
use Rattle.layout.specs.Limits.{deepest}
use Rattle.layout.specs.Read.{Result, good, placed, elements_at, items_at, read, shape_of}
use Rattle.layout.specs.Walks.{Inside, Within, Stays, container, WalkedItems}
use Rattle.layout.specs.declared.Container.{Container}
use Rattle.layout.specs.declared.Head.{Head}
use Rattle.layout.specs.declared.Head.TheVariants.{End, Plain, Seq}
use Rattle.layout.specs.declared.Spot.{Spot}
use Rattle.layout.specs.declared.Spot.TheVariants.{Over, Item}
use Rattle.layout.proofs.ReadLaws.{was-bad, was-end, was-plain, was-seq, was-wrong, was-over, was-item}
use Rattle.treatment.specs.Settings.{Settings, Given}
use Rattle.treatment.specs.Fates.{fate_of, fate, walks_into, below}
use Rattle.treatment.specs.declared.SettingNumbers.{SettingNumbers}
use Rattle.treatment.specs.declared.Level.{Level}
use Rattle.treatment.specs.declared.Level.TheVariants.{Top}
use Rattle.treatment.specs.declared.Fate.{Fate}
use Rattle.kept.specs.Faults.{at as fault_at, first, value_fault, field_fault, first_fault, items_fault}
use Rattle.judge_values.specs.Judged.{judged, ElementJudged, ElementsJudged, SequenceJudged, ItemsJudged, WholeJudged}
use Rattle.judge_values.proofs.ValueLaws.{given-fate}
use Rattle.judge_values.proofs.Trace.{Trace, trace-start, trace-turn, trace-stop}

-- ---- judged, and the first of two faults

-- a walk without a fault found none, and ended where it should
judged-fine : (f : Option Fault) (p past : ℕ) → Ok p ≡ judged f past → (f ≡ None) × (p ≡ past)
judged-fine None p past e = (refl, cc)
judged-fine (Some f) p past e = absurd (let z : ◌≡◌ {A = ℕ} 0 1 = cc in omega arith)

-- a fault is the first, whatever comes after it
judged-first : (f g : Option Fault) (h : Fault) (past past' : ℕ) → Err h ≡ judged f past → Err h ≡ judged (first f g) past'
judged-first None g h past past' e = absurd (let z : ◌≡◌ {A = ℕ} 0 1 = cc in omega arith)
judged-first (Some f) g h past past' e = e

-- the fault of a value, at its element
judged-at : (v : Option Refusal) (h : Fault) (offset : ℕ) (g : Option Fault) (past : ℕ) → Err h.refusal ≡ unless {A = Unit {0}} v tt → h.offset ≡ offset
    → Err h ≡ judged (first (fault_at v offset) g) past
judged-at None h offset g past e o = absurd (let z : ◌≡◌ {A = ℕ} 0 1 = cc in omega arith)
judged-at (Some r) h offset g past e o = let same : h.refusal ≡ r = cc in λ i. Err (record { refusal = same i; offset = o i })

-- a value that is not refused
not-refused : (v : Option Refusal) → Ok tt ≡ unless {A = Unit {0}} v tt → v ≡ None
not-refused None e = refl
not-refused (Some r) e = absurd (let z : ◌≡◌ {A = ℕ} 0 1 = cc in omega arith)

-- ---- the first fault of what was read at a place

module _ (w : Settings) (level : Level) where
  plain-fault : (at body past tag vr : ℕ) (v : List ℕ) (es es' : Elements Place) → es ≡ elem (placed at body past) tag vr (value v) es'
      → first_fault es w level ≡ first (fault_at (value_fault w (fate w level tag vr) vr v) at) (first_fault es' w level)
  unfolding first_fault field_fault
  plain-fault at body past tag vr v es es' e = ap (λ t. first_fault t w level) e

  seq-fault : (at body past tag : ℕ) (is : Items Place) (es es' : Elements Place) → es ≡ elem (placed at body past) tag SQ (items is) es'
      → first_fault es w level ≡ first (field_fault (items is) w level (fate w level tag SQ) SQ at) (first_fault es' w level)
  unfolding first_fault
  seq-fault at body past tag is es es' e = ap (λ t. first_fault t w level) e

  nil-fault : (es : Elements Place) → es ≡ nil → first_fault es w level ≡ None
  unfolding first_fault
  nil-fault es e = ap (λ t. first_fault t w level) e

  over-fault : (is : Items Place) → is ≡ no_item → items_fault is w level ≡ None
  unfolding items_fault
  over-fault is e = ap (λ t. items_fault t w level) e

  item-fault : (es : Elements Place) (is is' : Items Place) → is ≡ item es is'
      → items_fault is w level ≡ first (first_fault es w level) (items_fault is' w level)
  unfolding items_fault
  item-fault es is is' e = ap (λ t. items_fault t w level) e

-- ---- the definitions as what a loop goes through: the place, and the least tag that may stand there

-- settings that have these numbers
abbrev pub Told : SettingNumbers → Type 0
Told n = (w : Settings) × Given n w

abbrev pub trees : Source → Container → ℕ → ℕ × ℕ → Result (Elements Place)
trees x c k place = elements_at k x place.0 c.end c.unstated c.depth place.1

abbrev pub item_trees : Source → Container → ℕ → ℕ → Result (Items Place)
item_trees x c k at = items_at k x at c.end c.unstated c.depth

pub record Going (n : SettingNumbers) (x : Source) (c : Container) (level : Level) (at low : ℕ) : Type 0 where
  pub ge : c.from ≤ at
  pub le : at ≤ c.end
  pub trace : Trace {I = Told n} (trees x c) (λ place. c.end - place.0) (λ i es. first_fault es i.0 level) (c.from, 0) (at, low)

pub record GoingItems (n : SettingNumbers) (x : Source) (c : Container) (level : Level) (at : ℕ) : Type 0 where
  pub ge : c.from ≤ at
  pub le : at ≤ c.end
  pub trace : Trace {I = Told n} (item_trees x c) (λ at. c.end - at) (λ i is. items_fault is i.0 level) c.from at

module _ {n : SettingNumbers} {x : Source} {c : Container} {level : Level} where
  pub start : c.from ≤ c.end → Going n x c level c.from 0
  start h = record { ge = omega arith; le = h; trace = trace-start }

  pub start-items : c.from ≤ c.end → GoingItems n x c level c.from
  start-items h = record { ge = omega arith; le = h; trace = trace-start }

  -- ---- a turn over elements

  module _ {at low : ℕ} (g : Going n x c level at low)
      {h : Answer Head Refusal} (is : h ≡ element_head x at c.end c.unstated low) (inside : Inside at c.end h) where
    ends : (r : Answer ℕ Fault) → Stays c.from c.end r
        → ((i : Told n) (j : ℕ) (es : Elements Place) (past : ℕ) → c.end - at ≤ j
        → elements_at (suc j) x at c.end c.unstated c.depth low ≡ good es past
        → r ≡ judged (first_fault es i.0 level) past)
        → ElementsJudged n x c level r
    ends r st f = record {
      stays = st;
      right = λ w has. trace-stop g.trace (λ v past. r ≡ judged v past) f (w, has);
    }

    pub stop-bad : (f : Fault) → h ≡ Err f.refusal → ElementsJudged n x c level (Err f)
    stop-bad f e = ends (Err f) tt (λ i j es past lt found.
        absurd (was-bad x at c.end c.unstated c.depth low j es past found f.refusal (sym e ∙ is)))

    pub stop-end : (p : ℕ) → h ≡ Ok (End p) → ElementsJudged n x c level (Ok p)
    stop-end p e = let v : Inside at c.end (Ok (End p)) = rw e at inside in
        ends (Ok p) (omega (arith, g.ge)) (λ i j es past lt found.
        let y = was-end x at c.end c.unstated c.depth low j es past found p (sym e ∙ is) in
        ap Ok y.1 ∙ ap (λ v. judged v past) (sym (nil-fault i.0 level es y.0)))

    module _ {tag vr body p : ℕ} (e : h ≡ Ok (Plain tag vr body p)) {f : Answer (Unit {0}) Refusal} (q : ElementJudged n level tag vr (part x.bytes body p) f) where
      pub stop-plain : (z : Fault) → f ≡ Err z.refusal → z.offset ≡ at → ElementsJudged n x c level (Err z)
      stop-plain z er here = ends (Err z) tt (λ i j es past lt found.
          let y = was-plain x at c.end c.unstated c.depth low j es past found tag vr body p (sym e ∙ is) in
          let rest : Option Fault = first_fault y.0 i.0 level in
          judged-at (value_fault i.0 (fate i.0 level tag vr) vr (part x.bytes body p)) z at rest past (sym er ∙ q.right i.0 i.1) here
          ∙ ap (λ v. judged v past) (sym (plain-fault i.0 level at body p tag vr (part x.bytes body p) es y.0 y.2)))

      pub go-plain : f ≡ Ok tt → Going n x c level p (tag + 1)
      go-plain fine = let v : Inside at c.end (Ok (Plain tag vr body p)) = rw e at inside in record {
        ge = omega (arith, g.ge);
        le = v.2;
        trace = trace-turn g.trace (p, tag + 1) (omega arith) (λ i j es past lt found.
            let y = was-plain x at c.end c.unstated c.depth low j es past found tag vr body p (sym e ∙ is) in
            let rest : Option Fault = first_fault y.0 i.0 level in (
              y.0,
              y.1,
              plain-fault i.0 level at body p tag vr (part x.bytes body p) es y.0 y.2
                  ∙ ap (λ v. first (fault_at v at) rest) (not-refused _ (sym fine ∙ q.right i.0 i.1)),
            ));
      }

    module _ {tag body last : ℕ} {m : Bool} (e : h ≡ Ok (Seq tag body last m)) {r : Answer ℕ Fault}
        (q : SequenceJudged n x (container body last m c.depth) level tag r) where
      pub stop-seq : (z : Fault) → r ≡ Err z → ElementsJudged n x c level (Err z)
      stop-seq z er = let v : Inside at c.end (Ok (Seq tag body last m)) = rw e at inside in
          ends (Err z) tt (λ i j es past lt found.
          let y = was-seq x at c.end c.unstated c.depth low j es past found tag body last m (sym e ∙ is) in
          judged-first (field_fault (items y.0) i.0 level (fate i.0 level tag SQ) SQ at) (first_fault y.2 i.0 level) z y.1 past
          (sym er ∙ q.right i.0 i.1 j y.0 y.1 (omega arith) y.3 at)
          ∙ ap (λ v. judged v past) (sym (seq-fault i.0 level at body y.1 tag y.0 es y.2 y.5)))

      pub go-seq : (p : ℕ) → r ≡ Ok p → Going n x c level p (tag + 1)
      go-seq p er =
          let v : Inside at c.end (Ok (Seq tag body last m)) = rw e at inside in
          let st : Stays body last (Ok p) = rw er at q.stays in record {
            ge = omega (arith, g.ge);
            le = omega arith;
            trace = trace-turn g.trace (p, tag + 1) (omega arith) (λ i j es past lt found.
                let y = was-seq x at c.end c.unstated c.depth low j es past found tag body last m (sym e ∙ is) in
                let z = judged-fine (field_fault (items y.0) i.0 level (fate i.0 level tag SQ) SQ at) p y.1
                (sym er ∙ q.right i.0 i.1 j y.0 y.1 (omega arith) y.3 at) in (
                  y.2,
                  rw z.1 y.4,
                  seq-fault i.0 level at body y.1 tag y.0 es y.2 y.5
                      ∙ ap (λ f. first f (first_fault y.2 i.0 level)) z.0,
                ));
          }

  -- ---- a turn over items

  module _ {at : ℕ} (g : GoingItems n x c level at)
      {h : Answer Spot Refusal} (is : h ≡ item_head x.bytes at c.end c.unstated c.depth) (within : Within at c.end c.depth h) where
    ends-items : (r : Answer ℕ Fault) → Stays c.from c.end r
        → ((i : Told n) (j : ℕ) (is : Items Place) (past : ℕ) → c.end - at ≤ j
        → items_at (suc j) x at c.end c.unstated c.depth ≡ good is past
        → r ≡ judged (items_fault is i.0 level) past)
        → ItemsJudged n x c level r
    ends-items r st f = record {
      stays = st;
      right = λ w has. trace-stop g.trace (λ v past. r ≡ judged v past) f (w, has);
    }

    pub stop-wrong : (f : Fault) → h ≡ Err f.refusal → ItemsJudged n x c level (Err f)
    stop-wrong f e = ends-items (Err f) tt (λ i j is' past lt found.
        absurd (was-wrong x at c.end c.unstated c.depth j is' past found f.refusal (sym e ∙ is)))

    pub stop-over : (p : ℕ) → h ≡ Ok (Over p) → ItemsJudged n x c level (Ok p)
    stop-over p e = let v : Within at c.end c.depth (Ok (Over p)) = rw e at within in
        ends-items (Ok p) (omega (arith, g.ge)) (λ i j is' past lt found.
        let y = was-over x at c.end c.unstated c.depth j is' past found p (sym e ∙ is) in
        ap Ok y.1 ∙ ap (λ v. judged v past) (sym (over-fault i.0 level is' y.0)))

    module _ {body last : ℕ} {m : Bool} (e : h ≡ Ok (Item body last m)) {r : Answer ℕ Fault}
        (q : ElementsJudged n x (container body last m (c.depth - 1)) level r) where
      pub stop-item : (z : Fault) → r ≡ Err z → ItemsJudged n x c level (Err z)
      stop-item z er = let v : Within at c.end c.depth (Ok (Item body last m)) = rw e at within in
          ends-items (Err z) tt (λ i j is' past lt found.
          let y = was-item x at c.end c.unstated c.depth j is' past found body last m (sym e ∙ is) in
          judged-first (first_fault y.0 i.0 level) (items_fault y.2 i.0 level) z y.1 past
          (sym er ∙ q.right i.0 i.1 j y.0 y.1 (omega arith) y.3)
          ∙ ap (λ v. judged v past) (sym (item-fault i.0 level y.0 is' y.2 y.5)))

      pub go-item : (p : ℕ) → r ≡ Ok p → GoingItems n x c level p
      go-item p er =
          let v : Within at c.end c.depth (Ok (Item body last m)) = rw e at within in
          let st : Stays body last (Ok p) = rw er at q.stays in record {
            ge = omega (arith, g.ge);
            le = omega arith;
            trace = trace-turn g.trace p (omega arith) (λ i j is' past lt found.
                let y = was-item x at c.end c.unstated c.depth j is' past found body last m (sym e ∙ is) in
                let z = judged-fine (first_fault y.0 i.0 level) p y.1
                (sym er ∙ q.right i.0 i.1 j y.0 y.1 (omega arith) y.3) in (
                  y.2,
                  rw z.1 y.4,
                  item-fault i.0 level y.0 is' y.2 y.5
                      ∙ ap (λ f. first f (items_fault y.2 i.0 level)) z.0,
                ));
          }

-- ---- a sequence, by its fate φ

module _ {n : SettingNumbers} {x : Source} {c : Container} {level : Level} {tag : ℕ} {φ : Fate} (is : φ ≡ fate_of n.options level tag SQ)
    {b : Bool} (into : b ≡ walks_into φ) where
  pub goes-in : b ≡ true → {inner : Level} → inner ≡ below φ level → {r : Answer ℕ Fault} → ItemsJudged n x c inner r → SequenceJudged n x c level tag r
  unfolding field_fault
  goes-in t under q = record {
    stays = q.stays;
    right = λ w has k is' past lt found offset. rw (given-fate has level tag SQ is, ← into, t, ← under) (q.right w has k is' past lt found);
  }

  pub passes : b ≡ false → {r : Answer ℕ Fault} → WalkedItems x c r → SequenceJudged n x c level tag r
  unfolding field_fault
  passes t q = record {
    stays = q.stays;
    right = λ w has k is' past lt found offset. rw (given-fate has level tag SQ is, ← into, t) (q.shape k lt ∙ ap shape_of found);
  }

-- ---- the whole data set

pub whole : {n : SettingNumbers} {x : Source} {r : Answer ℕ Fault} → ElementsJudged n x (container 0 (length x.bytes) false deepest) Top r → WholeJudged n x r
unfolding read
whole {x = x} q = record { right = λ w has es past found. q.right w has (suc (length x.bytes)) es past (omega arith) found }
