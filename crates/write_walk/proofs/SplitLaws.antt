-- The turns of the two loops: what stands at the present place is passed first, and what follows it then. Assumes nothing.
--     onward c at                what is left of the container c from the place `at` on
--     fault-elem, fault-item     where a tree has no fault in its values, its parts have none
--     split-plain, split-seq     an element with a value, or a sequence, and the elements after it
--     split-item                 an item, and those after it
--     wrote-bad, wrote-end       no element stands here: by a fault, or since the container ends
--     wrote-wrong, wrote-over    the same of items
use mathlib.Core.Path.{◌≡◌, refl, sym, ap, ◌∙◌}
use mathlib.Core.Bool.{Bool}
use mathlib.Core.List.{List}
use Rattle.refusals.specs.declared.Refusal.{Refusal}
use Rattle.std.specs.Prelude.{None, Some, Result, Ok, Err}
use Prim.Native.Nat.{ℕ, zero, suc, ◌+◌, ◌-◌, ◌≤◌, ◌<◌}
use native.Mathlib.Omega.{arith}
use lib.ListN.{length}
use Rattle.basis.specs.Bytes.{part}
use Rattle.buffer.specs.Buffer.{laid}
use Rattle.buffer.proofs.Laws.{length-laid}
use Rattle.vr.specs.Names.{SQ}
use Rattle.layout.specs.Source.{Source}
use Rattle.layout.specs.Tree.{Field, value, items, Elements, nil, elem, Items, item, Place}
use Rattle.layout.specs.Heads.{item_tag, item_end, sequence_end, undefined, element_head, item_head}
use Rattle.layout.specs.Read.{good, placed, elements_at, items_at}
use Rattle.layout.specs.Write.{mark}
use Rattle.layout.specs.Walks.{Inside, Within, container, deeper}
use Rattle.layout.specs.declared.Container.{Container}
use Rattle.layout.specs.declared.Head.{Head}
use Rattle.layout.specs.declared.Head.TheVariants.{End, Plain, Seq}
use Rattle.layout.specs.declared.Spot.{Spot}
use Rattle.layout.specs.declared.Spot.TheVariants.{Over, Item}
use Rattle.layout.proofs.ReadLaws.{was-bad, was-end, was-plain, was-seq, was-wrong, was-over, was-item}
use Rattle.ledger.specs.Slots.{slots_of}
use Rattle.treatment.specs.Settings.{Settings}
use Rattle.treatment.specs.Fates.{fate}
use Rattle.treatment.specs.declared.Level.{Level}
use Rattle.kept.specs.Faults.{field_fault, first_fault, items_fault}
use Rattle.kept.proofs.KeptLaws.{first-none}
use Rattle.write_markers.specs.Gains.{all_markers, gained}
use Rattle.write_state.specs.Bounds.{one_mark}
use Rattle.write_state.specs.Passed.{State, say, passed, passed_one, passed_items}
use Rattle.write_state.specs.Steps.{at_place}
use Rattle.write_state.specs.Wrote.{Holds, Wrote, ElementsPass, PlainPass, SequencePass, ItemsPass, ItemPass, Gaining}
use Rattle.write_state.specs.declared.Progress.{Progress}
use Rattle.write_state.proofs.PassedLaws.{passed-nil, passed-elem, passed-grows, items-none, items-item, items-grow}
use Rattle.write_state.proofs.HoldsLaws.{holds-say}
use Rattle.write_walk.proofs.RisesLaws.{Fits, head-fits, read-rises}
use Rattle.write_walk.proofs.WroteLaws.{Splits}

abbrev pub onward : Container → ℕ → Container
onward c at = container at c.end c.unstated c.depth

-- ---- faults in values

fault-elem : (w : Settings) (level : Level) (p : Place) (tag vr : ℕ) (f : Field Place) (es : Elements Place) → first_fault (elem p tag vr f es) w level ≡ None
    → (field_fault f w level (fate w level tag vr) vr p.at ≡ None) × (first_fault es w level ≡ None)
unfolding first_fault
fault-elem w level p tag vr f es e = first-none _ _ e

fault-item : (w : Settings) (level : Level) (es : Elements Place) (is : Items Place) → items_fault (item es is) w level ≡ None
    → (first_fault es w level ≡ None) × (items_fault is w level ≡ None)
unfolding items_fault
fault-item w level es is e = first-none _ _ e

-- ---- elements

module _ {w : Settings} {x : Source} (c : Container) {level : Level} {at low : ℕ}
    {h : Result Head Refusal} (is : h ≡ element_head x at c.end c.unstated low) (inside : Inside at c.end h) where
  pub split-plain : (tag vr body past : ℕ) → h ≡ Ok (Plain tag vr body past)
      → Splits (ElementsPass w x (onward c at) level low) (Gaining w level low tag (PlainPass w level tag vr x.bytes body past))
      (λ n. ElementsPass w x (onward c n) level (tag + 1)) body
  split-plain tag vr body past e next st st' y = go y.read.fuel y.read.enough y.read.reads
    where
      here : Ok (Plain tag vr body past) ≡ element_head x at c.end c.unstated low
      here = sym e ∙ is

      fit : Fits low (Ok (Plain tag vr body past))
      fit = rw (sym here) at (head-fits x at c.end c.unstated low)

      lies : Inside at c.end (Ok (Plain tag vr body past))
      lies = rw e at inside

      mid : State
      mid = passed_one w level (elem (placed at body past) tag vr (value (part x.bytes body past)) nil) (say st (gained level w.options low (tag + 1)))

      go : (k : ℕ) → c.end - at < k → elements_at k x at c.end c.unstated c.depth low ≡ good y.tree next
          → (n : ℕ) × (mid : State) × Gaining w level low tag (PlainPass w level tag vr x.bytes body past) n st mid
          × (body ≤ n → ElementsPass w x (onward c n) level (tag + 1) next mid st')
          × (length mid.slots ≤ length st'.slots)
      go zero lt f = absurd (omega arith)
      go (suc j) lt f =
          let q = was-plain x at c.end c.unstated c.depth low j y.tree next f tag vr body past here in
          let sound = fault-elem w level (placed at body past) tag vr (value (part x.bytes body past)) q.0 (rw q.2 at y.sound) in
          let ends : st' ≡ passed w level (tag + 1) q.0 mid =
          y.ends ∙ ap (λ t. passed w level low t st) q.2
          ∙ passed-elem w level low tag vr (value (part x.bytes body past)) (placed at body past) q.0 st fit.0 (read-rises j x past c.end c.unstated c.depth (tag + 1) q.0 next q.1) in (
            past,
            mid,
            record { other = fit.1; next_is = refl; one = record { place = placed at body past; sound = sound.0; ends = refl } },
            (λ up. record { tree = q.0; read = record { fuel = j; enough = omega (arith, lies); reads = q.1 }; sound = sound.1; ends = ends }),
            rw ends (passed-grows w level (tag + 1) q.0 mid),
          )

  pub split-seq : (tag body stop : ℕ) (m : Bool) → h ≡ Ok (Seq tag body stop m)
      → Splits (ElementsPass w x (onward c at) level low) (Gaining w level low tag (SequencePass w x (container body stop m c.depth) level tag))
      (λ n. ElementsPass w x (onward c n) level (tag + 1)) body
  split-seq tag body stop m e next st st' y = go y.read.fuel y.read.enough y.read.reads
    where
      here : Ok (Seq tag body stop m) ≡ element_head x at c.end c.unstated low
      here = sym e ∙ is

      fit : Fits low (Ok (Seq tag body stop m))
      fit = rw (sym here) at (head-fits x at c.end c.unstated low)

      lies : Inside at c.end (Ok (Seq tag body stop m))
      lies = rw e at inside

      go : (k : ℕ) → c.end - at < k → elements_at k x at c.end c.unstated c.depth low ≡ good y.tree next
          → (n : ℕ) × (mid : State) × Gaining w level low tag (SequencePass w x (container body stop m c.depth) level tag) n st mid
          × (body ≤ n → ElementsPass w x (onward c n) level (tag + 1) next mid st')
          × (length mid.slots ≤ length st'.slots)
      go zero lt f = absurd (omega arith)
      go (suc j) lt f =
          let q = was-seq x at c.end c.unstated c.depth low j y.tree next f tag body stop m here in
          let p : Place = placed at body q.1 in
          let mid : State = passed_one w level (elem p tag SQ (items q.0) nil) (say st (gained level w.options low (tag + 1))) in
          let sound = fault-elem w level p tag SQ (items q.0) q.2 (rw q.5 at y.sound) in
          let ends : st' ≡ passed w level (tag + 1) q.2 mid =
          y.ends ∙ ap (λ t. passed w level low t st) q.5
          ∙ passed-elem w level low tag SQ (items q.0) p q.2 st fit (read-rises j x q.1 c.end c.unstated c.depth (tag + 1) q.2 next q.4) in (
            q.1,
            mid,
            record { tree = q.0; read = record { fuel = j; enough = omega (arith, lies); reads = q.3 }; one = record { place = p; sound = sound.0; ends = refl } },
            (λ up. record { tree = q.2; read = record { fuel = j; enough = omega (arith, lies, up); reads = q.4 }; sound = sound.1; ends = ends }),
            rw ends (passed-grows w level (tag + 1) q.2 mid),
          )

  pub wrote-bad : (r : Refusal) → h ≡ Err r → {more one : ℕ} {o l : List ℕ} {t : Progress}
      → Wrote (ElementsPass w x (onward c at) level low) at c.end more one o o l l t None
  wrote-bad n e = record {
    out_size = refl;
    ledger_size = refl;
    slots_kept = refl;
    bounds = tt;
    right = λ next st st' y out₀ l₀ base g. go next st st' y y.read.fuel y.read.enough y.read.reads;
  }
    where
      go : (next : ℕ) (st st' : State) (y : ElementsPass w x (onward c at) level low next st st') (k : ℕ)
          → c.end - at < k → elements_at k x at c.end c.unstated c.depth low ≡ good y.tree next → {A : Type 0} → A
      go next st st' y zero lt f = absurd (omega arith)
      go next st st' y (suc j) lt f = absurd (was-bad x at c.end c.unstated c.depth low j y.tree next f n (sym e ∙ is))

  pub wrote-end : (past : ℕ) → h ≡ Ok (End past) → {o o₁ l : List ℕ} {t u : Progress} → u ≡ at_place t (t.pos + length (gained level w.options low 4294967296))
      → o₁ ≡ laid o t.pos (gained level w.options low 4294967296) → length (gained level w.options low 4294967296) ≤ all_markers → t.used ≤ slots_of l
      → Wrote (ElementsPass w x (onward c at) level low) at c.end all_markers 0 o o₁ l l t (Some (past, u))
  wrote-end past e {o} {o₁} {l} {t} {u} eu eo short fits = rw eu (record {
    out_size = ap length eo ∙ length-laid o t.pos _;
    ledger_size = refl;
    slots_kept = refl;
    bounds = omega (arith, lies);
    right = λ next st st' y out₀ l₀ base g. go next st st' y y.read.fuel y.read.enough y.read.reads out₀ l₀ base g;
  })
    where
      lies : Inside at c.end (Ok (End past))
      lies = rw e at inside

      go : (next : ℕ) (st st' : State) (y : ElementsPass w x (onward c at) level low next st st') (k : ℕ)
          → c.end - at < k → elements_at k x at c.end c.unstated c.depth low ≡ good y.tree next → (out₀ l₀ : List ℕ) (base : ℕ) → Holds out₀ l₀ base o l t st
          → (past ≡ next) × Holds out₀ l₀ base o₁ l (at_place t (t.pos + length (gained level w.options low 4294967296))) st'
      go next st st' y zero lt f out₀ l₀ base g = absurd (omega arith)
      go next st st' y (suc j) lt f out₀ l₀ base g =
          let q = was-end x at c.end c.unstated c.depth low j y.tree next f past (sym e ∙ is) in (
            q.1,
            rw (y.ends ∙ ap (λ t. passed w level low t st) q.0 ∙ passed-nil w level low st) (holds-say g (gained level w.options low 4294967296) eo refl),
          )

-- ---- items

module _ {w : Settings} {x : Source} (c : Container) {level : Level} {at : ℕ}
    {h : Result Spot Refusal} (is : h ≡ item_head x.bytes at c.end c.unstated c.depth) (within : Within at c.end c.depth h) where
  pub split-item : (body stop : ℕ) (m : Bool) → h ≡ Ok (Item body stop m)
      → Splits (ItemsPass w x (onward c at) level) (ItemPass w x (deeper (container body stop m c.depth)) level)
      (λ n. ItemsPass w x (onward c n) level) body
  split-item body stop m e next st st' y = go y.read.fuel y.read.enough y.read.reads
    where
      here : Ok (Item body stop m) ≡ item_head x.bytes at c.end c.unstated c.depth
      here = sym e ∙ is

      lies : Within at c.end c.depth (Ok (Item body stop m))
      lies = rw e at within

      go : (k : ℕ) → c.end - at < k → items_at k x at c.end c.unstated c.depth ≡ good y.tree next
          → (n : ℕ) × (mid : State) × ItemPass w x (deeper (container body stop m c.depth)) level n st mid
          × (body ≤ n → ItemsPass w x (onward c n) level next mid st')
          × (length mid.slots ≤ length st'.slots)
      go zero lt f = absurd (omega arith)
      go (suc j) lt f =
          let q = was-item x at c.end c.unstated c.depth j y.tree next f body stop m here in
          let mid : State = say (passed w level 0 q.0 (say st (mark item_tag undefined))) (mark item_end 0) in
          let sound = fault-item w level q.0 q.2 (rw q.5 at y.sound) in
          let ends : st' ≡ passed_items w level q.2 mid =
          y.ends ∙ ap (λ t. passed_items w level t st) q.5 ∙ items-item w level y.inner q.0 q.2 st in (
            q.1,
            mid,
            record { tree = q.0; read = record { fuel = j; enough = omega (arith, lies); reads = q.3 }; sound = sound.0; ends = refl },
            (λ up. record { inner = y.inner; tree = q.2; read = record { fuel = j; enough = omega (arith, lies, up); reads = q.4 }; sound = sound.1; ends = ends }),
            rw ends (items-grow w level q.2 mid),
          )

  pub wrote-wrong : (r : Refusal) → h ≡ Err r → {more one : ℕ} {o l : List ℕ} {t : Progress}
      → Wrote (ItemsPass w x (onward c at) level) at c.end more one o o l l t None
  wrote-wrong n e = record {
    out_size = refl;
    ledger_size = refl;
    slots_kept = refl;
    bounds = tt;
    right = λ next st st' y out₀ l₀ base g. go next st st' y y.read.fuel y.read.enough y.read.reads;
  }
    where
      go : (next : ℕ) (st st' : State) (y : ItemsPass w x (onward c at) level next st st') (k : ℕ)
          → c.end - at < k → items_at k x at c.end c.unstated c.depth ≡ good y.tree next → {A : Type 0} → A
      go next st st' y zero lt f = absurd (omega arith)
      go next st st' y (suc j) lt f = absurd (was-wrong x at c.end c.unstated c.depth j y.tree next f n (sym e ∙ is))

  pub wrote-over : (past : ℕ) → h ≡ Ok (Over past) → {o o₁ l : List ℕ} {t u : Progress} {p : ℕ} → u ≡ at_place t p → p ≡ t.pos + 8
      → o₁ ≡ laid o t.pos (mark sequence_end 0) → t.used ≤ slots_of l
      → Wrote (ItemsPass w x (onward c at) level) at c.end one_mark 0 o o₁ l l t (Some (past, u))
  unfolding mark
  wrote-over past e {o} {o₁} {l} {t} {u} {p} eu ep eo fits = rw eu (record {
    out_size = ap length eo ∙ length-laid o t.pos _;
    ledger_size = refl;
    slots_kept = refl;
    bounds = omega (arith, lies, ep);
    right = λ next st st' y out₀ l₀ base g. go next st st' y y.read.fuel y.read.enough y.read.reads out₀ l₀ base g;
  })
    where
      lies : Within at c.end c.depth (Ok (Over past))
      lies = rw e at within

      go : (next : ℕ) (st st' : State) (y : ItemsPass w x (onward c at) level next st st') (k : ℕ)
          → c.end - at < k → items_at k x at c.end c.unstated c.depth ≡ good y.tree next → (out₀ l₀ : List ℕ) (base : ℕ) → Holds out₀ l₀ base o l t st
          → (past ≡ next) × Holds out₀ l₀ base o₁ l (at_place t p) st'
      go next st st' y zero lt f out₀ l₀ base g = absurd (omega arith)
      go next st st' y (suc j) lt f out₀ l₀ base g =
          let q = was-over x at c.end c.unstated c.depth j y.tree next f past (sym e ∙ is) in
          (q.1, rw (y.ends ∙ ap (λ t. passed_items w level t st) q.0 ∙ items-none w level st) (holds-say g (mark sequence_end 0) eo ep))
