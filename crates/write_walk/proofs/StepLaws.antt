-- The ways out of the walk's functions that have no loop: `plain`, `shut`, `sequence`, `walked`, `item`. Assumes nothing.
--     gained-first          what the top level gains is written before an element
--     plain-act             an element with a value
--     shut-fault, shut-act  a sequence that is passed over
--     sequence-walked, sequence-shut     a sequence that is walked into, or shut
--     walked-wrong, walked-over, walked-item     a sequence that is walked into: no items, by a fault or by its end, or some
--     item-stop, item-done  an item's elements, between its marks
use Rattle.refusals.specs.declared.Fault.{Fault}
use Rattle.refusals.specs.declared.Refusal.{Refusal}
use Rattle.std.specs.Prelude.{None, Some, Result, Ok, Err}
use mathlib.Core.Path.{◌≡◌, refl, sym, ap, ◌∙◌}
use mathlib.Core.Bool.{Bool, true, false}
use mathlib.Core.List.{List}
use Prim.Native.Nat.{ℕ, zero, suc, ◌+◌, ◌-◌, ◌≤◌, ◌<◌}
use native.Mathlib.Omega.{arith}
use lib.ListN.{length}
use Rattle.basis.specs.Bytes.{part}
use Rattle.buffer.specs.Buffer.{laid}
use Rattle.buffer.proofs.Laws.{length-laid}
use Rattle.vr.specs.Names.{SQ}
use Rattle.layout.specs.Source.{Source}
use Rattle.layout.specs.Tree.{value, items, Elements, nil, elem, Items, none as no_item, item, Place}
use Rattle.layout.specs.Heads.{item_tag, item_end, undefined, item_head}
use Rattle.layout.specs.Read.{good, items_at, shape_of}
use Rattle.layout.specs.Write.{header, mark}
use Rattle.layout.specs.Walks.{Within as Spotted, Stays, WalkedItems}
use Rattle.layout.specs.declared.Container.{Container}
use Rattle.layout.specs.declared.Spot.{Spot}
use Rattle.layout.specs.declared.Spot.TheVariants.{Over, Item}
use Rattle.layout.proofs.ReadLaws.{was-wrong, was-over, was-item}
use Rattle.ledger.specs.Slots.{slots_of}
use Rattle.treatment.specs.Settings.{Settings}
use Rattle.treatment.specs.Fates.{fate, walks_into, below}
use Rattle.treatment.specs.declared.Level.{Level}
use Rattle.treatment.specs.declared.Fate.{Fate}
use Rattle.treatment.specs.declared.Fate.TheVariants.{Walked}
use Rattle.treatment.proofs.FatesLaws.{fate-walked}
use Rattle.kept.specs.Counts.{one}
use Rattle.kept.specs.Faults.{field_fault}
use Rattle.write_markers.specs.Gains.{all_markers, gained}
use Rattle.write_values.proofs.ElementLaws.{length-header}
use Rattle.write_state.specs.Bounds.{one_element, marked_element, one_mark, one_item}
use Rattle.write_state.specs.Passed.{State, say, count, passed, passed_one, passed_items}
use Rattle.write_state.specs.Steps.{at_place, one_kept}
use Rattle.write_state.specs.Wrote.{met, Ends, Within, Pass, Wrote, ReadItems, ElementsPass, PlainPass, ActPass, SequencePass, WalkedPass, ShutPass, ItemsPass, ItemPass, Gaining, Walk}
use Rattle.write_state.specs.declared.Progress.{Progress}
use Rattle.write_state.proofs.LevelLaws.{walks-is, not-walked, below-inner}
use Rattle.write_state.proofs.PassedLaws.{counts-is}
use Rattle.write_state.proofs.WalkedLaws.{one-shut, one-open}
use Rattle.write_state.proofs.HoldsLaws.{holds-say, holds-count}
use Rattle.write_walk.proofs.WroteLaws.{Splits, wrote-first, wrote-stop}

-- ---- what the top level gains, written before

module _ (w : Settings) (level : Level) (low tag : ℕ) {T S : Pass} {from end one : ℕ} {o o₁ o₂ l l₂ : List ℕ} {t u : Progress} {r : Walk} where
  gained-first : ((next : ℕ) (st st' : State) → T next st st' → S next st st')
      → (u ≡ at_place t (t.pos + length (gained level w.options low (tag + 1)))) × (o₁ ≡ laid o t.pos (gained level w.options low (tag + 1)))
      → length (gained level w.options low (tag + 1)) ≤ all_markers
      → Wrote S from end one_element one o₁ o₂ l l₂ u r → Wrote (Gaining w level low tag T) from end marked_element one o o₂ l l₂ t r
  gained-first conv g short x =
      let xs : List ℕ = gained level w.options low (tag + 1) in
      wrote-first (λ st. say st xs) all_markers 0 (λ next st st' y. conv next (say st xs) st' y)
      (λ out₀ l₀ base st h. rw g.0 (holds-say h xs g.1 refl))
      (ap length g.1 ∙ length-laid o t.pos xs) (ap (λ v. v.used) g.0) (omega (arith, ap (λ v. v.pos) g.0)) (omega (arith, ap met g.0))
      (omega arith) (omega arith) x

-- ---- an element with a value

pub plain-act : {w : Settings} {level : Level} (low : ℕ) {tag vr : ℕ} {s : List ℕ} {from to : ℕ} {o o₁ o₂ l l₂ : List ℕ} {t u : Progress} {r : Walk}
    (f : Fate) → (u ≡ at_place t (t.pos + length (gained level w.options low (tag + 1)))) × (o₁ ≡ laid o t.pos (gained level w.options low (tag + 1)))
    → length (gained level w.options low (tag + 1)) ≤ all_markers → f ≡ fate w level tag vr
    → Wrote (ActPass w f tag vr s from to) from to one_element 1 o₁ o₂ l l₂ u r
    → Wrote (Gaining w level low tag (PlainPass w level tag vr s from to)) from to marked_element 1 o o₂ l l₂ t r
plain-act {w} {level} low {tag} {vr} {s} {from} {to} f g short e x = gained-first w level low tag conv g short x
  where
    conv : (next : ℕ) (st st' : State) → PlainPass w level tag vr s from to next st st' → ActPass w f tag vr s from to next st st'
    conv next st st' y = record {
      level = level;
      field = value (part s from to);
      fate_is = sym e;
      is_shut = λ q. y.other (fate-walked w level tag vr (sym e ∙ q));
      stands = (refl, y.other);
      next_is = y.next_is;
      one = y.one;
    }

-- ---- a sequence that is passed over

past-is : {x : Source} {c : Container} {q : Result ℕ Fault} {next : ℕ} {tree : Items Place} → WalkedItems x c q → ReadItems x c tree next → q ≡ Ok next
past-is passed_over r = passed_over.shape r.fuel r.enough ∙ ap shape_of r.reads

module _ {w : Settings} {x : Source} {c : Container} {φ : Fate} {tag : ℕ} {q : Result ℕ Fault} (passed_over : WalkedItems x c q) where
  pub shut-fault : (f : Fault) → q ≡ Err f → {o l : List ℕ} {t : Progress} → Wrote (ShutPass w x c φ tag) c.from c.end one_element 1 o o l l t None
  shut-fault f e = record {
    out_size = refl;
    ledger_size = refl;
    slots_kept = refl;
    bounds = tt;
    right = λ next st st' y out₀ l₀ base h.
        let d : Err f ≡ Ok next = sym e ∙ past-is passed_over y.sequence.read in
        absurd (let z : ◌≡◌ {A = ℕ} 0 1 = cc in omega arith);
  }

  pub shut-act : (past : ℕ) → q ≡ Ok past → {o o₁ l l₁ : List ℕ} {t : Progress} {r : Walk}
      → Wrote (ActPass w φ tag SQ x.bytes c.from past) c.from past one_element 1 o o₁ l l₁ t r
      → Wrote (ShutPass w x c φ tag) c.from c.end one_element 1 o o₁ l l₁ t r
  shut-act past e {o} {o₁} {l} {l₁} {t} {r} y = record {
    out_size = y.out_size;
    ledger_size = y.ledger_size;
    slots_kept = y.slots_kept;
    bounds = wider r y.bounds;
    right = λ next st st' z out₀ l₀ base h. y.right next st st' (conv next st st' z) out₀ l₀ base h;
  }
    where
      stays : Stays c.from c.end (Ok past)
      stays = rw e at passed_over.stays

      wider : (r : Walk) → Within c.from past one_element 1 l t r → Within c.from c.end one_element 1 l t r
      wider None b = tt
      wider (Some (n, u)) b = omega (arith, stays)

      conv : (next : ℕ) (st st' : State) → ShutPass w x c φ tag next st st' → ActPass w φ tag SQ x.bytes c.from past next st st'
      conv next st st' z = record {
        level = z.level;
        field = items z.sequence.tree;
        fate_is = z.fate_is;
        is_shut = z.is_shut;
        stands = refl;
        next_is = let d : Ok past ≡ Ok next = sym e ∙ past-is passed_over z.sequence.read in cc;
        one = z.sequence.one;
      }

-- ---- a sequence

module _ {w : Settings} {x : Source} {c : Container} {level : Level} (low : ℕ) {tag : ℕ} {o o₁ o₂ l l₂ : List ℕ} {t u : Progress} {r : Walk} (f : Fate)
    (g : (u ≡ at_place t (t.pos + length (gained level w.options low (tag + 1)))) × (o₁ ≡ laid o t.pos (gained level w.options low (tag + 1))))
    (short : length (gained level w.options low (tag + 1)) ≤ all_markers) (e : f ≡ fate w level tag SQ) where
  pub sequence-walked : walks_into f ≡ true → Wrote (WalkedPass w x c level tag) c.from c.end one_element 1 o₁ o₂ l l₂ u r
      → Wrote (Gaining w level low tag (SequencePass w x c level tag)) c.from c.end marked_element 1 o o₂ l l₂ t r
  sequence-walked into y =
      gained-first w level low tag (λ next st st' z. record { is_walked = sym e ∙ walks-is f into; sequence = z }) g short y

  pub sequence-shut : walks_into f ≡ false → Wrote (ShutPass w x c f tag) c.from c.end one_element 1 o₁ o₂ l l₂ u r
      → Wrote (Gaining w level low tag (SequencePass w x c level tag)) c.from c.end marked_element 1 o o₂ l l₂ t r
  sequence-shut past y =
      gained-first w level low tag (λ next st st' z. record { level = level; fate_is = sym e; is_shut = not-walked f past; sequence = z }) g short y

-- ---- a sequence that is walked into

module _ {w : Settings} {x : Source} {c : Container} {level : Level} {tag : ℕ}
    {h : Result Spot Refusal} (is : h ≡ item_head x.bytes c.from c.end c.unstated c.depth) (within : Spotted c.from c.end c.depth h) where
  pub walked-wrong : (r : Refusal) → h ≡ Err r → {o l : List ℕ} {t : Progress} → Wrote (WalkedPass w x c level tag) c.from c.end one_element 1 o o l l t None
  walked-wrong n e = record {
    out_size = refl;
    ledger_size = refl;
    slots_kept = refl;
    bounds = tt;
    right = λ next st st' y out₀ l₀ base g. go y.sequence.read.fuel y.sequence.tree next y.sequence.read.enough y.sequence.read.reads;
  }
    where
      go : (k : ℕ) (tree : Items Place) (next : ℕ) → c.end - c.from < k → items_at k x c.from c.end c.unstated c.depth ≡ good tree next → {A : Type 0} → A
      go zero tree next lt f = absurd (omega arith)
      go (suc j) tree next lt f = absurd (was-wrong x c.from c.end c.unstated c.depth j tree next f n (sym e ∙ is))

  pub walked-over : (past : ℕ) → h ≡ Ok (Over past) → {o o₁ l : List ℕ} {t u : Progress} {p : ℕ} → u ≡ one_kept t p
      → (p ≡ t.pos + length (header tag SQ 0)) × (o₁ ≡ laid o t.pos (header tag SQ 0)) → t.used ≤ slots_of l
      → Wrote (WalkedPass w x c level tag) c.from c.end one_element 1 o o₁ l l t (Some (past, u))
  walked-over past e {o} {o₁} {l} {t} {u} {p} eu ep fits = rw eu (record {
    out_size = ap length ep.1 ∙ length-laid o t.pos _;
    ledger_size = refl;
    slots_kept = refl;
    bounds = omega (arith, lies, ep.0, length-header tag SQ 0);
    right = λ next st st' y out₀ l₀ base g.
        let q = go y.sequence.read.fuel y.sequence.tree next y.sequence.read.enough y.sequence.read.reads in (
          q.1,
          rw (y.sequence.one.ends ∙ ap (λ i. passed_one w level (elem y.sequence.one.place tag SQ (items i) nil) st) q.0
              ∙ one-shut w level tag y.sequence.one.place st y.is_walked)
              (holds-count (holds-say g (header tag SQ 0) ep.1 ep.0) (one_kept t p) (one Walked) refl refl
              (counts-is (omega arith) (omega arith) (omega arith) (omega arith))),
        );
  })
    where
      lies : Spotted c.from c.end c.depth (Ok (Over past))
      lies = rw e at within

      go : (k : ℕ) (tree : Items Place) (next : ℕ) → c.end - c.from < k → items_at k x c.from c.end c.unstated c.depth ≡ good tree next
          → (tree ≡ no_item) × (past ≡ next)
      go zero tree next lt f = absurd (omega arith)
      go (suc j) tree next lt f = was-over x c.from c.end c.unstated c.depth j tree next f past (sym e ∙ is)

  pub walked-item : (body stop : ℕ) (m : Bool) → h ≡ Ok (Item body stop m) → {o o₁ o₂ l l₂ : List ℕ} {t u : Progress} {p : ℕ} {lower : Level} {r : Walk} → u ≡ one_kept t p
      → (p ≡ t.pos + length (header tag SQ undefined)) × (o₁ ≡ laid o t.pos (header tag SQ undefined)) → lower ≡ below Walked level
      → Wrote (ItemsPass w x c lower) c.from c.end one_mark 0 o₁ o₂ l l₂ u r
      → Wrote (WalkedPass w x c level tag) c.from c.end one_element 1 o o₂ l l₂ t r
  unfolding field_fault
  walked-item body stop m e {o} {o₁} {o₂} {l} {l₂} {t} {u} {p} {lower} {r} eu ep el y =
      wrote-first (λ st. count (say st (header tag SQ undefined)) (one Walked)) 12 1 conv
      (λ out₀ l₀ base st g. rw eu (holds-count (holds-say g (header tag SQ undefined) ep.1 ep.0) (one_kept t p) (one Walked) refl refl
      (counts-is (omega arith) (omega arith) (omega arith) (omega arith))))
      (ap length ep.1 ∙ length-laid o t.pos _) (ap (λ v. v.used) eu) (omega (arith, ap (λ v. v.pos) eu, ep.0, length-header tag SQ undefined)) (omega (arith, ap met eu)) (omega arith) (omega arith) y
    where
      some-items : (k : ℕ) (tree : Items Place) (next : ℕ) → c.end - c.from < k → items_at k x c.from c.end c.unstated c.depth ≡ good tree next
          → (es : Elements Place) × (is : Items Place) × (tree ≡ item es is)
      some-items zero tree next lt f = absurd (omega arith)
      some-items (suc j) tree next lt f = let q = was-item x c.from c.end c.unstated c.depth j tree next f body stop m (sym e ∙ is) in (q.0, q.2, q.5)

      conv : (next : ℕ) (st st' : State) → WalkedPass w x c level tag next st st'
          → ItemsPass w x c lower next (count (say st (header tag SQ undefined)) (one Walked)) st'
      conv next st st' z =
          let tree : Items Place = z.sequence.tree in
          let q = some-items z.sequence.read.fuel tree next z.sequence.read.enough z.sequence.read.reads in rw el (record {
            inner = below-inner Walked level;
            tree = tree;
            read = z.sequence.read;
            sound = rw z.is_walked at z.sequence.one.sound;
            ends = z.sequence.one.ends ∙ ap (λ i. passed_one w level (elem z.sequence.one.place tag SQ (items i) nil) st) q.2
                ∙ one-open w level tag z.sequence.one.place st z.is_walked q.0 q.1
                ∙ ap (λ i. passed_items w (below Walked level) i (count (say st (header tag SQ undefined)) (one Walked))) (sym q.2);
          })

-- ---- an item: its tag, its elements, its end mark

-- the item's elements, with its tag before them
abbrev Opened : Settings → Source → Container → Level → Pass
Opened w x c level next st st' = ElementsPass w x c level 0 next (say st (mark item_tag undefined)) st'

split : {w : Settings} {x : Source} {c : Container} {level : Level}
    → Splits (ItemPass w x c level) (Opened w x c level) (λ n next mid st'. st' ≡ say mid (mark item_end 0)) c.from
split {w} {x} {c} {level} next st st' y = (
  next,
  passed w level 0 y.tree (say st (mark item_tag undefined)),
  record { tree = y.tree; read = y.read; sound = y.sound; ends = refl },
  (λ _. y.ends),
  rw y.ends (omega arith),
)

module _ {w : Settings} {x : Source} {c : Container} {level : Level} {o o₁ o₂ l l₂ : List ℕ} {t u : Progress} {p : ℕ} {r : Walk}
    (eu : u ≡ at_place t p) (ep : (p ≡ t.pos + 8) × (o₁ ≡ laid o t.pos (mark item_tag undefined)))
    (y : Wrote (ElementsPass w x c level 0) c.from c.end all_markers 0 o₁ o₂ l l₂ u r) where
  opened : Wrote (Opened w x c level) c.from c.end (all_markers + 8) 0 o o₂ l l₂ t r
  unfolding mark
  opened =
      wrote-first (λ st. say st (mark item_tag undefined)) 8 0 (λ next st st' z. z)
      (λ out₀ l₀ base st g. rw eu (holds-say g (mark item_tag undefined) ep.1 ep.0))
      (ap length ep.1 ∙ length-laid o t.pos _) (ap (λ v. v.used) eu) (omega (arith, ap (λ v. v.pos) eu, ep.0)) (omega (arith, ap met eu)) (omega arith) (omega arith) y

  pub item-stop : r ≡ None → Wrote (ItemPass w x c level) c.from c.end one_item 0 o o₂ l l₂ t None
  item-stop e = wrote-stop split opened e

  pub item-done : (past : ℕ) (v z : Progress) (n : ℕ) {o₃ : List ℕ} → r ≡ Some (past, v) → z ≡ at_place v n → (n ≡ v.pos + 8) × (o₃ ≡ laid o₂ v.pos (mark item_end 0))
      → Wrote (ItemPass w x c level) c.from c.end one_item 0 o o₃ l l₂ t (Some (past, z))
  unfolding mark split
  item-done past v z n {o₃} e ez en =
      let b : Within c.from c.end (all_markers + 8) 0 l t (Some (past, v)) = rw e at opened.bounds in rw ez (record {
        out_size = ap length en.1 ∙ length-laid o₂ v.pos _ ∙ opened.out_size;
        ledger_size = opened.ledger_size;
        slots_kept = opened.slots_kept;
        bounds = omega (arith, en.0);
        right = λ next st st' i out₀ l₀ base g.
            let q = split next st st' i in
            let d : Ends out₀ l₀ base o₂ l₂ next q.1 (Some (past, v)) = rw e at (opened.right next st q.1 q.2 out₀ l₀ base g) in
            (d.0, rw i.ends (holds-say d.1 (mark item_end 0) en.1 en.0));
      })
