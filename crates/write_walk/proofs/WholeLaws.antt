-- The walk over a whole data set is right for the input: the definitions of `outcome`, and the state of the walk at its start and its end.
-- Assumes nothing.
--     first-state          before anything is written: no bytes, the slots in use, no counts
--     last-slots, last-bytes    the state afterwards holds `slots_after` and `bytes_for`
--     whole                what `write` promises, from what `elements` does
use mathlib.Core.Path.{◌≡◌, refl, sym, ap, ap₂, subst, ◌∙◌}
use mathlib.Core.Bool.{false}
use mathlib.Core.List.{List, [], map}
use Rattle.std.specs.Prelude.{None, Some}
use Prim.Native.Nat.{ℕ, suc, ◌+◌, ◌*◌, ◌≤◌}
use native.Mathlib.Omega.{arith}
use lib.ListN.{length}
use Rattle.buffer.specs.Buffer.{laid}
use Rattle.buffer.proofs.Laws.{laid-none}
use Rattle.layout.specs.Limits.{deepest}
use Rattle.layout.specs.Source.{Source}
use Rattle.layout.specs.Tree.{Elements, Place}
use Rattle.layout.specs.Read.{good, read}
use Rattle.layout.specs.Write.{bytes_of}
use Rattle.ledger.specs.FirstMet.{learns, same_uid}
use Rattle.ledger.specs.Slots.{slot_size, slots_of, slot_of, slots_in, flat}
use Rattle.ledger.proofs.SlotLaws.{length-slots_in, flat-slots_in, slots_of-fits}
use Rattle.ledger.proofs.LaidLaws.{laid-same}
use Rattle.treatment.specs.Settings.{Settings}
use Rattle.treatment.specs.declared.Level.TheVariants.{Top}
use Rattle.kept.specs.Content.{map_content, uids_in}
use Rattle.kept.specs.Kept.{kept_of}
use Rattle.kept.specs.Numbering.{numbered}
use Rattle.kept.specs.Written.{export, written}
use Rattle.kept.specs.Counts.{counts, nothing, plus, counts_of}
use Rattle.kept.specs.Faults.{first_fault}
use Rattle.kept.proofs.ContentLaws.{uids_in-map}
use Rattle.outcome.specs.Input.{Input, read_as, tree_in, tree_of, content, in_use, slots_after, bytes_for}
use Rattle.write_markers.specs.Gains.{all_markers, with_markers_if}
use Rattle.write_markers.proofs.GainsLaws.{with_markers-start}
use Rattle.layout.specs.Walks.{container}
use Rattle.write_state.specs.Passed.{State, tree_for, passed}
use Rattle.write_state.specs.Wrote.{Holds, Ends, Within, Wrote, ElementsPass, Walk}
use Rattle.write_walk.specs.Whole.{Ended, Whole}
use Rattle.write_state.specs.declared.Progress.{Progress}
use Rattle.write_state.proofs.PassedLaws.{counts-is}

abbrev pub begun : ℕ → ℕ → Progress
begun used pos = record { pos = pos; used = used; kept = 0; replaced = 0; renamed = 0; removed = 0 }

abbrev first-state : List ℕ → ℕ → State
first-state l used = record { bytes = []; slots = slots_in l used; tally = nothing }

first-holds : (o l : List ℕ) (used pos : ℕ) → used ≤ slots_of l → Holds o l pos o l (begun used pos) (first-state l used)
first-holds o l used pos fits = record {
  pos_is = omega arith;
  out_is = sym (laid-none o pos);
  used_is = sym (length-slots_in l used);
  slots_are = refl;
  ledger_is = sym (ap (laid l 0) (flat-slots_in l used (slots_of-fits l used fits)) ∙ laid-same l (slot_size * used));
  counts_are = refl;
}

module _ (i : Input) (es : Elements Place) (past : ℕ) (e : read_as i ≡ good es past) where
  tree-is : tree_of i ≡ es
  unfolding tree_of
  tree-is = ap tree_in e

  abbrev after : State
  after = passed i.settings Top 0 es (first-state i.ledger i.used)

  last-slots : after.slots ≡ slots_after i
  unfolding passed slots_after content
  last-slots = ap (learns same_uid (in_use i)) (uids_in-map slot_of (kept_of es i.settings Top) ∙ ap (λ t. map slot_of (uids_in (kept_of t i.settings Top))) (sym tree-is))

  last-bytes : after.bytes ≡ bytes_for i
  unfolding passed bytes_for written export content with_markers_if
  last-bytes =
      ap bytes_of (sym (with_markers-start i.settings.options (tree_for i.settings Top (in_use i) es)))
      ∙ ap (λ t. written i.settings (numbered same_uid (in_use i) (map_content slot_of (kept_of t i.settings Top)))) (sym tree-is)

plus-none : (c : Rattle.kept.specs.Counts.Counts) → plus nothing c ≡ c
plus-none c = counts-is (omega arith) (omega arith) (omega arith) (omega arith)

module _ {w : Settings} {x : Source} {l l' : List ℕ} {used : ℕ} {o o' : List ℕ} {pos : ℕ} {r : Walk} (fits : used ≤ slots_of l)
    (y : Wrote (ElementsPass w x (container 0 (length x.bytes) false deepest) Top 0) 0 (length x.bytes) all_markers 0 o o' l l' (begun used pos) r) where
  pass : (es : Elements Place) (past : ℕ) → read deepest x ≡ good es past → first_fault es w Top ≡ None
      → ElementsPass w x (container 0 (length x.bytes) false deepest) Top 0 past (first-state l used) (passed w Top 0 es (first-state l used))
  unfolding read
  pass es past e sound = record {
    tree = es;
    read = record { fuel = suc (length x.bytes); enough = omega arith; reads = e };
    sound = sound;
    ends = refl;
  }

  ended : (i : Input) → i.ledger ≡ l → i.used ≡ used → (es : Elements Place) (past : ℕ) → read_as i ≡ good es past → (r : Walk)
      → Within 0 (length x.bytes) all_markers 0 l (begun used pos) r → Ends o l pos o' l' past (passed i.settings Top 0 es (first-state l used)) r
      → Ended i es past o o' l l' pos r
  unfolding passed
  ended i el eu es past e None b h =
      let n : (passed i.settings Top 0 es (first-state l used)).slots ≡ slots_after i =
      ap₂ (λ a b. (passed i.settings Top 0 es (first-state a b)).slots) (sym el) (sym eu) ∙ last-slots i es past e in omega (arith, h, ap length n)
  ended i el eu es past e (Some (p, t)) b h =
      let n : (passed i.settings Top 0 es (first-state l used)).slots ≡ slots_after i =
      ap₂ (λ a b. (passed i.settings Top 0 es (first-state a b)).slots) (sym el) (sym eu) ∙ last-slots i es past e in
      let z : (passed i.settings Top 0 es (first-state l used)).bytes ≡ bytes_for i =
      ap₂ (λ a b. (passed i.settings Top 0 es (first-state a b)).bytes) (sym el) (sym eu) ∙ last-bytes i es past e in (
        h.1.pos_is ∙ ap (λ k. pos + length k) z,
        h.1.out_is ∙ ap (laid o pos) z,
        h.1.used_is ∙ ap length n,
        h.1.ledger_is ∙ ap (λ k. laid l 0 (flat k)) n,
        h.1.counts_are ∙ plus-none (counts_of es i.settings Top),
        b.5,
        h.0,
      )

  pub whole : Whole w x l l' used o o' pos r
  unfolding read_as
  whole = record {
    out_size = y.out_size;
    ledger_size = y.ledger_size;
    slots_kept = y.slots_kept;
    right = λ i is-w is_x el eu es past e sound.
        ended i el eu es past e r y.bounds
        (subst (λ v. Ends o l pos o' l' past (passed v Top 0 es (first-state l used)) r) (sym is-w)
        (y.right past (first-state l used) _ (pass es past (ap (read deepest) (sym is_x) ∙ e) (rw is-w at sound)) o l pos (first-holds o l used pos fits)));
  }
