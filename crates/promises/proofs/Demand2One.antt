-- The statement of demand 2 allows one outcome: of an accepted run, the report, the output and the ledger are those that `outcome` defines.
-- So no other station meets it. No contract cites this file. Assumes nothing.
--     kept-bare, counts-bare     kept content and counts hang on no label of the tree
--     gains-one, markers-one     an element is gained in one place, and so are the markers
--     came-is, slots_are, length_is    whatever stands in the relations has the definitions' tree, slots and length, be the run accepted or not
--     exports-one                THE THEOREM
--     two-exports-one            so two outcomes that the statement allows are one
use mathlib.Core.Path.{◌≡◌, refl, sym, ap, ap₂, ◌∙◌}
use mathlib.Core.List.{List, ◌++◌, map}
use Prim.Native.Nat.{ℕ, ◌-◌, ◌*◌}
use native.Mathlib.Omega.{arith}
use lib.ListN.{length, replicate}
use borrow.Author.Tests.{lt-ltb, le-ltb}
use Rattle.basis.specs.Text.{ascii}
use Rattle.vr.specs.Names.{CS, LO, SH, SQ}
use Rattle.layout.specs.Limits.{deepest}
use Rattle.layout.specs.Tree.{Field, value, items, Elements, nil, elem, Items, none as no_item, item, Place, Data, bare, bare_field, bare_items}
use Rattle.layout.specs.Read.{Result, good, fault, with, read}
use Rattle.layout.specs.Write.{bytes_of}
use Rattle.table.specs.Rules.{patient_identity_removed_tag, deidentification_codes_tag, longitudinal_time_tag}
use Rattle.options.specs.Options.{options, basic_code, basic_meaning, chosen_in}
use Rattle.options.specs.Settings.{date_word}
use Rattle.options.specs.declared.Opt.{Opt}
use Rattle.ledger.specs.FirstMet.{number_of, learns, same_uid}
use Rattle.ledger.specs.Slots.{slot_size, slot_of, flat}
use Rattle.treatment.specs.Settings.{Settings}
use Rattle.treatment.specs.Fates.{fate, below}
use Rattle.treatment.specs.declared.Level.{Level}
use Rattle.treatment.specs.declared.Level.TheVariants.{Top}
use Rattle.treatment.specs.declared.Fate.{Fate}
use Rattle.treatment.specs.declared.Fate.TheVariants.{Removed, Kept, Walked, Emptied, Dummied, Renamed, Shifted, Wrong}
use Rattle.kept.specs.Content.{Body, Content, Walks, each as each_walk, map_content, uids_in}
use Rattle.kept.specs.Kept.{Uid, kept_sequence, entry, kept_field, kept_of, kept_items}
use Rattle.kept.specs.Counts.{Counts, plus, one, inside, counts_field, counts_of, counts_items}
use Rattle.kept.specs.Fillers.{spaced}
use Rattle.kept.specs.Markers.{text, code_item as code_item_of, option_items, codes, insert, with_markers}
use Rattle.kept.specs.Written.{written_of, export, written}
use Rattle.kept.proofs.ContentLaws.{map_content-agree}
use Rattle.outcome.specs.Input.{Input, read_as, tree_in, tree_of, content, in_use, slots_after, bytes_for}
use Rattle.outcome.specs.Outcome.{Report, done, outcome_of, report_for, report_of, output_of, ledger_of}
use Rattle.promises.specs.Markers.{Gains, last, before, after, CodeItem, code_item, OptionItems, none, chosen, other, GainsMarkers}
use Rattle.promises.specs.Demand2.{Exports}
use Rattle.promises.proofs.ReportLaws.{report-eq}
use Rattle.promises.proofs.TreatedOne.{evened-one, One, treated-one}
use Rattle.promises.proofs.LedgerProof.{takes-learns, numbered-number, number_after, after-bytes}
use Rattle.promises.proofs.Demand2Proof.{bytes-numbered}

-- ---- labels

entry-alike : (φ : Fate) (tag vr : ℕ) (b d : Fate → Body Uid) (c e : Content Uid) → b φ ≡ d φ → c ≡ e → entry φ tag vr b c ≡ entry φ tag vr d e
entry-alike Removed tag vr b d c e p q = q
entry-alike Kept tag vr b d c e p q = cc
entry-alike Walked tag vr b d c e p q = cc
entry-alike Emptied tag vr b d c e p q = cc
entry-alike Dummied tag vr b d c e p q = cc
entry-alike Renamed tag vr b d c e p q = cc
entry-alike Shifted tag vr b d c e p q = cc
entry-alike Wrong tag vr b d c e p q = cc

mutual
  unfolding kept_of bare

  kept-bare-field : {L : Type 0} (f : Field L) (s : Settings) (level : Level) (φ : Fate) → kept_field (bare_field f) s level φ ≡ kept_field f s level φ
  kept-bare-field (value v) s level φ = refl
  kept-bare-field (items is) s level φ = ap (λ (ws : Walks Uid). kept_sequence ws φ) (kept-bare-items is s (below φ level))

  kept-bare : {L : Type 0} (es : Elements L) (s : Settings) (level : Level) → kept_of (bare es) s level ≡ kept_of es s level
  kept-bare nil s level = refl
  kept-bare (elem l tag vr f es) s level =
      entry-alike (fate s level tag vr) tag vr (λ φ. kept_field (bare_field f) s level φ) (λ φ. kept_field f s level φ) (kept_of (bare es) s level) (kept_of es s level)
      (kept-bare-field f s level (fate s level tag vr)) (kept-bare es s level)

  kept-bare-items : {L : Type 0} (is : Items L) (s : Settings) (level : Level) → kept_items (bare_items is) s level ≡ kept_items is s level
  kept-bare-items no_item s level = refl
  kept-bare-items (item es is) s level = ap₂ each_walk (kept-bare es s level) (kept-bare-items is s level)

mutual
  unfolding counts_of bare

  counts-bare-field : {L : Type 0} (f : Field L) (s : Settings) (level : Level) (φ : Fate) → counts_field (bare_field f) s level φ ≡ counts_field f s level φ
  counts-bare-field (value v) s level φ = refl
  counts-bare-field (items is) s level φ = ap (λ (c : Counts). inside c φ) (counts-bare-items is s (below φ level))

  counts-bare : {L : Type 0} (es : Elements L) (s : Settings) (level : Level) → counts_of (bare es) s level ≡ counts_of es s level
  counts-bare nil s level = refl
  counts-bare (elem l tag vr f es) s level =
      ap₂ (λ (a b : Counts). plus (one (fate s level tag vr)) (plus a b)) (counts-bare-field f s level (fate s level tag vr)) (counts-bare es s level)

  counts-bare-items : {L : Type 0} (is : Items L) (s : Settings) (level : Level) → counts_items (bare_items is) s level ≡ counts_items is s level
  counts-bare-items no_item s level = refl
  counts-bare-items (item es is) s level = ap₂ plus (counts-bare es s level) (counts-bare-items is s level)

-- ---- markers

gains-one : {tag vr : ℕ} {f : Field (Unit {0})} {ds es : Data} → Gains tag vr f ds es → es ≡ insert tag vr f ds
unfolding insert
gains-one last = refl
gains-one {tag} (before {t = t} lt) = rw (lt-ltb tag t lt)
gains-one {tag} (after {l} {t} {v} {g} lt h) = rw (le-ltb tag t (omega arith)) (ap (elem l t v g) (gains-one h))

code-one : {code meaning : List ℕ} {d : Data} → CodeItem code meaning d → d ≡ code_item_of code meaning
unfolding code_item_of spaced
code-one {code} {meaning} (code_item {c} {m} e q) =
    ap₂ (λ (x y : List ℕ). elem tt 0x0008_0100 SH (value x) (elem tt 0x0008_0102 SH (value (ascii "DCM ")) (elem tt 0x0008_0104 LO (value y) nil)))
    (evened-one code c e) (evened-one meaning m q)

options-one : {number : ℕ} {os : List Opt} {is : Items (Unit {0})} → OptionItems number os is → is ≡ option_items (chosen_in number os)
unfolding option_items chosen_in
options-one none = refl
options-one (chosen e c t) = rw e (ap₂ item (code-one c) (options-one t))
options-one (other e t) = rw e (options-one t)

markers-one : (number : ℕ) (ds es : Data) → GainsMarkers number ds es → es ≡ with_markers number ds
unfolding with_markers codes spaced
markers-one number ds es g =
    let w : g.word ≡ spaced (date_word number) = evened-one (date_word number) g.word g.word_is in
    let p : g.profile ≡ code_item_of basic_code basic_meaning = code-one g.profile_is in
    let o : g.chosen ≡ option_items (chosen_in number options) = options-one g.chosen_are in
    let a : g.dated ≡ insert longitudinal_time_tag CS (text (date_word number)) ds =
    gains-one g.gains_word ∙ ap (λ (x : List ℕ). insert longitudinal_time_tag CS (value x) ds) w in
    let b : g.coded ≡ insert deidentification_codes_tag SQ (items (codes number)) (insert longitudinal_time_tag CS (text (date_word number)) ds) =
    gains-one g.gains_codes ∙ ap₂ (λ (x : Items (Unit {0})) (y : Data). insert deidentification_codes_tag SQ (items x) y) (ap₂ item p o) a in
    gains-one g.gains_yes ∙ ap (insert patient_identity_removed_tag CS (value (ascii "YES "))) b

-- ---- the whole statement

module _ (i : Input) (r : Report) (out l : List ℕ) (x : Exports i r out l) where
  pub came-is : x.came ≡ bare (tree_of i)
  unfolding tree_of read_as
  came-is = step (read deepest i.lent) x.reads
    where
      step : (t : Result (Elements Place)) → with bare t ≡ good x.came x.past → x.came ≡ bare (tree_in t)
      step (good es p) e = cc
      step (fault n o) e = cc

  one-way : One i.settings x.number_for Top x.came x.left r.counts x.uids
  one-way = treated-one x.came i.settings x.number_for Top x.left r.counts x.uids x.treated

  content-is : kept_of x.came i.settings Top ≡ content i
  unfolding content
  content-is = ap (λ (d : Data). kept_of d i.settings Top) came-is ∙ kept-bare (tree_of i) i.settings Top

  uids-are : x.uids ≡ uids_in (content i)
  uids-are = one-way.uids-met ∙ ap (λ (c : Content Uid). uids_in c) content-is

  pub slots_are : x.ledger.slots ≡ slots_after i
  unfolding slots_after
  slots_are = takes-learns x.ledger.takes ∙ ap (λ (us : List Uid). learns same_uid (in_use i) (map slot_of us)) uids-are

  numbers-are : map_content x.number_for (content i) ≡ map_content (number_after i) (content i)
  numbers-are =
      map_content-agree x.number_for (number_after i) (content i)
      (λ u m. numbered-number (x.ledger.numbered u (rw uids-are m)) ∙ ap (λ (ks : List (List ℕ)). number_of same_uid ks (slot_of u)) slots_are)

  goes-is : bytes_of x.goes ≡ bytes_for i
  unfolding written export
  goes-is =
      ap bytes_of
      (markers-one i.settings.options x.left x.goes x.markers
      ∙ ap (with_markers i.settings.options)
      (one-way.wrote
      ∙ ap (λ (c : Content Uid). written_of (map_content x.number_for c) i.settings Top) content-is
      ∙ ap (λ (c : Content ℕ). written_of c i.settings Top) numbers-are))
      ∙ sym (bytes-numbered i)

  pub length_is : r.written ≡ length (bytes_for i)
  length_is = x.length_is ∙ ap length goes-is

  -- THE THEOREM
  pub exports-one : outcome_of i ≡ done → (r ≡ report_of i) × (out ≡ output_of i) × (l ≡ ledger_of i)
  unfolding report_of output_of
  exports-one ok = (
    rw ok (report-eq r (report_for i done) x.refusal_zero x.offset_zero length_is (x.ledger.count ∙ ap length slots_are)
        (one-way.counted ∙ ap (λ (d : Data). counts_of d i.settings Top) came-is ∙ counts-bare (tree_of i) i.settings Top)),
    rw ok (x.output ∙ ap₂ (λ (b : List ℕ) (n : ℕ). b ++ replicate (i.room - n) 0) goes-is length_is),
    x.ledger.bytes ∙ ap (λ (ks : List (List ℕ)). flat ks ++ replicate (length i.ledger - slot_size * length ks) 0) slots_are ∙ sym (after-bytes i ok),
  )

pub two-exports-one : (i : Input) (r q : Report) (out put l k : List ℕ) → outcome_of i ≡ done → Exports i r out l → Exports i q put k → (r ≡ q) × (out ≡ put) × (l ≡ k)
two-exports-one i r q out put l k ok x y =
    let a = exports-one i r out l x ok in
    let b = exports-one i q put k y ok in
    (a.0 ∙ sym b.0, a.1 ∙ sym b.1, a.2 ∙ sym b.2)
