-- Demands 1 and 2 shut the wrong stations of document 01, "Pinning every answer down", out: what each would leave of a data set that is
-- accepted (`first` of `Exhibits.antt`) is none of what the demand allows. Against demand 3: `WrongStations3.antt`. Assumes nothing.
--     exported                      the premises of demands 1 and 2 can be met: the run of this data set is done and exports rightly
--     refuses-all-against-1         a station that refuses everything: no refusal is right, whatever is left behind it
--     refuses-all-against-2         what it leaves is no export
--     refuses-all-against-2-other   and demand 2's other half calls for an export
--     markers-alone-against-2       one that writes the markers alone: the bytes of the kept element are missing
--     copy-against-2                one that copies its input: the name is still there
--     counts-against-2              one that counts as it likes: an export has these counts, and no others
--     counts-as-defined             and for every accepted input the counts are those of the definition
--     root-1-against-2              one that renames every UID to root.1
use mathlib.Core.Path.{◌≡◌, refl, sym, ap, ◌∙◌}
use mathlib.Core.List.Memᴰ
use mathlib.Core.List.{List}
use Prim.Native.Nat.{ℕ}
use native.Mathlib.Omega.{arith}
use lib.ListN.{get_or, drop}
use Rattle.basis.specs.Choice.{among}
use Rattle.basis.specs.Text.{ascii}
use Rattle.vr.specs.Vr.{kind_of}
use Rattle.layout.specs.Tree.{nil}
use Rattle.layout.specs.Write.{mark, header, put_elements, put_field, put_sequence, put_items, bytes_of}
use Rattle.options.specs.Options.{chosen_in}
use Rattle.options.specs.Settings.{date_word}
use Rattle.treatment.specs.declared.Level.TheVariants.{Top}
use Rattle.kept.specs.Counts.{counts, counts_of}
use Rattle.kept.specs.Fillers.{spaced}
use Rattle.kept.specs.Markers.{code_item, option_items, codes, insert, with_markers}
use Rattle.outcome.specs.Input.{Input, tree_of}
use Rattle.outcome.specs.Conditions.{conditions}
use Rattle.outcome.specs.Outcome.{refused, done, outcome_of, Report, report_of, output_of, ledger_of, filled_up}
use Rattle.promises.specs.Demand1.{EndsRightly, Refuses}
use Rattle.promises.specs.Demand2.{Exports, EarlyClear}
use Rattle.promises.proofs.Demand1Proof.{demand1, outcomes-one}
use Rattle.promises.proofs.Demand2Proof.{demand2}
use Rattle.promises.proofs.Demand2One.{exports-one}
use Rattle.promises.proofs.Exhibits.{first, input_for, export_of, bytes, said}

abbrev input : Input
input = input_for first

pub exported : Exports input (report_of input) (output_of input) (ledger_of input)
exported = demand2 input bytes.of-first said.first-done

-- an output that demand 2 allows is the right one, at each byte
at-byte : (n : ℕ) (r : Report) (out l : List ℕ) → Exports input r out l → get_or out n 0 ≡ get_or (filled_up 400 (export_of (ascii "1.9.1") (ascii "1.9.2"))) n 0
at-byte n r out l x = ap (λ (b : List ℕ). get_or b n 0) ((exports-one input r out l x said.first-done).1 ∙ said.output)

-- ---- refuses everything

pub refuses-all-against-1 : (n o : ℕ) (r : Report) (out l : List ℕ) → EndsRightly input (refused n o) r out l → ⊥
refuses-all-against-1 n o r out l x =
    let e : refused n o ≡ done = outcomes-one input (refused n o) r out l x ∙ said.first-done in
    let z : ◌≡◌ {A = ℕ} 0 1 = cc in
    omega arith

-- byte 0 is that of a tag, and not 0
pub refuses-all-against-2 : (n o : ℕ) (r : Report) (out l : List ℕ) → Refuses input.ledger input.used input.room n o r out l → Exports input r out l → ⊥
unfolding header mark kind_of among put_elements put_field put_sequence put_items bytes_of code_item option_items codes insert with_markers spaced chosen_in date_word
refuses-all-against-2 n o r out l q x =
    let e : ◌≡◌ {A = ℕ} 0 8 = ap (λ (b : List ℕ). get_or b 0 0) (sym q.output) ∙ at-byte 0 r out l x in omega arith

early-clear : EarlyClear input
early-clear c m = (demand1 input).done_when.0 said.first-done c (Memᴰ.append_left (drop 5 conditions) m)

pub refuses-all-against-2-other : (n o : ℕ) → ((r : Report) (out l : List ℕ) → EarlyClear input → Exports input r out l → refused n o ≡ done) → ⊥
refuses-all-against-2-other n o other =
    let e : refused n o ≡ done = other (report_of input) (output_of input) (ledger_of input) early-clear exported in
    let z : ◌≡◌ {A = ℕ} 0 1 = cc in
    omega arith

-- ---- writes the markers alone

-- byte 0 is that of the kept element's tag, (0008,0060), and not of (0012,0062)
pub markers-alone-against-2 : (r : Report) (l : List ℕ) → Exports input r (filled_up 400 (bytes_of (with_markers 0 nil))) l → ⊥
unfolding header mark kind_of among put_elements put_field put_sequence put_items bytes_of code_item option_items codes insert with_markers spaced chosen_in date_word
markers-alone-against-2 r l x = let e : ◌≡◌ {A = ℕ} 0x12 0x08 = at-byte 0 r (filled_up 400 (bytes_of (with_markers 0 nil))) l x in omega arith

-- ---- copies its input

-- byte 16 is the length of the name, which is to be emptied
pub copy-against-2 : (r : Report) (l : List ℕ) → Exports input r (filled_up 400 first) l → ⊥
unfolding header mark kind_of among put_elements put_field put_sequence put_items bytes_of code_item option_items codes insert with_markers spaced chosen_in date_word
copy-against-2 r l x = let e : ◌≡◌ {A = ℕ} 8 0 = at-byte 16 r (filled_up 400 first) l x in omega arith

-- ---- counts as it likes

pub counts-against-2 : (r : Report) (out l : List ℕ) → Exports input r out l → r.counts ≡ counts 1 1 2 1
counts-against-2 r out l x = ap (λ (q : Report). q.counts) (exports-one input r out l x said.first-done).0 ∙ said.counted

pub counts-as-defined : (i : Input) (r : Report) (out l : List ℕ) → outcome_of i ≡ done → Exports i r out l → r.counts ≡ counts_of (tree_of i) i.settings Top
unfolding report_of
counts-as-defined i r out l ok x = ap (λ (q : Report). q.counts) (exports-one i r out l x ok).0 ∙ rw ok refl

-- ---- renames every UID to root.1

-- byte 168 is the last digit of the second UID
pub root-1-against-2 : (r : Report) (l : List ℕ) → Exports input r (filled_up 400 (export_of (ascii "1.9.1") (ascii "1.9.1"))) l → ⊥
unfolding header mark kind_of among put_elements put_field put_sequence put_items bytes_of code_item option_items codes insert with_markers spaced chosen_in date_word
root-1-against-2 r l x =
    let e : ◌≡◌ {A = ℕ} 49 50 = at-byte 168 r (filled_up 400 (export_of (ascii "1.9.1") (ascii "1.9.1"))) l x in omega arith
