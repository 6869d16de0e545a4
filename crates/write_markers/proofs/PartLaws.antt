-- Laws of `specs/Parts.antt`: the three elements are their pieces, and how long these are. No contract cites this file. Assumes nothing.
--     cs-short, sh-short, lo-short     the VRs of the texts have headers of eight bytes
--     short-length, sequence-length, mark-length, text-length    how long a header, a mark, an element with a text is
--     item-parts                       an item's pieces
--     codes-parts                      those of (0012,0064)
--     code-length, scheme-length, meaning-length      how long an item's elements are
--     item-length, option-length, basic-length, options-length    how long the items are at most
--     codes-length, word-length, yes-length, yes-due-length, codes-due-length, dates-due-length    likewise the elements
--     gained-length                    and all that is gained
use Rattle.std.specs.Prelude.{Some}
use mathlib.Core.Path.{◌≡◌, refl, sym, ap, ap₂, ◌∙◌}
use mathlib.Core.Bool.{Bool, true, false}
use mathlib.Core.List.{List, [], ◌∷◌, ◌++◌, append_assoc, append-nil}
use Prim.Native.Nat.{ℕ, ◌+◌, ◌*◌, ◌≤◌}
use native.Mathlib.Omega.{arith}
use lib.ListN.{length, length-append}
use Rattle.basis.specs.Choice.{pick, fork, among}
use Rattle.basis.specs.Text.{ascii}
use Rattle.basis.proofs.ChoiceLaws.{pick-case}
use Rattle.vr.specs.Names.{CS, LO, SH, SQ}
use Rattle.vr.specs.Vr.{kind_of}
use Rattle.vr.specs.declared.Kind.TheVariants.{Short, Sequence}
use Rattle.layout.specs.Tree.{Field, items, nil, elem, Items, none as no_item, item, Data}
use Rattle.layout.specs.Heads.{item_tag, item_end, sequence_end, undefined}
use Rattle.layout.specs.Write.{mark, header, opened, closed, put_elements, put_field, put_items, bytes_of}
use Rattle.layout.proofs.MarkLaws.{header-short, header-sequence}
use Rattle.options.specs.Options.{options, code_of, meaning_of, basic_code, basic_meaning, is_chosen, chosen_in, chosen}
use Rattle.options.specs.Settings.{date_word}
use Rattle.options.specs.declared.Opt.{Opt}
use Rattle.options.specs.declared.Opt.TheVariants.{FullDates, ModifiedDates}
use Rattle.options.proofs.OptionsLaws.{code_of-length, meaning_of-length}
use Rattle.kept.specs.Fillers.{spaced}
use Rattle.kept.specs.Markers.{text, code_item, option_items, codes}
use Rattle.kept.proofs.FillersLaws.{spaced-length}
use Rattle.write_values.proofs.ElementLaws.{length-spaced}
use Rattle.table.specs.Rules.{patient_identity_removed_tag, deidentification_codes_tag, longitudinal_time_tag}
use Rattle.write_markers.specs.Gains.{due, gain, gaining, gained_if}
use Rattle.write_markers.specs.Parts.{item_bytes, items_bytes}
use Rattle.write_markers.proofs.WriteLaws.{put-field-on, put_elements-on, item-on}
use Rattle.write_markers.proofs.StepLaws.{yes_due, codes_due, dates_due, gaining-parts}

-- ---- elements with a text

pub cs-short : kind_of CS ≡ Some Short
unfolding kind_of among
cs-short = refl

pub sh-short : kind_of SH ≡ Some Short
unfolding kind_of among
sh-short = refl

pub lo-short : kind_of LO ≡ Some Short
unfolding kind_of among
lo-short = refl

sq-sequence : kind_of SQ ≡ Some Sequence
unfolding kind_of
sq-sequence = refl

-- `RoundLaws` of the crate `layout` has these two for itself
pub short-length : (tag vr n : ℕ) → kind_of vr ≡ Some Short → length (header tag vr n) ≡ 8
short-length tag vr n e = ap length (header-short tag vr n e)

pub sequence-length : (tag n : ℕ) → length (header tag SQ n) ≡ 12
sequence-length tag n = ap length (header-sequence tag SQ n sq-sequence)

pub text-length : (tag vr : ℕ) (t : List ℕ) → kind_of vr ≡ Some Short → length (put_field {L = Unit {0}} tag vr (text t) []) ≡ 8 + length (spaced t)
unfolding put_field
text-length tag vr t e =
    length-append (header tag vr (length (spaced t))) (spaced t ++ [])
    ∙ ap₂ (λ a b. a + b) (short-length tag vr (length (spaced t)) e) (ap length (append-nil (spaced t)))

-- ---- an item

-- the three elements of an item, each by itself
abbrev pub code_part : List ℕ → List ℕ
code_part code = put_field {L = Unit {0}} 0x0008_0100 SH (text code) []

abbrev pub scheme_part : List ℕ
scheme_part = put_field {L = Unit {0}} 0x0008_0102 SH (text (ascii "DCM")) []

abbrev pub meaning_part : List ℕ → List ℕ
meaning_part meaning = put_field {L = Unit {0}} 0x0008_0104 LO (text meaning) []

pub item-parts : (code meaning : List ℕ) → item_bytes (code_item code meaning)
    ≡ mark item_tag undefined ++ (code_part code ++ (scheme_part ++ (meaning_part meaning ++ mark item_end 0)))
unfolding item_bytes code_item put_elements
item-parts code meaning =
    let end : List ℕ = closed [] in
    let m : List ℕ = put_field {L = Unit {0}} 0x0008_0104 LO (text meaning) end in
    let e : end ≡ mark item_end 0 = append-nil (mark item_end 0) in
    ap (λ (l : List ℕ). mark item_tag undefined ++ l)
    (put-field-on (text code) 0x0008_0100 SH (put_field {L = Unit {0}} 0x0008_0102 SH (text (ascii "DCM")) m)
    ∙ ap (λ (l : List ℕ). code_part code ++ l)
    (put-field-on (text (ascii "DCM")) 0x0008_0102 SH m
    ∙ ap (λ (l : List ℕ). scheme_part ++ l) (put-field-on (text meaning) 0x0008_0104 LO end ∙ ap (λ (l : List ℕ). meaning_part meaning ++ l) e)))

pub mark-length : (tag n : ℕ) → length (mark tag n) ≡ 8
unfolding mark
mark-length tag n = refl

pub code-length : (code : List ℕ) → length (code_part code) ≡ 8 + length (spaced code)
code-length code = text-length 0x0008_0100 SH code sh-short

pub scheme-length : length scheme_part ≡ 12
scheme-length = omega (arith, text-length 0x0008_0102 SH (ascii "DCM") sh-short, length-spaced (ascii "DCM"))

pub meaning-length : (meaning : List ℕ) → length (meaning_part meaning) ≡ 8 + length (spaced meaning)
meaning-length meaning = text-length 0x0008_0104 LO meaning lo-short

pub item-length : (code meaning : List ℕ) → length code ≤ 6 → length meaning ≤ 64 → length (item_bytes (code_item code meaning)) ≤ 116
item-length code meaning h k =
    rw (
      item-parts code meaning,
      length-append (mark item_tag undefined) (code_part code ++ (scheme_part ++ (meaning_part meaning ++ mark item_end 0))),
      length-append (code_part code) (scheme_part ++ (meaning_part meaning ++ mark item_end 0)),
      length-append scheme_part (meaning_part meaning ++ mark item_end 0),
      length-append (meaning_part meaning) (mark item_end 0),
      mark-length item_tag undefined,
      mark-length item_end 0,
    )
    (omega (arith, code-length code, scheme-length, meaning-length meaning, spaced-length code, spaced-length meaning))

-- ---- (0012,0064)

item-split : (d : Data) (k : List ℕ) → opened (put_elements d (closed k)) ≡ item_bytes d ++ k
unfolding item_bytes bytes_of
item-split d k = item-on (λ l. put_elements d l) (λ l. l) (λ l. put_elements-on d l) (λ l. refl) k

items-split : (is : Items (Unit {0})) (k : List ℕ) → put_items is k ≡ items_bytes is ++ (mark sequence_end 0 ++ k)
unfolding put_items items_bytes
items-split no_item k = refl
items-split (item d is) k =
    item-split d (put_items is k)
    ∙ ap (λ (l : List ℕ). item_bytes d ++ l) (items-split is k)
    ∙ sym (append_assoc (item_bytes d) (items_bytes is) (mark sequence_end 0 ++ k))

-- the items of the profile and of the options
abbrev pub basic_part : List ℕ
basic_part = item_bytes (code_item basic_code basic_meaning)

abbrev pub options_part : ℕ → List ℕ
options_part picked = items_bytes (option_items (chosen picked))

pub codes-parts : (picked : ℕ) → put_field {L = Unit {0}} deidentification_codes_tag SQ (items (codes picked)) []
    ≡ header deidentification_codes_tag SQ undefined ++ (basic_part ++ (options_part picked ++ mark sequence_end 0))
unfolding codes put_field
codes-parts picked =
    ap (λ (l : List ℕ). header deidentification_codes_tag SQ undefined ++ l)
    (item-split (code_item basic_code basic_meaning) (put_items (option_items (chosen picked)) [])
    ∙ ap (λ (l : List ℕ). basic_part ++ l)
    (items-split (option_items (chosen picked)) [] ∙ ap (λ (l : List ℕ). options_part picked ++ l) (append-nil (mark sequence_end 0))))

-- ---- how long they are

chosen-few : (picked : ℕ) (os : List Opt) → length (chosen_in picked os) ≤ length os
unfolding chosen_in
chosen-few picked [] = omega arith
chosen-few picked (o ∷ os) = step (is_chosen picked o) (chosen-few picked os)
  where
    step : (b : Bool) → length (chosen_in picked os) ≤ length os
        → length (fork b (λ _. o ∷ chosen_in picked os) (λ _. chosen_in picked os)) ≤ length (o ∷ os)
    step true h = omega arith
    step false h = omega arith

pub option-length : (o : Opt) → length (item_bytes (code_item (code_of o) (meaning_of o))) ≤ 116
option-length o = item-length (code_of o) (meaning_of o) (omega (arith, code_of-length o)) (meaning_of-length o).1

pub basic-length : length basic_part ≤ 116
basic-length = item-length basic_code basic_meaning (omega arith) (omega arith)

items-length : (os : List Opt) → length (items_bytes (option_items os)) ≤ 116 * length os
unfolding items_bytes option_items
items-length [] = omega arith
items-length (o ∷ os) =
    rw (length-append (item_bytes (code_item (code_of o) (meaning_of o))) (items_bytes (option_items os))) (omega (arith, option-length o, items-length os))

pub options-length : (picked : ℕ) → length (options_part picked) ≤ 696
options-length picked = omega (arith, items-length (chosen picked), chosen-few picked options)

pub codes-length : (picked : ℕ) → length (put_field {L = Unit {0}} deidentification_codes_tag SQ (items (codes picked)) []) ≤ 832
codes-length picked =
    rw (
      codes-parts picked,
      length-append (header deidentification_codes_tag SQ undefined) (basic_part ++ (options_part picked ++ mark sequence_end 0)),
      length-append basic_part (options_part picked ++ mark sequence_end 0),
      length-append (options_part picked) (mark sequence_end 0),
      sequence-length deidentification_codes_tag undefined,
      mark-length sequence_end 0,
    )
    (omega (arith, basic-length, options-length picked))

pub yes-length : length (put_field {L = Unit {0}} patient_identity_removed_tag CS (text (ascii "YES")) []) ≡ 12
yes-length = omega (arith, text-length patient_identity_removed_tag CS (ascii "YES") cs-short, length-spaced (ascii "YES"))

pub word-length : (picked : ℕ) → length (date_word picked) ≤ 10
unfolding date_word
word-length picked =
    pick-case (λ t. length t ≤ 10) (is_chosen picked FullDates) (ascii "UNMODIFIED") (pick (is_chosen picked ModifiedDates) (ascii "MODIFIED") (ascii "REMOVED")) (λ _. omega arith)
    (λ _. pick-case (λ t. length t ≤ 10) (is_chosen picked ModifiedDates) (ascii "MODIFIED") (ascii "REMOVED") (λ _. omega arith) (λ _. omega arith))

gain-length : (low high m vr n : ℕ) (f : Field (Unit {0})) → length (put_field m vr f []) ≤ n → length (bytes_of (gain low high m vr f nil)) ≤ n
unfolding gain bytes_of put_elements
gain-length low high m vr n f h =
    pick-case (λ d. length (put_elements d []) ≤ n) (due low high m) (elem tt m vr f nil) nil (λ _. h) (λ _. omega arith)

module _ (picked low high : ℕ) where
  pub yes-due-length : length (yes_due picked low high) ≤ 12
  yes-due-length =
      gain-length low high patient_identity_removed_tag CS 12 (text (ascii "YES")) (omega (arith, yes-length))

  pub codes-due-length : length (codes_due picked low high) ≤ 832
  codes-due-length = gain-length low high deidentification_codes_tag SQ 832 (items (codes picked)) (codes-length picked)

  pub dates-due-length : length (dates_due picked low high) ≤ 19
  dates-due-length =
      gain-length low high longitudinal_time_tag CS 19 (text (date_word picked))
      (omega (arith, text-length longitudinal_time_tag CS (date_word picked) cs-short, spaced-length (date_word picked), word-length picked))

  gaining-length : length (bytes_of (gaining picked low high nil)) ≤ 1024
  gaining-length =
      rw (
        gaining-parts picked low high,
        length-append (yes_due picked low high) (codes_due picked low high ++ dates_due picked low high),
        length-append (codes_due picked low high) (dates_due picked low high),
      )
      (omega (arith, yes-due-length, codes-due-length, dates-due-length))

pub gained-length : (top : Bool) (picked low high : ℕ) → length (gained_if top picked low high) ≤ 1024
unfolding gained_if
gained-length true picked low high = gaining-length picked low high
gained-length false picked low high = omega arith
