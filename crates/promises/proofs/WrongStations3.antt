-- Demand 3 shuts wrong stations of document 01, "Pinning every answer down", out: two batches of one data set each (`Exhibits.antt`), both
-- accepted, whose outputs by such a station are equal where no renaming takes one's kept content to the other's, or unequal where one does.
-- Assumes nothing.
--     Station                    what may be left of a batch that was run under these settings, from this ledger with no entries
--     Demand3Of runs             demand 3 with that station's runs in the place of ours
--     ours                       our station meets it: it is demand 3
--     leaving f                  a station that takes what ours takes, and leaves f s d of each data set d
--     kept-apart, hidden-alike, uids-apart    which of the data sets are one up to a renaming: not where a kept value differs, yet where a
--                                hidden one does, and not where two UIDs stand against one twice
--     markers-alone-against-3    a station that writes the markers alone: two different kept values give equal outputs
--     copy-against-3             one that copies its input: two different hidden values give different outputs
--     root-1-against-3           one that renames every UID to root.1: two UIDs, and one twice, give equal outputs
--     root1-first                what it writes of the first data set
use mathlib.Core.Path.{◌≡◌, refl, sym, ap, ◌∙◌}
use mathlib.Core.Logic.{◌↔◌}
use mathlib.Core.List.Memᴰ
use mathlib.Core.List.{List, [], ◌∷◌, map}
use Prim.Native.Nat.{ℕ}
use native.Mathlib.Omega.{arith}
use lib.ListN.{length, get_or}
use Rattle.basis.specs.Choice.{among}
use Rattle.basis.specs.Bytes.{AllBytes}
use Rattle.basis.specs.Text.{ascii}
use Rattle.vr.specs.Vr.{kind_of}
use Rattle.layout.specs.Tree.{nil}
use Rattle.layout.specs.Write.{header, bytes_of}
use Rattle.layout.specs.Source.{Source, explicitly}
use Rattle.treatment.specs.Settings.{Settings}
use Rattle.kept.specs.Content.{map_content, uids_in, uids_in_all}
use Rattle.kept.specs.Kept.{Uid}
use Rattle.kept.specs.Markers.{with_markers}
use Rattle.kept.specs.Renaming.{OneRenaming}
use Rattle.kept.specs.Written.{written}
use Rattle.outcome.specs.Outcome.{done, outcome_of}
use Rattle.outcome.specs.Samples.{plain}
use Rattle.promises.specs.Demand3.{content_of, exported, Ran, none, next}
use Rattle.promises.proofs.Demand3Proof.{demand3}
use Rattle.promises.proofs.Exhibits.{first, other_kept, other_name, one_uid, empty_ledger, input_for, export_of, content_with, bytes, said}

-- ---- demand 3 of any station

abbrev pub Station : Type 1
Station = Settings → List ℕ → List Source → List (List ℕ) → Type 0

abbrev pub Demand3Of : Station → Type 0
Demand3Of runs =
    (s : Settings) (l k : List ℕ) (xs ys : List Source) (outs ends : List (List ℕ)) → length xs ≡ length ys → runs s l xs outs → runs s k ys ends
    → (outs ≡ ends) ↔ OneRenaming (map (content_of s) xs) (map (content_of s) ys)

pub ours : Demand3Of (λ s l xs outs. Ran s l 0 xs outs)
ours = demand3

abbrev pub leaving : (Settings → Source → List ℕ) → Station
leaving f s l xs outs = (outs ≡ map (f s) xs) × ((ran : List (List ℕ)) × Ran s l 0 xs ran)

-- what demand 3 says of such a station and two data sets that are accepted
two : (f : Settings → Source → List ℕ) → Demand3Of (leaving f) → (d e : List ℕ) → AllBytes d → AllBytes e
    → outcome_of (input_for d) ≡ done → outcome_of (input_for e) ≡ done
    → (f plain (explicitly d) ∷ [] ≡ f plain (explicitly e) ∷ []) ↔ OneRenaming (content_of plain (explicitly d) ∷ []) (content_of plain (explicitly e) ∷ [])
two f demand d e bytes-d bytes-e ok-d ok-e =
    demand plain empty_ledger empty_ledger (explicitly d ∷ []) (explicitly e ∷ []) (f plain (explicitly d) ∷ []) (f plain (explicitly e) ∷ []) refl
    (refl, (exported (input_for d) ∷ [], next 400 bytes-d ok-d none))
    (refl, (exported (input_for e) ∷ [], next 400 bytes-e ok-e none))

-- one renaming between contents of our data sets keeps the modality, and takes UID to UID
renaming : (m m' : List ℕ) (u w u' w' : Uid) (r : OneRenaming (content_with m u w ∷ []) (content_with m' u' w' ∷ []))
    → (m ≡ m') × (r.rename u ≡ u') × (r.rename w ≡ w')
unfolding map_content
renaming m m' u w u' w' r = let e = r.renamed in (cc, cc, cc)

-- ---- writes the markers alone

abbrev pub markers_alone : Settings → Source → List ℕ
markers_alone s d = bytes_of (with_markers s.options nil)

pub kept-apart : OneRenaming (content_of plain (explicitly first) ∷ []) (content_of plain (explicitly other_kept) ∷ []) → ⊥
kept-apart r =
    let q = rw (said.first-content, said.other_kept-content) at r in
    let e : ◌≡◌ {A = ℕ} 0x4D 0x43 = ap (λ (b : List ℕ). get_or b 0 0) (renaming _ _ _ _ _ _ q).0 in omega arith

pub markers-alone-against-3 : Demand3Of (leaving markers_alone) → ⊥
markers-alone-against-3 demand =
    kept-apart ((two markers_alone demand first other_kept bytes.of-first bytes.of-other_kept said.first-done said.other_kept-done).0 refl)

-- ---- copies its input

pub hidden-alike : OneRenaming (content_of plain (explicitly first) ∷ []) (content_of plain (explicitly other_name) ∷ [])
unfolding map_content
hidden-alike = record { rename = λ u. u; one_to_one = λ u w _ _ e. e; renamed = rw (said.first-content, said.other_name-content) refl }

pub copy-against-3 : Demand3Of (leaving (λ s d. d.bytes)) → ⊥
unfolding header kind_of among
copy-against-3 demand =
    let e = (two (λ s d. d.bytes) demand first other_name bytes.of-first bytes.of-other_name said.first-done said.other_name-done).1 hidden-alike in
    let z : ◌≡◌ {A = ℕ} 0x44 0x52 = ap (λ (b : List (List ℕ)). get_or (get_or b 0 []) 18 0) e in omega arith

-- ---- renames every UID to root.1

abbrev pub root1 : Settings → Source → List ℕ
root1 s d = written s (map_content (λ _. 1) (content_of s d))

-- so it writes of the first what `root-1-against-2` is about
pub root1-first : root1 plain (explicitly first) ≡ export_of (ascii "1.9.1") (ascii "1.9.1")
root1-first = said.ones

pub uids-apart : OneRenaming (content_of plain (explicitly first) ∷ []) (content_of plain (explicitly one_uid) ∷ []) → ⊥
unfolding uids_in_all uids_in
uids-apart r =
    let q = rw (said.first-content, said.one_uid-content) at r in
    let k = renaming _ _ _ _ _ _ q in
    let e : ascii "1.2.30" ≡ ascii "1.2.31" =
    q.one_to_one (ascii "1.2.30") (ascii "1.2.31") (Memᴰ.head refl) (Memᴰ.tail (Memᴰ.head refl)) (k.1 ∙ sym k.2) in
    let z : ◌≡◌ {A = ℕ} 0x30 0x31 = ap (λ (b : List ℕ). get_or b 5 0) e in omega arith

pub root-1-against-3 : Demand3Of (leaving root1) → ⊥
unfolding map_content
root-1-against-3 demand =
    uids-apart ((two root1 demand first one_uid bytes.of-first bytes.of-one_uid said.first-done said.one_uid-done).0 (rw (said.first-content, said.one_uid-content) refl))
