-- Demand 3, proved: what a batch leaves is what is written of its numbered kept contents; that decides the numbered contents; and these
-- are equal exactly up to one renaming. No contract cites this file. Assumes nothing.
--     run-bytes, run-slots     one accepted run: what it leaves, and the slots in use afterwards
--     batch                    a whole batch
--     demand3                  THE THEOREM
use mathlib.Core.Path.{◌≡◌, refl, sym, ap, ap₂, ◌∙◌}
use mathlib.Core.Bool.{true}
use mathlib.Core.List.Memᴰ
use mathlib.Core.List.{List, [], ◌∷◌, ◌++◌, map, append_assoc, head-eq_of_cons-eq, tail-eq_of_cons-eq}
use Prim.Native.Nat.{ℕ, ◌≤◌}
use native.Mathlib.Omega.{arith}
use lib.ListN.{length, length-map}
use lib.Seq.{take_at, drop_at, take-append_seam}
use Rattle.basis.specs.Bytes.{AllBytes}
use Rattle.layout.specs.Limits.{deepest}
use Rattle.layout.specs.Source.{Source}
use Rattle.layout.specs.Read.{read}
use Rattle.layout.proofs.MadeLaws.{read-made}
use Rattle.uid.specs.Uid.{is_root}
use Rattle.ledger.specs.FirstMet.{learns, same_uid}
use Rattle.ledger.specs.Slots.{slot_size, most_slots, slot_of, slots_in, flat}
use Rattle.ledger.proofs.SlotLaws.{Sized, slots_of-most, learns-slots}
use Rattle.treatment.specs.Settings.{Settings}
use Rattle.treatment.specs.declared.Level.TheVariants.{Top}
use Rattle.kept.specs.Content.{Content, uids_in}
use Rattle.kept.specs.Kept.{Uid}
use Rattle.kept.specs.Numbering.{numbered, numbered_all}
use Rattle.kept.specs.Written.{written}
use Rattle.kept.proofs.WrittenLaws.{Numbered, written-inj}
use Rattle.kept.proofs.KeptLaws.{kept-numbered}
use Rattle.kept.proofs.UidsLaws.{AllUids, kept-uids, learns-uids, uids-no_zero, sized-uids}
use Rattle.kept.proofs.NumberingLaws.{numbered-slots, numbered-one-renaming}
use Rattle.outcome.specs.Input.{read_as, tree_in, tree_of, content, slots_after, bytes_for}
use Rattle.outcome.specs.Outcome.{done, outcome_of, report_of, output_of, ledger_of}
use Rattle.outcome.proofs.OutcomeLaws.{accepted}
use Rattle.promises.specs.Demand3.{content_of, started, exported, Ran, none, next, Demand3}

-- ---- the slots that were written are the slots that are read

slots_in-flat : (ks : List (List ℕ)) (zs : List ℕ) → Sized ks → slots_in (flat ks ++ zs) (length ks) ≡ ks
unfolding slots_in flat
slots_in-flat [] zs h = refl
slots_in-flat (k ∷ ks) zs h =
    let e : (k ++ flat ks) ++ zs ≡ k ++ (flat ks ++ zs) = append_assoc k (flat ks) zs in
    rw e (ap₂ ◌∷◌ (take_at k (flat ks ++ zs) slot_size h.0) (ap (λ b. slots_in b (length ks)) (drop_at k (flat ks ++ zs) slot_size h.0) ∙ slots_in-flat ks zs h.1))

-- ---- one accepted run, from a ledger whose slots in use hold the UIDs us

module _ (s : Settings) (l : List ℕ) (n room : ℕ) (x : Source) (us : List Uid) (are : AllUids us) (holds : slots_in l n ≡ map slot_of us)
    (ok : outcome_of (started s l n room x) ≡ done) where
  content-is : content (started s l n room x) ≡ content_of s x
  unfolding content tree_of read_as content_of
  content-is = refl

  uids-are : AllUids (uids_in (content_of s x))
  unfolding content_of
  uids-are = kept-uids (tree_in (read deepest x)) s Top

  run-bytes : bytes_for (started s l n room x) ≡ written s (numbered same_uid us (content_of s x))
  unfolding bytes_for
  run-bytes =
      rw (content-is, holds)
      (ap (written s) (numbered-slots us (content_of s x) (uids-no_zero us are) (uids-no_zero (uids_in (content_of s x)) uids-are)))

  run-slots : slots_after (started s l n room x) ≡ map slot_of (learns same_uid us (uids_in (content_of s x)))
  unfolding slots_after
  run-slots =
      rw (content-is, holds)
      (learns-slots us (uids_in (content_of s x)) (uids-no_zero us are) (uids-no_zero (uids_in (content_of s x)) uids-are))

  run-exported : exported (started s l n room x) ≡ bytes_for (started s l n room x)
  unfolding report_of output_of
  run-exported = rw ok (take-append_seam (bytes_for (started s l n room x)) _)

  run-ledger : slots_in (ledger_of (started s l n room x)) (report_of (started s l n room x)).used ≡ map slot_of (learns same_uid us (uids_in (content_of s x)))
  unfolding report_of ledger_of
  run-ledger =
      rw (ok, run-slots)
      (slots_in-flat (map slot_of (learns same_uid us (uids_in (content_of s x)))) _
      (sized-uids (learns same_uid us (uids_in (content_of s x))) (learns-uids us (uids_in (content_of s x)) are uids-are)))

  -- what is written fits its level
  run_fits : AllBytes x.bytes → (is_root s.root ≡ true) × Numbered (numbered same_uid us (content_of s x)) s Top deepest 0
  unfolding content_of
  run_fits bytes =
      let a = accepted (started s l n room x) ok in
      let few : length (learns same_uid us (uids_in (content_of s x))) ≤ most_slots =
      omega (arith, a.free, ap length run-slots ∙ length-map (learns same_uid us (uids_in (content_of s x))) slot_of, slots_of-most l) in
      let tree : tree_in (read deepest x) ≡ a.tree = ap tree_in a.reads in (
        a.root,
        rw tree (kept-numbered same_uid a.tree s Top deepest 0 us (read-made deepest x a.tree a.past bytes a.reads) a.values (rw tree at few)),
      )

-- ---- a batch

abbrev AllFit : Settings → List (Content ℕ) → Type 0
AllFit s [] = Unit {0}
AllFit s (c ∷ cs) = ((is_root s.root ≡ true) × Numbered c s Top deepest 0) × AllFit s cs

record Batch (s : Settings) (us : List Uid) (xs : List Source) (outs : List (List ℕ)) : Type 0 where
  wrote : outs ≡ map (written s) (numbered_all same_uid us (map (content_of s) xs))
  fits : AllFit s (numbered_all same_uid us (map (content_of s) xs))

batch : (s : Settings) (us : List Uid) {l : List ℕ} {n : ℕ} {xs : List Source} {outs : List (List ℕ)} → AllUids us → slots_in l n ≡ map slot_of us → Ran s l n xs outs
    → Batch s us xs outs
unfolding numbered_all
batch s us are holds none = record { wrote = refl; fits = tt }
batch s us {l} {n} are holds (next {x = x} room bytes ok ran) =
    let rest = batch s (learns same_uid us (uids_in (content_of s x))) (learns-uids us (uids_in (content_of s x)) are (uids-are s l n room x us are holds ok)) (run-ledger s l n room x us are holds ok) ran in
    record {
      wrote = ap₂ ◌∷◌ (run-exported s l n room x us are holds ok ∙ run-bytes s l n room x us are holds ok) rest.wrote;
      fits = (run_fits s l n room x us are holds ok bytes, rest.fits);
    }

-- what is written of contents that fit decides them
all-written-inj : (s : Settings) (cs ds : List (Content ℕ)) → AllFit s cs → AllFit s ds → map (written s) cs ≡ map (written s) ds → cs ≡ ds
all-written-inj s [] [] f g e = refl
all-written-inj s [] (d ∷ ds) f g e = cc
all-written-inj s (c ∷ cs) [] f g e = cc
all-written-inj s (c ∷ cs) (d ∷ ds) f g e =
    ap₂ ◌∷◌ (written-inj s f.0.0 deepest c d f.0.1 g.0.1 (head-eq_of_cons-eq e)) (all-written-inj s cs ds f.1 g.1 (tail-eq_of_cons-eq e))

-- THE THEOREM
pub demand3 : Demand3
unfolding slots_in
demand3 s l k xs ys outs ends same ran also =
    let b = batch s [] (λ u m. absurd (Memᴰ.not-nil m)) refl ran in
    let c = batch s [] (λ u m. absurd (Memᴰ.not-nil m)) refl also in
    let r = numbered-one-renaming (map (content_of s) xs) (map (content_of s) ys) in (
      (λ e. r.0 (all-written-inj s _ _ b.fits c.fits (sym b.wrote ∙ e ∙ c.wrote))),
      (λ q. b.wrote ∙ ap (map (written s)) (r.1 q) ∙ sym c.wrote),
    )
