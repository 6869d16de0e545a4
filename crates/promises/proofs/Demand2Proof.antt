-- Demand 2, proved: what an accepted run leaves stands in the relations of `specs/Treated.antt`, `specs/Markers.antt` and
-- `specs/LedgerAfter.antt` to what it was handed. The parts are in `TreatedProof`, `MarkersProof` and `LedgerProof`; here they are put
-- together, and the bytes that were written are read back. No contract cites this file. Assumes nothing.
--     demand2     THE THEOREM
use mathlib.Core.Path.{◌≡◌, sym, ap, subst, ◌∙◌}
use mathlib.Core.List.{List, ◌++◌}
use Prim.Native.Nat.{ℕ, suc, ◌-◌}
use native.Mathlib.Omega.{arith}
use lib.ListN.{length, take, replicate}
use lib.Seq.{take-append_seam}
use Rattle.basis.specs.Bytes.{AllBytes}
use Rattle.layout.specs.Limits.{deepest}
use Rattle.layout.specs.Source.{explicitly}
use Rattle.layout.specs.Tree.{Elements, Place, Data, bare}
use Rattle.layout.specs.Read.{good, with, read}
use Rattle.layout.proofs.MadeLaws.{read-made}
use Rattle.treatment.specs.declared.Level.TheVariants.{Top}
use Rattle.kept.specs.Content.{Content, map_content, uids_in}
use Rattle.kept.specs.Counts.{Counts, counts_of}
use Rattle.kept.specs.Markers.{with_markers}
use Rattle.kept.specs.Written.{written_of, export, written}
use Rattle.kept.proofs.WrittenLaws.{export-made, written-reads}
use Rattle.outcome.specs.Input.{Input, tree_of, content, bytes_for}
use Rattle.outcome.specs.Outcome.{done, outcome_of, report_of, output_of, ledger_of}
use Rattle.outcome.proofs.OutcomeLaws.{accepted}
use Rattle.promises.specs.Treated.{Treated}
use Rattle.promises.specs.Demand2.{NoneRemoved, Exports, Demand2}
use Rattle.promises.proofs.TreatedProof.{kept-treated}
use Rattle.promises.proofs.MarkersProof.{treated-none-removed, with_markers-gains}
use Rattle.promises.proofs.LedgerProof.{number_after, numbered_is, tree-is, numbered-fits, ledger-after}

pub bytes-numbered : (i : Input) → bytes_for i ≡ written i.settings (map_content (number_after i) (content i))
unfolding bytes_for
bytes-numbered i = ap (written i.settings) (numbered_is i)

module _ (i : Input) (bytes : AllBytes i.lent.bytes) (ok : outcome_of i ≡ done) where
  -- kept content with the numbers of its UIDs, and what is left of the data set
  abbrev numbers : Content ℕ
  numbers = map_content (number_after i) (content i)

  abbrev left_over : Data
  left_over = written_of numbers i.settings Top

  bytes-are : bytes_for i ≡ written i.settings numbers
  bytes-are = bytes-numbered i

  counts_are : (report_of i).counts ≡ counts_of (tree_of i) i.settings Top
  unfolding report_of
  counts_are = rw ok

  length-are : (report_of i).written ≡ length (bytes_for i)
  unfolding report_of
  length-are = rw ok

  output-is : output_of i ≡ bytes_for i ++ replicate (i.room - (report_of i).written) 0
  unfolding output_of report_of
  output-is = rw ok

  no-refusal : ((report_of i).refusal ≡ 0) × ((report_of i).offset ≡ 0)
  unfolding report_of
  no-refusal = (rw ok, rw ok)

  left-treated : Treated i.settings (number_after i) Top (bare (tree_of i)) left_over (report_of i).counts (uids_in (content i))
  unfolding content
  left-treated =
      let a = accepted i ok in
      let q = read-made deepest i.lent a.tree a.past bytes a.reads in
      subst (λ (c : Counts). Treated i.settings (number_after i) Top (bare (tree_of i)) left_over c (uids_in (content i))) (sym counts_are)
      (kept-treated (tree_of i) i.settings (number_after i) Top deepest 0 (rw (tree-is i ok) q) (rw (tree-is i ok) a.values))

  left-clear : NoneRemoved left_over i.settings.options Top
  left-clear = treated-none-removed i.settings (number_after i) (bare (tree_of i)) Top left_over (report_of i).counts (uids_in (content i)) left-treated

  taken : take (report_of i).written (output_of i) ≡ written i.settings numbers
  taken =
      ap (λ n. take n (output_of i)) length-are ∙ ap (take (length (bytes_for i))) output-is
      ∙ take-append_seam (bytes_for i) (replicate (i.room - (report_of i).written) 0) ∙ bytes-are

  back : with bare (read (suc deepest) (explicitly (take (report_of i).written (output_of i)))) ≡ good (export i.settings numbers) (report_of i).written
  back =
      ap (λ (b : List ℕ). with bare (read (suc deepest) (explicitly b))) taken
      ∙ written-reads i.settings (accepted i ok).root deepest numbers (numbered-fits i ok bytes)
      ∙ ap (good (export i.settings numbers)) (sym (length-are ∙ ap length bytes-are))

  proved : Exports i (report_of i) (output_of i) (ledger_of i)
  unfolding export written
  proved = record {
    came = bare (tree_of i);
    past = (accepted i ok).past;
    reads = ap (with bare) (accepted i ok).reads ∙ ap (λ (t : Elements Place). good (bare t) (accepted i ok).past) (sym (tree-is i ok));
    left = left_over;
    uids = uids_in (content i);
    number_for = number_after i;
    treated = left-treated;
    none_removed = left-clear;
    goes = with_markers i.settings.options left_over;
    markers = with_markers-gains i.settings.options left_over left-clear;
    made = export-made i.settings (accepted i ok).root deepest numbers (numbered-fits i ok bytes);
    length_is = length-are ∙ ap length bytes-are;
    fits = omega (arith, length-are, (accepted i ok).room);
    output = output-is ∙ ap (λ (b : List ℕ). b ++ replicate (i.room - (report_of i).written) 0) bytes-are;
    reads_back = back;
    ledger = ledger-after i ok;
    refusal_zero = no-refusal.0;
    offset_zero = no-refusal.1;
  }

-- THE THEOREM
pub demand2 : Demand2
demand2 i bytes ok = proved i bytes ok
