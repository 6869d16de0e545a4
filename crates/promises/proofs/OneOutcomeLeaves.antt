-- One outcome for the public routines of `refusals`, `buffer`, `vr` and `write_headers`, in the words of `OneOutcome`. No contract cites this
-- file. Assumes nothing.
use mathlib.Core.Path.{◌≡◌, refl, sym, ◌∙◌}
use mathlib.Core.Bool.{Bool}
use mathlib.Core.List.{List}
use Rattle.std.specs.Prelude.{Option}
use Prim.Native.Nat.{ℕ}
use Rattle.refusals.specs.declared.Refusal.{Refusal}
use Rattle.refusals.specs.declared.Fault.{Fault}
use Rattle.vr.specs.declared.Kind.{Kind}
use Rattle.vr.specs.declared.Dummy.{Dummy}
use Rattle.refusals.proofs.Refusal.number.Reads as number
use Rattle.refusals.proofs.Refusal.as_fault.Reads as as_fault
use Rattle.buffer.proofs.put.Reads as put
use Rattle.buffer.proofs.copy.Reads as copy
use Rattle.buffer.proofs.copy_block.Reads as copy-block
use Rattle.buffer.proofs.zero_from.Reads as zero-from
use Rattle.vr.proofs.vrs.Reads as vrs
use Rattle.vr.proofs.kind_of.Reads as kind-of
use Rattle.vr.proofs.served_by_lists.Reads as served-by-lists
use Rattle.vr.proofs.dummy_of.Reads as dummy-of
use Rattle.write_headers.proofs.put_header.Reads as put-header
use Rattle.write_headers.proofs.put_mark.Reads as put-mark
use Rattle.promises.proofs.OneOutcome.{OneAnswer, OneWrite, OneCopy}

-- ---- refusals

pub number-one : (refusal : Refusal) → OneAnswer ℕ (λ r. number.Learnt tt (refusal, tt) r (refusal, tt))
number-one refusal r r' a b = cc

pub as_fault-one : (refusal : Refusal) → OneAnswer Fault (λ r. as_fault.Learnt tt (refusal, tt) r (refusal, tt))
as_fault-one refusal r r' a b = a ∙ sym b

-- ---- buffer

pub put-one : (pos x : ℕ) → OneWrite 1 (Unit {0}) (λ κs o r p. put.Learnt κs (o, (pos, (x, tt))) r (p, (pos, (x, tt))))
put-one pos x κs κs' o o' p p' r r' e a b = (refl, cc)

pub copy-one : (pos : ℕ) → OneCopy 2 (Unit {0}) (λ κs s o r p. copy.Learnt κs (s, (o, (pos, tt))) r (s, (p, (pos, tt))))
copy-one pos κs κs' s s' o o' p p' r r' d e a b = (refl, cc)

pub copy-block-one : (pos : ℕ) → OneCopy 2 ℕ (λ κs s o r p. copy-block.Learnt κs (s, (o, (pos, tt))) r (s, (p, (pos, tt))))
copy-block-one pos κs κs' s s' o o' p p' r r' d e a b = (cc, cc)

pub zero-from-one : (pos : ℕ) → OneWrite 1 (Unit {0}) (λ κs o r p. zero-from.Learnt κs (o, (pos, tt)) r (p, (pos, tt)))
zero-from-one pos κs κs' o o' p p' r r' e a b = (refl, cc)

-- ---- vr

pub vrs-one : OneAnswer (List ℕ) (λ r. vrs.Learnt tt tt r tt)
vrs-one r r' a b = cc

pub kind-of-one : (vr : ℕ) → OneAnswer (Option Kind) (λ r. kind-of.Learnt tt (vr, tt) r (vr, tt))
kind-of-one vr r r' a b = cc

pub served-by-lists-one : (vr : ℕ) → OneAnswer Bool (λ r. served-by-lists.Learnt tt (vr, tt) r (vr, tt))
served-by-lists-one vr r r' a b = cc

pub dummy-of-one : (vr : ℕ) → OneAnswer Dummy (λ r. dummy-of.Learnt tt (vr, tt) r (vr, tt))
dummy-of-one vr r r' a b =
    let bytes : r.bytes ≡ r'.bytes = cc in
    let len : r.len ≡ r'.len = cc in
    λ i. record { bytes = bytes i; len = len i }

-- ---- heads

pub put-header-one : (tag vr n pos : ℕ)
    → OneWrite 1 ℕ (λ κs o r p. put-header.Learnt κs (tag, (vr, (n, (o, (pos, tt))))) r (tag, (vr, (n, (p, (pos, tt))))))
put-header-one tag vr n pos κs κs' o o' p p' r r' e a b = (cc, cc)

pub put-mark-one : (tag n pos : ℕ)
    → OneWrite 1 ℕ (λ κs o r p. put-mark.Learnt κs (tag, (n, (o, (pos, tt)))) r (tag, (n, (p, (pos, tt)))))
put-mark-one tag n pos κs κs' o o' p p' r r' e a b = (cc, cc)
