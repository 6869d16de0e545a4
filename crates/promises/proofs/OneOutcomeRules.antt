-- One outcome for the public routines of `table`, `uid`, `ledger`, `calendar`, `lists` and `options`, in the words of `OneOutcome`.
-- No contract cites this file. Assumes nothing.
use mathlib.Core.Path.{◌≡◌, refl, sym, ap, subst}
use mathlib.Core.Bool.{Bool}
use mathlib.Core.List.{List}
use Rattle.std.specs.Prelude.{Option, None, Some}
use Prim.Native.Nat.{ℕ}
use lib.IntN.{ℤ}
use lib.ListN.{length}
use Rattle.basis.specs.Parts.{IsPart}
use contract.Lifetimes.{Lfts}
use Rattle.table.specs.declared.Action.{Action}
use Rattle.ledger.specs.declared.Slot.{Slot}
use Rattle.calendar.specs.declared.Date.{Date}
use Rattle.lists.specs.Lookup.{entry_of, Shown}
use Rattle.lists.specs.declared.Entry.{Entry}
use Rattle.options.specs.declared.Opt.{Opt}
use Rattle.table.proofs.rows.Reads as rows
use Rattle.table.proofs.row_of.Reads as row_of
use Rattle.table.proofs.action_of.Reads as action-of
use Rattle.uid.proofs.is_uid.Reads as is-uid
use Rattle.uid.proofs.is_root.Reads as is-root
use Rattle.uid.proofs.trimmed.Reads as trimmed
use Rattle.uid.proofs.uids_fault.Reads as uids-fault
use Rattle.basis.proofs.piece_end.Reads as piece-end
use Rattle.uid.proofs.put_decimal.Reads as put-decimal
use Rattle.uid.proofs.put_uid.Reads as put-uid
use Rattle.ledger.proofs.slots.Reads as slots
use Rattle.ledger.proofs.key_of.Reads as key_of
use Rattle.ledger.proofs.find.Reads as find
use Rattle.ledger.proofs.slot_for.Reads as slot-for
use Rattle.ledger.proofs.slot_of.Reads as slot_of
use Rattle.ledger.proofs.zero_rest.Reads as zero_rest
use Rattle.calendar.proofs.Date.shifted.Reads as shifted
use Rattle.calendar.proofs.date_fault.Reads as date-fault
use Rattle.calendar.proofs.put_shifted.Reads as put-shifted
use Rattle.lists.proofs.list_ok.Reads as list-ok
use Rattle.lists.proofs.lookup.Reads as lookup
use Rattle.options.proofs.Opt.is_in.Reads as is-in
use Rattle.options.proofs.Opt.at.Reads as at
use Rattle.options.proofs.Opt.code.Reads as code
use Rattle.options.proofs.Opt.meaning.Reads as meaning
use Rattle.options.proofs.Opt.put_meaning.Reads as put-meaning
use Rattle.options.proofs.Opt.basic_code.Reads as basic-code
use Rattle.options.proofs.Opt.basic_meaning.Reads as basic-meaning
use Rattle.options.proofs.Opt.put_basic_meaning.Reads as put-basic-meaning
use Rattle.options.proofs.date_word.Reads as date-word
use Rattle.options.proofs.put_date_word.Reads as put-date-word
use Rattle.options.proofs.settings_fault.Reads as settings-fault
use Rattle.options.proofs.days_of.Reads as days-of
use Rattle.promises.proofs.OneOutcome.{Slice, OneAnswer, OneRead, OneRead2, OneWrite, OneCopy, SamePart, part-one}

-- ---- table

pub rows-one : OneAnswer (List ℕ) (λ r. rows.Learnt tt tt r tt)
rows-one r r' a b = cc

pub row-of-one : (tag : ℕ) → OneRead 1 (Option ℕ) (λ κs s r. row_of.Learnt κs (s, (tag, tt)) r (s, (tag, tt)))
row-of-one tag κs κs' s s' r r' e a b = cc

pub action-of-one : (options : ℕ) (top : Bool) (tag : ℕ)
    → OneRead 1 Action (λ κs s r. action-of.Learnt κs (s, (options, (top, (tag, tt)))) r (s, (options, (top, (tag, tt)))))
action-of-one options top tag κs κs' s s' r r' e a b = cc

-- ---- uid

pub is-uid-one : OneRead 1 Bool (λ κs s r. is-uid.Learnt κs (s, tt) r (s, tt))
is-uid-one κs κs' s s' r r' e a b = cc

pub is-root-one : OneRead 1 Bool (λ κs s r. is-root.Learnt κs (s, tt) r (s, tt))
is-root-one κs κs' s s' r r' e a b = cc

pub trimmed-one : (κs κs' : Lfts 1) (s s' r r' : Slice) → s.now ≡ s'.now → trimmed.Learnt κs (s, tt) r (s, tt) → trimmed.Learnt κs' (s', tt) r' (s', tt)
    → SamePart (s.ref_ptr ≡ s'.ref_ptr) r r'
trimmed-one κs κs' s s' r r' e a b =
    let same : r.now ≡ r'.now = cc in
    part-one r r' s s' 0 (length r.now) e a.1 (subst (λ n. IsPart r' s' 0 n) (sym (ap length same)) b.1)

pub uids-fault-one : OneRead 1 Bool (λ κs s r. uids-fault.Learnt κs (s, tt) r (s, tt))
uids-fault-one κs κs' s s' r r' e a b = cc

pub piece-end-one : (from stop : ℕ) → OneRead 1 ℕ (λ κs s r. piece-end.Learnt κs (s, (from, (stop, tt))) r (s, (from, (stop, tt))))
piece-end-one from stop κs κs' s s' r r' e a b = cc

pub put-decimal-one : (n pos : ℕ) → OneWrite 1 ℕ (λ κs o r p. put-decimal.Learnt κs (n, (o, (pos, tt))) r (n, (p, (pos, tt))))
put-decimal-one n pos κs κs' o o' p p' r r' e a b = (cc, cc)

pub put-uid-one : (n pos : ℕ) → OneCopy 2 ℕ (λ κs s o r p. put-uid.Learnt κs (s, (n, (o, (pos, tt)))) r (s, (n, (p, (pos, tt)))))
put-uid-one n pos κs κs' s s' o o' p p' r r' d e a b = (cc, cc)

-- ---- ledger

pub slots-one : OneRead 1 ℕ (λ κs s r. slots.Learnt κs (s, tt) r (s, tt))
slots-one κs κs' s s' r r' e a b = cc

pub key-of-one : OneRead 1 (List ℕ) (λ κs s r. key_of.Learnt κs (s, tt) r (s, tt))
key-of-one κs κs' s s' r r' e a b = cc

pub find-one : (used : ℕ) → OneRead2 2 (Option ℕ) (λ κs s t r. find.Learnt κs (s, (used, (t, tt))) r (s, (used, (t, tt))))
find-one used κs κs' s s' t t' r r' d e a b = cc

pub slot-for-one : (used : ℕ) → OneCopy 2 (Option Slot) (λ κs s o r p. slot-for.Learnt κs (s, (o, (used, tt))) r (s, (p, (used, tt))))
slot-for-one used κs κs' s s' o o' p p' r r' d e a b = (cc, cc)

pub slot-of-one : (used : ℕ) → OneCopy 2 (Option Slot) (λ κs s o r p. slot_of.Learnt κs (s, (o, (used, tt))) r (s, (p, (used, tt))))
slot-of-one used κs κs' s s' o o' p p' r r' d e a b = (cc, cc)

pub zero-rest-one : (used : ℕ) → OneWrite 1 (Unit {0}) (λ κs o r p. zero_rest.Learnt κs (o, (used, tt)) r (p, (used, tt)))
zero-rest-one used κs κs' o o' p p' r r' e a b = (refl, cc)

-- ---- calendar

pub shifted-one : (date : Date) (days : ℤ) → OneAnswer (Option Date) (λ r. shifted.Learnt tt (date, (days, tt)) r (date, (days, tt)))
shifted-one date days r r' a b = cc

pub date-fault-one : (da : Bool) (days : ℤ) → OneRead 1 Bool (λ κs s r. date-fault.Learnt κs (da, (s, (days, tt))) r (da, (s, (days, tt))))
date-fault-one da days κs κs' s s' r r' e a b = cc

pub put-shifted-one : (da : Bool) (days : ℤ) (pos : ℕ)
    → OneCopy 2 ℕ (λ κs s o r p. put-shifted.Learnt κs (da, (s, (days, (o, (pos, tt))))) r (da, (s, (days, (p, (pos, tt))))))
put-shifted-one da days pos κs κs' s s' o o' p p' r r' d e a b = (cc, cc)

-- ---- lists

pub list-ok-one : OneRead 1 Bool (λ κs s r. list-ok.Learnt κs (s, tt) r (s, tt))
list-ok-one κs κs' s s' r r' e a b = cc

shown-one : (x y : Option Entry) (r r' s s' t t' : Slice) → s.now ≡ s'.now → t.now ≡ t'.now → Shown x y r s t → Shown x y r' s' t'
    → SamePart ((s.ref_ptr ≡ s'.ref_ptr) × (t.ref_ptr ≡ t'.ref_ptr)) r r'
shown-one (Some x) y r r' s s' t t' d e a b = let q = part-one r r' s s' x.from x.to d a b in (q.0, λ same. q.1 same.0)
shown-one None (Some y) r r' s s' t t' d e a b = let q = part-one r r' t t' y.from y.to e a b in (q.0, λ same. q.1 same.1)
shown-one None None r r' s s' t t' d e a b = let q = part-one r r' t t' 0 0 e a b in (q.0, λ same. q.1 same.1)

pub lookup-one : (κs κs' : Lfts 1) (tag : ℕ) (s s' t t' r r' : Slice) → s.now ≡ s'.now → t.now ≡ t'.now
    → lookup.Learnt κs (s, (t, (tag, tt))) r (s, (t, (tag, tt))) → lookup.Learnt κs' (s', (t', (tag, tt))) r' (s', (t', (tag, tt)))
    → SamePart ((s.ref_ptr ≡ s'.ref_ptr) × (t.ref_ptr ≡ t'.ref_ptr)) r r'
lookup-one κs κs' tag s s' t t' r r' d e a b =
    shown-one (entry_of s.now tag) (entry_of t.now tag) r r' s s' t t' d e a.0 (rw (d, e) b.0)

-- ---- options

pub is-in-one : (opt : Opt) (number : ℕ) → OneAnswer Bool (λ r. is-in.Learnt tt (opt, (number, tt)) r (opt, (number, tt)))
is-in-one opt number r r' a b = cc

pub at-one : (number bit : ℕ) → OneAnswer (Option Opt) (λ r. at.Learnt tt (number, (bit, tt)) r (number, (bit, tt)))
at-one number bit r r' a b = cc

pub code-one : (opt : Opt) → OneAnswer (List ℕ) (λ r. code.Learnt tt (opt, tt) r (opt, tt))
code-one opt r r' a b = cc

-- of the meanings, and of the word, where the bytes lie is left open
pub meaning-one : (κs κs' : Lfts 1) (opt : Opt) (r r' : Slice) → meaning.Learnt κs (opt, tt) r (opt, tt) → meaning.Learnt κs' (opt, tt) r' (opt, tt) → r.now ≡ r'.now
meaning-one κs κs' opt r r' a b = cc

pub put-meaning-one : (opt : Opt) (pos : ℕ) → OneWrite 1 ℕ (λ κs o r p. put-meaning.Learnt κs (opt, (o, (pos, tt))) r (opt, (p, (pos, tt))))
put-meaning-one opt pos κs κs' o o' p p' r r' e a b = (cc, cc)

pub basic-code-one : OneAnswer (List ℕ) (λ r. basic-code.Learnt tt tt r tt)
basic-code-one r r' a b = cc

pub basic-meaning-one : (κs κs' : Lfts 1) (r r' : Slice) → basic-meaning.Learnt κs tt r tt → basic-meaning.Learnt κs' tt r' tt → r.now ≡ r'.now
basic-meaning-one κs κs' r r' a b = cc

pub put-basic-meaning-one : (pos : ℕ) → OneWrite 1 ℕ (λ κs o r p. put-basic-meaning.Learnt κs (o, (pos, tt)) r (p, (pos, tt)))
put-basic-meaning-one pos κs κs' o o' p p' r r' e a b = (cc, cc)

pub date-word-one : (κs κs' : Lfts 1) (number : ℕ) (r r' : Slice) → date-word.Learnt κs (number, tt) r (number, tt) → date-word.Learnt κs' (number, tt) r' (number, tt)
    → r.now ≡ r'.now
date-word-one κs κs' number r r' a b = cc

pub put-date-word-one : (number pos : ℕ)
    → OneWrite 1 ℕ (λ κs o r p. put-date-word.Learnt κs (number, (o, (pos, tt))) r (number, (p, (pos, tt))))
put-date-word-one number pos κs κs' o o' p p' r r' e a b = (cc, cc)

pub settings-fault-one : (number : ℕ) (shift : ℤ) → OneAnswer Bool (λ r. settings-fault.Learnt tt (number, (shift, tt)) r (number, (shift, tt)))
settings-fault-one number shift r r' a b = cc

pub days-of-one : (shift : ℤ) → OneAnswer ℤ (λ r. days-of.Learnt tt (shift, tt) r (shift, tt))
days-of-one shift r r' a b = cc
