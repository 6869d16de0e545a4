-- One outcome for the public routines of `treatment`, `write_values`, `write_markers` and `write_state`, in the words of `OneOutcome`. No contract cites this file. Assumes nothing.
use mathlib.Core.Path.{◌≡◌, sym, ◌∙◌}
use mathlib.Core.Bool.{Bool}
use Prim.Native.Nat.{ℕ}
use lib.IntN.{ℤ}
use contract.Lifetimes.{Lfts}
use Rattle.treatment.specs.declared.Rules.{Rules}
use Rattle.treatment.specs.declared.Level.{Level}
use Rattle.treatment.specs.declared.Fate.{Fate}
use Rattle.treatment.proofs.is_top.Reads as is-top
use Rattle.treatment.proofs.walks_into.Reads as walks-into
use Rattle.treatment.proofs.below.Reads as below
use Rattle.treatment.proofs.fate_of.Reads as fate-of
use Rattle.treatment.proofs.Rules.fate_of.Reads as rules-fate-of
use Rattle.write_state.specs.declared.Progress.{Progress}
use Rattle.write_state.proofs.Progress.at_place.Reads as at_place
use Rattle.write_state.proofs.Progress.one_kept.Reads as one_kept
use Rattle.write_state.proofs.Progress.one_replaced.Reads as one_replaced
use Rattle.write_state.proofs.Progress.one_renamed.Reads as one_renamed
use Rattle.write_state.proofs.Progress.one_removed.Reads as one_removed
use Rattle.write_values.proofs.put_same.Reads as put-same
use Rattle.write_values.proofs.put_dates.Reads as put-dates
use Rattle.write_values.proofs.put_text.Reads as put-text
use Rattle.write_values.proofs.put_emptied.Reads as put-emptied
use Rattle.write_values.proofs.put_dummied.Reads as put-dummied
use Rattle.write_markers.proofs.put_gained.Reads as put-gained
use Rattle.promises.proofs.OneOutcome.{OneRead, OneWrite, OneCopy, OneCopy2}

-- ---- treatment

pub is-top-one : (κs κs' : Lfts 0) (level : Level) (r r' : Bool) → is-top.Learnt κs (level, tt) r (level, tt) → is-top.Learnt κs' (level, tt) r' (level, tt) → r ≡ r'
is-top-one κs κs' level r r' a b = cc

pub walks-into-one : (κs κs' : Lfts 0) (φ : Fate) (r r' : Bool) → walks-into.Learnt κs (φ, tt) r (φ, tt) → walks-into.Learnt κs' (φ, tt) r' (φ, tt) → r ≡ r'
walks-into-one κs κs' φ r r' a b = cc

pub below-one : (κs κs' : Lfts 0) (φ : Fate) (level r r' : Level) → below.Learnt κs (φ, (level, tt)) r (φ, (level, tt))
    → below.Learnt κs' (φ, (level, tt)) r' (φ, (level, tt)) → r ≡ r'
below-one κs κs' φ level r r' a b = cc

pub fate-of-one : (options : ℕ) (level : Level) (tag vr : ℕ)
    → OneRead 1 Fate (λ κs s r. fate-of.Learnt κs (s, (options, (level, (tag, (vr, tt))))) r (s, (options, (level, (tag, (vr, tt))))))
fate-of-one options level tag vr κs κs' s s' r r' e a b = cc

pub rules-fate-of-one : (κs κs' : Lfts 1) (rules rules' : Rules) (level : Level) (tag vr : ℕ) (r r' : Fate) → rules.numbers.options ≡ rules'.numbers.options
    → rules-fate-of.Learnt κs (rules, (level, (tag, (vr, tt)))) r (rules, (level, (tag, (vr, tt))))
    → rules-fate-of.Learnt κs' (rules', (level, (tag, (vr, tt)))) r' (rules', (level, (tag, (vr, tt)))) → r ≡ r'
rules-fate-of-one κs κs' rules rules' level tag vr r r' e a b = cc

-- ---- write_values

pub put-same-one : (tag vr pos : ℕ)
    → OneCopy 2 ℕ (λ κs s o r p. put-same.Learnt κs (tag, (vr, (s, (o, (pos, tt))))) r (tag, (vr, (s, (p, (pos, tt))))))
put-same-one tag vr pos κs κs' s s' o o' p p' r r' d e a b = (cc, cc)

pub put-dates-one : (tag vr : ℕ) (days : ℤ) (pos : ℕ)
    → OneCopy 2 ℕ (λ κs s o r p. put-dates.Learnt κs (tag, (vr, (s, (days, (o, (pos, tt)))))) r (tag, (vr, (s, (days, (p, (pos, tt)))))))
put-dates-one tag vr days pos κs κs' s s' o o' p p' r r' d e a b = (cc, cc)

pub put-text-one : (tag vr pos : ℕ)
    → OneCopy 2 ℕ (λ κs s o r p. put-text.Learnt κs (tag, (vr, (s, (o, (pos, tt))))) r (tag, (vr, (s, (p, (pos, tt))))))
put-text-one tag vr pos κs κs' s s' o o' p p' r r' d e a b = (cc, cc)

pub put-emptied-one : (tag vr pos : ℕ)
    → OneCopy2 2 ℕ (λ κs s t o r p. put-emptied.Learnt κs (s, (t, (tag, (vr, (o, (pos, tt)))))) r (s, (t, (tag, (vr, (p, (pos, tt)))))))
put-emptied-one tag vr pos κs κs' s s' t t' o o' p p' r r' c d e a b = (cc, cc)

pub put-dummied-one : (tag vr pos : ℕ)
    → OneCopy2 2 ℕ (λ κs s t o r p. put-dummied.Learnt κs (s, (t, (tag, (vr, (o, (pos, tt)))))) r (s, (t, (tag, (vr, (p, (pos, tt)))))))
put-dummied-one tag vr pos κs κs' s s' t t' o o' p p' r r' c d e a b = (cc, cc)

-- ---- write_markers

pub put-gained-one : (level : Level) (options low high pos : ℕ)
    → OneWrite 1 ℕ (λ κs o r p.
    put-gained.Learnt κs (level, (options, (low, (high, (o, (pos, tt)))))) r (level, (options, (low, (high, (p, (pos, tt)))))))
put-gained-one level options low high pos κs κs' o o' p p' r r' e a b = (cc, cc)

-- ---- write_state

pub at-place-one : (κs κs' : Lfts 0) (t : Progress) (pos : ℕ) (r r' : Progress) → at_place.Learnt κs (t, (pos, tt)) r (t, (pos, tt))
    → at_place.Learnt κs' (t, (pos, tt)) r' (t, (pos, tt)) → r ≡ r'
at-place-one κs κs' t pos r r' a b = a ∙ sym b

pub one-kept-one : (κs κs' : Lfts 0) (t : Progress) (pos : ℕ) (r r' : Progress) → one_kept.Learnt κs (t, (pos, tt)) r (t, (pos, tt))
    → one_kept.Learnt κs' (t, (pos, tt)) r' (t, (pos, tt)) → r ≡ r'
one-kept-one κs κs' t pos r r' a b = a ∙ sym b

pub one-replaced-one : (κs κs' : Lfts 0) (t : Progress) (pos : ℕ) (r r' : Progress) → one_replaced.Learnt κs (t, (pos, tt)) r (t, (pos, tt))
    → one_replaced.Learnt κs' (t, (pos, tt)) r' (t, (pos, tt)) → r ≡ r'
one-replaced-one κs κs' t pos r r' a b = a ∙ sym b

pub one-renamed-one : (κs κs' : Lfts 0) (t : Progress) (pos used : ℕ) (r r' : Progress) → one_renamed.Learnt κs (t, (pos, (used, tt))) r (t, (pos, (used, tt)))
    → one_renamed.Learnt κs' (t, (pos, (used, tt))) r' (t, (pos, (used, tt))) → r ≡ r'
one-renamed-one κs κs' t pos used r r' a b = a ∙ sym b

pub one-removed-one : (κs κs' : Lfts 0) (t r r' : Progress) → one_removed.Learnt κs (t, tt) r (t, tt) → one_removed.Learnt κs' (t, tt) r' (t, tt) → r ≡ r'
one-removed-one κs κs' t r r' a b = a ∙ sym b
