-- `lists::entry_at` meets its contract: a law of the definition for each way out. Assumes nothing.
use mathlib.Core.Path.{sym, ◌∙◌}
use borrow.Author.Tests.{ltb-true, ltb-false}
use Rattle.lists.proofs.ListsLaws.{entry_at-tagless, entry_at-short, entry_at-empty, entry_at-long, entry_at-cut, entry_at-is}
use native.Mathlib.Omega.{arith}
use Rattle.std.proofs.lemmas.List.{get_or_read}
use Rattle.lists.proofs.entry_at.Goals as goal
use Rattle.lists.proofs.entry_at.Goals.{then-size-eq0-via-then-size-eq0, then-size-eq0-via-else-size-eq0+then-size-gt-MOST_VALUE, then-size-eq0-via-else-size-eq0+else-size-gt-MOST_VALUE+then-s-from}

pub returns-in_err-tag : goal.returns-in_err-tag
returns-in_err-tag c = c.from_residual.ensures ∙ sym (entry_at-tagless _ _ (sym c.in_err-tag.ensures))

pub returns-in_err-get : goal.returns-in_err-get
returns-in_err-get c =
    c.from_residual-in_err-get.ensures ∙ sym (entry_at-short _ _ _ _ (sym c.in_ok-tag.ensures) (ltb-false _ _ (sym c.in_err-get.ensures.lookup.0)))

pub returns-then-size-eq0 : goal.returns-then-size-eq0
returns-then-size-eq0 c =
    let h = ltb-true _ _ (sym c.in_ok-get.ensures.lookup.0) in
    let e = c.from-size.ensures ∙ get_or_read _ _ _ h c.in_ok-get.ensures.lookup.1 0 in
    elim c.then-size-eq0.branch [
      | then-size-eq0-via-then-size-eq0 w ↦ sym (entry_at-empty _ _ _ _ (sym c.in_ok-tag.ensures) h (omega (arith, e)))
      | then-size-eq0-via-else-size-eq0+then-size-gt-MOST_VALUE w ↦ sym (entry_at-long _ _ _ _ (sym c.in_ok-tag.ensures) h (omega (arith, e)))
      | then-size-eq0-via-else-size-eq0+else-size-gt-MOST_VALUE+then-s-from w ↦
          sym (entry_at-cut _ _ _ _ (sym c.in_ok-tag.ensures) h (λ z. omega (arith, e)) (omega (arith, e)) (omega (arith, e)))
    ]

pub returns : goal.returns
returns c =
    let h = ltb-true _ _ (sym c.in_ok-get.ensures.lookup.0) in
    let e = c.from-size.ensures ∙ get_or_read _ _ _ h c.in_ok-get.ensures.lookup.1 0 in
    rw e (sym (entry_at-is _ _ _ _ (sym c.in_ok-tag.ensures) h (λ z. omega (arith, e)) (omega (arith, e)) (omega (arith, e))))
