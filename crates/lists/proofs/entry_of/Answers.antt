-- `lists::entry_of` meets its contract. Assumes nothing.
use mathlib.Core.Path.{sym, ◌∙◌}
use Rattle.lists.proofs.LookupLaws.{seeking-start, seeking-done, seeking-broken, seeking-below, seeking-found}
use Rattle.lists.proofs.entry_of.Goals as goal

pub loop-init : goal.loop-init
loop-init c = seeking-start _ _

pub returns-in_err-e : goal.returns-in_err-e
returns-in_err-e c = c.from_residual.ensures ∙ sym (seeking-broken c.loop.invariant c.loop-test.true (sym c.in_err-e.ensures))

pub returns-then-tag-e : goal.returns-then-tag-e
returns-then-tag-e c = c.then_some.ensures ∙ sym (seeking-found c.loop.invariant c.loop-test.true (sym c.in_ok-e.ensures) c.if-tag-e.true)

pub loop-preserved : goal.loop-preserved
loop-preserved c = seeking-below c.loop.invariant c.loop-test.true (sym c.in_ok-e.ensures) c.if-tag-e.false

pub returns : goal.returns
returns c = sym (seeking-done c.loop.invariant c.loop-test.false)
