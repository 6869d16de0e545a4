-- `lists::tag_at` meets its contract. Assumes nothing.
use Prim.Native.Nat.{◌%◌}
use mathlib.Core.Path.{sym, ◌∙◌}
use lib.ListN.{get_or}
use borrow.Author.Tests.{ltb-true, ltb-false}
use Rattle.lists.specs.Lists.{most_tag}
use Rattle.lists.proofs.NumberLaws.{number_at-end, number_at-small, going-start, going-more, going-last, going-end, going-past, worth}
use native.Mathlib.Omega.{arith}
use Rattle.std.proofs.Common.{rules}
use Rattle.std.proofs.lemmas.List.{get_or_read}
use Rattle.lists.proofs.tag_at.Goals as goal

pub returns-in_err-get : goal.returns-in_err-get
returns-in_err-get c = c.from_residual.ensures ∙ sym (number_at-end 0 most_tag _ _ (ltb-false _ _ (sym c.in_err-get.ensures.lookup.0)))

pub returns-then-first-lt128 : goal.returns-then-first-lt128
returns-then-first-lt128 c =
    let h = ltb-true _ _ (sym c.in_ok-get.ensures.lookup.0) in
    let e = c.from-first.ensures ∙ get_or_read _ _ _ h c.in_ok-get.ensures.lookup.1 0 in
    rw e (sym (number_at-small most_tag c.args.s.now c.args.at (omega arith) h (omega (arith, e))))

pub loop-i-init : goal.loop-i-init
loop-i-init c =
    let h = ltb-true _ _ (sym c.in_ok-get.ensures.lookup.0) in
    let e = c.from-first.ensures ∙ get_or_read _ _ _ h c.in_ok-get.ensures.lookup.1 0 in
    (omega arith, omega arith, omega arith, rw e (going-start most_tag c.args.s.now c.args.at h (omega (arith, e))))

pub returns-then-b-lt128 : goal.returns-then-b-lt128
returns-then-b-lt128 c =
    let e = going-last c.loop-i.invariant.3 c.loop-i-test.true (rw c.from-b.ensures at c.if-b-lt128.true) in
    search rules

pub returns-then-unit-gt-MOST_TAG : goal.returns-then-unit-gt-MOST_TAG
returns-then-unit-gt-MOST_TAG c = sym (going-past (going-more c.loop-i.invariant.3 c.loop-i-test.true (rw c.from-b.ensures at c.if-b-lt128.false)) c.if-unit-gt-MOST_TAG.true)

pub loop-i-preserved : goal.loop-i-preserved
loop-i-preserved c = rw c.from-b.ensures (
  omega arith,
  c.if-unit-gt-MOST_TAG.false,
  omega (arith, worth c.loop-i.unit (get_or c.args.s.now c.loop-i.i 0 % 128) (omega arith)),
  going-more c.loop-i.invariant.3 c.loop-i-test.true (rw c.from-b.ensures at c.if-b-lt128.false),
)

pub returns : goal.returns
returns c = sym (going-end c.loop-i.invariant.3 c.loop-i-test.false)
