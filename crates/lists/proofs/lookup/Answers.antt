-- `lists::lookup` meets its contract: the study's entry, the site's, neither. Assumes nothing.
use mathlib.Core.Path.{sym, ap}
use Rattle.lists.specs.Lookup.{bytes_or}
use Rattle.lists.proofs.LookupLaws.{entry_of-within, asked-study, asked-site, asked-neither}
use native.Mathlib.Omega.{arith}
use Rattle.lists.proofs.lookup.Goals as goal

pub slice_bounds-result-count : goal.slice_bounds-result-count
slice_bounds-result-count c = omega (arith, (entry_of-within _ _ _ (sym c.in-Some.ensures)).some-bytes)

pub slice_bounds-result-start : goal.slice_bounds-result-start
slice_bounds-result-start c = omega (arith, (entry_of-within _ _ _ (sym c.in-Some.ensures)).some-bytes)

pub slice_bounds-result-end : goal.slice_bounds-result-end
slice_bounds-result-end c = (entry_of-within _ _ _ (sym c.in-Some.ensures)).whole

pub returns-in-Some-clause-bytes : goal.returns-in-Some-clause-bytes
returns-in-Some-clause-bytes c = sym (ap bytes_or (asked-study _ _ _ _ (sym c.in-Some.ensures)))

pub slice_bounds-result-count-in-Some-entry_of : goal.slice_bounds-result-count-in-Some-entry_of
slice_bounds-result-count-in-Some-entry_of c = omega (arith, (entry_of-within _ _ _ (sym c.in-Some-entry_of.ensures)).some-bytes)

pub slice_bounds-result-start-in-Some-entry_of : goal.slice_bounds-result-start-in-Some-entry_of
slice_bounds-result-start-in-Some-entry_of c = omega (arith, (entry_of-within _ _ _ (sym c.in-Some-entry_of.ensures)).some-bytes)

pub slice_bounds-result-end-in-Some-entry_of : goal.slice_bounds-result-end-in-Some-entry_of
slice_bounds-result-end-in-Some-entry_of c = (entry_of-within _ _ _ (sym c.in-Some-entry_of.ensures)).whole

pub returns-in-Some-entry_of-clause-bytes : goal.returns-in-Some-entry_of-clause-bytes
returns-in-Some-entry_of-clause-bytes c = sym (ap bytes_or (asked-site _ _ _ _ (sym c.in_default.ensures) (sym c.in-Some-entry_of.ensures)))

pub returns-clause-bytes : goal.returns-clause-bytes
returns-clause-bytes c = sym (ap bytes_or (asked-neither _ _ _ (sym c.in_default.ensures) (sym c.in_default-entry_of.ensures)))
