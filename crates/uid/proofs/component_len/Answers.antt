-- `component_len` meets its contract. Assumes nothing.
use mathlib.Core.Path.{◌∙◌}
use Rattle.uid.proofs.LeadLaws.{lead-zero, lead-digits}
use Rattle.uid.proofs.component_len.Goals as goal

pub returns-then-starts_with : goal.returns-then-starts_with
returns-then-starts_with c = lead-zero _ c.starts_with.ensures.value c.if-starts_with.true

pub returns : goal.returns
returns c = c.unwrap_or.ensures ∙ lead-digits _ c.starts_with.ensures.value c.if-starts_with.false c.find_non_digit.ensures
