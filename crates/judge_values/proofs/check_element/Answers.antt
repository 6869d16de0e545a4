-- `judge_values::check_element` meets its contract. Assumes nothing.
use Rattle.judge_values.proofs.ValueLaws.{by-element}
use Rattle.judge_values.proofs.check_element.Goals as goal

pub returns : goal.returns
returns c = by-element _ _ c.fate_of.ensures c.check_value.ensures
