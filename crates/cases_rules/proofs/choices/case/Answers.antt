-- `cases_rules::choices::case` is safe: the word for dates is short. Assumes nothing.
use Rattle.options.proofs.SettingsLaws.{date_word-length}
use native.Mathlib.Omega.{arith}
use Rattle.cases_rules.proofs.choices.case.Goals as goal

pub written-requires-2 : goal.written-requires-2
written-requires-2 g c = search (arith, date_word-length)
