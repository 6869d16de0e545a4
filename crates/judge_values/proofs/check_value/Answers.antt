-- `judge_values::check_value` meets its contract. Assumes nothing.
use mathlib.Core.Bool.{true, false}
use mathlib.Core.Path.{refl}
use mir.Facts.{to_z-of_z}
use Rattle.std.proofs.Common.{rules}
use borrow.Author.Rules.{sfits_of}
use Rattle.treatment.specs.declared.Fate.TheVariants.{Wrong}
use Rattle.judge_values.proofs.ValueLaws.{by-fate, by-uids, by-dates}
use Rattle.judge_values.proofs.check_value.Goals as goal

pub returns-then-uids_fault : goal.returns-then-uids_fault
returns-then-uids_fault c = by-uids true c.if-uids_fault.true c.in-Renamed.is c.uids_fault.ensures

pub returns-then-date_fault : goal.returns-then-date_fault
returns-then-date_fault c = by-dates true c.if-date_fault.true c.in-Shifted.is (search (rules, to_z-of_z, sfits_of)) c.date_fault.ensures

pub returns-else-uids_fault : goal.returns-else-uids_fault
returns-else-uids_fault c = by-uids false c.if-uids_fault.false c.in-Renamed.is c.uids_fault.ensures

pub returns-else-date_fault : goal.returns-else-date_fault
returns-else-date_fault c = by-dates false c.if-date_fault.false c.in-Shifted.is (search (rules, to_z-of_z, sfits_of)) c.date_fault.ensures

pub returns-in-Wrong : goal.returns-in-Wrong
returns-in-Wrong c = by-fate Wrong c.in-Wrong.is (λ w. refl)
