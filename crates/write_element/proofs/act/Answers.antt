-- `write_element::act` meets its contract: one way out for each fate. Assumes nothing.
use mir.Facts.{to_z-of_z}
use Rattle.std.proofs.Common.{rules}
use borrow.Author.Rules.{sfits_of}
use Rattle.write_element.proofs.ActLaws.{way-removed, way-kept, way-emptied, way-dummied, way-shifted, way-full, way-renamed, way-stop}
use Rattle.write_element.proofs.act.Goals as goal

pub returns-in-Removed : goal.returns-in-Removed
returns-in-Removed c = way-removed c.requires.2.slots_fit c.requires.0 c.in-Removed.is c.one_removed.ensures

pub returns-in-Kept : goal.returns-in-Kept
returns-in-Kept c = way-kept c.requires.2.slots_fit c.requires.0 c.in-Kept.is c.requires.1 c.one_kept.ensures c.put_same-pos.ensures

pub returns-in-Emptied : goal.returns-in-Emptied
returns-in-Emptied c = way-emptied c.requires.2.slots_fit c.requires.0 c.in-Emptied.is c.one_replaced.ensures c.put_emptied-pos.ensures

pub returns-in-Dummied : goal.returns-in-Dummied
returns-in-Dummied c = way-dummied c.requires.2.slots_fit c.requires.0 c.in-Dummied.is c.one_replaced-in-Dummied.ensures c.put_dummied-pos.ensures

pub returns-in-Shifted : goal.returns-in-Shifted
returns-in-Shifted c = way-shifted c.requires.2.slots_fit c.requires.0 c.in-Shifted.is c.requires.1 (search (rules, to_z-of_z, sfits_of)) c.one_replaced-in-Shifted.ensures c.put_dates-pos.ensures

pub returns-in_err-pos-in-Renamed : goal.returns-in_err-pos-in-Renamed
returns-in_err-pos-in-Renamed c = rw c.from_residual.ensures (way-full c.requires.2.slots_fit c.requires.0 c.in-Renamed.is c.requires.1 c.put_renamed.ensures c.in_err-pos-in-Renamed.was)

pub returns-in_ok-pos-in-Renamed : goal.returns-in_ok-pos-in-Renamed
returns-in_ok-pos-in-Renamed c = way-renamed c.requires.2.slots_fit c.requires.0 c.in-Renamed.is c.requires.1 c.put_renamed.ensures c.in_ok-pos-in-Renamed.was c.one_renamed.ensures

pub returns-in-Walked : goal.returns-in-Walked
returns-in-Walked c = way-stop c.requires.2.slots_fit c.requires.0 c.in-Walked.is
