-- `write_values::put_blank_sequence` meets its contract: four pieces, each next to the one before. Assumes nothing.
use Rattle.write_values.proofs.FillerLaws.{blank_sequence}
use Rattle.write_values.proofs.put_blank_sequence.Goals as goal

pub returns : goal.returns
returns c = blank_sequence _ _ _ _ _ _ _ _ _ _ _ c.put_header-items.ensures c.put_mark-inside.ensures c.put_mark-after.ensures c.put_mark.ensures
