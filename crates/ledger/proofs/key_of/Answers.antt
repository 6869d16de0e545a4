-- `key_of` meets its contract: the UID is written over zeros. Assumes nothing.
use mathlib.Core.Path.{◌∙◌}
use Rattle.ledger.proofs.SlotLaws.{slot_of-laid}
use Rattle.ledger.proofs.key_of.Goals as goal

pub returns : goal.returns
returns c = c.copy.ensures ∙ slot_of-laid c.args.uid.now c.requires
