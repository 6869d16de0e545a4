-- `trimmed` meets its contract. Assumes nothing.
use Rattle.uid.proofs.PadLaws.{trimmed-zero, trimmed-same}
use Rattle.uid.proofs.trimmed.Goals as goal

pub returns-then-ends_with-clause-bytes : goal.returns-then-ends_with-clause-bytes
returns-then-ends_with-clause-bytes c = trimmed-zero _ c.ends_with.ensures.value c.if-ends_with.true

pub returns-else-ends_with-clause-bytes : goal.returns-else-ends_with-clause-bytes
returns-else-ends_with-clause-bytes c = trimmed-same _ c.ends_with.ensures.value c.if-ends_with.false
