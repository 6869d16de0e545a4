-- `write_markers::put_code` meets its contract: its writes are the item. Assumes nothing.
use Rattle.write_markers.proofs.PutLaws.{next, marked}
use Rattle.write_markers.proofs.PartLaws.{item-parts}
use Rattle.write_markers.proofs.put_code.Goals as goal

pub returns : goal.returns
returns c =
    rw (item-parts c.args.code.now c.args.meaning.now)
    (next _ _ _ _ (marked _ _ _ _ c.put_mark-value.ensures) (next _ _ _ _ c.put_text-scheme.ensures (next _ _ _ _ c.put_text-words.ensures (next _ _ _ _ c.put_text-end.ensures (marked _ _ _ _ c.put_mark.ensures)))))
