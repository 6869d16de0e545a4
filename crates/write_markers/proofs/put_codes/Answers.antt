-- `write_markers::put_codes` meets its contract: its writes are the sequence. Assumes nothing.
use Rattle.write_markers.proofs.PutLaws.{next, marked}
use Rattle.write_markers.proofs.PartLaws.{codes-parts}
use Rattle.write_markers.proofs.put_codes.Goals as goal

pub returns : goal.returns
returns c =
    let profile = rw (c.basic_code.ensures, c.basic_meaning.ensures) at c.put_code-chosen.ensures in
    rw (codes-parts c.args.options) (next _ _ _ _ c.put_header-profile.ensures (next _ _ _ _ profile (next _ _ _ _ c.put_options-end.ensures (marked _ _ _ _ c.put_mark.ensures))))
