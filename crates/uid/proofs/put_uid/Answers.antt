-- `put_uid` meets its contract: what its three calls leave is one write. Assumes nothing.
use Rattle.uid.proofs.NewUidLaws.{length-new_uid}
use Rattle.uid.proofs.PutLaws.{put-whole}
use native.Mathlib.Omega.{arith}
use Rattle.uid.proofs.put_uid.Goals as goal

pub copy_block-p-requires : goal.copy_block-p-requires
copy_block-p-requires c = omega (arith, length-new_uid c.args.root.now c.args.n)

pub put_decimal-requires : goal.put_decimal-requires
put_decimal-requires c = omega (arith, length-new_uid c.args.root.now c.args.n, c.copy_block-p.ensures.0)

pub returns : goal.returns
returns c = put-whole c.args.root.now c.args.n c.args.out.now c.args.pos c.copy_block-p.result c.put_decimal.result _ _ _ c.copy_block-p.ensures c.put.ensures c.put_decimal.ensures

pub overflow_add-p : goal.overflow_add-p
overflow_add-p c = omega (arith, length-new_uid c.args.root.now c.args.n, c.copy_block-p.ensures.0)
