-- `write_walk::plain` meets its contract: what the top level gains, and then the element. Assumes nothing.
use mathlib.Core.Path.{ap}
use Prim.Native.Nat.{◌+◌}
use Rattle.treatment.specs.Fates.{is_top}
use Rattle.write_markers.proofs.PartLaws.{gained-length}
use Rattle.write_state.specs.Wrote.{met}
use Rattle.write_walk.proofs.StepLaws.{plain-act}
use native.Mathlib.Omega.{arith}
use Rattle.write_walk.proofs.plain.Goals as goal

pub act-requires : goal.act-requires
act-requires c =
    let short = gained-length (is_top c.args.at.level) c.args.rules.numbers.options c.args.at.low (c.args.e.tag + 1) in (
      c.requires.rises,
      c.requires.in_s,
      record { root_fits = c.requires.ready.root_fits; slots_fit = omega (arith, ap (λ v. v.used) c.gain_before-t.ensures.0, c.requires.ready.slots_fit); room = omega (arith, short, ap (λ v. v.pos) c.gain_before-t.ensures.0, c.requires.ready.room) },
      record { countable = omega (arith, ap met c.gain_before-t.ensures.0, c.requires.countable.countable) },
    )

pub returns : goal.returns
returns c = plain-act c.args.at.low c.fate_of-fate.result c.gain_before-t.ensures (gained-length _ _ _ _) c.fate_of-fate.ensures c.act.ensures
