-- `write_walk::shut` meets its contract: a sequence is passed over, and then done with. Assumes nothing.
use mathlib.Core.Path.{◌≡◌, sym, ◌∙◌}
use Rattle.std.specs.Prelude.{Ok}
use Rattle.layout.specs.Walks.{Stays}
use Rattle.write_walk.proofs.WroteLaws.{err-of, ok-of}
use Rattle.write_walk.proofs.StepLaws.{shut-fault, shut-act}
use native.Mathlib.Omega.{arith}
use Rattle.write_walk.proofs.shut.Goals as goal

pub act-requires : goal.act-requires
act-requires c =
    let e : c.sequence.result ≡ Ok c.in_ok-past.past = ok-of c.sequence.result _ (sym c.ok.ensures.value ∙ c.in_ok-past.was) in
    let stays : Stays c.args.c.from c.args.c.end (Ok c.in_ok-past.past) = rw e at c.sequence.ensures.stays in (
      stays.0,
      omega (arith, stays.1, c.requires.lies.in_s),
      record { root_fits = c.requires.ready.root_fits; slots_fit = c.requires.ready.slots_fit; room = omega (arith, stays.0, stays.1, c.requires.ready.room) },
      c.requires.countable,
    )

pub returns-in_err-past : goal.returns-in_err-past
returns-in_err-past c =
    let p = err-of c.sequence.result (sym c.ok.ensures.value ∙ c.in_err-past.was) in
    rw c.from_residual.ensures (shut-fault c.sequence.ensures p.0 p.1)

pub returns : goal.returns
returns c = shut-act c.sequence.ensures _ (ok-of c.sequence.result _ (sym c.ok.ensures.value ∙ c.in_ok-past.was)) c.act.ensures
