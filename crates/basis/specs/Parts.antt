-- A slice that is handed back as a part of one that was lent: the same memory, not a copy of its bytes. Assumes nothing.
--     IsPart r s a e     r is the part of s from a up to e: the block and the place that it points to are s's own
use Rattle.std.specs.Prelude.{◌≡◌, List, ℕ, ◌+◌}
use Rattle.std.specs.Borrow.{Bor}
use Rattle.basis.specs.Bytes.{part}

pub record IsPart (r s : Bor (List ℕ)) (a e : ℕ) : Type 0 where
  pub block : r.ref_ptr.0 ≡ s.ref_ptr.0
  pub start : r.ref_ptr.1 ≡ s.ref_ptr.1 + a
  pub bytes : r.now ≡ part s.now a e
