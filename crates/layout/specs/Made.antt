-- A well-made data set: one that document 01's layout can hold. What `read` finds is well-made, and what is well-made reads back.
--     lengths_below vr   the lengths that the header of the VR can state are below this
--     Made depth low d   d's tags are allowed and rise from low on, its values have even lengths that fit, SQ alone holds items, and
--                        its items nest at most depth deep
-- Laws: `proofs/MadeLaws.antt`. Assumes nothing.
use Rattle.std.specs.Prelude.{◌≡◌, true, ℕ, ◌+◌, ◌-◌, ◌%◌, ◌≤◌, ◌<◌, length, None, Some}
use Rattle.vr.specs.Names.{SQ}
use Rattle.vr.specs.Vr.{kind_of}
use Rattle.vr.specs.declared.Kind.TheVariants.{Short, Long, Sequence}
use Rattle.layout.specs.Tree.{Field, value, items, Elements, nil, elem, Items, none, item}
use Rattle.layout.specs.Heads.{allowed, undefined}

-- no value has an unknown VR, and none is a sequence's
unfoldable pub lengths_below : ℕ → ℕ
lengths_below vr = elim (kind_of vr) [ None ↦ 0 | Some Short ↦ 65536 | Some Long ↦ undefined | Some Sequence ↦ 0 ]

unfoldable mutual
  pub Made : {L : Type 0} → ℕ → ℕ → Elements L → Type 0
  Made depth low nil = Unit {0}
  Made depth low (elem l tag vr f es) = (low ≤ tag) × (allowed tag ≡ true) × MadeField depth vr f × Made depth (tag + 1) es

  pub MadeField : {L : Type 0} → ℕ → ℕ → Field L → Type 0
  MadeField depth vr (value v) = (length v % 2 ≡ 0) × (length v < lengths_below vr)
  MadeField depth vr (items is) = (vr ≡ SQ) × MadeItems depth is

  pub MadeItems : {L : Type 0} → ℕ → Items L → Type 0
  MadeItems depth none = Unit {0}
  MadeItems depth (item es is) = (0 < depth) × Made (depth - 1) 0 es × MadeItems depth is
