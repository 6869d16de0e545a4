-- The four counts, on the input alone: document 01, "Kept content and the four counts", 2nd paragraph; readings K11 and K12.
-- Laws: `proofs/CountsLaws.antt`. Assumes nothing.
--     Counts                   kept, replaced, renamed, removed
--     one φ                    the count of one element of this fate
--     plus a b                 both together
--     counts_of es s level     those of the elements es of a level, with the items that are walked into
--     total c                  the four together
--     elements_met es s level  the number of elements of a level, with those of the items that are walked into
use Rattle.std.specs.Prelude.{ℕ, ◌+◌}
use Rattle.basis.specs.Choice.{pick}
use Rattle.layout.specs.Tree.{Field, value, items, Elements, nil, elem, Items, none as no_item, item}
use Rattle.treatment.specs.Settings.{Settings}
use Rattle.treatment.specs.Fates.{fate, walks_into, below}
use Rattle.treatment.specs.declared.Level.{Level}
use Rattle.treatment.specs.declared.Fate.{Fate}
use Rattle.treatment.specs.declared.Fate.TheVariants.{Removed, Kept, Walked, Emptied, Dummied, Renamed, Shifted, Wrong}

pub record Counts : Type 0 where
  pub stayed : ℕ
  pub replaced : ℕ
  pub renamings : ℕ
  pub removals : ℕ

abbrev pub counts : ℕ → ℕ → ℕ → ℕ → Counts
counts a b c d = record { stayed = a; replaced = b; renamings = c; removals = d }

abbrev pub nothing : Counts
nothing = counts 0 0 0 0

abbrev pub plus : Counts → Counts → Counts
plus a b = counts (a.stayed + b.stayed) (a.replaced + b.replaced) (a.renamings + b.renamings) (a.removals + b.removals)

-- a walked sequence is kept; shifted elements, empty or not, are replaced (K12); what is wrong is refused and never counted
abbrev pub one : Fate → Counts
one Removed = counts 0 0 0 1
one Kept = counts 1 0 0 0
one Walked = counts 1 0 0 0
one Emptied = counts 0 1 0 0
one Dummied = counts 0 1 0 0
one Renamed = counts 0 0 1 0
one Shifted = counts 0 1 0 0
one Wrong = counts 1 0 0 0

-- what is inside a sequence counts where it is walked into
abbrev pub inside : Counts → Fate → Counts
inside c φ = pick (walks_into φ) c nothing

unfoldable mutual
  pub counts_field : {L : Type 0} → Field L → Settings → Level → Fate → Counts
  counts_field (value v) s level φ = nothing
  counts_field (items is) s level φ = inside (counts_items is s (below φ level)) φ

  pub counts_of : {L : Type 0} → Elements L → Settings → Level → Counts
  counts_of nil s level = nothing
  counts_of (elem l tag vr f es) s level =
      plus (one (fate s level tag vr)) (plus (counts_field f s level (fate s level tag vr)) (counts_of es s level))

  pub counts_items : {L : Type 0} → Items L → Settings → Level → Counts
  counts_items no_item s level = nothing
  counts_items (item es is) s level = plus (counts_of es s level) (counts_items is s level)

-- Document 01, Kept content and the four counts, 2nd paragraph: the sum of the counts, and the number of elements that it is
abbrev pub total : Counts → ℕ
total c = c.stayed + c.replaced + c.renamings + c.removals

unfoldable mutual
  pub field_met : {L : Type 0} → Field L → Settings → Level → Fate → ℕ
  field_met (value v) s level φ = 0
  field_met (items is) s level φ = pick (walks_into φ) (items_met is s (below φ level)) 0

  pub elements_met : {L : Type 0} → Elements L → Settings → Level → ℕ
  elements_met nil s level = 0
  elements_met (elem l tag vr f es) s level = 1 + (field_met f s level (fate s level tag vr) + elements_met es s level)

  pub items_met : {L : Type 0} → Items L → Settings → Level → ℕ
  items_met no_item s level = 0
  items_met (item es is) s level = elements_met es s level + items_met is s level
