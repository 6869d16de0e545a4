-- How the progress of the walk goes on over one element. Inner contracts cite this file, no promise does. Assumes nothing.
--     at_place t pos         the output's next place is pos
--     one_kept t pos, ..     and one element more was kept, replaced, renamed, removed
use Rattle.std.specs.Prelude.{ℕ, ◌+◌}
use Rattle.write_state.specs.declared.Progress.{Progress}

abbrev pub at_place : Progress → ℕ → Progress
at_place t pos = record { pos = pos; used = t.used; kept = t.kept; replaced = t.replaced; renamed = t.renamed; removed = t.removed }

abbrev pub one_kept : Progress → ℕ → Progress
one_kept t pos = record { pos = pos; used = t.used; kept = t.kept + 1; replaced = t.replaced; renamed = t.renamed; removed = t.removed }

abbrev pub one_replaced : Progress → ℕ → Progress
one_replaced t pos = record { pos = pos; used = t.used; kept = t.kept; replaced = t.replaced + 1; renamed = t.renamed; removed = t.removed }

abbrev pub one_renamed : Progress → ℕ → ℕ → Progress
one_renamed t pos used = record { pos = pos; used = used; kept = t.kept; replaced = t.replaced; renamed = t.renamed + 1; removed = t.removed }

abbrev pub one_removed : Progress → Progress
one_removed t = record { pos = t.pos; used = t.used; kept = t.kept; replaced = t.replaced; renamed = t.renamed; removed = t.removed + 1 }
