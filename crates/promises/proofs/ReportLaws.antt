-- Two reports with the same numbers are one. No contract cites this file. Assumes nothing.
use mathlib.Core.Path.{◌≡◌}
use Prim.Native.Nat.{ℕ}
use Rattle.kept.specs.Counts.{Counts}
use Rattle.outcome.specs.Outcome.{Report}

abbrev reports : ℕ → ℕ → ℕ → ℕ → Counts → Report
reports n o m u c = record { refusal = n; offset = o; written = m; used = u; counts = c }

reports-eq : (n o m u : ℕ) (c : Counts) (n' o' m' u' : ℕ) (c' : Counts) → n ≡ n' → o ≡ o' → m ≡ m' → u ≡ u' → c ≡ c' → reports n o m u c ≡ reports n' o' m' u' c'
reports-eq n o m u c n' o' m' u' c' a b d e f = cc

pub report-eq : (r q : Report) → r.refusal ≡ q.refusal → r.offset ≡ q.offset → r.written ≡ q.written → r.used ≡ q.used → r.counts ≡ q.counts → r ≡ q
report-eq r q a b c d e = reports-eq _ _ _ _ _ _ _ _ _ _ a b c d e
