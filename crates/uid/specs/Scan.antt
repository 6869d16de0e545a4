-- What the scans of a value find at a place; each is short for words of the other files, and none adds a rule. Inner contracts cite
-- this file, no promise does. Laws: `proofs/ScanLaws.antt`, `proofs/LeadLaws.antt`. Assumes nothing.
--     uid_span v            the length of the first piece of v where it is made of components; 0 where it is not
--     lead v                how many bytes at the front of v are a component; 0 where none are
--     digits v              how many digits v begins with
use Rattle.std.specs.Prelude.{List, [], ◌∷◌, ℕ, suc, eqb, length}
use Rattle.basis.specs.Choice.{pick, fork}
use Rattle.basis.specs.Text.{digit0, is_digit}
use Rattle.basis.specs.Pieces.{first_piece}
use Rattle.uid.specs.Uid.{formed}

unfoldable pub uid_span : List ℕ → ℕ
uid_span v = pick (formed (first_piece v)) (length (first_piece v)) 0

unfoldable pub digits : List ℕ → ℕ
digits [] = 0
digits (x ∷ v) = fork (is_digit x) (λ _. suc (digits v)) (λ _. 0)

unfoldable pub lead : List ℕ → ℕ
lead [] = 0
lead (x ∷ v) = pick (eqb x digit0) 1 (digits (x ∷ v))
