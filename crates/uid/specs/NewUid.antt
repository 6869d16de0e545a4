-- New UIDs: document 01, "UIDs, dates, lists", 6th sentence. Laws: `proofs/NewUidLaws.antt`. Assumes nothing.
--     decimal n            the number n in decimal, highest digit first, in the fewest digits
--     new_uid root n       the UID that the number n stands for
--     uids_text root ns    the value that holds the new UIDs of the numbers ns
--     digits_in k n        n in decimal, for n below k
use Rattle.std.specs.Prelude.{List, [], ◌∷◌, ◌++◌, map, ℕ, zero, suc, ◌+◌, ◌/◌, ◌%◌, ltb}
use Rattle.basis.specs.Choice.{fork}
use Rattle.basis.specs.Text.{digit0}
use Rattle.uid.specs.Uid.{dot}
use Rattle.uid.specs.Value.{value_of}

unfoldable pub digits_in : ℕ → ℕ → List ℕ
digits_in zero n = []
digits_in (suc k) n = fork (ltb n 10) (λ _. (digit0 + n) ∷ []) (λ _. digits_in k (n / 10) ++ (digit0 + n % 10) ∷ [])

unfoldable pub decimal : ℕ → List ℕ
decimal n = digits_in (suc n) n

-- Document 01, UIDs, 6th sentence: the root, a dot and the number in decimal
unfoldable pub new_uid : List ℕ → ℕ → List ℕ
new_uid root n = root ++ dot ∷ decimal n

abbrev pub uids_text : List ℕ → List ℕ → List ℕ
uids_text root ns = value_of (map (new_uid root) ns)
