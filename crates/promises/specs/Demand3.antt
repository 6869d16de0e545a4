-- The customer's third demand. Two batches of equally many data sets, all accepted, are run in order with the same settings, each from a
-- ledger with no entries. The outputs are equal byte for byte exactly when the batches hold the same kept content up to one one-to-one
-- renaming of the replaced UIDs that holds for the whole batch. Proof: `proofs/Demand3Proof.antt`. Assumes nothing.
--     content_of s x           the kept content of the data set x under the settings s
--     started s l n room x     what a run is handed: the data set x, the settings, the ledger l with n entries in use, and room for the output
--     exported i               what the run leaves: as many bytes of the output as it reports
--     Ran s l n xs outs        the data sets xs were run in order, from the ledger l with n entries in use; each was accepted and was handed
--                              the ledger and the count that the one before it left; outs is what they left
--     Demand3                  the demand
use Rattle.std.specs.Prelude.{◌≡◌, ◌↔◌, List, [], ◌∷◌, map, ℕ, length, take}
use Rattle.basis.specs.Bytes.{AllBytes}
use Rattle.layout.specs.Limits.{deepest}
use Rattle.layout.specs.Source.{Source}
use Rattle.layout.specs.Read.{read}
use Rattle.treatment.specs.Settings.{Settings}
use Rattle.treatment.specs.declared.Level.TheVariants.{Top}
use Rattle.kept.specs.Content.{Content}
use Rattle.kept.specs.Kept.{Uid, kept_of}
use Rattle.kept.specs.Renaming.{OneRenaming}
use Rattle.outcome.specs.Input.{Input, tree_in}
use Rattle.outcome.specs.Outcome.{done, outcome_of, report_of, output_of, ledger_of}

unfoldable pub content_of : Settings → Source → Content Uid
content_of s x = kept_of (tree_in (read deepest x)) s Top

abbrev pub started : Settings → List ℕ → ℕ → ℕ → Source → Input
started s l n room x = record { lent = x; settings = s; ledger = l; used = n; room = room }

abbrev pub exported : Input → List ℕ
exported i = take (report_of i).written (output_of i)

-- "accepted" is `outcome`'s own word; the data sets are bytes, each in its encoding; each run may have its own room
pub data Ran (s : Settings) : List ℕ → ℕ → List Source → List (List ℕ) → Type 0 where
  none : {l : List ℕ} {n : ℕ} → Ran s l n [] []
  next : {l : List ℕ} {n : ℕ} {x : Source} {xs : List Source} {outs : List (List ℕ)} (room : ℕ) → AllBytes x.bytes → outcome_of (started s l n room x) ≡ done
      → Ran s (ledger_of (started s l n room x)) (report_of (started s l n room x)).used xs outs
      → Ran s l n (x ∷ xs) (exported (started s l n room x) ∷ outs)

abbrev pub Demand3 : Type 0
Demand3 =
    (s : Settings) (l k : List ℕ) (xs ys : List Source) (outs ends : List (List ℕ)) → length xs ≡ length ys → Ran s l 0 xs outs → Ran s k 0 ys ends
    → (outs ≡ ends) ↔ OneRenaming (map (content_of s) xs) (map (content_of s) ys)
