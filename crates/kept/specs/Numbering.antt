-- Numbers for the names of kept content, in output order: document 01, "UIDs, dates, lists", 5th to 7th sentence. `known` are the
-- names that have a number already; `same` tells whether two names are one. Laws: `proofs/NumberingLaws.antt`. Assumes nothing.
--     numbered same known c        the content c, each name its number
--     numbered_all same known cs   the contents of a batch, the names handed on from data set to data set
use Rattle.std.specs.Prelude.{List, [], ◌∷◌, ℕ}
use Rattle.ledger.specs.FirstMet.{learns, numbers}
use Rattle.kept.specs.Content.{Body, shown, blank, uids, walk, Content, end, keep, Walks, last, each, uids_in_body, uids_in}

module _ {X : Type 0} (same : Discrete X) where
  unfoldable mutual
    pub numbered_body : List X → Body X → Body ℕ
    numbered_body known (shown v) = shown v
    numbered_body known blank = blank
    numbered_body known (uids us) = uids (numbers same known us)
    numbered_body known (walk ws) = walk (numbered_walks known ws)

    pub numbered : List X → Content X → Content ℕ
    numbered known end = end
    numbered known (keep tag vr b c) = keep tag vr (numbered_body known b) (numbered (learns same known (uids_in_body b)) c)

    pub numbered_walks : List X → Walks X → Walks ℕ
    numbered_walks known last = last
    numbered_walks known (each c ws) = each (numbered known c) (numbered_walks (learns same known (uids_in c)) ws)

  unfoldable pub numbered_all : List X → List (Content X) → List (Content ℕ)
  numbered_all known [] = []
  numbered_all known (c ∷ cs) = numbered known c ∷ numbered_all (learns same known (uids_in c)) cs
