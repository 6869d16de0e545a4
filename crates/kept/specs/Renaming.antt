-- Two batches that are one but for their UIDs: demand 3, "up to one one-to-one renaming of their replaced UIDs that holds for the whole
-- batch"; document 01, "UIDs, dates, lists", and "Kept content and the four counts". The UIDs of kept content are the replaced ones.
-- Laws: `proofs/NumberingLaws.antt`. Assumes nothing.
--     OneRenaming cs ds     one renaming takes each content of the batch cs to the content of ds in its place
use Rattle.std.specs.Prelude.{◌≡◌}
use mathlib.Core.List.{List, Memᴰ}
use Rattle.kept.specs.Content.{Content, map_all, uids_in_all}
use Rattle.kept.specs.Kept.{Uid}

pub record OneRenaming (cs ds : List (Content Uid)) : Type 0 where
  -- the same for all data sets of the batch
  pub rename : Uid → Uid
  -- two UIDs of the batch that are renamed alike are one
  pub one_to_one : (x y : Uid) → Memᴰ x (uids_in_all cs) → Memᴰ y (uids_in_all cs) → rename x ≡ rename y → x ≡ y
  -- tags, VRs, values, nesting and order are the same
  pub renamed : map_all rename cs ≡ ds
