-- What a run is handed, and what follows from it where the data set has its shape: document 01, "What the station takes and hands
-- back". Assumes nothing.
--     Input            the data set in its encoding, the settings, the ledger with its count in use, and how long the output buffer is
--     read_as i        the tree of the data set, or its first fault of shape
--     tree_of i        that tree; none where there is a fault
--     content i        its kept content
--     in_use i         the slots of the ledger that are in use
--     slots_after i    the slots in use after the run: those, and one for each UID that is met first
--     bytes_for i      what is written, were there room for it
use Rattle.std.specs.Prelude.{List, map, ℕ}
use Rattle.layout.specs.Limits.{deepest}
use Rattle.layout.specs.Source.{Source}
use Rattle.layout.specs.Tree.{Elements, nil, Place}
use Rattle.layout.specs.Read.{Result, good, fault, read}
use Rattle.ledger.specs.FirstMet.{learns, same_uid}
use Rattle.ledger.specs.Slots.{slot_of, slots_in}
use Rattle.treatment.specs.Settings.{Settings}
use Rattle.treatment.specs.declared.Level.TheVariants.{Top}
use Rattle.kept.specs.Content.{Content, map_content, uids_in}
use Rattle.kept.specs.Kept.{Uid, kept_of}
use Rattle.kept.specs.Numbering.{numbered}
use Rattle.kept.specs.Written.{written}

pub record Input : Type 0 where
  pub lent : Source
  pub settings : Settings
  pub ledger : List ℕ
  pub used : ℕ
  pub room : ℕ

unfoldable pub read_as : Input → Result (Elements Place)
read_as i = read deepest i.lent

abbrev pub tree_in : Result (Elements Place) → Elements Place
tree_in (good es past) = es
tree_in (fault n offset) = nil

unfoldable pub tree_of : Input → Elements Place
tree_of i = tree_in (read_as i)

unfoldable pub content : Input → Content Uid
content i = kept_of (tree_of i) i.settings Top

-- UIDs are compared as slots of 64 bytes, so that what stands in the ledger needs no rule (U6)
abbrev pub in_use : Input → List (List ℕ)
in_use i = slots_in i.ledger i.used

unfoldable pub slots_after : Input → List (List ℕ)
slots_after i = learns same_uid (in_use i) (map slot_of (uids_in (content i)))

unfoldable pub bytes_for : Input → List ℕ
bytes_for i = written i.settings (numbered same_uid (in_use i) (map_content slot_of (content i)))
