-- One element of the output, in bytes: document 01, "What each action writes", and Layout, 1st point. Contracts cite this file.
-- Laws: `proofs/ElementLaws.antt`, `proofs/FillerLaws.antt`. Assumes nothing.
--     element_bytes tag vr f    the bytes of the element with that tag, VR and field: its header and what follows
--     with_lists study site     settings of which only the two lists are of use: what stands in the place of a replaced value hangs
--                               on nothing else (`emptied-any`, `dummied-any`)
use Rattle.std.specs.Prelude.{List, [], ℕ, pos}
use Rattle.layout.specs.Tree.{Field}
use Rattle.layout.specs.Write.{put_field}
use Rattle.treatment.specs.Settings.{Settings}

abbrev pub element_bytes : ℕ → ℕ → Field (Unit {0}) → List ℕ
element_bytes tag vr f = put_field tag vr f []

abbrev pub with_lists : List ℕ → List ℕ → Settings
with_lists study site = record { options = 0; shift = pos 0; root = []; study = study; site = site }
