-- What the relation of `specs/Treated.antt` says of a level whose first element is known: which constructors it can come from. Laws go by
-- recursion on the data set that came in, and take the relation apart by these. No contract cites this file. Assumes nothing.
--     treated-nil, treated-elem     of a level without elements; of one with a first element
--     items-none, items-item        of a sequence without items; of one with a first item
use mathlib.Core.Path.{◌≡◌, refl}
use mathlib.Core.List.{List, [], ◌++◌}
use Prim.Native.Nat.{ℕ}
use Rattle.vr.specs.Names.{SQ}
use Rattle.layout.specs.Tree.{Field, items, nil, elem, Items, none as no_item, item, Data}
use Rattle.table.specs.Action.{action_of}
use Rattle.table.specs.declared.Action.TheVariants.{Remove}
use Rattle.treatment.specs.Settings.{Settings}
use Rattle.treatment.specs.Fates.{is_top, below}
use Rattle.treatment.specs.declared.Level.{Level}
use Rattle.treatment.specs.declared.Fate.TheVariants.{Walked}
use Rattle.kept.specs.Counts.{Counts, nothing, plus}
use Rattle.promises.specs.Treated.{WalkedInto, one_kept, one_removed, Becomes, Treated, end, gone, walked, stays, TreatedItems, last, each}

module _ (s : Settings) (number_for : List ℕ → ℕ) where
  pub treated-nil : (P : Data → Counts → List (List ℕ) → Type 0) {level : Level} {ds : Data} {c : Counts} {us : List (List ℕ)} → P nil nothing []
      → Treated s number_for level nil ds c us → P ds c us
  treated-nil P p end = p

  pub treated-elem : (P : Data → Counts → List (List ℕ) → Type 0) {level : Level} {l : Unit {0}} {tag vr : ℕ} {f : Field (Unit {0})} {es ds : Data} {c : Counts} {us : List (List ℕ)}
      → ((d : Data) (b : Counts) (ws : List (List ℕ)) → action_of s.options (is_top level) tag ≡ Remove → Treated s number_for level es d b ws → P d (plus one_removed b) ws)
      → ((is os : Items (Unit {0})) (d : Data) (a b : Counts) (vs ws : List (List ℕ)) → f ≡ items is → WalkedInto (action_of s.options (is_top level) tag) → vr ≡ SQ
      → TreatedItems s number_for (below Walked level) is os a vs → Treated s number_for level es d b ws → P (elem tt tag vr (items os) d) (plus one_kept (plus a b)) (vs ++ ws))
      → ((g : Field (Unit {0})) (d : Data) (a b : Counts) (vs ws : List (List ℕ)) → Becomes s number_for level tag vr f g a vs → Treated s number_for level es d b ws
      → P (elem tt tag vr g d) (plus a b) (vs ++ ws))
      → Treated s number_for level (elem l tag vr f es) ds c us → P ds c us
  treated-elem P x y z (gone {ds = d} {c = b} {us = ws} a t) = x d b ws a t
  treated-elem P x y z (walked {is = is} {os = os} {ds = d} {b = a} {c = b} {us = vs} {ws = ws} w q i t) = y is os d a b vs ws refl w q i t
  treated-elem P x y z (stays {g = g} {ds = d} {b = a} {c = b} {us = vs} {ws = ws} k t) = z g d a b vs ws k t

  pub items-none : (P : Items (Unit {0}) → Counts → List (List ℕ) → Type 0) {level : Level} {os : Items (Unit {0})} {c : Counts} {us : List (List ℕ)} → P no_item nothing []
      → TreatedItems s number_for level no_item os c us → P os c us
  items-none P p last = p

  pub items-item : (P : Items (Unit {0}) → Counts → List (List ℕ) → Type 0) {level : Level} {es : Data} {is os : Items (Unit {0})} {c : Counts} {us : List (List ℕ)}
      → ((d : Data) (js : Items (Unit {0})) (a b : Counts) (vs ws : List (List ℕ)) → Treated s number_for level es d a vs → TreatedItems s number_for level is js b ws
      → P (item d js) (plus a b) (vs ++ ws))
      → TreatedItems s number_for level (item es is) os c us → P os c us
  items-item P x (each {ds = d} {os = js} {b = a} {c = b} {us = vs} {ws = ws} t i) = x d js a b vs ws t i
