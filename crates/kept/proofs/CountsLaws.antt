-- Laws of `specs/Counts.antt`. No contract cites this file. Assumes nothing.
--     counts_of-total           the counts sum to the number of elements met
--     counts_in c s level       the kept, replaced and renamed elements of kept content
--     Alike a b                 the counts a and b differ in removals at most
--     counts_of-kept            kept content tells the three counts
--     counts_of-alike           so equal kept contents have them alike (K9)
--     counts_in-map, counts_in-numbered    they hang on no name
--     counts_of-numbered        so do equal contents once names are numbers
use mathlib.Core.Path.{◌≡◌, refl, ap, ap₂, sym, ◌∙◌}
use mathlib.Core.Bool.{Bool, true, false}
use mathlib.Core.List.{List}
use Prim.Native.Nat.{ℕ, ◌+◌}
use native.Mathlib.Omega.{arith}
use Rattle.basis.specs.Choice.{pick}
use Rattle.basis.proofs.ChoiceLaws.{pick-map}
use Rattle.layout.specs.Tree.{Field, value, items, Elements, nil, elem, Items, none as no_item, item}
use Rattle.ledger.specs.FirstMet.{learns}
use Rattle.treatment.specs.Settings.{Settings}
use Rattle.treatment.specs.Fates.{fate, walks_into, below}
use Rattle.treatment.specs.declared.Level.{Level}
use Rattle.treatment.specs.declared.Fate.{Fate}
use Rattle.treatment.specs.declared.Fate.TheVariants.{Removed, Kept, Walked, Emptied, Dummied, Renamed, Shifted, Wrong}
use Rattle.kept.specs.Content.{Body, shown, blank, uids, walk, Content, end, keep, Walks, last, each, map_body, map_content, map_walks, uids_in_body, uids_in}
use Rattle.kept.specs.Kept.{Uid, kept_value, kept_sequence, entry, kept_field, kept_of, kept_items}
use Rattle.kept.specs.Numbering.{numbered_body, numbered, numbered_walks}
use Rattle.kept.specs.Counts.{Counts, nothing, plus, one, inside, counts_field, counts_of, counts_items, total, field_met, elements_met, items_met}

-- ---- the four together

one-total : (φ : Fate) → total (one φ) ≡ 1
one-total Removed = refl
one-total Kept = refl
one-total Walked = refl
one-total Emptied = refl
one-total Dummied = refl
one-total Renamed = refl
one-total Shifted = refl
one-total Wrong = refl

inside-total : (c : Counts) (φ : Fate) → total (inside c φ) ≡ pick (walks_into φ) (total c) 0
inside-total c φ = pick-map total (walks_into φ) c nothing

plus-total : (a b : Counts) → total (plus a b) ≡ total a + total b
plus-total a b = omega arith

mutual
  unfolding counts_of elements_met

  counts_field-total : {L : Type 0} (f : Field L) (s : Settings) (level : Level) (φ : Fate) → total (counts_field f s level φ) ≡ field_met f s level φ
  counts_field-total (value v) s level φ = refl
  counts_field-total (items is) s level φ =
      inside-total (counts_items is s (below φ level)) φ ∙ ap (λ n. pick (walks_into φ) n 0) (counts_items-total is s (below φ level))

  pub counts_of-total : {L : Type 0} (es : Elements L) (s : Settings) (level : Level) → total (counts_of es s level) ≡ elements_met es s level
  counts_of-total nil s level = refl
  counts_of-total (elem l tag vr f es) s level =
      let φ : Fate = fate s level tag vr in
      plus-total (one φ) (plus (counts_field f s level φ) (counts_of es s level))
      ∙ ap₂ ◌+◌ (one-total φ)
      (plus-total (counts_field f s level φ) (counts_of es s level) ∙ ap₂ ◌+◌ (counts_field-total f s level φ) (counts_of-total es s level))

  counts_items-total : {L : Type 0} (is : Items L) (s : Settings) (level : Level) → total (counts_items is s level) ≡ items_met is s level
  counts_items-total no_item s level = refl
  counts_items-total (item es is) s level =
      plus-total (counts_of es s level) (counts_items is s level) ∙ ap₂ ◌+◌ (counts_of-total es s level) (counts_items-total is s level)

-- ---- the three that kept content tells

-- of what an element holds, its items being on the level given
unfoldable mutual
  pub counts_body : {X : Type 0} → Body X → Settings → Level → Counts
  counts_body (shown v) s level = nothing
  counts_body blank s level = nothing
  counts_body (uids us) s level = nothing
  counts_body (walk ws) s level = counts_walks ws s level

  pub counts_in : {X : Type 0} → Content X → Settings → Level → Counts
  counts_in end s level = nothing
  counts_in (keep tag vr b c) s level = plus (one (fate s level tag vr)) (plus (counts_body b s (below (fate s level tag vr) level)) (counts_in c s level))

  pub counts_walks : {X : Type 0} → Walks X → Settings → Level → Counts
  counts_walks last s level = nothing
  counts_walks (each c ws) s level = plus (counts_in c s level) (counts_walks ws s level)

abbrev pub Alike : Counts → Counts → Type 0
Alike a b = (a.stayed ≡ b.stayed) × (a.replaced ≡ b.replaced) × (a.renamings ≡ b.renamings)

alike-refl : (a : Counts) → Alike a a
alike-refl a = (refl, refl, refl)

alike-plus : (a b c d : Counts) → Alike a b → Alike c d → Alike (plus a c) (plus b d)
alike-plus a b c d e f = (ap₂ ◌+◌ e.0 f.0, ap₂ ◌+◌ e.1 f.1, ap₂ ◌+◌ e.2 f.2)

value-alike : (v : List ℕ) (s : Settings) (level : Level) (φ : Fate) → Alike nothing (counts_body (kept_value v φ) s level)
unfolding counts_in
value-alike v s level Removed = alike-refl nothing
value-alike v s level Kept = alike-refl nothing
value-alike v s level Walked = alike-refl nothing
value-alike v s level Emptied = alike-refl nothing
value-alike v s level Dummied = alike-refl nothing
value-alike v s level Renamed = alike-refl nothing
value-alike v s level Shifted = alike-refl nothing
value-alike v s level Wrong = alike-refl nothing

sequence-alike : (a : Counts) (ws : Walks Uid) (s : Settings) (level : Level) (φ : Fate) → Alike a (counts_walks ws s level)
    → Alike (inside a φ) (counts_body (kept_sequence ws φ) s level)
unfolding counts_in
sequence-alike a ws s level φ h = step (walks_into φ)
  where
    step : (b : Bool) → Alike (pick b a nothing) (counts_body (pick b (walk ws) blank) s level)
    step true = h
    step false = alike-refl nothing

-- an entry more; one that is removed has counted nothing else
module _ (s : Settings) (level : Level) (tag vr : ℕ) (c : Content Uid) (y : Counts) (h : Alike y (counts_in c s level)) where
  keep-alike : (φ : Fate) → fate s level tag vr ≡ φ → (x : Counts) (b : Body Uid) → Alike x (counts_body b s (below φ level))
      → Alike (plus (one φ) (plus x y)) (counts_in (keep tag vr b c) s level)
  unfolding counts_in
  keep-alike φ e x b g =
      rw e (alike-plus (one φ) (one φ) (plus x y) (plus (counts_body b s (below φ level)) (counts_in c s level)) (alike-refl (one φ))
      (alike-plus x (counts_body b s (below φ level)) y (counts_in c s level) g h))

  entry-alike : (φ : Fate) → fate s level tag vr ≡ φ → (x : Counts) (b : Fate → Body Uid) → Alike x (counts_body (b φ) s (below φ level))
      → (φ ≡ Removed → Alike x nothing) → Alike (plus (one φ) (plus x y)) (counts_in (entry φ tag vr b c) s level)
  entry-alike Removed e x b g z = let n = z refl in (omega (arith, n.0, h.0), omega (arith, n.1, h.1), omega (arith, n.2, h.2))
  entry-alike Kept e x b g z = keep-alike Kept e x (b Kept) g
  entry-alike Walked e x b g z = keep-alike Walked e x (b Walked) g
  entry-alike Emptied e x b g z = keep-alike Emptied e x (b Emptied) g
  entry-alike Dummied e x b g z = keep-alike Dummied e x (b Dummied) g
  entry-alike Renamed e x b g z = keep-alike Renamed e x (b Renamed) g
  entry-alike Shifted e x b g z = keep-alike Shifted e x (b Shifted) g
  entry-alike Wrong e x b g z = keep-alike Wrong e x (b Wrong) g

field-removed : {L : Type 0} (f : Field L) (s : Settings) (level : Level) (φ : Fate) → φ ≡ Removed → Alike (counts_field f s level φ) nothing
unfolding counts_of
field-removed (value v) s level φ e = alike-refl nothing
field-removed (items is) s level φ e = rw e (alike-refl nothing)

mutual
  unfolding counts_of counts_in kept_of

  counts_field-kept : {L : Type 0} (f : Field L) (s : Settings) (level : Level) (φ : Fate)
      → Alike (counts_field f s level φ) (counts_body (kept_field f s level φ) s (below φ level))
  counts_field-kept (value v) s level φ = value-alike v s (below φ level) φ
  counts_field-kept (items is) s level φ =
      sequence-alike (counts_items is s (below φ level)) (kept_items is s (below φ level)) s (below φ level) φ (counts_items-kept is s (below φ level))

  pub counts_of-kept : {L : Type 0} (es : Elements L) (s : Settings) (level : Level) → Alike (counts_of es s level) (counts_in (kept_of es s level) s level)
  counts_of-kept nil s level = alike-refl nothing
  counts_of-kept (elem l tag vr f es) s level =
      entry-alike s level tag vr (kept_of es s level) (counts_of es s level) (counts_of-kept es s level) (fate s level tag vr) refl
      (counts_field f s level (fate s level tag vr)) (λ φ. kept_field f s level φ) (counts_field-kept f s level (fate s level tag vr))
      (field-removed f s level (fate s level tag vr))

  counts_items-kept : {L : Type 0} (is : Items L) (s : Settings) (level : Level) → Alike (counts_items is s level) (counts_walks (kept_items is s level) s level)
  counts_items-kept no_item s level = alike-refl nothing
  counts_items-kept (item es is) s level =
      alike-plus (counts_of es s level) (counts_in (kept_of es s level) s level) (counts_items is s level) (counts_walks (kept_items is s level) s level)
      (counts_of-kept es s level) (counts_items-kept is s level)

-- two whose contents count the same
alike-through : (a b c d : Counts) → Alike a c → Alike b d → c ≡ d → Alike a b
alike-through a b c d e f q = (
  e.0 ∙ ap (λ (x : Counts). x.stayed) q ∙ sym f.0,
  e.1 ∙ ap (λ (x : Counts). x.replaced) q ∙ sym f.1,
  e.2 ∙ ap (λ (x : Counts). x.renamings) q ∙ sym f.2,
)

-- K9
pub counts_of-alike : {L : Type 0} (es fs : Elements L) (s : Settings) (level : Level) → kept_of es s level ≡ kept_of fs s level
    → Alike (counts_of es s level) (counts_of fs s level)
counts_of-alike es fs s level e =
    alike-through (counts_of es s level) (counts_of fs s level) (counts_in (kept_of es s level) s level) (counts_in (kept_of fs s level) s level)
    (counts_of-kept es s level) (counts_of-kept fs s level) (ap (λ (c : Content Uid). counts_in c s level) e)

-- ---- the counts hang on no name

module _ {X Y : Type 0} (f : X → Y) where
  mutual
    unfolding counts_in map_content

    counts_body-map : (b : Body X) (s : Settings) (level : Level) → counts_body (map_body f b) s level ≡ counts_body b s level
    counts_body-map (shown v) s level = refl
    counts_body-map blank s level = refl
    counts_body-map (uids us) s level = refl
    counts_body-map (walk ws) s level = counts_walks-map ws s level

    pub counts_in-map : (c : Content X) (s : Settings) (level : Level) → counts_in (map_content f c) s level ≡ counts_in c s level
    counts_in-map end s level = refl
    counts_in-map (keep tag vr b c) s level =
        ap₂ (λ (x y : Counts). plus (one (fate s level tag vr)) (plus x y)) (counts_body-map b s (below (fate s level tag vr) level)) (counts_in-map c s level)

    counts_walks-map : (ws : Walks X) (s : Settings) (level : Level) → counts_walks (map_walks f ws) s level ≡ counts_walks ws s level
    counts_walks-map last s level = refl
    counts_walks-map (each c ws) s level = ap₂ plus (counts_in-map c s level) (counts_walks-map ws s level)

module _ {X : Type 0} (same : Discrete X) where
  mutual
    unfolding counts_in numbered

    counts_body-numbered : (b : Body X) (l : List X) (s : Settings) (level : Level) → counts_body (numbered_body same l b) s level ≡ counts_body b s level
    counts_body-numbered (shown v) l s level = refl
    counts_body-numbered blank l s level = refl
    counts_body-numbered (uids us) l s level = refl
    counts_body-numbered (walk ws) l s level = counts_walks-numbered ws l s level

    pub counts_in-numbered : (c : Content X) (l : List X) (s : Settings) (level : Level) → counts_in (numbered same l c) s level ≡ counts_in c s level
    counts_in-numbered end l s level = refl
    counts_in-numbered (keep tag vr b c) l s level =
        ap₂ (λ (x y : Counts). plus (one (fate s level tag vr)) (plus x y)) (counts_body-numbered b l s (below (fate s level tag vr) level))
        (counts_in-numbered c (learns same l (uids_in_body b)) s level)

    counts_walks-numbered : (ws : Walks X) (l : List X) (s : Settings) (level : Level) → counts_walks (numbered_walks same l ws) s level ≡ counts_walks ws s level
    counts_walks-numbered last l s level = refl
    counts_walks-numbered (each c ws) l s level = ap₂ plus (counts_in-numbered c l s level) (counts_walks-numbered ws (learns same l (uids_in c)) s level)

module _ (same : Discrete Uid) where
  -- what is written decides numbered content, and so the three counts
  pub counts_of-numbered : {L : Type 0} (es fs : Elements L) (l k : List Uid) (s : Settings) (level : Level)
      → numbered same l (kept_of es s level) ≡ numbered same k (kept_of fs s level) → Alike (counts_of es s level) (counts_of fs s level)
  counts_of-numbered es fs l k s level e =
      alike-through (counts_of es s level) (counts_of fs s level) (counts_in (kept_of es s level) s level) (counts_in (kept_of fs s level) s level)
      (counts_of-kept es s level) (counts_of-kept fs s level)
      (sym (counts_in-numbered same (kept_of es s level) l s level) ∙ ap (λ (c : Content ℕ). counts_in c s level) e
      ∙ counts_in-numbered same (kept_of fs s level) k s level)
