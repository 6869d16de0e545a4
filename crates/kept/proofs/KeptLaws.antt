-- Laws of `specs/Kept.antt`: the kept content of a data set that is accepted, once its names are numbers, fits what is written of it.
-- No contract cites this file. Assumes nothing.
--     Stays φ              an element with this fate appears
--     kept-numbered        for well-made elements without a value fault, and a ledger that ends with at most 1,024 names
--     written-kept         so what is written of two such data sets decides their kept contents, each name its number
use mathlib.Core.Path.{◌≡◌, refl, ap, sym}
use mathlib.Core.Logic.{⊎_elim}
use mathlib.Core.Bool.{Bool, true, false, false≢true}
use mathlib.Core.List.{List, ◌++◌}
use Rattle.std.specs.Prelude.{Option, None, Some}
use Rattle.std.proofs.lemmas.Option.{none-some}
use Prim.Native.Nat.{ℕ, zero, suc, ◌+◌, ◌-◌, ◌%◌, ◌≤◌, ◌<◌}
use native.Mathlib.Omega.{arith}
use lib.Dec.{eqb}
use lib.ListN.{length}
use Rattle.basis.specs.Choice.{pick, among, is_none}
use Rattle.refusals.specs.declared.Refusal.{Refusal}
use Rattle.refusals.specs.declared.Refusal.TheVariants.{BadUids, BadDates}
use Rattle.refusals.specs.declared.Fault.{Fault}
use Rattle.vr.specs.Names.{DA, SQ}
use Rattle.vr.specs.Vr.{all_vrs}
use Rattle.layout.specs.Tree.{Field, value, items, Elements, nil, elem, Items, none as no_item, item, Place}
use Rattle.layout.specs.Heads.{allowed}
use Rattle.layout.specs.Made.{lengths_below, Made, MadeField, MadeItems}
use Rattle.uid.specs.Uid.{is_root}
use Rattle.uid.specs.Value.{most_uids, uids_fault}
use Rattle.uid.proofs.ValueLaws.{uids_of-found, uids_of-are}
use Rattle.ledger.specs.FirstMet.{learns}
use Rattle.ledger.specs.Slots.{most_slots}
use Rattle.ledger.proofs.FirstMetLaws.{learns-append, learns-length, numbers-length, numbers-le}
use Rattle.calendar.specs.Values.{shifted_value}
use Rattle.treatment.specs.Settings.{Settings}
use Rattle.treatment.specs.Fates.{fate, below}
use Rattle.treatment.specs.declared.Level.{Level}
use Rattle.treatment.specs.declared.Level.TheVariants.{Top}
use Rattle.treatment.specs.declared.Fate.{Fate}
use Rattle.treatment.specs.declared.Fate.TheVariants.{Removed, Kept, Walked, Emptied, Dummied, Renamed, Shifted, Wrong}
use Rattle.kept.specs.Content.{Body, Content, keep, Walks, uids_in_body, uids_in, uids_in_walks}
use Rattle.kept.specs.Kept.{Uid, or_none, held_uids, kept_value, kept_sequence, entry, kept_field, kept_of, kept_items}
use Rattle.kept.specs.Numbering.{numbered_body, numbered, numbered_walks}
use Rattle.kept.specs.Written.{written}
use Rattle.kept.specs.Faults.{value_fault, at as fault_at, first, sequence_fault, field_fault, first_fault, items_fault}
use Rattle.treatment.proofs.FatesLaws.{fate-walked, fate-renamed, fate-shifted, fate-kept, fate-wrong}
use Rattle.kept.proofs.FillersLaws.{lengths_below-known, lengths_below-other}
use Rattle.kept.proofs.WrittenLaws.{NumberedBody, Numbered, NumberedWalks, numbered-lower, written-inj}

-- ---- what no fault says

pub first-none : (x y : Option Fault) → first x y ≡ None → (x ≡ None) × (y ≡ None)
first-none None y e = (refl, e)
first-none (Some x) y e = absurd (none-some x (sym e))

pub at-none : (r : Option Refusal) (offset : ℕ) → fault_at r offset ≡ None → r ≡ None
at-none None offset e = refl
at-none (Some r) offset e = absurd (none-some _ (sym e))

pub unpicked : (b : Bool) (r : Refusal) → pick b (Some r) None ≡ None → b ≡ false
unpicked true r e = absurd (none-some r (sym e))
unpicked false r e = refl

renamed-few : (s : Settings) (vr : ℕ) (v : List ℕ) → value_fault s Renamed vr v ≡ None → length (held_uids v) ≤ most_uids
renamed-few s vr v e =
    let r = uids_of-found v (unpicked (uids_fault v) BadUids e) in
    let q : held_uids v ≡ r.0 = ap or_none r.1 in
    rw q (uids_of-are v r.0 r.1).few

not-refused : (o : Option (List ℕ)) → is_none o ≡ false → (x : List ℕ) × (o ≡ Some x)
not-refused None e = absurd (false≢true (sym e))
not-refused (Some x) e = (x, refl)

shifted-good : (s : Settings) (vr : ℕ) (v : List ℕ) → value_fault s Shifted vr v ≡ None → (x : List ℕ) × (shifted_value (eqb vr DA) s.shift v ≡ Some x)
shifted-good s vr v e =
    not-refused (shifted_value (eqb vr DA) s.shift v) (unpicked (is_none (shifted_value (eqb vr DA) s.shift v)) BadDates e)

-- ---- entries

abbrev pub Stays : Fate → Type 0
Stays Removed = ⊥
Stays Kept = Unit {0}
Stays Walked = Unit {0}
Stays Emptied = Unit {0}
Stays Dummied = Unit {0}
Stays Renamed = Unit {0}
Stays Shifted = Unit {0}
Stays Wrong = Unit {0}

sq-known : among SQ all_vrs ≡ true
unfolding among
sq-known = refl

module _ (same : Discrete Uid) where
  -- the ledger has room for these names, met after l
  abbrev Room : List Uid → List Uid → Type 0
  Room l us = length (learns same l us) ≤ most_slots

  room-parts : (l us ws : List Uid) → Room l (us ++ ws) → Room l us × Room (learns same l us) ws
  room-parts l us ws h =
      let r : Room (learns same l us) ws = rw (learns-append same l us ws) at h in
      (omega (arith, r, learns-length same (learns same l us) ws), r)

  module _ (s : Settings) (level : Level) (depth tag vr : ℕ) (l : List Uid) where
    value-fits : (v : List ℕ) (φ : Fate) → fate s level tag vr ≡ φ → Stays φ → length v % 2 ≡ 0 → length v < lengths_below vr → value_fault s φ vr v ≡ None
        → Room l (uids_in_body (kept_value v φ)) → NumberedBody (numbered_body same l (kept_value v φ)) s level depth tag vr
    unfolding Numbered numbered uids_in
    value-fits v Removed e p even fits ok r = absurd p
    value-fits v Kept e p even fits ok r = (rw e tt, even, fits)
    value-fits v Walked e p even fits ok r = absurd (lengths_below-other vr (length v) fits (fate-walked s level tag vr e))
    value-fits v Emptied e p even fits ok r = (rw e tt, lengths_below-known vr (length v) fits)
    value-fits v Dummied e p even fits ok r = (rw e tt, lengths_below-known vr (length v) fits)
    value-fits v Renamed e p even fits ok r =
        (e, omega (arith, numbers-length same l (held_uids v), renamed-few s vr v ok), λ n m. omega (arith, r, numbers-le same l (held_uids v) n m))
    value-fits v Shifted e p even fits ok r = (rw e (shifted-good s vr v ok), even, fits)
    value-fits v Wrong e p even fits ok r = absurd (none-some BadUids (sym ok))

    sequence-fits : (ws : Walks Uid) (x : Option Fault) (φ : Fate) → fate s level tag vr ≡ φ → Stays φ → vr ≡ SQ
        → sequence_fault x φ ≡ None → (x ≡ None → Room l (uids_in_walks ws) → NumberedWalks (numbered_walks same l ws) s (below φ level) depth)
        → Room l (uids_in_body (kept_sequence ws φ)) → NumberedBody (numbered_body same l (kept_sequence ws φ)) s level depth tag vr
    unfolding Numbered numbered uids_in
    sequence-fits ws x Removed e p q ok inside r = absurd p
    sequence-fits ws x Kept e p q ok inside r = absurd (fate-kept s level tag vr e q)
    sequence-fits ws x Walked e p q ok inside r = (e, rw e (inside ok r))
    sequence-fits ws x Emptied e p q ok inside r = (rw e tt, rw q sq-known)
    sequence-fits ws x Dummied e p q ok inside r = (rw e tt, rw q sq-known)
    sequence-fits ws x Renamed e p q ok inside r = absurd (omega (arith, fate-renamed s level tag vr e))
    sequence-fits ws x Shifted e p q ok inside r = absurd (⊎_elim (λ a. omega arith) (λ a. omega arith) (fate-shifted s level tag vr e))
    sequence-fits ws x Wrong e p q ok inside r = absurd ((fate-wrong s level tag vr e).1 q)

  module _ (s : Settings) (level : Level) (depth low tag vr : ℕ) (l : List Uid) (h : low ≤ tag) (may : allowed tag ≡ true) (c : Content Uid)
      (next : (k : List Uid) → Room k (uids_in c) → Numbered (numbered same k c) s level depth (tag + 1)) where
    keep-fits : (b : Body Uid) → (Room l (uids_in_body b) → NumberedBody (numbered_body same l b) s level depth tag vr)
        → Room l (uids_in (keep tag vr b c)) → Numbered (numbered same l (keep tag vr b c)) s level depth low
    unfolding Numbered numbered uids_in
    keep-fits b body r = let p = room-parts l (uids_in_body b) (uids_in c) r in (h, may, body p.0, next (learns same l (uids_in_body b)) p.1)

    entry-fits : (φ : Fate) (b : Fate → Body Uid) → (Stays φ → Room l (uids_in_body (b φ)) → NumberedBody (numbered_body same l (b φ)) s level depth tag vr)
        → Room l (uids_in (entry φ tag vr b c)) → Numbered (numbered same l (entry φ tag vr b c)) s level depth low
    entry-fits Removed b body r = numbered-lower (numbered same l c) s level depth (tag + 1) low (omega arith) (next l r)
    entry-fits Kept b body r = keep-fits (b Kept) (body tt) r
    entry-fits Walked b body r = keep-fits (b Walked) (body tt) r
    entry-fits Emptied b body r = keep-fits (b Emptied) (body tt) r
    entry-fits Dummied b body r = keep-fits (b Dummied) (body tt) r
    entry-fits Renamed b body r = keep-fits (b Renamed) (body tt) r
    entry-fits Shifted b body r = keep-fits (b Shifted) (body tt) r
    entry-fits Wrong b body r = keep-fits (b Wrong) (body tt) r

  -- ---- kept_of

  mutual
    unfolding Numbered numbered uids_in kept_of Made first_fault

    field-numbered : (f : Field Place) (s : Settings) (level : Level) (depth tag vr offset : ℕ) (l : List Uid) → Stays (fate s level tag vr)
        → MadeField depth vr f → field_fault f s level (fate s level tag vr) vr offset ≡ None
        → Room l (uids_in_body (kept_field f s level (fate s level tag vr)))
        → NumberedBody (numbered_body same l (kept_field f s level (fate s level tag vr))) s level depth tag vr
    field-numbered (value v) s level depth tag vr offset l p m ok r =
        value-fits s level depth tag vr l v (fate s level tag vr) refl p m.0 m.1 (at-none (value_fault s (fate s level tag vr) vr v) offset ok) r
    field-numbered (items is) s level depth tag vr offset l p m ok r =
        sequence-fits s level depth tag vr l (kept_items is s (below (fate s level tag vr) level)) (items_fault is s (below (fate s level tag vr) level))
        (fate s level tag vr) refl p m.0 ok (λ fine q. items-numbered is s (below (fate s level tag vr) level) depth l m.1 fine q) r

    pub kept-numbered : (es : Elements Place) (s : Settings) (level : Level) (depth low : ℕ) (l : List Uid) → Made depth low es
        → first_fault es s level ≡ None → length (learns same l (uids_in (kept_of es s level))) ≤ most_slots
        → Numbered (numbered same l (kept_of es s level)) s level depth low
    kept-numbered nil s level depth low l m ok r = tt
    kept-numbered (elem p tag vr f es) s level depth low l m ok r =
        let o = first-none (field_fault f s level (fate s level tag vr) vr p.at) (first_fault es s level) ok in
        entry-fits s level depth low tag vr l m.0 m.1 (kept_of es s level)
        (λ k q. kept-numbered es s level depth (tag + 1) k m.3 o.1 q) (fate s level tag vr) (λ φ. kept_field f s level φ)
        (λ stays q. field-numbered f s level depth tag vr p.at l stays m.2 o.0 q) r

    items-numbered : (is : Items Place) (s : Settings) (level : Level) (depth : ℕ) (l : List Uid) → MadeItems depth is → items_fault is s level ≡ None
        → Room l (uids_in_walks (kept_items is s level)) → NumberedWalks (numbered_walks same l (kept_items is s level)) s level depth
    items-numbered no_item s level depth l m ok r = tt
    items-numbered (item es is) s level depth l m ok r =
        let o = first-none (first_fault es s level) (items_fault is s level) ok in
        let q = room-parts l (uids_in (kept_of es s level)) (uids_in_walks (kept_items is s level)) r in (
          m.0,
          kept-numbered es s level (depth - 1) 0 l m.1 o.0 q.0,
          items-numbered is s level depth (learns same l (uids_in (kept_of es s level))) m.2 o.1 q.1,
        )

  -- ---- what is written

  -- THEOREM: what is written of two data sets that are accepted decides their kept contents, each name its number
  pub written-kept : (es fs : Elements Place) (s : Settings) (depth : ℕ) (l k : List Uid) → is_root s.root ≡ true → Made depth 0 es → Made depth 0 fs
      → first_fault es s Top ≡ None → first_fault fs s Top ≡ None
      → length (learns same l (uids_in (kept_of es s Top))) ≤ most_slots → length (learns same k (uids_in (kept_of fs s Top))) ≤ most_slots
      → written s (numbered same l (kept_of es s Top)) ≡ written s (numbered same k (kept_of fs s Top))
      → numbered same l (kept_of es s Top) ≡ numbered same k (kept_of fs s Top)
  written-kept es fs s depth l k good m n ok fine r q e =
      written-inj s good depth (numbered same l (kept_of es s Top)) (numbered same k (kept_of fs s Top))
      (kept-numbered es s Top depth 0 l m ok r) (kept-numbered fs s Top depth 0 k n fine q) e
