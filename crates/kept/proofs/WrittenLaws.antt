-- Laws of `specs/Written.antt`: what is written of kept content decides it. No contract cites this file. Assumes nothing.
--     ShownAt s φ vr v, BlankAt φ     a value may be shown, or nothing, of an element with the fate φ
--     Numbered c s level depth low    numbered content fits its level: each entry's body fits its fate, its values and numbers fit the VR, tags are
--                                     allowed and rise from low on, and items nest at most depth deep
--     numbered-lower                  what rises from a tag on rises from every lower one
--     written_of-made                 what is written of it is well-made, one deeper than it nests (a D sequence holds an empty item)
--     written_of-inj                  and decides it
--     export-made, export-inj, written-inj    the same of the data set that is written, and of its bytes
--     written-reads                   and the bytes read back as that data set
use mathlib.Core.Path.{◌≡◌, refl, ap, ap₂, sym, ◌∙◌}
use mathlib.Core.Bool.{true}
use mathlib.Core.List.{List, map, Memᴰ}
use Rattle.std.specs.Prelude.{Some}
use Prim.Native.Nat.{ℕ, ◌+◌, ◌-◌, ◌%◌, ◌≤◌, ◌<◌, ◌^◌}
use native.Mathlib.Omega.{arith}
use lib.Dec.{eqb}
use lib.ListN.{length}
use Rattle.basis.specs.Choice.{among}
use Rattle.vr.specs.Names.{DA, UI}
use Rattle.vr.specs.Vr.{all_vrs}
use Rattle.table.specs.Rules.{reserved}
use Rattle.layout.specs.Source.{explicitly}
use Rattle.layout.specs.Tree.{value, bare}
use Rattle.layout.specs.Heads.{allowed}
use Rattle.layout.specs.Made.{lengths_below, Made, MadeField, MadeItems}
use Rattle.layout.specs.Read.{good as read-well, with, read}
use Rattle.layout.specs.Write.{bytes_of}
use Rattle.layout.proofs.RoundLaws.{bytes_of-inj, read-bytes_of, bare-bare}
use Rattle.uid.specs.Uid.{is_root, longest_root}
use Rattle.uid.specs.Value.{most_uids}
use Rattle.uid.specs.NewUid.{new_uid, uids_text}
use Rattle.uid.proofs.UidLaws.{uid_upto-is}
use Rattle.uid.proofs.ValueLaws.{value_of-even}
use Rattle.uid.proofs.NewUidLaws.{digits_left, uids_text-inj, uids_text-length}
use Rattle.calendar.specs.Values.{shifted_value}
use Rattle.calendar.proofs.ValuesLaws.{shifted_value-length, shifted_value-inj}
use Rattle.treatment.specs.Settings.{Settings}
use Rattle.treatment.specs.Fates.{fate, below}
use Rattle.treatment.specs.declared.Level.{Level}
use Rattle.treatment.specs.declared.Level.TheVariants.{Top}
use Rattle.treatment.specs.declared.Fate.{Fate}
use Rattle.treatment.specs.declared.Fate.TheVariants.{Removed, Kept, Walked, Emptied, Dummied, Renamed, Shifted, Wrong}
use Rattle.kept.specs.Content.{Body, shown, blank, uids, walk, Content, end, keep, Walks, last, each}
use Rattle.kept.specs.Fillers.{filler}
use Rattle.kept.specs.Written.{shifted_as, value_as, written_field, written_of, written_items, export, written}
use Rattle.treatment.proofs.FatesLaws.{fate-walked, fate-renamed, fate-reserved}
use Rattle.kept.proofs.FillersLaws.{lengths_below-value, emptied_as-made, dummied_as-made}
use Rattle.kept.proofs.MarkersLaws.{Absent, with_markers-made, with_markers-inj}

-- ---- numbered content

-- the numbers of new UIDs are below this: every root leaves room for their digits
abbrev pub number_limit : ℕ
number_limit = 10 ^ digits_left

abbrev pub ShownAt : Settings → Fate → ℕ → List ℕ → Type 0
ShownAt s Removed vr v = ⊥
ShownAt s Kept vr v = Unit {0}
ShownAt s Walked vr v = ⊥
ShownAt s Emptied vr v = ⊥
ShownAt s Dummied vr v = ⊥
ShownAt s Renamed vr v = ⊥
ShownAt s Shifted vr v = (x : List ℕ) × (shifted_value (eqb vr DA) s.shift v ≡ Some x)
ShownAt s Wrong vr v = ⊥

abbrev pub BlankAt : Fate → Type 0
BlankAt Removed = ⊥
BlankAt Kept = ⊥
BlankAt Walked = ⊥
BlankAt Emptied = Unit {0}
BlankAt Dummied = Unit {0}
BlankAt Renamed = ⊥
BlankAt Shifted = ⊥
BlankAt Wrong = ⊥

unfoldable mutual
  pub NumberedBody : Body ℕ → Settings → Level → ℕ → ℕ → ℕ → Type 0
  NumberedBody (shown v) s level depth tag vr = ShownAt s (fate s level tag vr) vr v × (length v % 2 ≡ 0) × (length v < lengths_below vr)
  NumberedBody blank s level depth tag vr = BlankAt (fate s level tag vr) × (among vr all_vrs ≡ true)
  NumberedBody (uids ns) s level depth tag vr =
      (fate s level tag vr ≡ Renamed) × (length ns ≤ most_uids) × ((n : ℕ) → Memᴰ n ns → n < number_limit)
  NumberedBody (walk ws) s level depth tag vr = (fate s level tag vr ≡ Walked) × NumberedWalks ws s (below (fate s level tag vr) level) depth

  pub Numbered : Content ℕ → Settings → Level → ℕ → ℕ → Type 0
  Numbered end s level depth low = Unit {0}
  Numbered (keep tag vr b c) s level depth low =
      (low ≤ tag) × (allowed tag ≡ true) × NumberedBody b s level depth tag vr × Numbered c s level depth (tag + 1)

  pub NumberedWalks : Walks ℕ → Settings → Level → ℕ → Type 0
  NumberedWalks last s level depth = Unit {0}
  NumberedWalks (each c ws) s level depth = (0 < depth) × Numbered c s level (depth - 1) 0 × NumberedWalks ws s level depth

pub numbered-lower : (c : Content ℕ) (s : Settings) (level : Level) (depth low low' : ℕ) → low' ≤ low → Numbered c s level depth low
    → Numbered c s level depth low'
unfolding Numbered
numbered-lower end s level depth low low' h m = tt
numbered-lower (keep tag vr b c) s level depth low low' h m = (omega arith, m.1, m.2, m.3)

-- ---- what is written is well-made

ui-lengths_below : 65536 ≤ lengths_below UI
unfolding among
ui-lengths_below = lengths_below-value UI refl (omega arith)

module _ (s : Settings) (vr : ℕ) where
  or-shifted : (v x : List ℕ) → shifted_value (eqb vr DA) s.shift v ≡ Some x → shifted_as s vr v ≡ x
  unfolding shifted_as
  or-shifted v x e = rw e

  value_as-length : (φ : Fate) (v : List ℕ) → ShownAt s φ vr v → length (value_as s φ vr v) ≡ length v
  value_as-length Removed v h = absurd h
  value_as-length Kept v h = refl
  value_as-length Walked v h = absurd h
  value_as-length Emptied v h = absurd h
  value_as-length Dummied v h = absurd h
  value_as-length Renamed v h = absurd h
  value_as-length Shifted v h = ap length (or-shifted v h.0 h.1) ∙ shifted_value-length (eqb vr DA) s.shift v h.0 h.1
  value_as-length Wrong v h = absurd h

  value_as-inj : (φ : Fate) (v w : List ℕ) → ShownAt s φ vr v → ShownAt s φ vr w → value_as s φ vr v ≡ value_as s φ vr w → v ≡ w
  value_as-inj Removed v w h k e = e
  value_as-inj Kept v w h k e = e
  value_as-inj Walked v w h k e = e
  value_as-inj Emptied v w h k e = e
  value_as-inj Dummied v w h k e = e
  value_as-inj Renamed v w h k e = e
  value_as-inj Shifted v w h k e =
      let q : h.0 ≡ k.0 = sym (or-shifted v h.0 h.1) ∙ e ∙ or-shifted w k.0 k.1 in
      shifted_value-inj (eqb vr DA) s.shift v w h.0 h.1 (k.1 ∙ ap Some (sym q))
  value_as-inj Wrong v w h k e = e

  filler-made : (φ : Fate) (tag depth : ℕ) → BlankAt φ → among vr all_vrs ≡ true → 0 < depth → MadeField depth vr (filler s φ tag vr)
  filler-made Removed tag depth b is pos = absurd b
  filler-made Kept tag depth b is pos = absurd b
  filler-made Walked tag depth b is pos = absurd b
  filler-made Emptied tag depth b is pos = emptied_as-made s tag vr depth is
  filler-made Dummied tag depth b is pos = dummied_as-made s tag vr depth is pos
  filler-made Renamed tag depth b is pos = absurd b
  filler-made Shifted tag depth b is pos = absurd b
  filler-made Wrong tag depth b is pos = absurd b

  shown-blank : (φ : Fate) (v : List ℕ) → ShownAt s φ vr v → BlankAt φ → ⊥
  shown-blank Removed v h b = b
  shown-blank Kept v h b = b
  shown-blank Walked v h b = b
  shown-blank Emptied v h b = h
  shown-blank Dummied v h b = h
  shown-blank Renamed v h b = b
  shown-blank Shifted v h b = b
  shown-blank Wrong v h b = b

module _ (s : Settings) (good : is_root s.root ≡ true) where
  uids-made : (ns : List ℕ) (depth vr : ℕ) → vr ≡ UI → length ns ≤ most_uids → ((n : ℕ) → Memᴰ n ns → n < number_limit)
      → MadeField {L = Unit {0}} depth vr (value (uids_text s.root ns))
  unfolding Made
  uids-made ns depth vr e few low =
      rw e (
        value_of-even (map (new_uid s.root) ns),
        omega (arith, ui-lengths_below, uids_text-length s.root (digits_left - 1) (omega (arith, (uid_upto-is longest_root s.root good).upto)) ns low few),
      )

  mutual
    unfolding Numbered written_of Made

    written_field-made : (b : Body ℕ) (level : Level) (depth deeper tag vr : ℕ) → depth < deeper → NumberedBody b s level depth tag vr
        → MadeField deeper vr (written_field b s level tag vr)
    written_field-made (shown v) level depth deeper tag vr h n =
        rw (value_as-length s vr (fate s level tag vr) v n.0) (n.1, n.2)
    written_field-made blank level depth deeper tag vr h n = filler-made s vr (fate s level tag vr) tag deeper n.0 n.1 (omega arith)
    written_field-made (uids ns) level depth deeper tag vr h n = uids-made ns deeper vr (fate-renamed s level tag vr n.0) n.1 n.2
    written_field-made (walk ws) level depth deeper tag vr h n =
        (fate-walked s level tag vr n.0, written_items-made ws (below (fate s level tag vr) level) depth deeper h n.1)

    pub written_of-made : (c : Content ℕ) (level : Level) (depth deeper low : ℕ) → depth < deeper → Numbered c s level depth low
        → Made deeper low (written_of c s level)
    written_of-made end level depth deeper low h n = tt
    written_of-made (keep tag vr b c) level depth deeper low h n =
        (n.0, n.1, written_field-made b level depth deeper tag vr h n.2, written_of-made c level depth deeper (tag + 1) h n.3)

    written_items-made : (ws : Walks ℕ) (level : Level) (depth deeper : ℕ) → depth < deeper → NumberedWalks ws s level depth
        → MadeItems deeper (written_items ws s level)
    written_items-made last level depth deeper h n = tt
    written_items-made (each c ws) level depth deeper h n =
        let pos : 0 < depth = n.0 in
        (omega arith, written_of-made c level (depth - 1) (deeper - 1) 0 (omega arith) n.1, written_items-made ws level depth deeper h n.2)

  -- ---- what is written decides the content

  mutual
    unfolding Numbered written_of

    written_field-inj : (b c : Body ℕ) (level : Level) (depth tag vr : ℕ) → NumberedBody b s level depth tag vr → NumberedBody c s level depth tag vr
        → written_field b s level tag vr ≡ written_field c s level tag vr → b ≡ c
    written_field-inj (shown v) (shown w) level depth tag vr n m e =
        let q : value_as s (fate s level tag vr) vr v ≡ value_as s (fate s level tag vr) vr w = cc in
        ap shown (value_as-inj s vr (fate s level tag vr) v w n.0 m.0 q)
    written_field-inj (shown v) blank level depth tag vr n m e = absurd (shown-blank s vr (fate s level tag vr) v n.0 m.0)
    written_field-inj (shown v) (uids ks) level depth tag vr n m e = absurd (rw m.0 at n.0)
    written_field-inj (shown v) (walk xs) level depth tag vr n m e = absurd (rw m.0 at n.0)
    written_field-inj blank (shown w) level depth tag vr n m e = absurd (shown-blank s vr (fate s level tag vr) w m.0 n.0)
    written_field-inj blank blank level depth tag vr n m e = refl
    written_field-inj blank (uids ks) level depth tag vr n m e = absurd (rw m.0 at n.0)
    written_field-inj blank (walk xs) level depth tag vr n m e = absurd (rw m.0 at n.0)
    written_field-inj (uids ns) (shown w) level depth tag vr n m e = absurd (rw n.0 at m.0)
    written_field-inj (uids ns) blank level depth tag vr n m e = absurd (rw n.0 at m.0)
    written_field-inj (uids ns) (uids ks) level depth tag vr n m e =
        let q : uids_text s.root ns ≡ uids_text s.root ks = cc in
        let is = uid_upto-is longest_root s.root good in
        ap uids (uids_text-inj s.root is.no-backslash is.no-zero ns ks q)
    written_field-inj (uids ns) (walk xs) level depth tag vr n m e = cc
    written_field-inj (walk ws) (shown w) level depth tag vr n m e = absurd (rw n.0 at m.0)
    written_field-inj (walk ws) blank level depth tag vr n m e = absurd (rw n.0 at m.0)
    written_field-inj (walk ws) (uids ks) level depth tag vr n m e = cc
    written_field-inj (walk ws) (walk xs) level depth tag vr n m e =
        let q : written_items ws s (below (fate s level tag vr) level) ≡ written_items xs s (below (fate s level tag vr) level) = cc in
        ap walk (written_items-inj ws xs (below (fate s level tag vr) level) depth n.1 m.1 q)

    pub written_of-inj : (c d : Content ℕ) (level : Level) (depth low : ℕ) → Numbered c s level depth low → Numbered d s level depth low
        → written_of c s level ≡ written_of d s level → c ≡ d
    written_of-inj end end level depth low n m e = refl
    written_of-inj end (keep t v a d) level depth low n m e = cc
    written_of-inj (keep tag vr b c) end level depth low n m e = cc
    written_of-inj (keep tag vr b c) (keep t v a d) level depth low n m e =
        let p : tag ≡ t = cc in
        let q : vr ≡ v = cc in
        let f : written_field b s level tag vr ≡ written_field a s level t v = cc in
        let r : written_of c s level ≡ written_of d s level = cc in
        let k : NumberedBody a s level depth tag vr = rw (p, q) m.2 in
        let j : Numbered d s level depth (tag + 1) = rw p m.3 in
        let x : b ≡ a = written_field-inj b a level depth tag vr n.2 k (f ∙ rw (p, q)) in
        let y : c ≡ d = written_of-inj c d level depth (tag + 1) n.3 j r in
        cc

    written_items-inj : (ws xs : Walks ℕ) (level : Level) (depth : ℕ) → NumberedWalks ws s level depth → NumberedWalks xs s level depth
        → written_items ws s level ≡ written_items xs s level → ws ≡ xs
    written_items-inj last last level depth n m e = refl
    written_items-inj last (each d xs) level depth n m e = cc
    written_items-inj (each c ws) last level depth n m e = cc
    written_items-inj (each c ws) (each d xs) level depth n m e =
        let p : written_of c s level ≡ written_of d s level = cc in
        let q : written_items ws s level ≡ written_items xs s level = cc in
        ap₂ each (written_of-inj c d level (depth - 1) 0 n.1 m.1 p) (written_items-inj ws xs level depth n.2 m.2 q)

  -- ---- export, written

  -- a tag that is removed at the top does not stand there
  body-removed : (b : Body ℕ) (depth tag vr : ℕ) → NumberedBody b s Top depth tag vr → fate s Top tag vr ≡ Removed → ⊥
  unfolding Numbered
  body-removed (shown v) depth tag vr n e = rw e at n.0
  body-removed blank depth tag vr n e = rw e at n.0
  body-removed (uids ns) depth tag vr n e = let z : ◌≡◌ {A = ℕ} 0 1 = cc in omega arith
  body-removed (walk ws) depth tag vr n e = let z : ◌≡◌ {A = ℕ} 0 1 = cc in omega arith

  mark-absent : (mark : ℕ) → among mark reserved ≡ true → (c : Content ℕ) (depth low : ℕ) → Numbered c s Top depth low → Absent mark (written_of c s Top)
  unfolding Numbered written_of Absent
  mark-absent mark is end depth low n = tt
  mark-absent mark is (keep tag vr b c) depth low n =
      (λ e. body-removed b depth tag vr n.2 (fate-reserved s tag vr (rw e at is)), mark-absent mark is c depth (tag + 1) n.3)

  module _ (depth : ℕ) where
    pub export-made : (c : Content ℕ) → Numbered c s Top depth 0 → Made (depth + 1) 0 (export s c)
    unfolding export
    export-made c n =
        with_markers-made s.options (depth + 1) (omega arith) (written_of c s Top) (λ mark is. mark-absent mark is c depth 0 n)
        (written_of-made c Top depth (depth + 1) 0 (omega arith) n)

    pub export-inj : (c d : Content ℕ) → Numbered c s Top depth 0 → Numbered d s Top depth 0 → export s c ≡ export s d → c ≡ d
    unfolding export
    export-inj c d n m e =
        written_of-inj c d Top depth 0 n m
        (with_markers-inj s.options (written_of c s Top) (written_of d s Top) (λ mark is. mark-absent mark is c depth 0 n) (λ mark is. mark-absent mark is d depth 0 m) e)

    -- THEOREM: equal bytes were written of equal content
    pub written-inj : (c d : Content ℕ) → Numbered c s Top depth 0 → Numbered d s Top depth 0 → written s c ≡ written s d → c ≡ d
    unfolding written
    written-inj c d n m e =
        export-inj c d n m (bytes_of-inj (depth + 1) (export s c) (export s d) (export-made c n) (export-made d m) e)

    -- THEOREM: what is written reads back as the data set that was meant, one level deeper than its input may nest
    pub written-reads : (c : Content ℕ) → Numbered c s Top depth 0 → with bare (read (depth + 1) (explicitly (written s c))) ≡ read-well (export s c) (length (written s c))
    unfolding written
    written-reads c n =
        read-bytes_of (depth + 1) (export s c) (export-made c n) ∙ ap (λ d. read-well d (length (bytes_of (export s c)))) (bare-bare (export s c))
