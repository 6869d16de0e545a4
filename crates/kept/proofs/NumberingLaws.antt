-- Laws of `specs/Numbering.antt` and `specs/Renaming.antt`. No contract cites this file. Assumes nothing.
--     numbered-final, numbered_all-final       THE LAW: numbers given on the way are those of the last ledger, or of any that it begins
--     numbered-last, numbered_all-last         of the last ledger itself
--     uids-numbered, uids-numbered_all       the numbers in a numbered content are those of its names, one after the other
--     length-names                             as many numbers as names
--     numbered-le, numbered_all-le             each number is 1 to the count in the end
--     numbered-shape, numbered_all-shape       tags, VRs, values, nesting and order stay
--     numbered_all-rename, numbered-rename     names that are renamed one-to-one get the same numbers
--     learns-only                              what is learnt was known or met
--     NoZero us, learns-no_zero                no name of us has a zero byte; none comes in as names are learnt
--     learns-uids_in, learns-uids_in_all        the ledger after slots is the slots of the ledger after UIDs
--     numbered-slots, numbered_all-slots       THEOREM: numbering among slots is numbering among UIDs, of names without a zero byte
--     Renaming cs ds                           a map takes cs to ds, and another takes it back
--     numbered_all-alike                       THEOREM: two batches get the same numbers exactly where such maps are
--     renaming-one, one-renaming               two such maps, or one that is one-to-one on the names met
--     numbered-one-renaming                    THEOREM: two batches get the same numbers exactly where they are one up to one renaming
-- Laws with Body or Walks in the name say it of the other two types of the tree.
use mathlib.Core.Path.{◌≡◌, refl, sym, ap, ap₂, ◌∙◌}
use mathlib.Core.Logic.Iff
use mathlib.Core.Logic.{ite, ◌⊎◌, inl, inr, ◌↔◌}
use mathlib.Core.List.Memᴰ
use mathlib.Core.List.{List, [], ◌∷◌, ◌++◌, map, append-nil, head-eq_of_cons-eq, Memᴰ}
use Prim.Native.Nat.{ℕ, zero, suc, ◌≤◌}
use lib.ListN.{length, get_or}
use Rattle.basis.proofs.PiecesLaws.{Free}
use Rattle.ledger.specs.FirstMet.{first_at, number_of, learn, learns, numbers, same_uid}
use Rattle.ledger.specs.Slots.{slot_of}
use Rattle.ledger.proofs.FirstMetLaws.{Begins, begins-refl, begins-trans, stands_for, stands_for-number_of, learns-begins, learns-member, learns-append, numbers-final, numbers-length, numbers-le}
use Rattle.ledger.proofs.RenameLaws.{Undone, map-member, number_of-rename, undone-learns, learns-rename}
use Rattle.ledger.proofs.SlotLaws.{unslot, slots-undone, learns-slots}
use Rattle.kept.specs.Content.{Body, shown, blank, uids, walk, Content, end, keep, Walks, last, each, map_body, map_content, map_walks, uids_in_body, uids_in, uids_in_walks, map_all, uids_in_all}
use Rattle.kept.specs.Kept.{Uid}
use Rattle.kept.specs.Numbering.{numbered_body, numbered, numbered_walks, numbered_all}
use Rattle.kept.specs.Renaming.{OneRenaming}
use Rattle.kept.proofs.ContentLaws.{map_content-map, uids_in-map, map_all-id, map_all-map, map_all-agree, uids_in_all-map}

module _ {X : Type 0} (same : Discrete X) where
  -- ---- numbered

  -- a ledger that is begun by the one after both parts
  both : (l us ws m : List X) → Begins (learns same l (us ++ ws)) m → Begins (learns same (learns same l us) ws) m
  both l us ws m p = rw learns-append at p

  -- ... is begun by the one after the first part
  first : (l us ws m : List X) → Begins (learns same l (us ++ ws)) m → Begins (learns same l us) m
  first l us ws m p = begins-trans (learns-begins same (learns same l us) ws) (both l us ws m p)

  mutual
    unfolding numbered map_content uids_in

    pub numbered_body-final : (l : List X) (b : Body X) (m : List X) → Begins (learns same l (uids_in_body b)) m
        → numbered_body same l b ≡ map_body (number_of same m) b
    numbered_body-final l (shown v) m p = refl
    numbered_body-final l blank m p = refl
    numbered_body-final l (uids us) m p = ap uids (numbers-final same l us m p)
    numbered_body-final l (walk ws) m p = ap walk (numbered_walks-final l ws m p)

    pub numbered-final : (l : List X) (c : Content X) (m : List X) → Begins (learns same l (uids_in c)) m → numbered same l c ≡ map_content (number_of same m) c
    numbered-final l end m p = refl
    numbered-final l (keep tag vr b c) m p =
        ap₂ (keep tag vr)
        (numbered_body-final l b m (first l (uids_in_body b) (uids_in c) m p))
        (numbered-final (learns same l (uids_in_body b)) c m (both l (uids_in_body b) (uids_in c) m p))

    pub numbered_walks-final : (l : List X) (ws : Walks X) (m : List X) → Begins (learns same l (uids_in_walks ws)) m
        → numbered_walks same l ws ≡ map_walks (number_of same m) ws
    numbered_walks-final l last m p = refl
    numbered_walks-final l (each c ws) m p =
        ap₂ each
        (numbered-final l c m (first l (uids_in c) (uids_in_walks ws) m p))
        (numbered_walks-final (learns same l (uids_in c)) ws m (both l (uids_in c) (uids_in_walks ws) m p))

  pub numbered-last : (l : List X) (c : Content X) → numbered same l c ≡ map_content (number_of same (learns same l (uids_in c))) c
  numbered-last l c = numbered-final l c (learns same l (uids_in c)) (begins-refl _)

  pub uids-numbered : (l : List X) (c : Content X) → uids_in (numbered same l c) ≡ numbers same l (uids_in c)
  uids-numbered l c =
      let m : List X = learns same l (uids_in c) in
      ap uids_in (numbered-last l c) ∙ (uids_in-map (number_of same m) c ∙ sym (numbers-final same l (uids_in c) m (begins-refl m)))

  pub length-names : (l : List X) (c : Content X) → length (uids_in (numbered same l c)) ≡ length (uids_in c)
  length-names l c = ap length (uids-numbered l c) ∙ numbers-length same l (uids_in c)

  pub numbered-le : (l : List X) (c : Content X) (n : ℕ) → Memᴰ n (uids_in (numbered same l c)) → (1 ≤ n) × (n ≤ length (learns same l (uids_in c)))
  numbered-le l c n h = numbers-le same l (uids_in c) n (rw uids-numbered at h)

  pub numbered-shape : (l : List X) (c : Content X) → map_content {Y = Unit {0}} (λ _. tt) (numbered same l c) ≡ map_content (λ _. tt) c
  numbered-shape l c = ap (map_content (λ _. tt)) (numbered-last l c) ∙ map_content-map (λ _. tt) (number_of same (learns same l (uids_in c))) c

  -- ---- numbered_all

  pub numbered_all-final : (l : List X) (cs : List (Content X)) (m : List X) → Begins (learns same l (uids_in_all cs)) m
      → numbered_all same l cs ≡ map_all (number_of same m) cs
  unfolding numbered_all uids_in_all
  numbered_all-final l [] m p = refl
  numbered_all-final l (c ∷ cs) m p =
      ap₂ ◌∷◌ (numbered-final l c m (first l (uids_in c) (uids_in_all cs) m p)) (numbered_all-final (learns same l (uids_in c)) cs m (both l (uids_in c) (uids_in_all cs) m p))

  pub numbered_all-last : (l : List X) (cs : List (Content X)) → numbered_all same l cs ≡ map_all (number_of same (learns same l (uids_in_all cs))) cs
  numbered_all-last l cs = numbered_all-final l cs (learns same l (uids_in_all cs)) (begins-refl _)

  pub uids-numbered_all : (l : List X) (cs : List (Content X)) → uids_in_all (numbered_all same l cs) ≡ numbers same l (uids_in_all cs)
  uids-numbered_all l cs =
      let m : List X = learns same l (uids_in_all cs) in
      ap uids_in_all (numbered_all-last l cs) ∙ (uids_in_all-map (number_of same m) cs ∙ sym (numbers-final same l (uids_in_all cs) m (begins-refl m)))

  pub numbered_all-le : (l : List X) (cs : List (Content X)) (n : ℕ) → Memᴰ n (uids_in_all (numbered_all same l cs))
      → (1 ≤ n) × (n ≤ length (learns same l (uids_in_all cs)))
  numbered_all-le l cs n h = numbers-le same l (uids_in_all cs) n (rw uids-numbered_all at h)

  pub numbered_all-shape : (l : List X) (cs : List (Content X)) → map_all {Y = Unit {0}} (λ _. tt) (numbered_all same l cs) ≡ map_all (λ _. tt) cs
  numbered_all-shape l cs = ap (map_all (λ _. tt)) (numbered_all-last l cs) ∙ map_all-map (λ _. tt) (number_of same (learns same l (uids_in_all cs))) cs

-- ---- renamed names

module _ {X Y : Type 0} (same_x : Discrete X) (same_y : Discrete Y) (f : X → Y) (g : Y → X) where
  pub numbered_all-rename : (l : List X) (cs : List (Content X)) → Undone same_x same_y f g l → Undone same_x same_y f g (uids_in_all cs)
      → numbered_all same_y (map f l) (map_all f cs) ≡ numbered_all same_x l cs
  numbered_all-rename l cs h k =
      let m : List X = learns same_x l (uids_in_all cs) in
      let e : learns same_y (map f l) (uids_in_all (map_all f cs)) ≡ map f m
      = ap (learns same_y (map f l)) (uids_in_all-map f cs) ∙ learns-rename same_x same_y f g l (uids_in_all cs) h k in
      let j : Undone same_x same_y f g m = undone-learns same_x same_y f g l (uids_in_all cs) h k in
      numbered_all-last same_y (map f l) (map_all f cs)
      ∙ (ap (λ (n : List Y). map_all (number_of same_y n) (map_all f cs)) e
      ∙ (map_all-map (number_of same_y (map f m)) f cs
      ∙ (map_all-agree _ (number_of same_x m) cs (λ u i. number_of-rename same_x same_y f g m u j (k u i))
      ∙ sym (numbered_all-last same_x l cs))))

  -- a data set is a batch of one
  pub numbered-rename : (l : List X) (c : Content X) → Undone same_x same_y f g l → Undone same_x same_y f g (uids_in c)
      → numbered same_y (map f l) (map_content f c) ≡ numbered same_x l c
  unfolding numbered_all uids_in_all
  numbered-rename l c h k = head-eq_of_cons-eq (numbered_all-rename l (c ∷ []) h (λ u i. k u (rw append-nil at i)))

-- ---- slots

module _ {X : Type 0} (same : Discrete X) where
  learn-only : (l : List X) (w u : X) → Memᴰ u (learn same l w) → Memᴰ u l ⊎ (u ≡ w)
  unfolding learn
  learn-only [] w u i = one (Memᴰ.cases_cons i)
    where
      one : (u ≡ w) ⊎ Memᴰ u [] → Memᴰ u [] ⊎ (u ≡ w)
      one (inl e) = inr e
      one (inr n) = inl n
  learn-only (x ∷ xs) w u i = step (same x w) (learn-only xs w u) i
    where
      later : Memᴰ u xs ⊎ (u ≡ w) → Memᴰ u (x ∷ xs) ⊎ (u ≡ w)
      later (inl m) = inl (Memᴰ.tail m)
      later (inr e) = inr e

      past : {l : List X} → (Memᴰ u l → Memᴰ u xs ⊎ (u ≡ w)) → (u ≡ x) ⊎ Memᴰ u l → Memᴰ u (x ∷ xs) ⊎ (u ≡ w)
      past ih (inl e) = inl (Memᴰ.head e)
      past ih (inr m) = later (ih m)

      step : (d : Dec (x ≡ w)) → (Memᴰ u (learn same xs w) → Memᴰ u xs ⊎ (u ≡ w)) → Memᴰ u (x ∷ ite d xs (learn same xs w))
          → Memᴰ u (x ∷ xs) ⊎ (u ≡ w)
      step (yes p) ih m = inl m
      step (no n) ih m = past ih (Memᴰ.cases_cons m)

  pub learns-only : (l us : List X) (u : X) → Memᴰ u (learns same l us) → Memᴰ u l ⊎ Memᴰ u us
  unfolding learns
  learns-only l [] u i = inl i
  learns-only l (w ∷ us) u i = step (learns-only (learn same l w) us u i)
    where
      known : Memᴰ u l ⊎ (u ≡ w) → Memᴰ u l ⊎ Memᴰ u (w ∷ us)
      known (inl m) = inl m
      known (inr e) = inr (Memᴰ.head e)

      step : Memᴰ u (learn same l w) ⊎ Memᴰ u us → Memᴰ u l ⊎ Memᴰ u (w ∷ us)
      step (inl m) = known (learn-only l w u m)
      step (inr m) = inr (Memᴰ.tail m)

-- none of the names has a zero byte
abbrev pub NoZero : List Uid → Type 0
NoZero us = (u : Uid) → Memᴰ u us → Free 0 u

pub learns-no_zero : (l us : List Uid) → NoZero l → NoZero us → NoZero (learns same_uid l us)
learns-no_zero l us f g u i = step (learns-only same_uid l us u i)
  where
    step : Memᴰ u l ⊎ Memᴰ u us → Free 0 u
    step (inl m) = f u m
    step (inr m) = g u m

pub learns-uids_in : (l : List Uid) (c : Content Uid) → NoZero l → NoZero (uids_in c)
    → learns same_uid (map slot_of l) (uids_in (map_content slot_of c)) ≡ map slot_of (learns same_uid l (uids_in c))
learns-uids_in l c f g = ap (learns same_uid (map slot_of l)) (uids_in-map slot_of c) ∙ learns-slots l (uids_in c) f g

pub learns-uids_in_all : (l : List Uid) (cs : List (Content Uid)) → NoZero l → NoZero (uids_in_all cs)
    → learns same_uid (map slot_of l) (uids_in_all (map_all slot_of cs)) ≡ map slot_of (learns same_uid l (uids_in_all cs))
learns-uids_in_all l cs f g = ap (learns same_uid (map slot_of l)) (uids_in_all-map slot_of cs) ∙ learns-slots l (uids_in_all cs) f g

pub numbered-slots : (l : List Uid) (c : Content Uid) → NoZero l → NoZero (uids_in c)
    → numbered same_uid (map slot_of l) (map_content slot_of c) ≡ numbered same_uid l c
numbered-slots l c f g = numbered-rename same_uid same_uid slot_of unslot l c (slots-undone l f) (slots-undone (uids_in c) g)

pub numbered_all-slots : (l : List Uid) (cs : List (Content Uid)) → NoZero l → NoZero (uids_in_all cs)
    → numbered_all same_uid (map slot_of l) (map_all slot_of cs) ≡ numbered_all same_uid l cs
numbered_all-slots l cs f g = numbered_all-rename same_uid same_uid slot_of unslot l cs (slots-undone l f) (slots-undone (uids_in_all cs) g)

-- ---- Renaming

pub record Renaming {X : Type 0} (cs ds : List (Content X)) : Type 0 where
  pub to : X → X
  pub from : X → X
  pub there : map_all to cs ≡ ds
  pub back : map_all from ds ≡ cs

-- the second map undoes the first on the names met
undone-by : {X : Type 0} (cs ds : List (Content X)) (r : Renaming cs ds) (u : X) → Memᴰ u (uids_in_all cs) → r.from (r.to u) ≡ u
undone-by cs ds r =
    let undo : map_all (λ u. r.from (r.to u)) cs ≡ cs = sym (map_all-map r.from r.to cs) ∙ (ap (map_all r.from) r.there ∙ r.back) in
    map-member (λ u. r.from (r.to u)) (uids_in_all cs) (sym (uids_in_all-map _ cs) ∙ ap uids_in_all undo)

module _ {X : Type 0} (same : Discrete X) (d : X) where
  -- the name of one batch that has the number of a name of another
  across : List (Content X) → List (Content X) → X → X
  across cs ds u = stands_for same (learns same [] (uids_in_all ds)) d (number_of same (learns same [] (uids_in_all cs)) u)

  alike-there : (cs ds : List (Content X)) → numbered_all same [] cs ≡ numbered_all same [] ds → map_all (across cs ds) cs ≡ ds
  unfolding across
  alike-there cs ds e =
      let m : List X = learns same [] (uids_in_all cs) in
      let n : List X = learns same [] (uids_in_all ds) in
      sym (map_all-map (stands_for same n d) (number_of same m) cs)
      ∙ (ap (map_all (stands_for same n d)) (sym (numbered_all-last same [] cs) ∙ (e ∙ numbered_all-last same [] ds))
      ∙ (map_all-map (stands_for same n d) (number_of same n) ds
      ∙ (map_all-agree _ (λ u. u) ds (λ u i. stands_for-number_of same n d u (learns-member same [] (uids_in_all ds) u i))
      ∙ map_all-id ds)))

  alike-back : (cs ds : List (Content X)) → Renaming cs ds → numbered_all same [] cs ≡ numbered_all same [] ds
  alike-back cs ds r =
      sym (numbered_all-rename same same r.to r.from [] cs (λ u i. absurd (Memᴰ.not-nil i)) (undone-by cs ds r))
      ∙ ap (numbered_all same []) r.there

  pub numbered_all-alike : (cs ds : List (Content X)) → (numbered_all same [] cs ≡ numbered_all same [] ds) ↔ Renaming cs ds
  numbered_all-alike cs ds = (
    λ e. record { to = across cs ds; from = across ds cs; there = alike-there cs ds e; back = alike-there ds cs (sym e) },
    alike-back cs ds,
  )

-- ---- OneRenaming

-- what f made of a name of ns, found again among what it made of all of them
module _ {X Y : Type 0} (same : Discrete Y) (d : X) (f : X → Y) where
  origin : List X → Y → X
  origin ns v = get_or ns (first_at same (map f ns) v) d

  origin-member : (ns : List X) (v : Y) → Memᴰ v (map f ns) → Memᴰ (origin ns v) ns × (f (origin ns v) ≡ v)
  unfolding origin first_at
  origin-member [] v i = elim i [ ]
  origin-member (x ∷ ns) v i = step (same (f x) v) (Memᴰ.cases_cons i) (λ k. origin-member ns v k)
    where
      At : ℕ → List X → Type 0
      At n l = Memᴰ (get_or l n d) l × (f (get_or l n d) ≡ v)

      step : (e : Dec (f x ≡ v)) → (v ≡ f x) ⊎ Memᴰ v (map f ns) → (Memᴰ v (map f ns) → At (first_at same (map f ns) v) ns)
          → At (ite e zero (suc (first_at same (map f ns) v))) (x ∷ ns)
      step (yes p) c ih = (Memᴰ.head refl, p)
      step (no n) (inl e) ih = absurd (n (sym e))
      step (no n) (inr k) ih = (Memᴰ.tail (ih k).0, (ih k).1)

pub renaming-one : (cs ds : List (Content Uid)) → Renaming cs ds → OneRenaming cs ds
renaming-one cs ds r = record {
  rename = r.to;
  one_to_one = λ x y i j e. sym (undone-by cs ds r x i) ∙ (ap r.from e ∙ undone-by cs ds r y j);
  renamed = r.there;
}

pub one-renaming : (cs ds : List (Content Uid)) → OneRenaming cs ds → Renaming cs ds
one-renaming cs ds r =
    let ns : List Uid = uids_in_all cs in
    let g : Uid → Uid = origin same_uid [] r.rename ns in
    let undone : (u : Uid) → Memᴰ u ns → g (r.rename u) ≡ u
    = λ u i. let o = origin-member same_uid [] r.rename ns (r.rename u) (Memᴰ.map r.rename i) in r.one_to_one (g (r.rename u)) u o.0 i o.1 in
    record {
      to = r.rename;
      from = g;
      there = r.renamed;
      back = ap (map_all g) (sym r.renamed) ∙ (map_all-map g r.rename cs ∙ (map_all-agree _ (λ u. u) cs undone ∙ map_all-id cs));
    }

pub numbered-one-renaming : (cs ds : List (Content Uid)) → (numbered_all same_uid [] cs ≡ numbered_all same_uid [] ds) ↔ OneRenaming cs ds
numbered-one-renaming cs ds = Iff.trans (numbered_all-alike same_uid [] cs ds) (renaming-one cs ds, one-renaming cs ds)
