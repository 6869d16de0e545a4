-- Laws of `specs/Content.antt`. No contract cites this file. Assumes nothing.
--     map_content-id, map_content-map, map_content-agree    a map that changes nothing; one after another; two that agree on the names
--     Agree f g us                                          f and g agree on the names us
--     uids_in-map, length-uids_in-map                   the names of a mapped content, and how many they are
--     map_all-id, map_all-map, map_all-agree, uids_in_all-map    the same of the contents of a batch
--     uids_in_all-append                                         the names of two batches, one after the other
-- Laws with Body or Walks in the place of Content say it of the other two types of the tree.
use mathlib.Core.Path.{◌≡◌, refl, sym, ap, ap₂, ◌∙◌}
use mathlib.Core.List.Memᴰ
use mathlib.Core.List.{List, [], ◌∷◌, ◌++◌, map, map-id, map-map, map-append, append_assoc, Memᴰ}
use lib.ListN.{length, length-map}
use Rattle.ledger.proofs.RenameLaws.{map-agree}
use Rattle.kept.specs.Content.{Body, shown, blank, uids, walk, Content, end, keep, Walks, last, each, map_body, map_content, map_walks, uids_in_body, uids_in, uids_in_walks, map_all, uids_in_all}

-- ---- map_content

module _ {X : Type 0} where
  mutual
    unfolding map_content

    pub map_body-id : (b : Body X) → map_body (λ u. u) b ≡ b
    map_body-id (shown v) = refl
    map_body-id blank = refl
    map_body-id (uids us) = ap uids (map-id us)
    map_body-id (walk ws) = ap walk (map_walks-id ws)

    pub map_content-id : (c : Content X) → map_content (λ u. u) c ≡ c
    map_content-id end = refl
    map_content-id (keep tag vr b c) = ap₂ (keep tag vr) (map_body-id b) (map_content-id c)

    pub map_walks-id : (ws : Walks X) → map_walks (λ u. u) ws ≡ ws
    map_walks-id last = refl
    map_walks-id (each c ws) = ap₂ each (map_content-id c) (map_walks-id ws)

module _ {X Y Z : Type 0} (g : Y → Z) (f : X → Y) where
  mutual
    unfolding map_content

    pub map_body-map : (b : Body X) → map_body g (map_body f b) ≡ map_body (λ u. g (f u)) b
    map_body-map (shown v) = refl
    map_body-map blank = refl
    map_body-map (uids us) = ap uids (map-map g f us)
    map_body-map (walk ws) = ap walk (map_walks-map ws)

    pub map_content-map : (c : Content X) → map_content g (map_content f c) ≡ map_content (λ u. g (f u)) c
    map_content-map end = refl
    map_content-map (keep tag vr b c) = ap₂ (keep tag vr) (map_body-map b) (map_content-map c)

    pub map_walks-map : (ws : Walks X) → map_walks g (map_walks f ws) ≡ map_walks (λ u. g (f u)) ws
    map_walks-map last = refl
    map_walks-map (each c ws) = ap₂ each (map_content-map c) (map_walks-map ws)

module _ {X Y : Type 0} (f g : X → Y) where
  -- f and g agree on the names of a list
  abbrev pub Agree : List X → Type 0
  Agree us = (u : X) → Memᴰ u us → f u ≡ g u

  -- and so on the names of each of two parts
  agree-left : (us ws : List X) → Agree (us ++ ws) → Agree us
  agree-left us ws h u m = h u (Memᴰ.append_left ws m)

  agree-right : (us ws : List X) → Agree (us ++ ws) → Agree ws
  agree-right us ws h u m = h u (Memᴰ.append_right us m)

  mutual
    unfolding map_content uids_in

    pub map_body-agree : (b : Body X) → Agree (uids_in_body b) → map_body f b ≡ map_body g b
    map_body-agree (shown v) h = refl
    map_body-agree blank h = refl
    map_body-agree (uids us) h = ap uids (map-agree f g us h)
    map_body-agree (walk ws) h = ap walk (map_walks-agree ws h)

    pub map_content-agree : (c : Content X) → Agree (uids_in c) → map_content f c ≡ map_content g c
    map_content-agree end h = refl
    map_content-agree (keep tag vr b c) h =
        ap₂ (keep tag vr) (map_body-agree b (agree-left (uids_in_body b) (uids_in c) h)) (map_content-agree c (agree-right (uids_in_body b) (uids_in c) h))

    pub map_walks-agree : (ws : Walks X) → Agree (uids_in_walks ws) → map_walks f ws ≡ map_walks g ws
    map_walks-agree last h = refl
    map_walks-agree (each c ws) h =
        ap₂ each (map_content-agree c (agree-left (uids_in c) (uids_in_walks ws) h)) (map_walks-agree ws (agree-right (uids_in c) (uids_in_walks ws) h))

-- ---- uids_in

module _ {X Y : Type 0} (f : X → Y) where
  mutual
    unfolding map_content uids_in

    pub uids_in_body-map : (b : Body X) → uids_in_body (map_body f b) ≡ map f (uids_in_body b)
    uids_in_body-map (shown v) = refl
    uids_in_body-map blank = refl
    uids_in_body-map (uids us) = refl
    uids_in_body-map (walk ws) = uids_in_walks-map ws

    pub uids_in-map : (c : Content X) → uids_in (map_content f c) ≡ map f (uids_in c)
    uids_in-map end = refl
    uids_in-map (keep tag vr b c) = ap₂ ◌++◌ (uids_in_body-map b) (uids_in-map c) ∙ sym (map-append f (uids_in_body b) (uids_in c))

    pub uids_in_walks-map : (ws : Walks X) → uids_in_walks (map_walks f ws) ≡ map f (uids_in_walks ws)
    uids_in_walks-map last = refl
    uids_in_walks-map (each c ws) = ap₂ ◌++◌ (uids_in-map c) (uids_in_walks-map ws) ∙ sym (map-append f (uids_in c) (uids_in_walks ws))

  pub length-uids_in-map : (c : Content X) → length (uids_in (map_content f c)) ≡ length (uids_in c)
  length-uids_in-map c = ap length (uids_in-map c) ∙ length-map (uids_in c) f

-- ---- a batch

module _ {X : Type 0} where
  pub map_all-id : (cs : List (Content X)) → map_all (λ u. u) cs ≡ cs
  map_all-id [] = refl
  map_all-id (c ∷ cs) = ap₂ ◌∷◌ (map_content-id c) (map_all-id cs)

  pub uids_in_all-append : (cs ds : List (Content X)) → uids_in_all (cs ++ ds) ≡ uids_in_all cs ++ uids_in_all ds
  unfolding uids_in_all
  uids_in_all-append [] ds = refl
  uids_in_all-append (c ∷ cs) ds = ap (λ (l : List X). uids_in c ++ l) (uids_in_all-append cs ds) ∙ sym (append_assoc (uids_in c) (uids_in_all cs) (uids_in_all ds))

pub map_all-map : {X Y Z : Type 0} (g : Y → Z) (f : X → Y) (cs : List (Content X)) → map_all g (map_all f cs) ≡ map_all (λ u. g (f u)) cs
map_all-map g f [] = refl
map_all-map g f (c ∷ cs) = ap₂ ◌∷◌ (map_content-map g f c) (map_all-map g f cs)

module _ {X Y : Type 0} where
  pub map_all-agree : (f g : X → Y) (cs : List (Content X)) → Agree f g (uids_in_all cs) → map_all f cs ≡ map_all g cs
  unfolding uids_in_all
  map_all-agree f g [] h = refl
  map_all-agree f g (c ∷ cs) h =
      ap₂ ◌∷◌ (map_content-agree f g c (agree-left f g (uids_in c) (uids_in_all cs) h)) (map_all-agree f g cs (agree-right f g (uids_in c) (uids_in_all cs) h))

  pub uids_in_all-map : (f : X → Y) (cs : List (Content X)) → uids_in_all (map_all f cs) ≡ map f (uids_in_all cs)
  unfolding uids_in_all
  uids_in_all-map f [] = refl
  uids_in_all-map f (c ∷ cs) = ap₂ ◌++◌ (uids_in-map f c) (uids_in_all-map f cs) ∙ sym (map-append f (uids_in c) (uids_in_all cs))
