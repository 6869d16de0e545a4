-- Kept content: document 01, "Kept content and the four counts", 1st paragraph. X is the type of a name: a UID in kept content, its
-- number in what is written. Length style is not part of it. Laws: `proofs/ContentLaws.antt`. Assumes nothing.
--     Content X       the elements that appear, in order: of each its tag, its VR and what is shown of it
--     Body X          a value; nothing but tag and VR; UIDs; the items of a sequence that is walked into
--     Walks X         those items, in order
--     map_content f   the same content, each name changed by f
--     uids_in c     its names, in order
--     map_all, uids_in_all    the same of the contents of a batch
use Rattle.std.specs.Prelude.{List, [], ◌∷◌, ◌++◌, map, ℕ}

mutual
  pub data Body (X : Type 0) : Type 0 where
    shown : List ℕ → Body X
    blank : Body X
    uids : List X → Body X
    walk : Walks X → Body X

  pub data Content (X : Type 0) : Type 0 where
    end : Content X
    keep : (tag vr : ℕ) → Body X → Content X → Content X

  pub data Walks (X : Type 0) : Type 0 where
    last : Walks X
    each : Content X → Walks X → Walks X

unfoldable mutual
  pub map_body : {X Y : Type 0} → (X → Y) → Body X → Body Y
  map_body f (shown v) = shown v
  map_body f blank = blank
  map_body f (uids us) = uids (map f us)
  map_body f (walk ws) = walk (map_walks f ws)

  pub map_content : {X Y : Type 0} → (X → Y) → Content X → Content Y
  map_content f end = end
  map_content f (keep tag vr b c) = keep tag vr (map_body f b) (map_content f c)

  pub map_walks : {X Y : Type 0} → (X → Y) → Walks X → Walks Y
  map_walks f last = last
  map_walks f (each c ws) = each (map_content f c) (map_walks f ws)

unfoldable mutual
  pub uids_in_body : {X : Type 0} → Body X → List X
  uids_in_body (shown v) = []
  uids_in_body blank = []
  uids_in_body (uids us) = us
  uids_in_body (walk ws) = uids_in_walks ws

  pub uids_in : {X : Type 0} → Content X → List X
  uids_in end = []
  uids_in (keep tag vr b c) = uids_in_body b ++ uids_in c

  pub uids_in_walks : {X : Type 0} → Walks X → List X
  uids_in_walks last = []
  uids_in_walks (each c ws) = uids_in c ++ uids_in_walks ws

abbrev pub map_all : {X Y : Type 0} → (X → Y) → List (Content X) → List (Content Y)
map_all f cs = map (map_content f) cs

unfoldable pub uids_in_all : {X : Type 0} → List (Content X) → List X
uids_in_all [] = []
uids_in_all (c ∷ cs) = uids_in c ++ uids_in_all cs
