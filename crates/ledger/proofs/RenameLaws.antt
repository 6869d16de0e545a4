-- UIDs that are renamed one-to-one keep their places and numbers, and UIDs of equal numbers are renamed ones: laws of
-- `specs/FirstMet.antt` between two types that stand for UIDs. No contract cites this file. Assumes nothing.
--     map-agree, map-member                   functions that agree on the members of a list; one that keeps a list
--     Undone f g l                            g undoes f on the UIDs of l, so that f is one-to-one there
--     undone-learn, undone-learns             as UIDs are learnt
--     first_at-rename, number_of-rename, learn-rename, learns-rename
--     numbers-rename                          renamed UIDs get the same numbers
--     numbers-alike                           THEOREM: two lists get the same numbers exactly where one renaming takes the one to the other
--                                             and another takes it back
use mathlib.Core.Path.{◌≡◌, refl, sym, ap, ap₂, ◌∙◌}
use mathlib.Core.Logic.{ite, ◌⊎◌, inl, inr, ◌↔◌}
use mathlib.Core.List.Memᴰ
use mathlib.Core.List.{List, [], ◌∷◌, map, map-map, map-id, head-eq_of_cons-eq, tail-eq_of_cons-eq, Memᴰ}
use Prim.Native.Nat.{zero, suc}
use Rattle.ledger.specs.FirstMet.{first_at, number_of, learn, learns, numbers}
use Rattle.ledger.proofs.FirstMetLaws.{begins-refl, learns-member, stands_for, stands_for-number_of, numbers-final}

-- ---- map

-- two functions that agree on the members agree on the list
pub map-agree : {X Y : Type 0} (f g : X → Y) (us : List X) → ((u : X) → Memᴰ u us → f u ≡ g u) → map f us ≡ map g us
map-agree f g [] h = refl
map-agree {X} {Y} f g (u ∷ us) h = ap₂ (λ (y : Y) (l : List Y). y ∷ l) (h u (Memᴰ.head refl)) (map-agree f g us (λ w m. h w (Memᴰ.tail m)))

-- a function that keeps a list keeps each of its members
pub map-member : {X : Type 0} (f : X → X) (us : List X) → map f us ≡ us → (u : X) → Memᴰ u us → f u ≡ u
map-member {X = X} f [] e u x'' = elim x'' [ ]
map-member f (w ∷ us) e u (Memᴰ.head p) = ap f p ∙ (head-eq_of_cons-eq e ∙ sym p)
map-member f (w ∷ us) e u (Memᴰ.tail m) = map-member f us (tail-eq_of_cons-eq e) u m

-- ---- renamed UIDs

module _ {X Y : Type 0} (same_x : Discrete X) (same_y : Discrete Y) (f : X → Y) (g : Y → X) where
  abbrev pub Undone : List X → Type 0
  Undone l = (x : X) → Memᴰ x l → g (f x) ≡ x

  undone-tail : {x : X} {xs : List X} → Undone (x ∷ xs) → Undone xs
  undone-tail h w m = h w (Memᴰ.tail m)

  one_to_one : {x u : X} → g (f x) ≡ x → g (f u) ≡ u → f x ≡ f u → x ≡ u
  one_to_one p q e = sym p ∙ (ap g e ∙ q)

  pub first_at-rename : (l : List X) (u : X) → Undone l → g (f u) ≡ u → first_at same_y (map f l) (f u) ≡ first_at same_x l u
  unfolding first_at
  first_at-rename [] u h k = refl
  first_at-rename (x ∷ xs) u h k = step (same_x x u) (same_y (f x) (f u)) (first_at-rename xs u (undone-tail h) k)
    where
      step : (d : Dec (x ≡ u)) (e : Dec (f x ≡ f u)) → first_at same_y (map f xs) (f u) ≡ first_at same_x xs u
          → ite e zero (suc (first_at same_y (map f xs) (f u))) ≡ ite d zero (suc (first_at same_x xs u))
      step (yes p) (yes q) ih = refl
      step (yes p) (no n) ih = absurd (n (ap f p))
      step (no n) (yes q) ih = absurd (n (one_to_one (h x (Memᴰ.head refl)) k q))
      step (no n) (no o) ih = ap suc ih

  pub number_of-rename : (l : List X) (u : X) → Undone l → g (f u) ≡ u → number_of same_y (map f l) (f u) ≡ number_of same_x l u
  unfolding number_of
  number_of-rename l u h k = ap suc (first_at-rename l u h k)

  pub learn-rename : (l : List X) (u : X) → Undone l → g (f u) ≡ u → learn same_y (map f l) (f u) ≡ map f (learn same_x l u)
  unfolding learn
  learn-rename [] u h k = refl
  learn-rename (x ∷ xs) u h k = step (same_x x u) (same_y (f x) (f u)) (learn-rename xs u (undone-tail h) k)
    where
      step : (d : Dec (x ≡ u)) (e : Dec (f x ≡ f u)) → learn same_y (map f xs) (f u) ≡ map f (learn same_x xs u)
          → (f x ∷ ite e (map f xs) (learn same_y (map f xs) (f u))) ≡ map f (x ∷ ite d xs (learn same_x xs u))
      step (yes p) (yes q) ih = refl
      step (yes p) (no n) ih = absurd (n (ap f p))
      step (no n) (yes q) ih = absurd (n (one_to_one (h x (Memᴰ.head refl)) k q))
      step (no n) (no o) ih = ap (λ (l : List Y). f x ∷ l) ih

  pub undone-learn : (l : List X) (u : X) → Undone l → g (f u) ≡ u → Undone (learn same_x l u)
  unfolding learn
  undone-learn [] u h k w m = one (Memᴰ.cases_cons m)
    where
      one : (w ≡ u) ⊎ Memᴰ w [] → g (f w) ≡ w
      one (inl e) = rw e k
      one (inr n) = h w n
  undone-learn (x ∷ xs) u h k w m = step (same_x x u) (undone-learn xs u (undone-tail h) k) m
    where
      past : {l : List X} → Undone l → (w ≡ x) ⊎ Memᴰ w l → g (f w) ≡ w
      past ih (inl e) = rw e (h x (Memᴰ.head refl))
      past ih (inr n) = ih w n

      step : (d : Dec (x ≡ u)) → Undone (learn same_x xs u) → Memᴰ w (x ∷ ite d xs (learn same_x xs u)) → g (f w) ≡ w
      step (yes p) ih m' = h w m'
      step (no n) ih m' = past ih (Memᴰ.cases_cons m')

  pub learns-rename : (l us : List X) → Undone l → Undone us → learns same_y (map f l) (map f us) ≡ map f (learns same_x l us)
  unfolding learns
  learns-rename l [] h k = refl
  learns-rename l (u ∷ us) h k =
      let q : g (f u) ≡ u = k u (Memᴰ.head refl) in
      ap (λ (m : List Y). learns same_y m (map f us)) (learn-rename l u h q)
      ∙ learns-rename (learn same_x l u) us (undone-learn l u h q) (undone-tail k)

  pub undone-learns : (l us : List X) → Undone l → Undone us → Undone (learns same_x l us)
  unfolding learns
  undone-learns l [] h k = h
  undone-learns l (u ∷ us) h k = undone-learns (learn same_x l u) us (undone-learn l u h (k u (Memᴰ.head refl))) (undone-tail k)

  pub numbers-rename : (l us : List X) → Undone l → Undone us → numbers same_y (map f l) (map f us) ≡ numbers same_x l us
  unfolding numbers
  numbers-rename l [] h k = refl
  numbers-rename l (u ∷ us) h k =
      let q : g (f u) ≡ u = k u (Memᴰ.head refl) in
      let j : Undone (learn same_x l u) = undone-learn l u h q in
      ap (λ (m : List Y). number_of same_y m (f u) ∷ numbers same_y m (map f us)) (learn-rename l u h q)
      ∙ ap₂ ◌∷◌ (number_of-rename (learn same_x l u) u j q) (numbers-rename (learn same_x l u) us j (undone-tail k))

-- ---- numbers

module _ {X : Type 0} (same : Discrete X) (d : X) where
  -- the UID of one list that has the number of a UID of another
  across : List X → List X → X → X
  across us ws u = stands_for same (learns same [] ws) d (number_of same (learns same [] us) u)

  there : (us ws : List X) → numbers same [] us ≡ numbers same [] ws → map (across us ws) us ≡ ws
  unfolding across
  there us ws e =
      let m : List X = learns same [] us in
      let n : List X = learns same [] ws in
      let k : map (number_of same m) us ≡ map (number_of same n) ws = sym (numbers-final same [] us m (begins-refl m)) ∙ (e ∙ numbers-final same [] ws n (begins-refl n)) in
      sym (map-map (stands_for same n d) (number_of same m) us)
      ∙ (ap (map (stands_for same n d)) k
      ∙ (map-map (stands_for same n d) (number_of same n) ws
      ∙ (map-agree _ (λ u. u) ws (λ u h. stands_for-number_of same n d u (learns-member same [] ws u h))
      ∙ map-id ws)))

  back : (us ws : List X) (f g : X → X) → map f us ≡ ws → map g ws ≡ us → numbers same [] us ≡ numbers same [] ws
  back us ws f g e h =
      let undo : map (λ u. g (f u)) us ≡ us = sym (map-map g f us) ∙ (ap (map g) e ∙ h) in
      sym (numbers-rename same same f g [] us (λ x m. absurd (Memᴰ.not-nil m)) (map-member (λ u. g (f u)) us undo)) ∙ ap (numbers same []) e

  pub numbers-alike : (us ws : List X) → (numbers same [] us ≡ numbers same [] ws) ↔ ((f : X → X) × (g : X → X) × (map f us ≡ ws) × (map g ws ≡ us))
  numbers-alike us ws = (λ e. (across us ws, across ws us, there us ws e, there ws us (sym e)), λ r. back us ws r.0 r.1 r.2 r.3)
