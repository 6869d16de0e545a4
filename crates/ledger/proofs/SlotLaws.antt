-- Laws of `specs/Slots.antt`. No contract cites this file. Assumes nothing.
--     slots_of-fits                   the slots of a ledger lie inside it
--     slots_of-most, slots_of-full    never more than the most; the most, of a ledger that is long enough
--     length-slot_of, slot_of-laid    a slot has 64 bytes; it is a UID written over zeros
--     unslot, unslot-slot_of          the UID of a slot again
--     slot_of-inj                     two UIDs have two slots
--     length-slots_in, slots_in-from, slots_in-new    how many; from a place on; with one more
--     flat-slots_in, flat-append, flat-learn, flat-learns    the bytes of slots
--     Sized, length-flat, sized-slots_in, sized-learn, sized-learns    slots of 64 bytes each
--     free_all-member, slots-undone
--     learns-slots, numbers-slots     THEOREM: numbering among slots is numbering among UIDs, of those without a zero byte
use mathlib.Core.Path.{◌≡◌, refl, sym, ap, ap₂, ◌∙◌}
use mathlib.Core.Logic.{ite}
use mathlib.Core.List.{List, [], ◌∷◌, ◌++◌, map, append_assoc, Memᴰ}
use Prim.Native.Nat.{ℕ, zero, suc, ◌+◌, ◌-◌, ◌*◌, ◌≤◌, ◌<◌}
use native.Mathlib.Omega.{arith}
use borrow.Author.Tests.{ne_eqb}
use lib.Dec.{eqb}
use lib.ListN.{length, take, drop, replicate, length-replicate, length-append, length-drop}
use lib.Seq.{drop-drop, take-add, take-append_seam, length-take-le}
use Rattle.basis.specs.Choice.{fork}
use Rattle.basis.proofs.PiecesLaws.{Free, FreeAll}
use Rattle.buffer.specs.Buffer.{laid}
use Rattle.buffer.proofs.Laws.{laid-whole}
use Rattle.ledger.specs.FirstMet.{learn, learns, numbers, same_uid}
use Rattle.ledger.specs.Slots.{slot_size, most_slots, slots_of, slot_of, slots_in, flat}
use Rattle.ledger.proofs.LaidLaws.{laid-zeros, take-laid-le, drop-laid}
use Rattle.ledger.proofs.RenameLaws.{Undone, learns-rename, numbers-rename}

-- ---- slots_of

pub slots_of-fits : (l : List ℕ) (n : ℕ) → n ≤ slots_of l → slot_size * n ≤ length l
slots_of-fits l n h = omega arith

-- however long the ledger is, and as many where it is long enough
pub slots_of-most : (l : List ℕ) → slots_of l ≤ most_slots
slots_of-most l = omega arith

pub slots_of-full : (l : List ℕ) → slot_size * most_slots ≤ length l → slots_of l ≡ most_slots
slots_of-full l h = omega arith

-- ---- slot_of

pub length-slot_of : (u : List ℕ) → length u ≤ slot_size → length (slot_of u) ≡ slot_size
unfolding slot_of
length-slot_of u h = omega (arith, length-append u (replicate (slot_size - length u) 0), length-replicate {A = ℕ} (slot_size - length u) 0)

-- a key as `key_of` makes it
pub slot_of-laid : (u : List ℕ) → length u ≤ slot_size → laid (replicate slot_size 0) 0 u ≡ slot_of u
unfolding slot_of
slot_of-laid u h = laid-zeros slot_size u h

-- the bytes before the first zero
unfoldable pub unslot : List ℕ → List ℕ
unslot [] = []
unslot (x ∷ xs) = fork (eqb x 0) (λ _. []) (λ _. x ∷ unslot xs)

unslot-zeros : (n : ℕ) → unslot (replicate n 0) ≡ []
unfolding unslot
unslot-zeros zero = refl
unslot-zeros (suc n) = refl

unslot-append : (u : List ℕ) (n : ℕ) → Free 0 u → unslot (u ++ replicate n 0) ≡ u
unfolding unslot
unslot-append [] n f = unslot-zeros n
unslot-append (x ∷ u) n f = rw (ne_eqb x 0 f.0) (ap (λ (l : List ℕ). x ∷ l) (unslot-append u n f.1))

pub unslot-slot_of : (u : List ℕ) → Free 0 u → unslot (slot_of u) ≡ u
unfolding slot_of
unslot-slot_of u f = unslot-append u (slot_size - length u) f

pub slot_of-inj : (u w : List ℕ) → Free 0 u → Free 0 w → slot_of u ≡ slot_of w → u ≡ w
slot_of-inj u w f g e = sym (unslot-slot_of u f) ∙ ap unslot e ∙ unslot-slot_of w g

-- ---- slots_in

pub length-slots_in : (l : List ℕ) (n : ℕ) → length (slots_in l n) ≡ n
unfolding slots_in
length-slots_in l zero = refl
length-slots_in l (suc n) = ap suc (length-slots_in (drop slot_size l) n)

-- the slots from the place i on
pub slots_in-from : (l : List ℕ) (used i : ℕ) → i < used
    → slots_in (drop (slot_size * i) l) (used - i) ≡ take slot_size (drop (slot_size * i) l) ∷ slots_in (drop (slot_size * (i + 1)) l) (used - (i + 1))
unfolding slots_in
slots_in-from l used i h =
    let e : used - i ≡ suc (used - (i + 1)) = omega arith in
    let f : slot_size * i + slot_size ≡ slot_size * (i + 1) = omega arith in
    ap (slots_in (drop (slot_size * i) l)) e
    ∙ ap (λ z. take slot_size (drop (slot_size * i) l) ∷ slots_in z (used - (i + 1))) (drop-drop slot_size (slot_size * i) l ∙ ap (λ n. drop n l) f)

-- a slot more
pub slots_in-new : (l : List ℕ) (n : ℕ) (key : List ℕ) → slot_size * (n + 1) ≤ length l → length key ≡ slot_size
    → slots_in (laid l (slot_size * n) key) (n + 1) ≡ slots_in l n ++ key ∷ []
unfolding slots_in
slots_in-new l zero key h k =
    ap (λ z. z ∷ []) (ap (take slot_size) (laid-whole l key (omega arith)) ∙ (rw (← k) (take-append_seam key (drop (length key) l))))
slots_in-new l (suc n) key h k =
    let e : suc n + 1 ≡ suc (n + 1) = omega arith in
    ap (slots_in (laid l (slot_size * suc n) key)) e
    ∙ ap₂ (λ a (b : List (List ℕ)). a ∷ b) (take-laid-le l slot_size (slot_size * suc n) key (omega arith))
    (ap (λ z. slots_in z (n + 1)) (drop-laid l slot_size (slot_size * n) (slot_size * suc n) key (omega arith))
    ∙ slots_in-new (drop slot_size l) n key (simp length-drop (omega arith)) k)

-- ---- flat

pub flat-slots_in : (l : List ℕ) (n : ℕ) → slot_size * n ≤ length l → flat (slots_in l n) ≡ take (slot_size * n) l
unfolding flat slots_in
flat-slots_in l zero h = refl
flat-slots_in l (suc n) h =
    let e : slot_size * suc n ≡ slot_size + slot_size * n = omega arith in
    ap (λ z. take slot_size l ++ z) (flat-slots_in (drop slot_size l) n (simp length-drop (omega arith)))
    ∙ sym (take-add slot_size (slot_size * n) l) ∙ ap (λ m. take m l) (sym e)

pub flat-append : (ks js : List (List ℕ)) → flat (ks ++ js) ≡ flat ks ++ flat js
unfolding flat
flat-append [] js = refl
flat-append (k ∷ ks) js = ap (λ z. k ++ z) (flat-append ks js) ∙ sym (append_assoc k (flat ks) (flat js))

-- as slots are learnt the bytes grow
pub flat-learn : (ks : List (List ℕ)) (x : List ℕ) → length (flat ks) ≤ length (flat (learn same_uid ks x))
unfolding flat learn
flat-learn [] x = omega arith
flat-learn (k ∷ ks) x = step (same_uid k x) (flat-learn ks x)
  where
    step : (d : Dec (k ≡ x)) → length (flat ks) ≤ length (flat (learn same_uid ks x)) → length (k ++ flat ks) ≤ length (k ++ flat (ite d ks (learn same_uid ks x)))
    step (yes p) ih = omega arith
    step (no n) ih = omega (arith, length-append k (flat ks), length-append k (flat (learn same_uid ks x)), ih)

pub flat-learns : (ks xs : List (List ℕ)) → length (flat ks) ≤ length (flat (learns same_uid ks xs))
unfolding learns
flat-learns ks [] = omega arith
flat-learns ks (x ∷ xs) = omega (arith, flat-learn ks x, flat-learns (learn same_uid ks x) xs)

-- none of ks has another size
abbrev pub Sized : List (List ℕ) → Type 0
Sized [] = Unit {0}
Sized (k ∷ ks) = (length k ≡ slot_size) × Sized ks

pub length-flat : (ks : List (List ℕ)) → Sized ks → length (flat ks) ≡ slot_size * length ks
unfolding flat
length-flat [] h = refl
length-flat (k ∷ ks) h = length-append k (flat ks) ∙ omega (arith, h.0, length-flat ks h.1)

pub sized-slots_in : (l : List ℕ) (n : ℕ) → slot_size * n ≤ length l → Sized (slots_in l n)
unfolding slots_in
sized-slots_in l zero h = tt
sized-slots_in l (suc n) h = (length-take-le slot_size l (omega arith), sized-slots_in (drop slot_size l) n (simp length-drop (omega arith)))

pub sized-learn : (ks : List (List ℕ)) (x : List ℕ) → Sized ks → length x ≡ slot_size → Sized (learn same_uid ks x)
unfolding learn
sized-learn [] x s h = (h, tt)
sized-learn (k ∷ ks) x s h = (s.0, step (same_uid k x) (sized-learn ks x s.1 h))
  where
    step : (d : Dec (k ≡ x)) → Sized (learn same_uid ks x) → Sized (ite d ks (learn same_uid ks x))
    step (yes p) ih = s.1
    step (no n) ih = ih

pub sized-learns : (ks xs : List (List ℕ)) → Sized ks → Sized xs → Sized (learns same_uid ks xs)
unfolding learns
sized-learns ks [] s h = s
sized-learns ks (x ∷ xs) s h = sized-learns (learn same_uid ks x) xs (sized-learn ks x s h.0) h.1

-- ---- numbers among slots

pub free_all-member : (c : ℕ) (us : List (List ℕ)) → FreeAll c us → (u : List ℕ) → Memᴰ u us → Free c u
free_all-member c [] f u x'' = elim x'' [ ]
free_all-member c (w ∷ us) f u (Memᴰ.head p) = rw p f.0
free_all-member c (w ∷ us) f u (Memᴰ.tail m) = free_all-member c us f.1 u m

pub slots-undone : (us : List (List ℕ)) → ((u : List ℕ) → Memᴰ u us → Free 0 u) → Undone same_uid same_uid slot_of unslot us
slots-undone us f u m = unslot-slot_of u (f u m)

module _ (l us : List (List ℕ)) (f : (u : List ℕ) → Memᴰ u l → Free 0 u) (g : (u : List ℕ) → Memᴰ u us → Free 0 u) where
  pub learns-slots : learns same_uid (map slot_of l) (map slot_of us) ≡ map slot_of (learns same_uid l us)
  learns-slots = learns-rename same_uid same_uid slot_of unslot l us (slots-undone l f) (slots-undone us g)

  pub numbers-slots : numbers same_uid (map slot_of l) (map slot_of us) ≡ numbers same_uid l us
  numbers-slots = numbers-rename same_uid same_uid slot_of unslot l us (slots-undone l f) (slots-undone us g)
