-- Laws of `specs/SlotFor.antt`. No contract cites this file. Assumes nothing.
--     find-some, find-none                    what `find` tells
--     Answered                                the answer and the ledger are those that were defined
--     answer-old, answer-new, answer-full     the ways out of `slot_for`: the slot is in use; it is the next; no slot is left
--     Slotted, SlotIs, SlotFits               what a caller needs of an answer and of the ledger afterwards, by cases
--     slot_for-is                             and has
--     cleared-flat                            slots and then zeros: the ledger after `zero_rest`
use mathlib.Core.Path.{◌≡◌, refl, sym, ap, ap₂, ◌∙◌, subst}
use mathlib.Core.List.{List, [], ◌∷◌, ◌++◌, append-nil}
use Prim.Native.Nat.{ℕ, ◌+◌, ◌-◌, ◌*◌, ◌≤◌, ◌<◌}
use native.Mathlib.Decide.{dec_lt}
use native.Mathlib.Omega.{arith}
use mathlib.Core.Bool.{Bool, true, false}
use borrow.Author.Tests.{le-leb, lt-leb, ltb-true, ltb-false}
use Rattle.basis.specs.Choice.{pick}
use lib.Dec.{leb, ltb}
use Rattle.std.specs.Prelude.{Option, None, Some}
use lib.ListN.{length, take, replicate, length-append}
use lib.Seq.{length-take-le}
use Rattle.buffer.specs.Buffer.{laid, cleared}
use Rattle.buffer.proofs.Laws.{laid-laid, length-laid, take-laid, cleared-laid}
use Rattle.ledger.specs.FirstMet.{first_at, number_of, learn, same_uid}
use Rattle.ledger.specs.Slots.{slot_size, slots_of, slots_in, flat}
use Rattle.ledger.specs.SlotFor.{slots_with, find, numbered, slot_for, ledger_for}
use Rattle.ledger.specs.declared.Slot.{Slot}
use Rattle.ledger.proofs.FirstMetLaws.{first_at-le, first_at-learn, learn-old, learn-new}
use Rattle.ledger.proofs.LaidLaws.{laid-same}
use Rattle.ledger.proofs.SlotLaws.{slots_of-fits, length-slots_in, slots_in-new, flat-slots_in, flat-append, Sized, length-flat}

-- ---- find

-- what was found, or that nothing was
abbrev Found : List ℕ → ℕ → List ℕ → Option ℕ → Type 0
Found l used x None = used ≤ first_at same_uid (slots_in l used) x
Found l used x (Some at) = (at ≡ first_at same_uid (slots_in l used) x) × (at < used)

found : (l : List ℕ) (used : ℕ) (x : List ℕ) → Found l used x (find l used x)
unfolding find
found l used x = step (ltb (first_at same_uid (slots_in l used) x) used) refl
  where
    step : (b : Bool) → ltb (first_at same_uid (slots_in l used) x) used ≡ b → Found l used x (pick b (Some (first_at same_uid (slots_in l used) x)) None)
    step true h = (refl, ltb-true (first_at same_uid (slots_in l used) x) used h)
    step false h = ltb-false (first_at same_uid (slots_in l used) x) used h

pub find-some : (l : List ℕ) (used : ℕ) (x : List ℕ) (at : ℕ) → Some at ≡ find l used x → (at ≡ first_at same_uid (slots_in l used) x) × (at < used)
find-some l used x at e = subst (λ r. Found l used x r) (sym e) (found l used x)

pub find-none : (l : List ℕ) (used : ℕ) (x : List ℕ) → None ≡ find l used x → used ≤ first_at same_uid (slots_in l used) x
find-none l used x e = subst (λ r. Found l used x r) (sym e) (found l used x)

-- ---- slot_for and ledger_for

-- the answer r and the ledger l' are those that were defined
abbrev pub Answered : List ℕ → ℕ → List ℕ → Option Slot → List ℕ → Type 0
Answered l used x r l' = (r ≡ slot_for l used x) × (l' ≡ ledger_for l used x)

-- what a caller needs: in l, with `used` slots in use, x was asked for; r was answered, and l' was left
abbrev pub SlotIs : List (List ℕ) → List ℕ → List ℕ → List ℕ → Option Slot → Type 0
SlotIs ks l x l' None = (l' ≡ l) × (slots_of l < length (learn same_uid ks x))
SlotIs ks l x l' (Some s) =
    (s.number ≡ number_of same_uid (learn same_uid ks x) x) × (s.used ≡ length (learn same_uid ks x)) × (l' ≡ laid l 0 (flat (learn same_uid ks x)))
    × (slots_in l' s.used ≡ learn same_uid ks x)

abbrev pub SlotFits : ℕ → ℕ → Option Slot → Type 0
SlotFits used most None = Unit {0}
SlotFits used most (Some s) = (used ≤ s.used) × (s.used ≤ most) × (1 ≤ s.number) × (s.number ≤ s.used)

pub record Slotted (l l' : List ℕ) (used : ℕ) (x : List ℕ) (r : Option Slot) : Type 0 where
  pub size : length l' ≡ length l
  pub kept : take (slot_size * used) l' ≡ take (slot_size * used) l
  pub fits : SlotFits used (slots_of l) r
  pub slot : SlotIs (slots_in l used) l x l' r

module _ (l : List ℕ) (used : ℕ) (x : List ℕ) (size : length x ≡ slot_size) (room : used ≤ slots_of l) where
  inside : slot_size * used ≤ length l
  inside = slots_of-fits l used room

  -- slots that fit
  fitting : length (slots_with l used x) ≤ slots_of l → (k m : ℕ) (l' : List ℕ) → k ≡ number_of same_uid (slots_with l used x) x → m ≡ length (slots_with l used x)
      → l' ≡ laid l 0 (flat (slots_with l used x)) → Answered l used x (numbered k m) l'
  unfolding slot_for ledger_for
  fitting h k m l' e f g =
      let b : leb (length (slots_with l used x)) (slots_of l) ≡ _ = le-leb (length (slots_with l used x)) (slots_of l) h in
      (ap₂ numbered e f ∙ sym (rw b refl), g ∙ sym (rw b refl))

  module _ (at : ℕ) (e : at ≡ first_at same_uid (slots_in l used) x) where
    module _ (lt : at < used) where
      old : slots_with l used x ≡ slots_in l used
      old = learn-old same_uid (slots_in l used) x (omega (arith, e, length-slots_in l used))

      old-number : at + 1 ≡ number_of same_uid (slots_with l used x) x
      unfolding number_of
      old-number = omega (arith, e, first_at-learn same_uid (slots_in l used) x)

      old-count : used ≡ length (slots_with l used x)
      old-count = sym (ap length old ∙ length-slots_in l used)

      old-ledger : l ≡ laid l 0 (flat (slots_with l used x))
      old-ledger = sym (ap (λ z. laid l 0 (flat z)) old ∙ ap (laid l 0) (flat-slots_in l used inside) ∙ laid-same l (slot_size * used))

      pub answer-old : Answered l used x (numbered (at + 1) used) l
      answer-old = fitting (omega (arith, old-count, room)) (at + 1) used l old-number old-count old-ledger

      slotted-old : Slotted l l used x (numbered (at + 1) used)
      slotted-old = record { size = refl; kept = refl; fits = omega arith; slot = (old-number, old-count, old-ledger, sym old) }

    module _ (no_lt : used ≤ at) where
      new : slots_with l used x ≡ slots_in l used ++ x ∷ []
      new = learn-new same_uid (slots_in l used) x (omega (arith, e, length-slots_in l used))

      new-count : used + 1 ≡ length (slots_with l used x)
      new-count = sym (ap length new ∙ length-append (slots_in l used) (x ∷ []) ∙ ap (λ z. z + 1) (length-slots_in l used))

      module _ (more : used < slots_of l) where
        new-number : used + 1 ≡ number_of same_uid (slots_with l used x) x
        unfolding number_of
        new-number = omega (arith, e, first_at-learn same_uid (slots_in l used) x, first_at-le same_uid (slots_in l used) x, length-slots_in l used)

        new-ledger : laid l (slot_size * used) x ≡ laid l 0 (flat (slots_with l used x))
        unfolding flat
        new-ledger =
            let f : flat (slots_in l used) ≡ take (slot_size * used) l = flat-slots_in l used inside in
            let g : 0 + length (take (slot_size * used) l) ≡ slot_size * used = omega (arith, length-take-le (slot_size * used) l inside) in
            sym (ap (λ z. laid l 0 (flat z)) new ∙ ap (laid l 0) (flat-append (slots_in l used) (x ∷ []) ∙ ap₂ ◌++◌ f (append-nil x))
            ∙ sym (laid-laid l 0 (take (slot_size * used) l) x) ∙ ap₂ (λ a b. laid a b x) (laid-same l (slot_size * used)) g)

        -- as the copy leaves it
        pub answer-new : (l' : List ℕ) → l' ≡ laid l (slot_size * used) x → Answered l used x (numbered (used + 1) (used + 1)) l'
        answer-new l' f =
            fitting (omega (arith, new-count, more)) (used + 1) (used + 1) l' new-number new-count
            (f ∙ new-ledger)

        slotted-new : Slotted l (laid l (slot_size * used) x) used x (numbered (used + 1) (used + 1))
        slotted-new = record {
          size = length-laid l (slot_size * used) x;
          kept = take-laid l (slot_size * used) x;
          fits = omega arith;
          slot = (new-number, new-count, new-ledger, slots_in-new l used x (slots_of-fits l (used + 1) (omega arith)) size ∙ sym new);
        }

      module _ (none-left : slots_of l ≤ used) where
        pub answer-full : Answered l used x None l
        unfolding slot_for ledger_for
        answer-full =
            let b : leb (length (slots_with l used x)) (slots_of l) ≡ _ = lt-leb (length (slots_with l used x)) (slots_of l) (omega (arith, new-count)) in
            (sym (rw b refl), sym (rw b refl))

        slotted-full : Slotted l l used x None
        slotted-full = record { size = refl; kept = refl; fits = tt; slot = (refl, omega (arith, new-count)) }

  -- one answer for each question
  moved : (r r₀ : Option Slot) (l' l₀ : List ℕ) → Answered l used x r₀ l₀ → Slotted l l₀ used x r₀ → Answered l used x r l' → Slotted l l' used x r
  moved r r₀ l' l₀ a s b =
      subst (λ z. Slotted l l' used x z) (a.0 ∙ sym b.0) (subst (λ z. Slotted l z used x r₀) (a.1 ∙ sym b.1) s)

  pub slot_for-is : (r : Option Slot) (l' : List ℕ) → Answered l used x r l' → Slotted l l' used x r
  slot_for-is r l' a = step (first_at same_uid (slots_in l used) x) refl (dec_lt (first_at same_uid (slots_in l used) x) used) (dec_lt used (slots_of l))
    where
      step : (at : ℕ) → at ≡ first_at same_uid (slots_in l used) x → Dec (first_at same_uid (slots_in l used) x < used) → Dec (used < slots_of l) → Slotted l l' used x r
      step at e (yes p) d = moved r (numbered (at + 1) used) l' l (answer-old at e (omega arith)) (slotted-old at e (omega arith)) a
      step at e (no n) (yes p) =
          moved r (numbered (used + 1) (used + 1)) l' (laid l (slot_size * used) x)
          (answer-new at e (omega arith) p (laid l (slot_size * used) x) refl)
          (slotted-new at e (omega arith) p) a
      step at e (no n) (no m) = moved r None l' l (answer-full at e (omega arith) (omega arith)) (slotted-full at e (omega arith) (omega arith)) a

-- ---- cleared

pub cleared-flat : (l : List ℕ) (ks : List (List ℕ)) → Sized ks → slot_size * length ks ≤ length l
    → cleared (laid l 0 (flat ks)) (slot_size * length ks) ≡ flat ks ++ replicate (length l - slot_size * length ks) 0
cleared-flat l ks s h = rw (← length-flat ks s) (cleared-laid l (flat ks) (omega (arith, length-flat ks s)))
