-- The loops of `same_slot` and `find`: what holds at the head of each, and each way on or out of it. No contract cites this file.
-- Assumes nothing.
--     Compared                                  the flag tells whether the bytes before i agree
--     compared-start, -differ, -equal, -end
--     Searched                                  the place to be found is i more than the one in the slots from i on
--     searched-start, -found, -more, -end
use mathlib.Core.Path.{◌≡◌, refl, sym, ap, ◌∙◌}
use mathlib.Core.Bool.{Bool, true, false, true≢false, false≢true}
use mathlib.Core.List.{List}
use Prim.Native.Nat.{ℕ, ◌+◌, ◌-◌, ◌*◌, ◌≤◌, ◌<◌}
use native.Mathlib.Omega.{arith}
use borrow.Author.Count.{below_more}
use borrow.Author.Tests.{lt-ltb, le-ltb}
use lib.ListN.{length, take, drop, get_or}
use lib.Seq.{ext_get_or}
use Rattle.std.specs.Prelude.{None, Some}
use Rattle.basis.specs.Choice.{pick}
use Rattle.ledger.specs.FirstMet.{first_at, same_uid}
use Rattle.ledger.specs.Slots.{slot_size, slots_in}
use Rattle.ledger.specs.SlotFor.{holds, find}
use Rattle.ledger.proofs.FirstMetLaws.{first_at-yes, first_at-no}
use Rattle.ledger.proofs.SlotLaws.{slots_in-from}

-- ---- same_slot

-- a flag that tells whether something holds
abbrev Told : Bool → Type 0 → Type 0
Told true P = P
Told false P = P → ⊥

abbrev Alike : List ℕ → List ℕ → ℕ → Type 0
Alike slot key i = (k : ℕ) → k < i → get_or slot k 0 ≡ get_or key k 0

pub record Compared (slot key : List ℕ) (i : ℕ) (same : Bool) : Type 0 where
  pub told : Told same (Alike slot key i)

pub compared-start : (slot key : List ℕ) → Compared slot key 0 true
compared-start slot key = record { told = λ k h. absurd (omega arith) }

module _ {slot key : List ℕ} {i : ℕ} {same : Bool} (w : Compared slot key i same) where
  pub compared-differ : {b : Bool} → (get_or slot i 0 ≡ get_or key i 0 → ⊥) → b ≡ false → Compared slot key (i + 1) b
  compared-differ n e = rw e record { told = λ a. n (a i (omega arith)) }

  pub compared-equal : {b : Bool} → get_or slot i 0 ≡ get_or key i 0 → b ≡ same → Compared slot key (i + 1) b
  compared-equal f e = rw e record { told = step same w.told }
    where
      step : (b : Bool) → Told b (Alike slot key i) → Told b (Alike slot key (i + 1))
      step true a = below_more (λ k. get_or slot k 0 ≡ get_or key k 0) i a f
      step false n = λ a. n (λ k h. a k (omega arith))

  pub compared-end : length slot ≡ i → length key ≡ i → same ≡ holds (same_uid slot key)
  compared-end h k = step same w.told (same_uid slot key)
    where
      step : (b : Bool) → Told b (Alike slot key i) → (d : Dec (slot ≡ key)) → b ≡ holds d
      step true a (yes p) = refl
      step true a (no n) = absurd (n (ext_get_or 0 slot key (omega arith) (λ j lt. a j (omega arith))))
      step false n (yes p) = absurd (n (λ j lt. ap (λ z. get_or z j 0) p))
      step false n (no m) = refl

-- ---- find

holds-yes : {P : Type 0} (d : Dec P) → true ≡ holds d → P
holds-yes (yes p) e = p
holds-yes (no n) e = absurd (true≢false e)

holds-no : {P : Type 0} (d : Dec P) → false ≡ holds d → P → ⊥
holds-no (yes p) e q = false≢true e
holds-no (no n) e q = n q

pub record Searched (l : List ℕ) (used : ℕ) (key : List ℕ) (i : ℕ) : Type 0 where
  pub rest : first_at same_uid (slots_in l used) key ≡ i + first_at same_uid (slots_in (drop (slot_size * i) l) (used - i)) key

pub searched-start : (l : List ℕ) (used : ℕ) (key : List ℕ) → Searched l used key 0
searched-start l used key =
    let e : used - 0 ≡ used = omega arith in
    let f : 0 + first_at same_uid (slots_in l used) key ≡ first_at same_uid (slots_in l used) key = omega arith in
    record { rest = rw e (sym f) }

is-found : (l : List ℕ) (used : ℕ) (key : List ℕ) (i : ℕ) → i ≡ first_at same_uid (slots_in l used) key → i < used → Some i ≡ find l used key
unfolding find
is-found l used key i e lt =
    ap Some e ∙ sym (ap (λ b. pick b (Some (first_at same_uid (slots_in l used) key)) None) (lt-ltb (first_at same_uid (slots_in l used) key) used (omega arith)))

is-not-found : (l : List ℕ) (used : ℕ) (key : List ℕ) → used ≤ first_at same_uid (slots_in l used) key → None ≡ find l used key
unfolding find
is-not-found l used key h =
    sym (ap (λ b. pick b (Some (first_at same_uid (slots_in l used) key)) None) (le-ltb (first_at same_uid (slots_in l used) key) used h))

module _ {l : List ℕ} {used : ℕ} {key : List ℕ} {i : ℕ} (w : Searched l used key i) where
  pub searched-end : used ≤ i → None ≡ find l used key
  searched-end h = is-not-found l used key (omega (arith, w.rest))

  module _ (lt : i < used) {r : Bool} (n : ℕ) (size : n ≡ slot_size) (is : r ≡ holds (same_uid (take n (drop (slot_size * i) l)) key)) where
    told : r ≡ holds (same_uid (take slot_size (drop (slot_size * i) l)) key)
    told = is ∙ ap (λ k. holds (same_uid (take k (drop (slot_size * i) l)) key)) size

    pub searched-found : r ≡ true → Some i ≡ find l used key
    searched-found e =
        is-found l used key i
        (omega (
          arith,
          w.rest,
          ap (λ z. first_at same_uid z key) (slots_in-from l used i lt)
              ∙ first_at-yes same_uid _ _ key (holds-yes (same_uid (take slot_size (drop (slot_size * i) l)) key) (sym e ∙ told)),
        ))
        lt

    pub searched-more : r ≡ false → Searched l used key (i + 1)
    searched-more e = record {
      rest =
          omega (
            arith,
            w.rest,
            ap (λ z. first_at same_uid z key) (slots_in-from l used i lt)
                ∙ first_at-no same_uid _ _ key (holds-no (same_uid (take slot_size (drop (slot_size * i) l)) key) (sym e ∙ told)),
          );
    }
