-- How promises of the form `Wrote` are put together, whatever is to be passed: something is done first, the rest is passed after it, a loop goes on.
-- The walk's own laws cite these. Assumes nothing.
--     err-of, ok-of    what a result is of which only `ok` was asked
--     wrote-first      something is done before what another function passes
--     turn-past, turn-bound    where a walk went on to
--     Splits           what is to be passed is one thing, and then another
--     wrote-stop       where the first of two comes to no end, neither do both
--     Going            the invariant of a loop: what was to be passed at its start is what is to be passed from here on
--     going-start, going-turn, going-end    where the loop begins; a turn of it; the last one
use Rattle.std.specs.Prelude.{None, Some, Result, Ok, Err}
use Rattle.std.specs.Result.{result_ok}
use Rattle.std.proofs.lemmas.Option.{none-some, same_Some}
use mathlib.Core.Path.{◌≡◌, refl, sym, ap, ◌∙◌}
use mathlib.Core.List.{List}
use Prim.Native.Nat.{ℕ, ◌+◌, ◌-◌, ◌*◌, ◌≤◌}
use native.Mathlib.Omega.{arith}
use lib.ListN.{length, take}
use Rattle.ledger.specs.Slots.{slot_size, slots_of}
use Rattle.write_state.specs.Bounds.{per_byte}
use Rattle.write_state.specs.Passed.{State}
use Rattle.write_state.specs.Wrote.{met, Holds, Ends, Within, Pass, Wrote, Walk}
use Rattle.write_state.specs.declared.Progress.{Progress}
use Rattle.write_state.proofs.HoldsLaws.{slots-same}

-- ---- an answer that is asked only whether it is one

pub err-of : {T E : Type 0} (h : Result T E) → result_ok h ≡ None → (e : E) × (h ≡ Err e)
err-of (Ok x) q = absurd (none-some x (sym q))
err-of (Err e) q = (e, refl)

pub ok-of : {T E : Type 0} (h : Result T E) (x : T) → result_ok h ≡ Some x → h ≡ Ok x
ok-of (Ok y) x q = ap Ok (same_Some y x q)
ok-of (Err e) x q = absurd (none-some x q)

widen : (from end more one more' one' : ℕ) (l : List ℕ) (t u : Progress) (r : Walk) (extra count : ℕ) → u.used ≡ t.used → u.pos ≤ t.pos + extra
    → met u ≤ met t + count → more + extra ≤ more' → one + count ≤ one' → Within from end more one l u r → Within from end more' one' l t r
widen from end more one more' one' l t u None extra count q p m a b c = tt
widen from end more one more' one' l t u (Some (past, v)) extra count q p m a b c = omega arith

module _ {T S : Pass} {from end more one more' one' : ℕ} {o o₁ o₂ l l₂ : List ℕ} {t u : Progress} {r : Walk} where
  pub wrote-first : (f : State → State) (extra count : ℕ) → ((next : ℕ) (st st' : State) → T next st st' → S next (f st) st')
      → ((out₀ l₀ : List ℕ) (base : ℕ) (st : State) → Holds out₀ l₀ base o l t st → Holds out₀ l₀ base o₁ l u (f st))
      → length o₁ ≡ length o → u.used ≡ t.used → u.pos ≤ t.pos + extra → met u ≤ met t + count → more + extra ≤ more' → one + count ≤ one'
      → Wrote S from end more one o₁ o₂ l l₂ u r → Wrote T from end more' one' o o₂ l l₂ t r
  wrote-first f extra count to-pass holds size q p m a b x = record {
    out_size = x.out_size ∙ size;
    ledger_size = x.ledger_size;
    slots_kept = rw q at x.slots_kept;
    bounds = widen from end more one more' one' l t u r extra count q p m a b x.bounds;
    right = λ next st st' y out₀ l₀ base h. x.right next (f st) st' (to-pass next st st' y) out₀ l₀ base (holds out₀ l₀ base st h);
  }

-- where a walk went on to
module _ {T : Pass} {from end more one : ℕ} {o o' l l' : List ℕ} {t : Progress} {r : Walk} (x : Wrote T from end more one o o' l l' t r) (past : ℕ) (u : Progress) (e : r ≡ Some (past, u)) where
  pub turn-past : from ≤ past
  turn-past = let b : Within from end more one l t (Some (past, u)) = rw e at x.bounds in b.0

  pub turn-bound : u.pos ≤ t.pos + per_byte * (end - from) + more
  turn-bound = let b : Within from end more one l t (Some (past, u)) = rw e at x.bounds in omega arith

-- first S, up to a place that is at least `from`, and then R from there
abbrev pub Splits : Pass → Pass → (ℕ → Pass) → ℕ → Type 0
Splits T S R from =
    (next : ℕ) (st st' : State) → T next st st'
    → (n : ℕ) × (mid : State) × S n st mid × (from ≤ n → R n next mid st') × (length mid.slots ≤ length st'.slots)

module _ {T S : Pass} {R : ℕ → Pass} {at from end stop more one more' one' : ℕ} {o o₁ l l₁ : List ℕ} {t : Progress} where
  pub wrote-stop : Splits T S R from → {r : Walk} → Wrote S from stop more one o o₁ l l₁ t r → r ≡ None → Wrote T at end more' one' o o₁ l l₁ t None
  wrote-stop split x e = record {
    out_size = x.out_size;
    ledger_size = x.ledger_size;
    slots_kept = x.slots_kept;
    bounds = tt;
    right = λ next st st' y out₀ l₀ base h.
        let s = split next st st' y in
        let full : Ends out₀ l₀ base o₁ l₁ s.0 s.1 None = rw e at (x.right s.0 st s.1 s.2 out₀ l₀ base h) in
        omega (arith, full, s.4);
  }

pub record Going (T₀ T : Pass) (from at end : ℕ) (o o₁ l l₁ : List ℕ) (t t₁ : Progress) : Type 0 where
  pub ge : from ≤ at
  pub le : at ≤ end
  pub out_size : length o₁ ≡ length o
  pub ledger_size : length l₁ ≡ length l
  pub slots_kept : take (slot_size * t.used) l₁ ≡ take (slot_size * t.used) l
  pub bound : t₁.pos ≤ t.pos + per_byte * (at - from)
  pub counted : met t₁ ≤ met t + (at - from)
  pub risen : t.used ≤ t₁.used
  pub fits : t₁.used ≤ slots_of l₁
  pub run : (next : ℕ) (st st' : State) → T₀ next st st' → (out₀ l₀ : List ℕ) (base : ℕ) → Holds out₀ l₀ base o l t st
      → (mid : State) × T next mid st' × Holds out₀ l₀ base o₁ l₁ t₁ mid

pub going-start : {T : Pass} {from end : ℕ} {o l : List ℕ} {t : Progress} → from ≤ end → t.used ≤ slots_of l → Going T T from from end o o l l t t
going-start h r = record {
  ge = omega arith;
  le = h;
  out_size = refl;
  ledger_size = refl;
  slots_kept = refl;
  bound = omega arith;
  counted = omega arith;
  risen = omega arith;
  fits = r;
  run = λ next st st' x out₀ l₀ base g. (st, x, g);
}

module _ {T₀ T : Pass} {from at end : ℕ} {o o₁ l l₁ : List ℕ} {t t₁ : Progress} (g : Going T₀ T from at end o o₁ l l₁ t t₁) where
  going-bounds : (more one : ℕ) (r : Walk) → Within at end more one l₁ t₁ r → Within from end more one l t r
  going-bounds more one None b = tt
  going-bounds more one (Some (past, u)) b = omega (arith, g.ge, g.le, g.bound, g.counted, g.risen, g.ledger_size)

  -- what is done at the end of the loop, with what is left
  pub going-end : {more one : ℕ} {o₂ l₂ : List ℕ} {r : Walk} → Wrote T at end more one o₁ o₂ l₁ l₂ t₁ r → Wrote T₀ from end more one o o₂ l l₂ t r
  going-end {more} {one} {o₂} {l₂} {r} x = record {
    out_size = x.out_size ∙ g.out_size;
    ledger_size = x.ledger_size ∙ g.ledger_size;
    slots_kept = slots-same t.used t₁.used g.risen l l₁ l₂ g.slots_kept x.slots_kept;
    bounds = going-bounds more one r x.bounds;
    right = λ next st st' y out₀ l₀ base h. let m = g.run next st st' y out₀ l₀ base h in x.right next m.0 st' m.1 out₀ l₀ base m.2;
  }

  module _ {S : Pass} {R : ℕ → Pass} {body stop more one : ℕ} {o₂ l₂ : List ℕ} {r : Walk} (split : Splits T S R body) (x : Wrote S body stop more one o₁ o₂ l₁ l₂ t₁ r) where
    pub going-turn : (past : ℕ) (u : Progress) → r ≡ Some (past, u) → at ≤ body → stop ≤ end → more ≤ per_byte * (body - at) → one ≤ body - at
        → Going T₀ (R past) from past end o o₂ l l₂ t u
    going-turn past u e up in_end a b =
        let c : Within body stop more one l₁ t₁ (Some (past, u)) = rw e at x.bounds in record {
          ge = omega (arith, g.ge);
          le = omega arith;
          out_size = x.out_size ∙ g.out_size;
          ledger_size = x.ledger_size ∙ g.ledger_size;
          slots_kept = slots-same t.used t₁.used g.risen l l₁ l₂ g.slots_kept x.slots_kept;
          bound = omega (arith, g.ge, g.bound);
          counted = omega (arith, g.ge, g.counted);
          risen = omega (arith, g.risen);
          fits = omega (arith, x.ledger_size);
          run = λ next st st' y out₀ l₀ base h.
              let m = g.run next st st' y out₀ l₀ base h in
              let s = split next m.0 st' m.1 in
              let d : Ends out₀ l₀ base o₂ l₂ s.0 s.1 (Some (past, u)) = rw e at (x.right s.0 m.0 s.1 s.2 out₀ l₀ base m.2) in
              (s.1, rw d.0 (s.3 (omega (arith, d.0))), d.1);
        }
