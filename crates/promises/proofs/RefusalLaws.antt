-- A refusal is known by its number. No contract cites this file. Assumes nothing.
--     of_number n          the refusal with the number n
--     number-of_number     it has that number, where n is one of the table's
--     number-inj           two refusals with the same number are one
--     fault-one            and so are two faults with the same number and offset
use mathlib.Core.Path.{◌≡◌, refl, sym, ap, ◌∙◌}
use mathlib.Core.List.{List, [], ◌∷◌}
use Prim.Native.Nat.{ℕ, zero, suc, ◌+◌, ◌-◌, ◌≤◌, ◌<◌}
use native.Mathlib.Omega.{arith}
use lib.ListN.{get_or, length}
use Rattle.refusals.specs.Refusals.{number, no_room}
use Rattle.refusals.specs.declared.Fault.{Fault}
use Rattle.refusals.specs.declared.Refusal.{Refusal}
use Rattle.refusals.specs.declared.Refusal.TheVariants.{BadSettings, BadRoot, BadCount, BadList, TooLong, CutShort, BadTag, BadVr, BadLength, TooDeep, BadUids, BadDates, NoSlot, NoRoom}

-- all of them, by rising number
abbrev refusals : List Refusal
refusals =
    BadSettings ∷ BadRoot ∷ BadCount ∷ BadList ∷ TooLong ∷ CutShort ∷ BadTag ∷ BadVr ∷ BadLength ∷ TooDeep ∷ BadUids ∷ BadDates ∷ NoSlot ∷ NoRoom ∷ []

abbrev pub of_number : ℕ → Refusal
of_number n = get_or refusals (n - 1) NoRoom

-- numbered one after the other, from n on
abbrev InOrder : List Refusal → ℕ → Type 0
InOrder [] n = Unit {0}
InOrder (r ∷ rs) n = (number r ≡ n) × InOrder rs (suc n)

in-order : (rs : List Refusal) (n i : ℕ) → InOrder rs n → i < length rs → number (get_or rs i NoRoom) ≡ n + i
in-order [] n i o h = absurd (omega (arith, h))
in-order (r ∷ rs) n zero o h = omega (arith, o.0)
in-order (r ∷ rs) n (suc i) o h = let e = in-order rs (suc n) i o.1 (omega (arith, h)) in omega (arith, e)

pub number-of_number : (n : ℕ) → 1 ≤ n → n ≤ no_room → number (of_number n) ≡ n
number-of_number n low high =
    let e = in-order refusals 1 (n - 1) (refl, (refl, (refl, (refl, (refl, (refl, (refl, (refl, (refl, (refl, (refl, (refl, (refl, (refl, tt)))))))))))))) (omega (arith, low, high)) in
    omega (arith, e, low)

of_number-number : (r : Refusal) → of_number (number r) ≡ r
of_number-number BadSettings = refl
of_number-number BadRoot = refl
of_number-number BadCount = refl
of_number-number BadList = refl
of_number-number TooLong = refl
of_number-number CutShort = refl
of_number-number BadTag = refl
of_number-number BadVr = refl
of_number-number BadLength = refl
of_number-number TooDeep = refl
of_number-number BadUids = refl
of_number-number BadDates = refl
of_number-number NoSlot = refl
of_number-number NoRoom = refl

pub number-inj : (r q : Refusal) → number r ≡ number q → r ≡ q
number-inj r q e = sym (of_number-number r) ∙ ap of_number e ∙ of_number-number q

pub fault-one : (f g : Fault) → number f.refusal ≡ number g.refusal → f.offset ≡ g.offset → f ≡ g
fault-one f g n o = let e = number-inj f.refusal g.refusal n in λ i. record { refusal = e i; offset = o i }
