-- Laws of `specs/Value.antt`, on values of UIDs. No contract cites this file. Assumes nothing.
--     Short n us, Filled us             none of us is longer than n; none is empty
--     uids-are                          what the UIDs of a value are like: no zero byte, no backslash, short
--     uids_of-some, uids_of-odd         a value with bytes; one of odd length
--     uids_of-joined                    UIDs that were written are read back
--     UidsAre, uids_of-are              a value that obeys the rule is the one text of its UIDs
--     uids_of-found                     one that does not break the rule holds UIDs
--     uids_of-inj                       two values of the same UIDs are one value: padding is forced (K3)
--     value_of-even, value_of-length    the text of UIDs is even, and not long
--     value_of-inj                      two lists of UIDs have two texts
use mathlib.Core.Path.{◌≡◌, refl, sym, ap, ◌∙◌}
use mathlib.Core.Bool.{Bool, true, false, ◌&&◌, true≢false, and-eq-true_iff}
use Rattle.std.specs.Prelude.{Option, None, Some}
use Rattle.std.proofs.lemmas.Option.{none-some, same_Some}
use mathlib.Core.List.{List, [], ◌∷◌, ◌++◌}
use Prim.Native.Nat.{ℕ, ◌+◌, ◌*◌, ◌%◌, ◌≤◌, ◌<◌}
use native.Mathlib.Omega.{arith}
use borrow.Author.Tests.{eqb-true, eq-eqb, ne_eqb, leb-true, le-leb}
use lib.Dec.{eqb, leb}
use lib.ListN.{length, length-append}
use Rattle.basis.specs.Choice.{pick, every, is_none}
use Rattle.basis.specs.Pieces.{backslash, pieces, after, joined}
use Rattle.basis.proofs.PiecesLaws.{Free, FreeAll, free-append, pieces-joined, joined-pieces}
use Rattle.uid.specs.Uid.{is_uid, longest_uid}
use Rattle.uid.specs.Value.{most_uids, if_uids, trimmed, uids_of, uids_fault, zero_pad, value_of}
use Rattle.uid.proofs.UidLaws.{uid_upto-is}
use Rattle.uid.proofs.PadLaws.{length-padded, trimmed-zero_pad, zero_pad-trimmed}

-- ---- Short

-- none of us is longer than n
abbrev pub Short : ℕ → List (List ℕ) → Type 0
Short n [] = Unit {0}
Short n (u ∷ us) = (length u ≤ n) × Short n us

-- ---- uids_of and value_of

-- what each UID is like, of several
pub uids-are : (us : List (List ℕ)) → every is_uid us ≡ true → FreeAll 0 us × FreeAll backslash us × Short longest_uid us
unfolding every
uids-are [] e = (tt, tt, tt)
uids-are (u ∷ us) e =
    let b = (and-eq-true_iff (is_uid u) (every is_uid us)).0 e in
    let h = uid_upto-is longest_uid u b.0 in
    let ih = uids-are us b.1 in
    ((h.no-zero, ih.0), (h.no-backslash, ih.1), (h.upto, ih.2))

pub value_of-even : (us : List (List ℕ)) → length (value_of us) % 2 ≡ 0
unfolding value_of
value_of-even us = (length-padded (joined us)).0

after-free : (us : List (List ℕ)) → FreeAll 0 us → Free 0 (after us)
unfolding after
after-free [] f = tt
after-free (u ∷ us) f = (omega arith, free-append 0 u (after us) f.0 (after-free us f.1))

joined-free : (us : List (List ℕ)) → FreeAll 0 us → Free 0 (joined us)
unfolding joined
joined-free [] f = tt
joined-free (u ∷ us) f = free-append 0 u (after us) f.0 (after-free us f.1)

-- a value that is not empty
pub uids_of-some : (v : List ℕ) → 0 < length v → length v % 2 ≡ 0 → uids_of v ≡ if_uids (pieces (trimmed v))
unfolding uids_of
uids_of-some [] h e = absurd (omega arith)
uids_of-some (x ∷ v) h e = rw (eq-eqb (length (x ∷ v) % 2) 0 e) refl

pub uids_of-odd : (v : List ℕ) → (length v % 2 ≡ 0 → ⊥) → uids_of v ≡ None
unfolding uids_of
uids_of-odd [] n = absurd (n refl)
uids_of-odd (x ∷ v) n = rw (ne_eqb (length (x ∷ v) % 2) 0 n) refl

if_uids-yes : (us : List (List ℕ)) → length us ≤ most_uids → every is_uid us ≡ true → if_uids us ≡ Some us
unfolding if_uids
if_uids-yes us h e = rw (le-leb (length us) most_uids h, e) refl

value_of-some : (u : List ℕ) (us : List (List ℕ)) → 1 ≤ length u → 0 < length (value_of (u ∷ us))
unfolding value_of joined
value_of-some u us h = simp length-append (omega arith)

pub uids_of-joined : (us : List (List ℕ)) → length us ≤ most_uids → every is_uid us ≡ true → uids_of (value_of us) ≡ Some us
unfolding uids_of value_of joined zero_pad every
uids_of-joined [] h e = refl
uids_of-joined (u ∷ us) h e =
    let a = uids-are (u ∷ us) e in
    let b = (and-eq-true_iff (is_uid u) (every is_uid us)).0 e in
    uids_of-some (value_of (u ∷ us)) (value_of-some u us (uid_upto-is longest_uid u b.0).some) (value_of-even (u ∷ us))
    ∙ ap (λ w. if_uids (pieces w)) (trimmed-zero_pad (joined (u ∷ us)) (joined-free (u ∷ us) a.0))
    ∙ ap if_uids (pieces-joined u us a.1)
    ∙ if_uids-yes (u ∷ us) h e

pub record UidsAre (v : List ℕ) (us : List (List ℕ)) : Type 0 where
  pub value : v ≡ value_of us
  pub few : length us ≤ most_uids
  pub uids : every is_uid us ≡ true
  pub cut : 0 < length v → us ≡ pieces (trimmed v)

if_uids-is : (ps us : List (List ℕ)) → if_uids ps ≡ Some us → (ps ≡ us) × (length us ≤ most_uids) × (every is_uid us ≡ true)
unfolding if_uids
if_uids-is ps us e = step (leb (length ps) most_uids) refl (every is_uid ps) refl e
  where
    step : (a : Bool) → leb (length ps) most_uids ≡ a → (b : Bool) → every is_uid ps ≡ b → ◌≡◌ {A = Option (List (List ℕ))} (pick (a && b) (Some ps) None) (Some us)
        → (ps ≡ us) × (length us ≤ most_uids) × (every is_uid us ≡ true)
    step true f true g k =
        let i : ps ≡ us = same_Some ps us k in
        (i, omega (arith, leb-true (length ps) most_uids f, ap length i), ap (every is_uid) (sym i) ∙ g)
    step true f false g k = absurd (none-some us k)
    step false f b g k = absurd (none-some us k)

pub uids_of-are : (v : List ℕ) (us : List (List ℕ)) → uids_of v ≡ Some us → UidsAre v us
unfolding uids_of value_of joined zero_pad every
uids_of-are [] us e =
    let i : [] ≡ us = same_Some [] us e in
    rw (← i) record { value = refl; few = omega arith; uids = refl; cut = λ h. absurd (omega arith) }
uids_of-are (x ∷ v) us e = step (eqb (length (x ∷ v) % 2) 0) refl e
  where
    step : (b : Bool) → eqb (length (x ∷ v) % 2) 0 ≡ b → ◌≡◌ {A = Option (List (List ℕ))} (pick b (if_uids (pieces (trimmed (x ∷ v)))) None) (Some us) → UidsAre (x ∷ v) us
    step true f k =
        let i = if_uids-is (pieces (trimmed (x ∷ v))) us k in
        let j : trimmed (x ∷ v) ≡ joined us = sym (joined-pieces (trimmed (x ∷ v))) ∙ ap joined i.0 in
        record {
          value = zero_pad-trimmed (x ∷ v) (eqb-true (length (x ∷ v) % 2) 0 f) ∙ ap (λ t. t ++ zero_pad t) j;
          few = i.1;
          uids = i.2;
          cut = λ h. sym i.0;
        }
    step false f k = absurd (none-some us k)

pub uids_of-found : (v : List ℕ) → uids_fault v ≡ false → (us : List (List ℕ)) × (uids_of v ≡ Some us)
uids_of-found v e = step (uids_of v) refl e
  where
    step : (o : Option (List (List ℕ))) → uids_of v ≡ o → is_none o ≡ false → (us : List (List ℕ)) × (uids_of v ≡ Some us)
    step None f g = absurd (true≢false g)
    step (Some us) f g = (us, f)

pub uids_of-inj : (v w : List ℕ) (us : List (List ℕ)) → uids_of v ≡ Some us → uids_of w ≡ Some us → v ≡ w
uids_of-inj v w us e f = (uids_of-are v us e).value ∙ sym (uids_of-are w us f).value

-- ---- value_of

-- none of us is empty
abbrev pub Filled : List (List ℕ) → Type 0
Filled [] = Unit {0}
Filled (u ∷ us) = (1 ≤ length u) × Filled us

joined-some : (u : List ℕ) (us : List (List ℕ)) → 1 ≤ length u → [] ≡ joined (u ∷ us) → ⊥
unfolding joined
joined-some u us h e = omega (arith, ap length e, length-append u (after us))

joined-inj : (us ws : List (List ℕ)) → FreeAll backslash us → FreeAll backslash ws → Filled us → Filled ws → joined us ≡ joined ws → us ≡ ws
unfolding joined
joined-inj [] [] f g h k e = refl
joined-inj [] (w ∷ ws) f g h k e = absurd (joined-some w ws k.0 e)
joined-inj (u ∷ us) [] f g h k e = absurd (joined-some u us h.0 (sym e))
joined-inj (u ∷ us) (w ∷ ws) f g h k e = sym (pieces-joined u us f) ∙ ap pieces e ∙ pieces-joined w ws g

pub value_of-inj : (us ws : List (List ℕ)) → FreeAll 0 us → FreeAll 0 ws → FreeAll backslash us → FreeAll backslash ws → Filled us → Filled ws
    → value_of us ≡ value_of ws → us ≡ ws
unfolding value_of
value_of-inj us ws a b f g h k e =
    joined-inj us ws f g h k (sym (trimmed-zero_pad (joined us) (joined-free us a)) ∙ ap trimmed e ∙ trimmed-zero_pad (joined ws) (joined-free ws b))

after-length : (us : List (List ℕ)) → Short longest_uid us → length (after us) ≤ (longest_uid + 1) * length us
unfolding after
after-length [] h = omega arith
after-length (u ∷ us) h = simp length-append (omega (arith, after-length us h.1, h.0))

pub value_of-length : (us : List (List ℕ)) → Short longest_uid us → length (value_of us) ≤ (longest_uid + 1) * length us
unfolding value_of joined zero_pad
value_of-length [] h = omega arith
value_of-length (u ∷ us) h = omega (arith, (length-padded (joined (u ∷ us))).1, length-append u (after us), after-length us h.1, h.0)
