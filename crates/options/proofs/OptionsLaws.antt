-- Laws of `specs/Options.antt`. No contract cites this file. Assumes nothing.
--     options-bit                                  each option stands at its bit
--     all p os, options-all                        a test that computes over the six holds of each option
--     code_of-length, meaning_of-length            a code value is six bytes, a meaning 1 to 64
--     code_of-digits, meaning_of-printable         a code value is digits; a meaning is characters 20 to 7E hex, no backslash
--     rising low xs, code_number o                 xs rises from low on; the number that a code value spells
--     chosen-rising                                the chosen options stand by rising code (W17)
--     opt_at-bit, opt_at-past                      the option of a bit; a bit that is none of the six
--     chosen_in-yes, chosen_in-no, chosen_in-end   the chosen options from a bit on, by what `Opt::at` answers: for a loop over the bits
--     chosen_in-chosen, chosen_in-other            the same by what `Opt::is_in` answers
use mathlib.Core.Path.{◌≡◌, refl, sym}
use mathlib.Core.Bool.{Bool, true, false, ◌&&◌, not}
use mathlib.Core.List.{List, [], ◌∷◌, map}
use Rattle.std.specs.Prelude.{Option, None, Some}
use Prim.Native.Nat.{ℕ, zero, suc, ◌+◌, ◌-◌, ◌*◌, ◌≤◌, ◌<◌}
use native.Mathlib.Omega.{arith}
use native.Mathlib.Numerals.{add-one}
use borrow.Author.Tests.{leb-true, eqb-true}
use lib.Dec.{eqb, leb}
use lib.ListN.{length, drop, get_or, drop_of_length-le}
use Rattle.std.specs.Prelude.{slice_get}
use lib.Seq.{drop-cons, drop-nil}
use Rattle.std.proofs.lemmas.Bool.Decides.{nat_tests}
use Rattle.std.proofs.lemmas.Option.{slice_get_past}
use Rattle.basis.specs.Choice.{pick, then, every}
use Rattle.basis.proofs.ChoiceLaws.{both-true}
use Rattle.options.specs.Options.{options, bit_of, code_of, meaning_of, is_chosen, chosen_in, chosen, opt_at}
use Rattle.options.specs.declared.Opt.{Opt}

-- ---- options

pub options-bit : (o : Opt) → slice_get options (bit_of o) ≡ Some o
options-bit o = grind arith

abbrev pub all : (Opt → Bool) → List Opt → Bool
all p [] = true
all p (o ∷ os) = p o && all p os

pub options-all : (p : Opt → Bool) → all p options ≡ true → (o : Opt) → p o ≡ true
options-all p e o = grind arith

-- ---- code_of, meaning_of

pub code_of-length : (o : Opt) → length (code_of o) ≡ 6
code_of-length o = eqb-true (length (code_of o)) 6 (options-all (λ o. eqb (length (code_of o)) 6) refl o)

abbrev pub digit : ℕ → Bool
digit c = leb 0x30 c && leb c 0x39

pub code_of-digits : (o : Opt) → every digit (code_of o) ≡ true
unfolding every
code_of-digits o = options-all (λ o. every digit (code_of o)) refl o

pub meaning_of-length : (o : Opt) → (1 ≤ length (meaning_of o)) × (length (meaning_of o) ≤ 64)
meaning_of-length o = (
  leb-true 1 (length (meaning_of o)) (options-all (λ o. leb 1 (length (meaning_of o))) refl o),
  leb-true (length (meaning_of o)) 64 (options-all (λ o. leb (length (meaning_of o)) 64) refl o),
)

abbrev pub printable : ℕ → Bool
printable c = leb 0x20 c && leb c 0x7E && not (eqb c 0x5C)

pub meaning_of-printable : (o : Opt) → every printable (meaning_of o) ≡ true
unfolding every
meaning_of-printable o = options-all (λ o. every printable (meaning_of o)) refl o

-- ---- chosen

-- each number is at least low, and greater than the one before it
abbrev pub rising : ℕ → List ℕ → Bool
rising low [] = true
rising low (x ∷ xs) = leb low x && rising (x + 1) xs

abbrev pub spelled : ℕ → List ℕ → ℕ
spelled n [] = n
spelled n (d ∷ ds) = spelled (10 * n + (d - 0x30)) ds

-- the number that a code value spells in decimal
abbrev pub code_number : Opt → ℕ
code_number o = spelled 0 (code_of o)

rising-lower : (a b : ℕ) (xs : List ℕ) → a ≤ b → rising b xs ≡ true → rising a xs ≡ true
rising-lower a b [] h e = refl
rising-lower a b (x ∷ xs) h e = grind (arith, nat_tests)

rising-chosen_in : (number low : ℕ) (os : List Opt) → rising low (map code_number os) ≡ true → rising low (map code_number (chosen_in number os)) ≡ true
unfolding chosen_in
rising-chosen_in number low [] e = refl
rising-chosen_in number low (o ∷ os) e =
    let s = both-true (leb low (code_number o)) (rising (code_number o + 1) (map code_number os)) e in
    let rest = rising-chosen_in number (code_number o + 1) os s.1 in
    let lower = rising-lower low (code_number o + 1) (map code_number (chosen_in number os)) in
    grind (arith, nat_tests)

pub chosen-rising : (number : ℕ) → rising 0 (map code_number (chosen number)) ≡ true
chosen-rising number = rising-chosen_in number 0 options refl

-- ---- opt_at

pub opt_at-bit : (number bit : ℕ) (o : Opt) → bit ≡ bit_of o → opt_at number bit ≡ pick (is_chosen number o) (Some o) None
unfolding opt_at
opt_at-bit number bit o e = rw (e, options-bit o) refl

pub opt_at-past : (number bit : ℕ) → length options ≤ bit → opt_at number bit ≡ None
unfolding opt_at
opt_at-past number bit h = rw (slice_get_past options bit h) refl

picked : (b : Bool) (x o : Opt) → pick b (Some x) None ≡ Some o → (b ≡ true) × (x ≡ o)
picked true x o e = (refl, cc)
picked false x o e = absurd (let z : ◌≡◌ {A = ℕ} 0 1 = cc in omega arith)

dropped : (b : Bool) (x : Opt) → pick b (Some x) None ≡ None → b ≡ false
dropped true x e = absurd (let z : ◌≡◌ {A = ℕ} 0 1 = cc in omega arith)
dropped false x e = refl

-- ---- a loop over the bits, or over the options

module _ (number : ℕ) where
  in-yes : (os : List Opt) (k : ℕ) (o : Opt) → then (slice_get os k) (λ o. pick (is_chosen number o) (Some o) None) ≡ Some o
      → chosen_in number (drop k os) ≡ o ∷ chosen_in number (drop (suc k) os)
  unfolding chosen_in
  in-yes [] k o e = absurd (let z : ◌≡◌ {A = ℕ} 0 1 = cc in omega arith)
  in-yes (x ∷ os) zero o e = let q = picked (is_chosen number x) x o e in rw (q.0, q.1) refl
  in-yes (x ∷ os) (suc k) o e = in-yes os k o e

  in-no : (os : List Opt) (k : ℕ) → then (slice_get os k) (λ o. pick (is_chosen number o) (Some o) None) ≡ None
      → chosen_in number (drop k os) ≡ chosen_in number (drop (suc k) os)
  unfolding chosen_in
  in-no [] k e = rw (drop-nil k) refl
  in-no (x ∷ os) zero e = rw (dropped (is_chosen number x) x e) refl
  in-no (x ∷ os) (suc k) e = in-no os k e

  pub chosen_in-yes : (bit : ℕ) (o : Opt) → opt_at number bit ≡ Some o → chosen_in number (drop bit options) ≡ o ∷ chosen_in number (drop (bit + 1) options)
  unfolding opt_at
  chosen_in-yes bit o e = rw (add-one bit) (in-yes options bit o e)

  pub chosen_in-no : (bit : ℕ) → opt_at number bit ≡ None → chosen_in number (drop bit options) ≡ chosen_in number (drop (bit + 1) options)
  unfolding opt_at
  chosen_in-no bit e = rw (add-one bit) (in-no options bit e)

  pub chosen_in-chosen : (os : List Opt) (k : ℕ) (o : Opt) → k < length os → is_chosen number (get_or os k o) ≡ true
      → chosen_in number (drop k os) ≡ get_or os k o ∷ chosen_in number (drop (k + 1) os)
  unfolding chosen_in
  chosen_in-chosen os k o h e = rw (add-one, drop-cons os k o, e) refl

  pub chosen_in-other : (os : List Opt) (k : ℕ) (o : Opt) → k < length os → is_chosen number (get_or os k o) ≡ false
      → chosen_in number (drop k os) ≡ chosen_in number (drop (k + 1) os)
  unfolding chosen_in
  chosen_in-other os k o h e = rw (add-one, drop-cons os k o, e) refl

  pub chosen_in-end : (bit : ℕ) → length options ≤ bit → chosen_in number (drop bit options) ≡ []
  unfolding chosen_in
  chosen_in-end bit h = rw (drop_of_length-le options h) refl
