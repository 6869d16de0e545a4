-- Laws of `specs/Lists.antt`. No contract cites this file. Assumes nothing.
--     then-some, pick-some                  what led to something that was found: for `then` and `pick`
--     entry_at-tagless, entry_at-short, entry_at-empty, entry_at-long, entry_at-cut, entry_at-is    one for each way of `entry_at`
--     WithinList s e, entry_at-within           an entry that was read: its tag is small enough, its value 1 to 64 bytes within the list
--     every-end, every-turn                 every byte keeps a test: for the loop of `all_printable`
--     left-suc, is_some-then                one of the entries that may be is left to read; what goes on is read where it was read so far
--     Judging s at read low                 the entries from the place `at` on, where that many were read, say whether the whole list keeps the rule
--     judging-start, judging-end, judging-last, judging-broken, judging-falls, judging-odd, judging-next    one for each way of the loop of `list_ok`
use mathlib.Core.Path.{◌≡◌, refl, sym, ap, ◌∙◌}
use mathlib.Core.Bool.{Bool, true, false, ◌&&◌, and-false, and-true, and_assoc}
use mathlib.Core.List.{List, [], ◌∷◌}
use Rattle.std.specs.Prelude.{Option, None, Some}
use Rattle.std.proofs.lemmas.Option.{none-some, same_Some}
use Prim.Native.Nat.{ℕ, zero, suc, ◌+◌, ◌-◌, ◌≤◌, ◌<◌}
use native.Mathlib.Numerals.{add-one}
use native.Mathlib.Omega.{arith}
use borrow.Author.Tests.{le-leb, lt-leb, leb-true}
use lib.Dec.{leb}
use lib.ListN.{length, get_or, drop, drop_of_length-le}
use lib.Seq.{drop-cons}
use Rattle.basis.specs.Choice.{pick, fork, then, every, is_some}
use Rattle.basis.proofs.ChoiceLaws.{both-true}
use Rattle.lists.specs.Number.{seven_bit, held, number_at}
use Rattle.lists.specs.Lists.{most_tag, most_entries, most_value, entry_at, entry_value, printable, entries_from, entries, list_ok}
use Rattle.lists.specs.declared.Entry.{Entry}
use Rattle.lists.proofs.NumberLaws.{number_at-end, number_at-one}

-- ---- what was found, and by which tests

pub then-some : {A B : Type 0} (x : Option A) (f : A → Option B) (b : B) → then x f ≡ Some b → (a : A) × (x ≡ Some a) × (f a ≡ Some b)
then-some None f b e = absurd (none-some b e)
then-some (Some a) f b e = (a, refl, e)

pub pick-some : {A : Type 0} (t : Bool) (a b : A) → pick t (Some a) None ≡ Some b → (t ≡ true) × (a ≡ b)
pick-some true a b e = (refl, same_Some a b e)
pick-some false a b e = absurd (none-some b e)

-- ---- entry_at

module _ (s : List ℕ) (at : ℕ) where
  pub entry_at-tagless : number_at 0 most_tag s at ≡ None → entry_at s at ≡ None
  unfolding entry_at
  entry_at-tagless e = rw e refl

  module _ (tag place : ℕ) (e : number_at 0 most_tag s at ≡ Some (tag, place)) where
    pub entry_at-short : length s ≤ place → entry_at s at ≡ None
    unfolding entry_at
    entry_at-short h = rw (e, number_at-end 1 most_value s place h) refl

    -- by the byte that is the value's length
    sized : place < length s → entry_at s at ≡ then (held 1 most_value place (get_or s place 0, 1)) (λ n.
        pick (leb (n.1 + n.0) (length s)) (Some (record { tag = tag; from = n.1; to = n.1 + n.0 })) None)
    unfolding entry_at
    sized h = rw (e, number_at-one 1 most_value s place h (omega arith)) refl

    pub entry_at-empty : place < length s → get_or s place 0 ≡ 0 → entry_at s at ≡ None
    entry_at-empty h z = sized h ∙ rw (lt-leb 1 (get_or s place 0) (omega arith)) refl

    pub entry_at-long : place < length s → most_value < get_or s place 0 → entry_at s at ≡ None
    entry_at-long h k = sized h ∙ rw (lt-leb (get_or s place 0) most_value k, and-false (leb 1 (get_or s place 0))) refl

    module _ (h : place < length s) (n : get_or s place 0 ≡ 0 → ⊥) (k : get_or s place 0 ≤ most_value) where
      whole : entry_at s at ≡ pick (leb (place + 1 + get_or s place 0) (length s)) (Some (record { tag = tag; from = place + 1; to = place + 1 + get_or s place 0 })) None
      whole = sized h ∙ rw (le-leb 1 (get_or s place 0) (omega arith), le-leb (get_or s place 0) most_value k) refl

      pub entry_at-cut : length s - (place + 1) < get_or s place 0 → entry_at s at ≡ None
      entry_at-cut l = whole ∙ rw (lt-leb (place + 1 + get_or s place 0) (length s) (omega arith)) refl

      pub entry_at-is : get_or s place 0 ≤ length s - (place + 1)
          → entry_at s at ≡ Some (record { tag = tag; from = place + 1; to = place + 1 + get_or s place 0 })
      entry_at-is l = whole ∙ rw (le-leb (place + 1 + get_or s place 0) (length s) (omega arith)) refl

-- what an entry that was read is
pub record WithinList (s : List ℕ) (e : Entry) : Type 0 where
  pub tag : e.tag ≤ most_tag
  pub some-bytes : e.from < e.to
  pub few-bytes : e.to ≤ e.from + most_value
  pub whole : e.to ≤ length s

held-is : (low high at : ℕ) (r p : ℕ × ℕ) → held low high at r ≡ Some p → (low ≤ p.0) × (p.0 ≤ high)
held-is low high at r p e =
    let q = pick-some (leb low r.0 && leb r.0 high) (r.0, at + r.1) p e in
    let t = both-true (leb low r.0) (leb r.0 high) q.0 in
    let v : r.0 ≡ p.0 = ap (λ (x : ℕ × ℕ). x.0) q.1 in
    (rw (← v) (leb-true low r.0 t.0), rw (← v) (leb-true r.0 high t.1))

number_at-is : (low high : ℕ) (s : List ℕ) (at : ℕ) (p : ℕ × ℕ) → number_at low high s at ≡ Some p → (low ≤ p.0) × (p.0 ≤ high)
unfolding number_at
number_at-is low high s at p e = let r = then-some (seven_bit (drop at s)) (held low high at) p e in held-is low high at r.0 p r.2

pub entry_at-within : (s : List ℕ) (at : ℕ) (e : Entry) → entry_at s at ≡ Some e → WithinList s e
unfolding entry_at
entry_at-within s at e is =
    let t = then-some (number_at 0 most_tag s at) _ e is in
    let n = then-some (number_at 1 most_value s t.0.1) _ e t.2 in
    let p = pick-some (leb (n.0.1 + n.0.0) (length s)) (record { tag = t.0.0; from = n.0.1; to = n.0.1 + n.0.0 }) e n.2 in
    let a = number_at-is 0 most_tag s at t.0 t.1 in
    let b = number_at-is 1 most_value s t.0.1 n.0 n.1 in
    let k = leb-true (n.0.1 + n.0.0) (length s) p.0 in
    rw (← p.1) (record { tag = a.1; some-bytes = omega arith; few-bytes = omega arith; whole = k })

-- ---- every byte keeps a test, as `all_printable` goes on

module _ (p : ℕ → Bool) (s : List ℕ) (i : ℕ) (all : Bool) where
  pub every-end : length s ≤ i → (all && every p (drop i s)) ≡ all
  unfolding every
  every-end h = rw (drop_of_length-le s h, and-true all) refl

  pub every-turn : i < length s → (b : Bool) → b ≡ p (get_or s i 0) → (all && every p (drop i s)) ≡ ((all && b) && every p (drop (i + 1) s))
  unfolding every
  every-turn h b q = rw (q, drop-cons s i 0 h, add-one i) (sym (and_assoc all (p (get_or s i 0)) (every p (drop (suc i) s))))

-- ---- entries_from

-- of the entries that a list may have one is left to read
pub left-suc : (read : ℕ) → read < most_entries → most_entries - read ≡ suc (most_entries - (read + 1))
left-suc read h = omega arith

pub is_some-then : {A B : Type 0} (x : Option A) (f : A → B) → is_some (then x (λ a. Some (f a))) ≡ is_some x
is_some-then None f = refl
is_some-then (Some a) f = refl

-- nothing is left; no entry may be; an entry is there
module _ (s : List ℕ) (at low : ℕ) where
  entries_from-end : (left : ℕ) → length s ≤ at → entries_from left s at low ≡ Some []
  unfolding entries_from
  entries_from-end zero h = rw (le-leb (length s) at h) refl
  entries_from-end (suc left) h = rw (le-leb (length s) at h) refl

  entries_from-none : is_some (entries_from zero s at low) ≡ leb (length s) at
  unfolding entries_from
  entries_from-none = go (leb (length s) at)
    where
      go : (b : Bool) → is_some {A = List Entry} (pick b (Some []) None) ≡ b
      go true = refl
      go false = refl

  entries_from-more : (left : ℕ) → at < length s → (x : Option Entry) → entry_at s at ≡ x
      → entries_from (suc left) s at low ≡ then x (λ e.
      fork (leb low e.tag && every printable (entry_value s e)) (λ _. then (entries_from left s e.to (e.tag + 1)) (λ es. Some (e ∷ es))) (λ _. None))
  unfolding entries_from
  entries_from-more left h x is = rw (lt-leb (length s) at h, is) refl

-- ---- list_ok, as the function finds it

pub record Judging (s : List ℕ) (at read low : ℕ) : Type 0 where
  pub rest : list_ok s ≡ is_some (entries_from (most_entries - read) s at low)

pub judging-start : (s : List ℕ) → Judging s 0 0 0
unfolding list_ok entries
judging-start s = record { rest = refl }

module _ {s : List ℕ} {at read low : ℕ} (j : Judging s at read low) where
  pub judging-end : length s ≤ at → list_ok s ≡ true
  judging-end h = j.rest ∙ ap is_some (entries_from-end s at low (most_entries - read) h)

  -- no more entries may be
  pub judging-last : most_entries ≤ read → list_ok s ≡ leb (length s) at
  judging-last h =
      let e : most_entries - read ≡ 0 = omega arith in
      j.rest ∙ ap (λ n. is_some (entries_from n s at low)) e ∙ entries_from-none s at low

  module _ (h : at < length s) (n : read < most_entries) where
    more : (x : Option Entry) → entry_at s at ≡ x → list_ok s ≡ is_some (then x (λ e.
        fork (leb low e.tag && every printable (entry_value s e)) (λ _. then (entries_from (most_entries - (read + 1)) s e.to (e.tag + 1)) (λ es. Some (e ∷ es))) (λ _. None)))
    more x is = j.rest ∙ ap is_some (ap (λ n. entries_from n s at low) (left-suc read n) ∙ entries_from-more s at low (most_entries - (read + 1)) h x is)

    pub judging-broken : entry_at s at ≡ None → list_ok s ≡ false
    judging-broken is = more None is

    module _ {e : Entry} (is : entry_at s at ≡ Some e) where
      pub judging-falls : e.tag < low → list_ok s ≡ false
      judging-falls k = more (Some e) is ∙ rw (lt-leb low e.tag k) refl

      pub judging-odd : every printable (entry_value s e) ≡ false → list_ok s ≡ false
      judging-odd k = more (Some e) is ∙ rw (k, and-false (leb low e.tag)) refl

      pub judging-next : low ≤ e.tag → every printable (entry_value s e) ≡ true → Judging s e.to (read + 1) (e.tag + 1)
      judging-next k l = record {
        rest = more (Some e) is ∙ rw (le-leb low e.tag k, l) (is_some-then (entries_from (most_entries - (read + 1)) s e.to (e.tag + 1)) (λ es. e ∷ es));
      }
