-- Laws of `specs/Lookup.antt`. No contract cites this file. Assumes nothing.
--     Seeking s t at read                what is left to search, where that many entries were read, says what the whole search finds
--     seeking-start, seeking-done, seeking-broken, seeking-below, seeking-found      one for each way of the loop of `entry_of`
--     entry_of-within, entry_of-tag            an entry that was found lies within the list, and has the tag
--     entry_of-entry                        of a list that keeps the rule it is the entry for that tag
--     entry_of-length, entry_of-chars        its value has 1 to 64 bytes, and only the characters that it may
--     list_ok-entries                    a list that keeps the rule was read
--     asked-study, asked-site, asked-neither     what is asked, by what was found in each list
--     asked-length, asked-chars          the same of what is asked of two lists
--     asked-none, asked-some             what bytes that were shown say of what was asked
use mathlib.Core.Path.{◌≡◌, refl, sym, ◌∙◌}
use mathlib.Core.Bool.{Bool, true, false, ◌&&◌, false≢true}
use mathlib.Core.List.{List, [], ◌∷◌}
use mathlib.Core.Logic.{◌⊎◌, inl, inr, ⊎_elim}
use Rattle.std.specs.Prelude.{Option, None, Some, option_map}
use Rattle.std.specs.Bool.{then_some}
use Rattle.std.proofs.lemmas.Option.{none-some, same_Some}
use Prim.Native.Nat.{ℕ, zero, suc, ◌+◌, ◌-◌, ◌≤◌, ◌<◌}
use native.Mathlib.Omega.{arith}
use borrow.Author.Tests.{lt-ltb, le-ltb, ltb-true, ltb-false, leb-true, ne_eqb, eqb-true}
use lib.Dec.{eqb, ltb, leb}
use lib.ListN.{length}
use Rattle.basis.specs.Choice.{pick, fork, then, every, is_some}
use Rattle.basis.proofs.ChoiceLaws.{both-true}
use Rattle.basis.proofs.BytesLaws.{length-part}
use Rattle.lists.specs.Lists.{most_tag, most_entries, most_value, entry_at, entry_value, printable, entries_from, entries, list_ok}
use Rattle.lists.specs.Lookup.{seek_from, entry_of, entry_for, study_first, asked, bytes_or}
use Rattle.lists.specs.declared.Entry.{Entry}
use Rattle.lists.proofs.NumberLaws.{number_at-end}
use Rattle.lists.proofs.ListsLaws.{then-some, pick-some, left-suc, entry_at-tagless, entry_at-within, WithinList}

-- ---- seek_from, as the loop of `entry_of` goes on

pub record Seeking (s : List ℕ) (t at read : ℕ) : Type 0 where
  pub rest : entry_of s t ≡ seek_from (most_entries - read) s at t

pub seeking-start : (s : List ℕ) (t : ℕ) → Seeking s t 0 0
unfolding entry_of
seeking-start s t = record { rest = refl }

module _ {s : List ℕ} {t at read : ℕ} (k : Seeking s t at read) where
  pub seeking-done : most_entries ≤ read → entry_of s t ≡ None
  unfolding seek_from
  seeking-done h = let e : most_entries - read ≡ 0 = omega arith in k.rest ∙ rw e refl

  module _ (n : read < most_entries) where
    more : (x : Option Entry) → entry_at s at ≡ x
        → entry_of s t ≡ then x (λ e. fork (ltb e.tag t) (λ _. seek_from (most_entries - (read + 1)) s e.to t) (λ _. pick (eqb e.tag t) (Some e) None))
    unfolding seek_from
    more x is = k.rest ∙ rw (left-suc read n, is) refl

    pub seeking-broken : entry_at s at ≡ None → entry_of s t ≡ None
    seeking-broken is = more None is

    module _ {e : Entry} (is : entry_at s at ≡ Some e) where
      pub seeking-below : e.tag < t → Seeking s t e.to (read + 1)
      seeking-below h = record { rest = more (Some e) is ∙ rw (lt-ltb e.tag t h) refl }

      pub seeking-found : t ≤ e.tag → entry_of s t ≡ then_some (eqb e.tag t) e
      seeking-found h = more (Some e) is ∙ rw (le-ltb e.tag t h) (go (eqb e.tag t))
        where
          go : (b : Bool) → pick b (Some e) None ≡ then_some b e
          go true = refl
          go false = refl

-- ---- entry_of

-- the entry that was found: at this place, or further on
from-here : (s : List ℕ) (at t left : ℕ) (e : Entry) → seek_from (suc left) s at t ≡ Some e
    → (x : Entry) × (entry_at s at ≡ Some x) × (((x ≡ e) × (x.tag ≡ t)) ⊎ (seek_from left s x.to t ≡ Some e))
unfolding seek_from
from-here s at t left e is =
    let x = then-some (entry_at s at) _ e is in
    (x.0, x.1, go x.0 (ltb x.0.tag t) x.2)
  where
    go : (x : Entry) (b : Bool) → fork b (λ _. seek_from left s x.to t) (λ _. pick (eqb x.tag t) (Some x) None) ≡ Some e
        → ((x ≡ e) × (x.tag ≡ t)) ⊎ (seek_from left s x.to t ≡ Some e)
    go x true q = inr q
    go x false q = let p = pick-some (eqb x.tag t) x e q in inl (p.1, eqb-true x.tag t p.0)

within-from : (left : ℕ) (s : List ℕ) (at t : ℕ) (e : Entry) → seek_from left s at t ≡ Some e → WithinList s e × (e.tag ≡ t)
unfolding seek_from
within-from zero s at t e is = absurd (none-some e is)
within-from (suc left) s at t e is =
    let x = from-here s at t left e is in
    ⊎_elim (λ p. rw (← p.0) (entry_at-within s at x.0 x.1, p.1)) (λ p. within-from left s x.0.to t e p) x.2

pub entry_of-within : (s : List ℕ) (t : ℕ) (e : Entry) → entry_of s t ≡ Some e → WithinList s e
unfolding entry_of
entry_of-within s t e is = (within-from most_entries s 0 t e is).0

pub entry_of-tag : (s : List ℕ) (t : ℕ) (e : Entry) → entry_of s t ≡ Some e → e.tag ≡ t
unfolding entry_of
entry_of-tag s t e is = (within-from most_entries s 0 t e is).1

pub entry_of-length : (s : List ℕ) (t : ℕ) (e : Entry) → entry_of s t ≡ Some e → (1 ≤ length (entry_value s e)) × (length (entry_value s e) ≤ most_value)
entry_of-length s t e is =
    let w = entry_of-within s t e is in
    let l : length (entry_value s e) ≡ e.to - e.from = length-part s e.from e.to w.whole in
    (omega arith, omega arith)

-- ---- entry_of, in a list that keeps the rule

-- what a list of entries that was read is made of: no entry, at the end; or one that keeps the rule, and the others after it
record More (left : ℕ) (s : List ℕ) (at low : ℕ) (es : List Entry) : Type 0 where
  e : Entry
  others : List Entry
  is : entry_at s at ≡ Some e
  rises : low ≤ e.tag
  text : every printable (entry_value s e) ≡ true
  after : entries_from left s e.to (e.tag + 1) ≡ Some others
  all : e ∷ others ≡ es

none-left : (s : List ℕ) (at low : ℕ) (es : List Entry) → entries_from zero s at low ≡ Some es → [] ≡ es
unfolding entries_from
none-left s at low es is = (pick-some (leb (length s) at) [] es is).1

parts : (left : ℕ) (s : List ℕ) (at low : ℕ) (es : List Entry) → entries_from (suc left) s at low ≡ Some es
    → ((length s ≤ at) × ([] ≡ es)) ⊎ More left s at low es
unfolding entries_from
parts left s at low es is = go (leb (length s) at) refl is
  where
    kept : (e : Entry) (b : Bool) → entry_at s at ≡ Some e → (leb low e.tag && every printable (entry_value s e)) ≡ b
        → fork b (λ _. then (entries_from left s e.to (e.tag + 1)) (λ os. Some (e ∷ os))) (λ _. None) ≡ Some es → More left s at low es
    kept e true q t k =
        let b = both-true (leb low e.tag) (every printable (entry_value s e)) t in
        let o = then-some (entries_from left s e.to (e.tag + 1)) _ es k in
        record {
          e = e;
          others = o.0;
          is = q;
          rises = leb-true low e.tag b.0;
          text = b.1;
          after = o.1;
          all = same_Some (e ∷ o.0) es o.2;
        }
    kept e false q t k = absurd (none-some es k)

    go : (b : Bool) → leb (length s) at ≡ b
        → fork b (λ _. Some []) (λ _. then (entry_at s at) (λ e.
        fork (leb low e.tag && every printable (entry_value s e)) (λ _. then (entries_from left s e.to (e.tag + 1)) (λ os. Some (e ∷ os))) (λ _. None))) ≡ Some es
        → ((length s ≤ at) × ([] ≡ es)) ⊎ More left s at low es
    go true t k = inl (leb-true (length s) at t, same_Some [] es k)
    go false t k = let x = then-some (entry_at s at) _ es k in inr (kept x.0 _ x.1 refl x.2)

-- a tag below all that are left is that of none
unfound : (left : ℕ) (s : List ℕ) (at low t : ℕ) (es : List Entry) → t < low → entries_from left s at low ≡ Some es → entry_for es t ≡ None
unfound zero s at low t es h is = rw (← none-left s at low es is) refl
unfound (suc left) s at low t es h is =
    ⊎_elim
    (λ p. rw (← p.1) refl)
    (λ m.
    let r = m.rises in
    rw (← m.all, ne_eqb m.e.tag t (λ q. omega arith)) (unfound left s m.e.to (m.e.tag + 1) t m.others (omega arith) m.after))
    (parts left s at low es is)

-- at the end of the list there is no entry
no-entry : (s : List ℕ) (at : ℕ) → length s ≤ at → entry_at s at ≡ None
no-entry s at h = entry_at-tagless s at (number_at-end 0 most_tag s at h)

by-tag : (e : Entry) (es : List Entry) (t : ℕ) (found : Option Entry) → found ≡ entry_for es t → (t < e.tag + 1 → entry_for es t ≡ None)
    → fork (ltb e.tag t) (λ _. found) (λ _. pick (eqb e.tag t) (Some e) None) ≡ entry_for (e ∷ es) t
by-tag e es t found p q = go (ltb e.tag t) (eqb e.tag t) refl refl
  where
    go : (a b : Bool) → ltb e.tag t ≡ a → eqb e.tag t ≡ b
        → fork a (λ _. found) (λ _. pick b (Some e) None) ≡ fork b (λ _. Some e) (λ _. entry_for es t)
    go true true k l = absurd (omega (arith, ltb-true e.tag t k, eqb-true e.tag t l))
    go true false k l = p
    go false true k l = refl
    go false false k l = sym (q (omega (arith, ltb-false e.tag t k)))

seek_from-entries : (left : ℕ) (s : List ℕ) (at low t : ℕ) (es : List Entry) → entries_from left s at low ≡ Some es → seek_from left s at t ≡ entry_for es t
unfolding seek_from
seek_from-entries zero s at low t es is = rw (← none-left s at low es is) refl
seek_from-entries (suc left) s at low t es is =
    ⊎_elim
    (λ p. rw (← p.1, no-entry s at p.0) refl)
    (λ m.
    rw (← m.all, m.is)
    (by-tag m.e m.others t (seek_from left s m.e.to t) (seek_from-entries left s m.e.to (m.e.tag + 1) t m.others m.after)
    (λ h. unfound left s m.e.to (m.e.tag + 1) t m.others h m.after)))
    (parts left s at low es is)

pub entry_of-entry : (s : List ℕ) (es : List Entry) (t : ℕ) → entries s ≡ Some es → entry_of s t ≡ entry_for es t
unfolding entry_of entries
entry_of-entry s es t is = seek_from-entries most_entries s 0 0 t es is

chars-from : (left : ℕ) (s : List ℕ) (at low t : ℕ) (es : List Entry) (e : Entry) → entries_from left s at low ≡ Some es → seek_from left s at t ≡ Some e
    → every printable (entry_value s e) ≡ true
unfolding seek_from
chars-from zero s at low t es e is f = absurd (none-some e f)
chars-from (suc left) s at low t es e is f =
    let x = from-here s at t left e f in
    ⊎_elim
    (λ p. absurd (none-some x.0 (sym (no-entry s at p.0) ∙ x.1)))
    (λ m.
    let same : m.e ≡ x.0 = same_Some m.e x.0 (sym m.is ∙ x.1) in
    ⊎_elim
    (λ p. rw (← p.0, ← same) m.text)
    (λ p. chars-from left s m.e.to (m.e.tag + 1) t m.others e m.after (rw same p))
    x.2)
    (parts left s at low es is)

-- a list that keeps the rule was read
pub list_ok-entries : (s : List ℕ) → list_ok s ≡ true → (es : List Entry) × (entries s ≡ Some es)
unfolding list_ok
list_ok-entries s ok = go (entries s) refl ok
  where
    go : (x : Option (List Entry)) → entries s ≡ x → is_some x ≡ true → (es : List Entry) × (entries s ≡ Some es)
    go None e k = absurd (false≢true k)
    go (Some es) e k = (es, e)

pub entry_of-chars : (s : List ℕ) (t : ℕ) (e : Entry) → list_ok s ≡ true → entry_of s t ≡ Some e → every printable (entry_value s e) ≡ true
unfolding entry_of entries
entry_of-chars s t e ok is = let es = list_ok-entries s ok in chars-from most_entries s 0 0 t es.0 e es.1 is

-- ---- asked

module _ (study site : List ℕ) (t : ℕ) where
  pub asked-study : (e : Entry) → entry_of study t ≡ Some e → asked study site t ≡ Some (entry_value study e)
  unfolding asked
  asked-study e is = rw is refl

  pub asked-site : (e : Entry) → entry_of study t ≡ None → entry_of site t ≡ Some e → asked study site t ≡ Some (entry_value site e)
  unfolding asked
  asked-site e is' is = rw (is', is) refl

  pub asked-neither : entry_of study t ≡ None → entry_of site t ≡ None → asked study site t ≡ None
  unfolding asked
  asked-neither is' is = rw (is', is) refl

  -- whatever holds of each list's value holds of what is asked
  asked-all : (P : List ℕ → Type 0) → ((e : Entry) → entry_of study t ≡ Some e → P (entry_value study e)) → ((e : Entry) → entry_of site t ≡ Some e → P (entry_value site e))
      → (v : List ℕ) → asked study site t ≡ Some v → P v
  unfolding asked
  asked-all P f g v is = go (entry_of study t) (entry_of site t) refl refl is
    where
      go : (x y : Option Entry) → entry_of study t ≡ x → entry_of site t ≡ y
          → study_first (option_map (entry_value study) x) (option_map (entry_value site) y) ≡ Some v → P v
      go (Some e) y p q k = rw (← same_Some (entry_value study e) v k) (f e p)
      go None (Some e) p q k = rw (← same_Some (entry_value site e) v k) (g e q)
      go None None p q k = absurd (none-some v k)

  pub asked-length : (v : List ℕ) → asked study site t ≡ Some v → (1 ≤ length v) × (length v ≤ most_value)
  asked-length = asked-all (λ v. (1 ≤ length v) × (length v ≤ most_value)) (entry_of-length study t) (entry_of-length site t)

  pub asked-chars : list_ok study ≡ true → list_ok site ≡ true → (v : List ℕ) → asked study site t ≡ Some v → every printable v ≡ true
  asked-chars ok ok' = asked-all (λ v. every printable v ≡ true) (λ e. entry_of-chars study t e ok) (λ e. entry_of-chars site t e ok')

  -- a value has bytes: so none were shown where there is none
  pub asked-none : length (bytes_or (asked study site t)) ≡ 0 → asked study site t ≡ None
  asked-none z = go (asked study site t) refl z
    where
      go : (x : Option (List ℕ)) → asked study site t ≡ x → length (bytes_or x) ≡ 0 → asked study site t ≡ None
      go None e k = e
      go (Some v) e k = absurd (omega (arith, (asked-length v e).0))

  pub asked-some : 0 < length (bytes_or (asked study site t)) → asked study site t ≡ Some (bytes_or (asked study site t))
  asked-some z = go (asked study site t) refl z
    where
      go : (x : Option (List ℕ)) → asked study site t ≡ x → 0 < length (bytes_or x) → asked study site t ≡ Some (bytes_or x)
      go None e k = absurd (omega arith)
      go (Some v) e k = e
