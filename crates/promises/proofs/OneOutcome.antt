-- Any two outcomes that a contract allows are one: document 01, "Pinning every answer down". Here are the words in which that is said. The
-- theorem of each public routine, `NAME-one`, is in the file of its crate: `OneOutcomeLayout` (layout, view), `OneOutcomeLeaves` (refusals,
-- buffer, vr, heads), `OneOutcomeRules` (table, uid, ledger, calendar, lists, options), `OneOutcomeValues` (fates, put, gains), `OneOutcomeEntries`
-- (station, abi), and `OneOutcomeWalks` (write_uids, judge_values, write_walk: under a condition). Each is over the contract as its source has it (`Learnt`
-- of the reading that the kit makes of the source), so that a weakened `ensures` is refused. Assumes nothing.
--     OneAnswer R P         a routine that is handed numbers: the answers that P allows, which are in R, are one
--     OneRead n R P         a routine that is lent the slice s to read: where two slices hold the same, the answers are one
--     OneRead2 n R P        likewise where it is lent two slices
--     OneWrite n R P        a routine that is lent the slice o to write, which is p afterwards: where two slices held the same, the answers are
--                           one, and the slices hold the same afterwards
--     OneCopy n R P         likewise where it is lent a slice to read as well
--     OneCopy2 n R P        likewise where it is lent two slices to read as well
--     SamePart same r r'    the slices r and r', which were handed back, hold the same; and where `same` is given, they are the same memory
--     part-one              the same part of two slices that hold the same
-- P is the contract. Its n lifetimes are those of a call, and may differ from one to the other.
use mathlib.Core.Path.{◌≡◌}
use mathlib.Core.List.{List}
use Prim.Native.Nat.{ℕ}
use contract.Lifetimes.{Lfts}
use denote.Ref.{Bor, MutBor}
use Rattle.basis.specs.Parts.{IsPart}

abbrev pub Slice : Type 0
Slice = Bor (List ℕ)

-- a slice that is lent to be written
abbrev pub Buffer : Type 0
Buffer = MutBor (List ℕ)

abbrev pub OneAnswer : (R : Type 0) → (R → Type 0) → Type 0
OneAnswer R P = (r r' : R) → P r → P r' → r ≡ r'

abbrev pub OneRead : (n : ℕ) (R : Type 0) → (Lfts n → Slice → R → Type 0) → Type 0
OneRead n R P = (κs κs' : Lfts n) (s s' : Slice) (r r' : R) → s.now ≡ s'.now → P κs s r → P κs' s' r' → r ≡ r'

abbrev pub OneRead2 : (n : ℕ) (R : Type 0) → (Lfts n → Slice → Slice → R → Type 0) → Type 0
OneRead2 n R P =
    (κs κs' : Lfts n) (s s' t t' : Slice) (r r' : R) → s.now ≡ s'.now → t.now ≡ t'.now → P κs s t r → P κs' s' t' r' → r ≡ r'

abbrev pub OneWrite : (n : ℕ) (R : Type 0) → (Lfts n → Buffer → R → Buffer → Type 0) → Type 0
OneWrite n R P =
    (κs κs' : Lfts n) (o o' p p' : Buffer) (r r' : R) → o.now ≡ o'.now → P κs o r p → P κs' o' r' p' → (r ≡ r') × (p.now ≡ p'.now)

abbrev pub OneCopy : (n : ℕ) (R : Type 0) → (Lfts n → Slice → Buffer → R → Buffer → Type 0) → Type 0
OneCopy n R P =
    (κs κs' : Lfts n) (s s' : Slice) (o o' p p' : Buffer) (r r' : R) → s.now ≡ s'.now → o.now ≡ o'.now → P κs s o r p → P κs' s' o' r' p'
    → (r ≡ r') × (p.now ≡ p'.now)

abbrev pub OneCopy2 : (n : ℕ) (R : Type 0) → (Lfts n → Slice → Slice → Buffer → R → Buffer → Type 0) → Type 0
OneCopy2 n R P =
    (κs κs' : Lfts n) (s s' t t' : Slice) (o o' p p' : Buffer) (r r' : R) → s.now ≡ s'.now → t.now ≡ t'.now → o.now ≡ o'.now → P κs s t o r p
    → P κs' s' t' o' r' p' → (r ≡ r') × (p.now ≡ p'.now)

-- ---- a part of a slice that is handed back

abbrev pub SamePart : Type 0 → Slice → Slice → Type 0
SamePart same r r' = (r.now ≡ r'.now) × (same → r.ref_ptr ≡ r'.ref_ptr)

pub part-one : (r r' s s' : Slice) (from to : ℕ) → s.now ≡ s'.now → IsPart r s from to → IsPart r' s' from to → SamePart (s.ref_ptr ≡ s'.ref_ptr) r r'
part-one r r' s s' from to e a b = (cc (a.bytes, b.bytes), λ same. place same)
  where
    place : s.ref_ptr ≡ s'.ref_ptr → r.ref_ptr ≡ r'.ref_ptr
    place same =
        let block : r.ref_ptr.0 ≡ r'.ref_ptr.0 = cc (a.block, b.block) in
        let start : r.ref_ptr.1 ≡ r'.ref_ptr.1 = cc (a.start, b.start) in
        λ i. (block i, start i)
