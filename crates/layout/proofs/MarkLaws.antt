-- What stands where a header or a mark of `specs/Write.antt` was written: the head that `specs/Heads.antt` finds there.
-- No contract cites this file. Assumes nothing.
--     At s at xs          what follows the place `at` of s is xs
--     at-next             a place further on
--     le2-at, le4-at      the number at a place
--     header-..           the header, by the kind of the VR
--     short-back, long-back, empty-back, sequence-back, item_end-back, item-back, sequence_end-back    the head of what was written
use mathlib.Core.Path.{◌≡◌, sym, ap, ap₂, ◌∙◌}
use mathlib.Core.Bool.{Bool, true, false, and-false}
use mathlib.Core.List.{List, ◌∷◌, ◌++◌}
use Rattle.std.specs.Prelude.{None, Some, Ok}
use Prim.Native.Nat.{ℕ, ◌+◌, ◌-◌, ◌*◌, ◌/◌, ◌%◌, ◌≤◌, ◌<◌}
use native.Mathlib.Omega.{arith}
use lib.Dec.{eqb, ltb, leb}
use lib.ListN.{length, take, drop, get_or, length-append}
use lib.Seq.{get_or-drop, drop-drop, drop-append_seam, take-append_seam}
use borrow.Author.Tests.{eq-eqb, ne_eqb, le-ltb, le-leb, ltb-true}
use Rattle.basis.specs.Choice.{pick}
use Rattle.basis.specs.Bytes.{part, le2, le4, low2, low4}
use Rattle.basis.proofs.ChoiceLaws.{both-true}
use Rattle.vr.specs.Vr.{kind_of}
use Rattle.vr.specs.declared.Kind.TheVariants.{Short, Long, Sequence}
use Rattle.vr.proofs.VrLaws.{kind_of-all_vrs, all_vrs-two}
use Rattle.layout.specs.Source.{explicitly}
use Rattle.layout.specs.Heads.{tag_at, item_tag, item_end, sequence_end, undefined, allowed, length_fault, value_head, sequence_head, long_head, vr_head, tag_head, element_head, item_body, item_at, item_head}
use Rattle.layout.specs.Write.{tag_bytes, mark, short_header, long_header, header}
use Rattle.layout.specs.declared.Head.TheVariants.{End, Plain, Seq}
use Rattle.layout.specs.declared.Spot.TheVariants.{Over, Item}
use Rattle.layout.proofs.HeadLaws.{apart, vr_head-short, vr_head-long, vr_head-sequence}

-- ---- At

pub record At (s : List ℕ) (at : ℕ) (xs : List ℕ) : Type 0 where
  pub rest : drop at s ≡ xs
  pub size : at + length xs ≡ length s

pub at-next : {s : List ℕ} {at : ℕ} (hs xs : List ℕ) → At s at (hs ++ xs) → At s (at + length hs) xs
at-next {s} {at} hs xs h = record {
  rest = sym (drop-drop (length hs) at s) ∙ ap (drop (length hs)) h.rest ∙ drop-append_seam hs xs;
  size = let l : length (hs ++ xs) ≡ length hs + length xs = length-append hs xs in omega (arith, h.size);
}

get-at : {s : List ℕ} {at : ℕ} {xs : List ℕ} → At s at xs → (i : ℕ) → get_or s (at + i) 0 ≡ get_or xs i 0
get-at {s} {at} h i = sym (get_or-drop at s i 0) ∙ ap (λ l. get_or l i 0) h.rest

pub le2-at : {s : List ℕ} {at : ℕ} {xs : List ℕ} → At s at xs → (i : ℕ) → le2 s (at + i) ≡ le2 xs i
le2-at {s} {at} {xs} h i =
    let e : at + i + 1 ≡ at + (i + 1) = omega arith in
    ap₂ (λ a b. a + 256 * b) (get-at h i) (ap (λ n. get_or s n 0) e ∙ get-at h (i + 1))

pub le4-at : {s : List ℕ} {at : ℕ} {xs : List ℕ} → At s at xs → (i : ℕ) → le4 s (at + i) ≡ le4 xs i
le4-at {s} {at} {xs} h i =
    let e : at + i + 2 ≡ at + (i + 2) = omega arith in
    ap₂ (λ a b. a + 65536 * b) (le2-at h i) (ap (le2 s) e ∙ le2-at h (i + 2))

-- the part that a value is
pub part-at : {s : List ℕ} {at : ℕ} (v xs : List ℕ) → At s at (v ++ xs) → part s at (at + length v) ≡ v
part-at {s} {at} v xs h =
    let e : at + length v - at ≡ length v = omega arith in
    ap₂ (λ n l. take n l) e h.rest ∙ take-append_seam v xs

-- ---- numbers that were written

low2-is : (n : ℕ) → n % 256 + 256 * (n / 256 % 256) ≡ n % 65536
low2-is n = omega arith

pub low2-le2 : (n : ℕ) → n < 65536 → n % 256 + 256 * (n / 256 % 256) ≡ n
low2-le2 n h = omega arith

pub low4-le4 : (n : ℕ) → n < 4294967296 → n % 256 + 256 * (n / 256 % 256) + 65536 * (n / 65536 % 256 + 256 * (n / 16777216 % 256)) ≡ n
low4-le4 n h =
    let e : n / 16777216 ≡ n / 65536 / 256 = omega arith in
    let f : n / 65536 % 256 + 256 * (n / 65536 / 256 % 256) ≡ n / 65536 = low2-le2 (n / 65536) (omega arith) in
    rw (low2-is n, e, f) (omega arith)

-- a tag at a place
pub tag_at-at : {s : List ℕ} {at : ℕ} (tag : ℕ) (xs : List ℕ) → tag < 4294967296 → At s at (tag_bytes tag ++ xs) → tag_at s at ≡ tag
tag_at-at {s} {at} tag xs lt h =
    let e : at ≡ at + 0 = omega arith in
    let g : le2 s at ≡ tag / 65536 = ap (le2 s) e ∙ le2-at h 0 ∙ low2-le2 (tag / 65536) (omega arith) in
    let f : le2 s (at + 2) ≡ tag % 65536 = le2-at h 2 ∙ low2-is tag in
    omega (arith, g, f)

-- ---- header: one law for each kind of VR

module _ (tag vr n : ℕ) where
  pub header-unknown : kind_of vr ≡ None → header tag vr n ≡ short_header tag vr n
  unfolding header
  header-unknown e = rw (e, header)

  pub header-short : kind_of vr ≡ Some Short → header tag vr n ≡ short_header tag vr n
  unfolding header
  header-short e = rw (e, header)

  pub header-long : kind_of vr ≡ Some Long → header tag vr n ≡ long_header tag vr n
  unfolding header
  header-long e = rw (e, header)

  pub header-sequence : kind_of vr ≡ Some Sequence → header tag vr n ≡ long_header tag vr n
  unfolding header
  header-sequence e = rw (e, header)

-- ---- the heads of what was written, in a data set that ends at its own length

-- an allowed tag has four bytes and is no mark's
allowed-below : (tag : ℕ) → allowed tag ≡ true → tag < 4294836224
unfolding allowed
allowed-below tag may = ltb-true tag 4294836224 (both-true (leb 524288 tag) (ltb tag 4294836224) may).1

module _ (s : List ℕ) (at : ℕ) (unstated : Bool) (low tag vr : ℕ) (rises : low ≤ tag) (may : allowed tag ≡ true) where
  -- the tests before the VR pass
  pub tag-back : (xs : List ℕ) → At s at (tag_bytes tag ++ (low2 vr ++ xs)) → vr < 65536 → 8 ≤ length s - at
      → element_head (explicitly s) at (length s) unstated low ≡ vr_head s at (length s) tag vr
  unfolding element_head tag_head
  tag-back xs h two left =
      let t : tag_at s at ≡ tag = tag_at-at tag _ (omega (arith, allowed-below tag may)) h in
      let v : le2 s (at + 4) ≡ vr = le2-at h 4 ∙ low2-le2 vr two in
      let n : eqb tag item_end ≡ false = ne_eqb tag item_end (λ e. omega (arith, allowed-below tag may)) in
      rw (apart at (length s) left, le-ltb (length s - at) 8 left, t, n, and-false, le-leb low tag rises, may, v)

  -- an element with a value of n bytes
  value-head : (body n : ℕ) → n % 2 ≡ 0 → body + n ≤ length s → value_head tag vr body (length s) n ≡ Ok (Plain tag vr body (body + n))
  unfolding value_head length_fault
  value-head body n even fits = rw (eq-eqb (n % 2) 0 even, le-ltb (length s - body) n (omega arith))

  pub short-back : (n : ℕ) (xs : List ℕ) → kind_of vr ≡ Some Short → n < 65536 → n % 2 ≡ 0 → n ≤ length xs → At s at (header tag vr n ++ xs)
      → element_head (explicitly s) at (length s) unstated low ≡ Ok (Plain tag vr (at + 8) (at + 8 + n))
  short-back n xs kind lt even le h =
      let two : vr < 65536 = all_vrs-two vr (kind_of-all_vrs vr (λ e. let z : ◌≡◌ {A = ℕ} 0 1 = cc in omega arith)) in
      let b : At s at (tag_bytes tag ++ (low2 vr ++ (low2 n ++ xs))) = rw (header-short tag vr n kind) at h in
      let size : at + (8 + length xs) ≡ length s = omega (arith, b.size) in
      let l : le2 s (at + 6) ≡ n = le2-at b 6 ∙ low2-le2 n lt in
      tag-back (low2 n ++ xs) b two (omega arith) ∙ vr_head-short s at (length s) tag vr kind ∙
      rw l (value-head (at + 8) n even (omega arith))

  -- a header of twelve bytes, and the length in it
  long-head : (n : ℕ) (xs : List ℕ) (holds : Bool) → vr < 65536 → n < 4294967296
      → At s at (tag_bytes tag ++ (low2 vr ++ (0 ∷ 0 ∷ (low4 n ++ xs))))
      → (element_head (explicitly s) at (length s) unstated low ≡ vr_head s at (length s) tag vr)
      × (long_head s at (length s) tag vr holds
      ≡ pick holds (sequence_head tag (at + 12) (length s) n) (value_head tag vr (at + 12) (length s) n))
      × (at + (12 + length xs) ≡ length s)
  unfolding long_head
  long-head n xs holds two lt b =
      let size : at + (12 + length xs) ≡ length s = omega (arith, b.size) in
      let z : le2 s (at + 6) ≡ 0 = le2-at b 6 in
      let l : le4 s (at + 8) ≡ n = le4-at b 8 ∙ low4-le4 n lt in
      (tag-back (0 ∷ 0 ∷ (low4 n ++ xs)) b two (omega arith), rw (le-ltb (length s - at) 12 (omega arith), z, l), size)

  pub long-back : (n : ℕ) (xs : List ℕ) → kind_of vr ≡ Some Long → n < undefined → n % 2 ≡ 0 → n ≤ length xs → At s at (header tag vr n ++ xs)
      → element_head (explicitly s) at (length s) unstated low ≡ Ok (Plain tag vr (at + 12) (at + 12 + n))
  long-back n xs kind lt even le h =
      let two : vr < 65536 = all_vrs-two vr (kind_of-all_vrs vr (λ e. let z : ◌≡◌ {A = ℕ} 0 1 = cc in omega arith)) in
      let b : At s at (tag_bytes tag ++ (low2 vr ++ (0 ∷ 0 ∷ (low4 n ++ xs)))) = rw (header-long tag vr n kind) at h in
      let w = long-head n xs false two (omega arith) b in
      w.0 ∙ vr_head-long s at (length s) tag vr kind ∙ w.1 ∙ value-head (at + 12) n even (omega (arith, w.2))

  pub sequence-back : (xs : List ℕ) → kind_of vr ≡ Some Sequence → At s at (header tag vr undefined ++ xs)
      → element_head (explicitly s) at (length s) unstated low ≡ Ok (Seq tag (at + 12) (length s) true)
  unfolding sequence_head
  sequence-back xs kind h =
      let two : vr < 65536 = all_vrs-two vr (kind_of-all_vrs vr (λ e. let z : ◌≡◌ {A = ℕ} 0 1 = cc in omega arith)) in
      let b : At s at (tag_bytes tag ++ (low2 vr ++ (0 ∷ 0 ∷ (low4 undefined ++ xs)))) = rw (header-sequence tag vr undefined kind) at h in
      let w = long-head undefined xs true two (omega arith) b in
      w.0 ∙ vr_head-sequence s at (length s) tag vr kind ∙ w.1

  pub empty-back : (xs : List ℕ) → kind_of vr ≡ Some Sequence → At s at (header tag vr 0 ++ xs)
      → element_head (explicitly s) at (length s) unstated low ≡ Ok (Seq tag (at + 12) (at + 12 + 0) false)
  unfolding sequence_head length_fault
  empty-back xs kind h =
      let two : vr < 65536 = all_vrs-two vr (kind_of-all_vrs vr (λ e. let z : ◌≡◌ {A = ℕ} 0 1 = cc in omega arith)) in
      let b : At s at (tag_bytes tag ++ (low2 vr ++ (0 ∷ 0 ∷ (low4 0 ++ xs)))) = rw (header-sequence tag vr 0 kind) at h in
      let w = long-head 0 xs true two (omega arith) b in
      w.0 ∙ vr_head-sequence s at (length s) tag vr kind ∙ w.1 ∙ rw (le-ltb (length s - (at + 12)) 0 (omega arith))

-- ---- the marks

module _ (s : List ℕ) (at : ℕ) (xs : List ℕ) where
  -- what is read of a mark: its tag, its length, and that it has room
  mark-at : (tag n : ℕ) → tag < 4294967296 → n < 4294967296 → At s at (mark tag n ++ xs)
      → (tag_at s at ≡ tag) × (le4 s (at + 4) ≡ n) × (8 ≤ length s - at)
  unfolding mark
  mark-at tag n t l h = (tag_at-at tag (low4 n ++ xs) t h, le4-at h 4 ∙ low4-le4 n l, omega (arith, h.size))

  pub item_end-back : (low : ℕ) → At s at (mark item_end 0 ++ xs) → element_head (explicitly s) at (length s) true low ≡ Ok (End (at + 8))
  unfolding element_head
  item_end-back low h =
      let m = mark-at item_end 0 (omega arith) (omega arith) h in
      rw (apart at (length s) m.2, le-ltb (length s - at) 8 m.2, m.0, m.1)

  pub sequence_end-back : (depth : ℕ) → At s at (mark sequence_end 0 ++ xs) → item_head s at (length s) true depth ≡ Ok (Over (at + 8))
  unfolding item_head
  sequence_end-back depth h =
      let m = mark-at sequence_end 0 (omega arith) (omega arith) h in
      rw (apart at (length s) m.2, le-ltb (length s - at) 8 m.2, m.0, m.1)

  pub item-back : (depth : ℕ) → 0 < depth → At s at (mark item_tag undefined ++ xs) → item_head s at (length s) true depth ≡ Ok (Item (at + 8) (length s) true)
  unfolding item_head item_at item_body
  item-back depth d h =
      let m = mark-at item_tag undefined (omega arith) (omega arith) h in
      rw (apart at (length s) m.2, le-ltb (length s - at) 8 m.2, m.0, ne_eqb depth 0 (λ e. omega arith), m.1)
