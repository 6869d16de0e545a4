-- The round trip: what is written reads back as what it was, whatever the depth limit that holds it, and so two well-made data sets
-- with the same bytes are one. No contract cites this file. Assumes nothing.
--     Back strip r b s at xs    the result r, read from `at` on, is b without its labels; what follows it in s is xs
--     read-bytes_of          THE LAW
--     bytes_of-inj           two well-made data sets with the same bytes are one
use mathlib.Core.Path.{◌≡◌, refl, sym, ap, ap₂, ◌∙◌}
use mathlib.Core.Bool.{Bool, true, false}
use mathlib.Core.List.{List, [], ◌++◌}
use Rattle.std.specs.Prelude.{Option, None, Some, Ok}
use Prim.Native.Nat.{ℕ, zero, suc, ◌+◌, ◌-◌, ◌%◌, ◌≤◌, ◌<◌}
use native.Mathlib.Omega.{arith}
use lib.ListN.{length, length-append}
use borrow.Author.Tests.{eq-eqb}
use Rattle.basis.specs.Bytes.{part}
use Rattle.vr.specs.Names.{SQ}
use Rattle.vr.specs.Vr.{kind_of}
use Rattle.vr.specs.declared.Kind.{Kind}
use Rattle.vr.specs.declared.Kind.TheVariants.{Short, Long, Sequence}
use Rattle.layout.specs.Source.{explicitly}
use Rattle.layout.specs.Tree.{Field, value, items, Elements, nil, elem, Items, none, item, Data, bare, bare_field, bare_items}
use Rattle.layout.specs.Heads.{item_tag, item_end, sequence_end, undefined, allowed, element_head, item_head}
use Rattle.layout.specs.Read.{Result, good, with, after, placed, elements_at, items_at, read}
use Rattle.layout.specs.Write.{mark, header, put_elements, put_field, put_sequence, put_items, bytes_of, opened, closed}
use Rattle.layout.specs.Made.{lengths_below, Made, MadeField, MadeItems}
use Rattle.layout.specs.declared.Head.TheVariants.{End, Plain, Seq}
use Rattle.layout.specs.declared.Spot.TheVariants.{Item}
use Rattle.layout.proofs.ReadLaws.{at-end, at-plain, at-seq, at-over, at-item}
use Rattle.layout.proofs.LiesLaws.{lengths_below-unknown, lengths_below-short, lengths_below-long, lengths_below-sequence}
use Rattle.layout.proofs.MarkLaws.{At, at-next, part-at, header-short, header-long, header-sequence, short-back, long-back, sequence-back, empty-back, item_end-back, sequence_end-back, item-back}

pub record Back {A B : Type 0} (strip : A → B) (r : Result A) (b : B) (s : List ℕ) (at : ℕ) (xs : List ℕ) : Type 0 where
  pub found : A
  pub past : ℕ
  pub reads : r ≡ good found past
  pub same : strip found ≡ b
  pub up : at ≤ past
  pub here : At s past xs

-- a bound above a number is a successor
fuelled : (P : ℕ → Type 0) (n f : ℕ) → n < f → ((g : ℕ) → n ≤ g → P (suc g)) → P f
fuelled P n zero h k = absurd (omega arith)
fuelled P n (suc g) h k = k g (omega arith)

-- ---- how long headers are

short-length : (tag vr n : ℕ) → kind_of vr ≡ Some Short → length (header tag vr n) ≡ 8
short-length tag vr n e = ap length (header-short tag vr n e)

long-length : (tag vr n : ℕ) → kind_of vr ≡ Some Long → length (header tag vr n) ≡ 12
long-length tag vr n e = ap length (header-long tag vr n e)

sequence-length : (tag vr n : ℕ) → kind_of vr ≡ Some Sequence → length (header tag vr n) ≡ 12
sequence-length tag vr n e = ap length (header-sequence tag vr n e)

sq-sequence : kind_of SQ ≡ Some Sequence
unfolding kind_of
sq-sequence = refl

-- ---- a tree without labels is itself

mutual
  unfolding bare bare_field bare_items

  bare-bare-field : (f : Field (Unit {0})) → bare_field f ≡ f
  bare-bare-field (value v) = refl
  bare-bare-field (items is) = ap items (bare-bare-items is)

  pub bare-bare : (d : Data) → bare d ≡ d
  bare-bare nil = refl
  bare-bare (elem l tag vr f es) = ap₂ (λ x y. elem tt tag vr x y) (bare-bare-field f) (bare-bare es)

  bare-bare-items : (is : Items (Unit {0})) → bare_items is ≡ is
  bare-bare-items none = refl
  bare-bare-items (item es is) = ap₂ item (bare-bare es) (bare-bare-items is)

-- ---- past something of a known length

past : {s : List ℕ} {at : ℕ} (hs xs : List ℕ) (n : ℕ) → length hs ≡ n → At s at (hs ++ xs) → At s (at + n) xs
past {s} {at} hs xs n e h = rw (← e) (at-next hs xs h)

-- ---- the elements of a level, one at a time

module _ (s : List ℕ) (j at : ℕ) (unstated : Bool) (depth low tag : ℕ) (left : length s - at < suc j) (rises : low ≤ tag) (may : allowed tag ≡ true)
    (d : Data) (k xs : List ℕ)
    (next : (p : ℕ) → At s p k → length s - p < j → Back bare (elements_at j (explicitly s) p (length s) unstated depth (tag + 1)) d s p xs) where
  -- an element with a value, once its head is known
  value-step : (vr body : ℕ) (v : List ℕ) → at < body → At s body (v ++ k)
      → element_head (explicitly s) at (length s) unstated low ≡ Ok (Plain tag vr body (body + length v))
      → Back bare (elements_at (suc j) (explicitly s) at (length s) unstated depth low) (elem tt tag vr (value v) d) s at xs
  unfolding bare bare_field
  value-step vr body v lt h e =
      let b = next (body + length v) (at-next v k h) (omega arith) in record {
        found = elem (placed at body (body + length v)) tag vr (value (part s body (body + length v))) b.found;
        past = b.past;
        reads = at-plain (explicitly s) at (length s) unstated depth low j tag vr body (body + length v) (sym e)
            ∙ ap (with (elem (placed at body (body + length v)) tag vr (value (part s body (body + length v))))) b.reads;
        same = ap₂ (λ x y. elem tt tag vr (value x) y) (part-at v k h) b.same;
        up = omega (arith, b.up);
        here = b.here;
      }

  -- a sequence, once its items were read
  items-step : (body stop : ℕ) (m : Bool) (is : Items (Unit {0})) → at < body → element_head (explicitly s) at (length s) unstated low ≡ Ok (Seq tag body stop m)
      → (q : Back bare_items (items_at j (explicitly s) body stop m depth) is s body k)
      → Back bare (elements_at (suc j) (explicitly s) at (length s) unstated depth low) (elem tt tag SQ (items is) d) s at xs
  unfolding bare bare_field
  items-step body stop m is lt e q =
      let b = next q.past q.here (omega (arith, q.here.size, q.up)) in record {
        found = elem (placed at body q.past) tag SQ (items q.found) b.found;
        past = b.past;
        reads = at-seq (explicitly s) at (length s) unstated depth low j tag body stop m (sym e)
            ∙ ap (λ r. after r (λ is p. with (elem (placed at body p) tag SQ (items is)) (elements_at j (explicitly s) p (length s) unstated depth (tag + 1)))) q.reads
            ∙ ap (with (elem (placed at body q.past) tag SQ (items q.found))) b.reads;
        same = ap₂ (λ x y. elem tt tag SQ (items x) y) q.same b.same;
        up = omega (arith, q.up, b.up);
        here = b.here;
      }

-- ---- the items of a sequence, one at a time

module _ (s : List ℕ) (j at depth : ℕ) (es : Data) (is : Items (Unit {0})) (ks xs : List ℕ) where
  item-step : 0 < depth → length s - at < suc j → item_head s at (length s) true depth ≡ Ok (Item (at + 8) (length s) true)
      → (one : Back bare (elements_at j (explicitly s) (at + 8) (length s) true (depth - 1) 0) es s (at + 8) ks)
      → ((p : ℕ) → At s p ks → length s - p < j → Back bare_items (items_at j (explicitly s) p (length s) true depth) is s p xs)
      → Back bare_items (items_at (suc j) (explicitly s) at (length s) true depth) (item es is) s at xs
  unfolding bare_items
  item-step pos left e one next =
      let b = next one.past one.here (omega (arith, one.here.size, one.up)) in record {
        found = item one.found b.found;
        past = b.past;
        reads = at-item (explicitly s) at (length s) true depth j (at + 8) (length s) true (sym e)
            ∙ ap (λ r. after r (λ es p. with (item es) (items_at j (explicitly s) p (length s) true depth))) one.reads
            ∙ ap (with (item one.found)) b.reads;
        same = ap₂ item one.same b.same;
        up = omega (arith, one.up, b.up);
        here = b.here;
      }

-- ---- the whole tree

-- the elements of a level end where `rest` begins
abbrev Ends : List ℕ → Bool → List ℕ → List ℕ → Type 0
Ends s unstated rest xs = (p low : ℕ) → At s p rest → (q : ℕ) × (element_head (explicitly s) p (length s) unstated low ≡ Ok (End q)) × (p ≤ q) × At s q xs

-- ... by an end mark
mark-ends : (s xs : List ℕ) → Ends s true (closed xs) xs
unfolding mark
mark-ends s xs p low h = (p + 8, item_end-back s p xs low h, omega arith, past (mark item_end 0) xs 8 refl h)

-- ... with the data set
data-ends : (s : List ℕ) → Ends s false [] []
unfolding element_head
data-ends s p low h = let e : p ≡ length s = omega (arith, h.size) in (p, rw (eq-eqb p (length s) e), omega arith, h)

-- a value's element, by the kind of its VR; of the other kinds there is none
value-back : (s : List ℕ) (j at : ℕ) (unstated : Bool) (depth low tag vr : ℕ) (v : List ℕ) → length s - at < suc j → low ≤ tag → allowed tag ≡ true
    → length v % 2 ≡ 0 → length v < lengths_below vr → (d : Data) (k xs : List ℕ)
    → ((p : ℕ) → At s p k → length s - p < j → Back bare (elements_at j (explicitly s) p (length s) unstated depth (tag + 1)) d s p xs)
    → At s at (header tag vr (length v) ++ (v ++ k))
    → Back bare (elements_at (suc j) (explicitly s) at (length s) unstated depth low) (elem tt tag vr (value v) d) s at xs
value-back s j at unstated depth low tag vr v left rises may even fits d k xs next h = step (kind_of vr) refl fits
  where
    le : length v ≤ length (v ++ k)
    le = rw (length-append v k) (omega arith)

    step : (kind : Option Kind) → kind_of vr ≡ kind → length v < lengths_below vr
        → Back bare (elements_at (suc j) (explicitly s) at (length s) unstated depth low) (elem tt tag vr (value v) d) s at xs
    step None e f = absurd (let z : length v < 0 = rw (lengths_below-unknown vr e) at f in omega arith)
    step (Some Short) e f =
        value-step s j at unstated depth low tag left rises may d k xs next vr (at + 8) v (omega arith)
        (past (header tag vr (length v)) (v ++ k) 8 (short-length tag vr (length v) e) h)
        (short-back s at unstated low tag vr rises may (length v) (v ++ k) e (rw (lengths_below-short vr e) at f) even le h)
    step (Some Long) e f =
        value-step s j at unstated depth low tag left rises may d k xs next vr (at + 12) v (omega arith)
        (past (header tag vr (length v)) (v ++ k) 12 (long-length tag vr (length v) e) h)
        (long-back s at unstated low tag vr rises may (length v) (v ++ k) e (rw (lengths_below-long vr e) at f) even le h)
    step (Some Sequence) e f = absurd (let z : length v < 0 = rw (lengths_below-sequence vr e) at f in omega arith)

-- a sequence without items
empty-back-items : (s : List ℕ) (f at depth : ℕ) (xs : List ℕ) → 0 < f → At s at xs
    → Back bare_items (items_at f (explicitly s) at (at + 0) false depth) none s at xs
unfolding bare_items item_head
empty-back-items s f at depth xs pos h =
    fuelled (λ g. Back bare_items (items_at g (explicitly s) at (at + 0) false depth) none s at xs) 0 f pos (λ g _. record {
      found = none;
      past = at;
      reads = at-over (explicitly s) at (at + 0) false depth g at (rw (eq-eqb at (at + 0) (omega arith)));
      same = refl;
      up = omega arith;
      here = h;
    })

-- an item and those after it: ys are the bytes of its elements and all that follows, ks those after its end mark
item-whole : (s : List ℕ) (f at depth : ℕ) (es : Data) (is : Items (Unit {0})) (ys ks xs : List ℕ) → length s - at < f → 0 < depth → At s at (opened ys)
    → ((g : ℕ) → At s (at + 8) ys → length s - (at + 8) < g → Back bare (elements_at g (explicitly s) (at + 8) (length s) true (depth - 1) 0) es s (at + 8) ks)
    → ((g p : ℕ) → At s p ks → length s - p < g → Back bare_items (items_at g (explicitly s) p (length s) true depth) is s p xs)
    → Back bare_items (items_at f (explicitly s) at (length s) true depth) (item es is) s at xs
unfolding mark
item-whole s f at depth es is ys ks xs left pos h one next =
    let here : At s (at + 8) ys = past (mark item_tag undefined) ys 8 refl h in
    fuelled (λ g. Back bare_items (items_at g (explicitly s) at (length s) true depth) (item es is) s at xs) (length s - at) f left (λ g q.
    item-step s g at depth es is ks xs pos (omega arith) (item-back s at ys depth pos h)
    (one g here (omega (arith, here.size))) (λ p a l. next g p a l))

-- no more items
over-whole : (s : List ℕ) (f at depth : ℕ) (xs : List ℕ) → length s - at < f → At s at (mark sequence_end 0 ++ xs)
    → Back bare_items (items_at f (explicitly s) at (length s) true depth) none s at xs
unfolding bare_items mark
over-whole s f at depth xs left h =
    fuelled (λ g. Back bare_items (items_at g (explicitly s) at (length s) true depth) none s at xs) (length s - at) f left (λ g q. record {
      found = none;
      past = at + 8;
      reads = at-over (explicitly s) at (length s) true depth g (at + 8) (sym (sequence_end-back s at xs depth h));
      same = refl;
      up = omega arith;
      here = past (mark sequence_end 0) xs 8 refl h;
    })

-- no more elements
nil-whole : (s : List ℕ) (f at : ℕ) (unstated : Bool) (depth low : ℕ) (rest xs : List ℕ) → length s - at < f → At s at rest → Ends s unstated rest xs
    → Back bare (elements_at f (explicitly s) at (length s) unstated depth low) nil s at xs
unfolding bare
nil-whole s f at unstated depth low rest xs left h ends =
    let e = ends at low h in
    fuelled (λ g. Back bare (elements_at g (explicitly s) at (length s) unstated depth low) nil s at xs) (length s - at) f left (λ g q. record {
      found = nil;
      past = e.0;
      reads = at-end (explicitly s) at (length s) unstated depth low g e.0 (sym e.1);
      same = refl;
      up = e.2;
      here = e.3;
    })

mutual
  unfolding Made MadeField MadeItems put_elements put_field put_sequence put_items bare bare_field bare_items

  back-field : {L : Type 0} (f : Field L) (s : List ℕ) (j at : ℕ) (unstated : Bool) (depth low tag vr : ℕ) → length s - at < suc j → low ≤ tag
      → allowed tag ≡ true → MadeField depth vr f → (d : Data) (k xs : List ℕ)
      → ((p : ℕ) → At s p k → length s - p < j → Back bare (elements_at j (explicitly s) p (length s) unstated depth (tag + 1)) d s p xs)
      → At s at (put_field tag vr f k) → Back bare (elements_at (suc j) (explicitly s) at (length s) unstated depth low) (elem tt tag vr (bare_field f) d) s at xs
  back-field (value v) s j at unstated depth low tag vr left rises may m d k xs next h =
      value-back s j at unstated depth low tag vr v left rises may m.0 m.1 d k xs next h
  back-field (items is) s j at unstated depth low tag vr left rises may m d k xs next h =
      rw m.0 (back-sequence is s j at unstated depth low tag left rises may m.1 d k xs next (rw m.0 at h))

  back-sequence : {L : Type 0} (is : Items L) (s : List ℕ) (j at : ℕ) (unstated : Bool) (depth low tag : ℕ) → length s - at < suc j → low ≤ tag
      → allowed tag ≡ true → MadeItems depth is → (d : Data) (k xs : List ℕ)
      → ((p : ℕ) → At s p k → length s - p < j → Back bare (elements_at j (explicitly s) p (length s) unstated depth (tag + 1)) d s p xs)
      → At s at (put_sequence tag SQ is k) → Back bare (elements_at (suc j) (explicitly s) at (length s) unstated depth low) (elem tt tag SQ (items (bare_items is)) d) s at xs
  back-sequence none s j at unstated depth low tag left rises may m d k xs next h =
      let here : At s (at + 12) k = past (header tag SQ 0) k 12 (sequence-length tag SQ 0 sq-sequence) h in
      items-step s j at unstated depth low tag left rises may d k xs next (at + 12) (at + 12 + 0) false none (omega arith)
      (empty-back s at unstated low tag SQ rises may k sq-sequence h)
      (empty-back-items s j (at + 12) depth k (omega (arith, here.size)) here)
  back-sequence (item es is) s j at unstated depth low tag left rises may m d k xs next h =
      let ys : List ℕ = put_elements es (closed (put_items is k)) in
      let here : At s (at + 12) (opened ys) = past (header tag SQ undefined) (opened ys) 12 (sequence-length tag SQ undefined sq-sequence) h in
      items-step s j at unstated depth low tag left rises may d k xs next (at + 12) (length s) true (item (bare es) (bare_items is)) (omega arith)
      (sequence-back s at unstated low tag SQ rises may (opened ys) sq-sequence h)
      (item-whole s j (at + 12) depth (bare es) (bare_items is) ys (put_items is k) k (omega (arith, here.size)) m.0 here
      (λ g a l. back-elements es g s (at + 12 + 8) true (depth - 1) 0 (closed (put_items is k)) (put_items is k) m.1 a l (mark-ends s (put_items is k)))
      (λ g p a l. back-items is g s p depth k m.2 a l))

  back-elements : {L : Type 0} (es : Elements L) (f : ℕ) (s : List ℕ) (at : ℕ) (unstated : Bool) (depth low : ℕ) (rest xs : List ℕ) → Made depth low es
      → At s at (put_elements es rest) → length s - at < f → Ends s unstated rest xs
      → Back bare (elements_at f (explicitly s) at (length s) unstated depth low) (bare es) s at xs
  back-elements nil f s at unstated depth low rest xs m h left ends = nil-whole s f at unstated depth low rest xs left h ends
  back-elements (elem l tag vr x es) f s at unstated depth low rest xs m h left ends =
      fuelled (λ g. Back bare (elements_at g (explicitly s) at (length s) unstated depth low) (elem tt tag vr (bare_field x) (bare es)) s at xs) (length s - at) f left (λ g q.
      back-field x s g at unstated depth low tag vr (omega arith) m.0 m.1 m.2 (bare es) (put_elements es rest) xs
      (λ p a i. back-elements es g s p unstated depth (tag + 1) rest xs m.3 a i ends) h)

  back-items : {L : Type 0} (is : Items L) (f : ℕ) (s : List ℕ) (at depth : ℕ) (k : List ℕ) → MadeItems depth is → At s at (put_items is k)
      → length s - at < f → Back bare_items (items_at f (explicitly s) at (length s) true depth) (bare_items is) s at k
  back-items none f s at depth k m h left = over-whole s f at depth k left h
  back-items (item es is) f s at depth k m h left =
      item-whole s f at depth (bare es) (bare_items is) (put_elements es (closed (put_items is k))) (put_items is k) k left m.0 h
      (λ g a l. back-elements es g s (at + 8) true (depth - 1) 0 (closed (put_items is k)) (put_items is k) m.1 a l (mark-ends s (put_items is k)))
      (λ g p a l. back-items is g s p depth k m.2 a l)

-- ---- THE LAW

pub read-bytes_of : {L : Type 0} (depth : ℕ) (d : Elements L) → Made depth 0 d → with bare (read depth (explicitly (bytes_of d))) ≡ good (bare d) (length (bytes_of d))
unfolding read bytes_of
read-bytes_of depth d m =
    let s : List ℕ = put_elements d [] in
    let b : Back bare (elements_at (suc (length s)) (explicitly s) 0 (length s) false depth 0) (bare d) s 0 [] =
    back-elements d (suc (length s)) s 0 false depth 0 [] [] m (record { rest = refl; size = omega arith }) (omega arith) (data-ends s) in
    ap (with bare) b.reads ∙ ap₂ good b.same (omega (arith, b.here.size))

pub bytes_of-inj : (depth : ℕ) (d e : Data) → Made depth 0 d → Made depth 0 e → bytes_of d ≡ bytes_of e → d ≡ e
bytes_of-inj depth d e m n q =
    let r : good (bare d) (length (bytes_of d)) ≡ good (bare e) (length (bytes_of e)) =
    sym (read-bytes_of depth d m) ∙ ap (λ s. with bare (read depth (explicitly s))) q ∙ read-bytes_of depth e n in
    let i : bare d ≡ bare e = cc in
    sym (bare-bare d) ∙ i ∙ bare-bare e
