-- The loop of `uid_len`: what holds at its head, and each way on or out of it; and the answers of `is_uid_upto`. No contract cites this
-- file. Assumes nothing.
--     Onward                              at the head: what was passed is components, each with its dot
--     onward-start, onward-upto, onward-none, onward-whole, onward-inside, onward-slash, onward-other, onward-go
--     upto-long, upto-none, upto-span     too long; no byte; by the span
use mathlib.Core.Path.{◌≡◌, refl, sym, ap, ap₂, ◌∙◌}
use mathlib.Core.Bool.{Bool, true, false, ◌&&◌, true≢false, and-false}
use mathlib.Core.List.{List, [], ◌∷◌, ◌++◌, append-nil}
use Prim.Native.Nat.{ℕ, ◌+◌, ◌-◌, ◌≤◌, ◌<◌}
use native.Mathlib.Omega.{arith}
use borrow.Author.Tests.{eq-eqb, ne_eqb, le-leb, lt-leb}
use lib.Dec.{eqb, leb}
use lib.ListN.{length, take, drop, get_or, length-append}
use lib.Seq.{get_or-take, get_or-drop}
use Rattle.basis.specs.Bytes.{part}
use Rattle.basis.specs.Pieces.{backslash, first_piece, piece_end}
use Rattle.basis.specs.Choice.{every}
use Rattle.basis.proofs.BytesLaws.{part-all, length-part, part-part, part-cons, part-front}
use Rattle.basis.proofs.PiecesLaws.{Free}
use Rattle.basis.proofs.PieceEndLaws.{first_piece-cons, first_piece-none, first_piece-stop, first_piece-append, Cuts, whole, cut, cuts}
use Rattle.uid.specs.Uid.{dot, component, components, formed, uid_upto}
use Rattle.uid.specs.Scan.{uid_span, lead}
use Rattle.uid.proofs.UidLaws.{component-digits, every-free, formed-one, formed-dot, formed-free}
use Rattle.uid.proofs.ScanLaws.{lead-le, lead-component, lead-stops, lead-none, formed-spoilt, span-good, span-bad}

-- ---- uid_span

-- what stands before i is components, each with its dot: from i on the piece ends where the first piece does, and it is formed as a
-- UID is where that one is
pub record Onward (v : List ℕ) (i : ℕ) : Type 0 where
  pub hi : i ≤ length v
  pub ends : length (first_piece v) ≡ piece_end v i (length v)
  pub alike : formed (first_piece v) ≡ formed (first_piece (part v i (length v)))

pub onward-start : (v : List ℕ) → Onward v 0
onward-start v =
    let p : first_piece v ≡ first_piece (part v 0 (length v)) = ap first_piece (sym (part-all v)) in
    record { hi = omega arith; ends = omega (arith, ap length p); alike = ap formed p }

module _ {v : List ℕ} {i n : ℕ} (w : Onward v i) (is : n ≡ lead (part v i (length v))) where
  -- where the component ends, and the text
  abbrev e : ℕ
  e = i + n

  abbrev stop : ℕ
  stop = length v

  bad : formed (first_piece (part v i stop)) ≡ false → 0 ≡ uid_span v
  bad f = sym (span-bad v (w.alike ∙ f))

  good : formed (first_piece (part v i stop)) ≡ true → e ≡ piece_end v i stop → e ≡ uid_span v
  good f k = k ∙ sym w.ends ∙ sym (span-good v (w.alike ∙ f))

  pub onward-upto : i + n ≤ length v
  onward-upto = omega (arith, lead-le (part v i stop), length-part v i stop (omega arith), w.hi)

  -- no component
  pub onward-none : n ≡ 0 → 0 ≡ uid_span v
  onward-none k = bad (lead-none (part v i stop) (sym is ∙ k))

  module _ (new : (n ≡ 0 → ⊥)) where
    front : take (lead (part v i stop)) (part v i stop) ≡ part v i e
    front = part-front v i stop (lead (part v i stop)) (omega (arith, onward-upto)) ∙ ap (λ k. part v i (i + k)) (sym is)

    leads : component (part v i e) ≡ true
    leads = ap component (sym front) ∙ lead-component (part v i stop) (omega arith)

    no-stop : Free backslash (part v i e)
    no-stop = every-free backslash refl (part v i e) (component-digits (part v i e) leads)

    size : length (part v i e) ≡ e - i
    size = length-part v i e (omega (arith, onward-upto))

    -- a component is the rest of the piece
    last : first_piece (part v i stop) ≡ part v i e → e ≡ uid_span v
    last p = good (ap formed p ∙ formed-one (part v i e) leads) (omega (arith, ap length p, size, is))

    -- ... up to the end
    pub onward-whole : i + n ≡ length v → i + n ≡ uid_span v
    onward-whole k =
        last (ap (λ n. first_piece (part v i n)) (sym k) ∙ ap first_piece (sym (append-nil (part v i e))) ∙ first_piece-append (part v i e) [] no-stop
        ∙ ap (λ z. part v i e ++ z) first_piece-none ∙ append-nil (part v i e))

    module _ (before : (i + n ≡ length v → ⊥)) where
      pub onward-inside : i + n < length v
      onward-inside = omega (arith, onward-upto)

      behind : (x : ℕ) → get_or v e 0 ≡ x → first_piece (part v i stop) ≡ part v i e ++ first_piece (x ∷ part v (e + 1) stop)
      behind x k =
          ap first_piece (part-part v i e stop (omega arith) (omega (arith, onward-upto)) ∙ ap (λ z. part v i e ++ z) (part-cons v e stop onward-inside (omega arith))
          ∙ ap (λ y. part v i e ++ y ∷ part v (e + 1) stop) k)
          ∙ first_piece-append (part v i e) (x ∷ part v (e + 1) stop) no-stop

      -- ... up to a backslash
      pub onward-slash : get_or v (i + n) 0 ≡ backslash → i + n ≡ uid_span v
      onward-slash k =
          last (behind backslash k ∙ ap (λ z. part v i e ++ z) (first_piece-stop (part v (e + 1) stop)) ∙ append-nil (part v i e))

      -- behind it stands what may not
      pub onward-other : (get_or v (i + n) 0 ≡ backslash → ⊥) → (get_or v (i + n) 0 ≡ dot → ⊥) → 0 ≡ uid_span v
      onward-other n d =
          let m : length (part v i stop) ≡ stop - i = length-part v i stop (omega arith) in
          let at : get_or (part v i stop) (lead (part v i stop)) 0 ≡ get_or v e 0 =
          get_or-take (stop - i) (drop i v) (lead (part v i stop)) 0 (omega (arith, onward-inside)) ∙ get_or-drop i v (lead (part v i stop)) 0
          ∙ ap (λ k. get_or v (i + k) 0) (sym is) in
          let stops : (c : List ℕ) → component (part v i e ++ get_or v e 0 ∷ c) ≡ false =
          λ c. ap₂ (λ p x. component (p ++ x ∷ c)) (sym front) (sym at) ∙ lead-stops (part v i stop) (omega arith) (omega (arith, onward-inside)) c in
          bad (ap formed (behind (get_or v e 0) refl ∙ sym (first_piece-append (part v i e) (get_or v e 0 ∷ part v (e + 1) stop) no-stop))
          ∙ formed-spoilt (part v i e) (part v (e + 1) stop) (get_or v e 0) leads stops d n)

      -- behind it stands a dot
      pub onward-go : get_or v (i + n) 0 ≡ dot → Onward v (i + n + 1)
      onward-go k =
          let p : first_piece (part v i stop) ≡ part v i e ++ dot ∷ first_piece (part v (e + 1) stop) =
          behind dot k ∙ ap (λ z. part v i e ++ z) (first_piece-cons dot (part v (e + 1) stop) (omega arith)) in
          record {
            hi = omega (arith, onward-inside);
            ends = w.ends ∙ omega (arith, ap length p, size, length-append (part v i e) (dot ∷ first_piece (part v (e + 1) stop)));
            alike = w.alike ∙ ap formed p ∙ formed-dot (part v i e) (first_piece (part v (e + 1) stop)) leads;
          }

-- ---- uid_upto

-- a text without a backslash is its own first piece
first_piece-all : (v : List ℕ) → Free backslash v → first_piece v ≡ v
first_piece-all v f =
    ap first_piece (sym (append-nil v)) ∙ first_piece-append v [] f ∙ ap (λ z. v ++ z) first_piece-none ∙ append-nil v

-- and one as long as its first piece is
first_piece-long : (v : List ℕ) → length (first_piece v) ≡ length v → first_piece v ≡ v
first_piece-long v e = step (cuts v)
  where
    step : Cuts v → first_piece v ≡ v
    step (whole f h k) = h
    step (cut r h f k) = absurd (omega (arith, e, ap length h, length-append (first_piece v) (backslash ∷ r)))

-- a text that is not empty is formed as a UID is, where its span is all of it
span-all : (v : List ℕ) → 0 < length v → eqb (uid_span v) (length v) ≡ formed v
span-all v h = step (formed v) refl (formed (first_piece v)) refl
  where
    step : (b : Bool) → formed v ≡ b → (c : Bool) → formed (first_piece v) ≡ c → eqb (uid_span v) (length v) ≡ b
    step true e c f =
        let p : first_piece v ≡ v = first_piece-all v (formed-free backslash refl (omega arith) v e) in
        eq-eqb (uid_span v) (length v) (span-good v (ap formed p ∙ e) ∙ ap length p)
    step false e true f = ne_eqb (uid_span v) (length v) (λ k. true≢false (sym f ∙ ap formed (first_piece-long v (sym (span-good v f) ∙ k)) ∙ e))
    step false e false f = ne_eqb (uid_span v) (length v) (λ k. omega (arith, k, span-bad v f))

pub upto-span : (longest : ℕ) (v : List ℕ) → 0 < length v → length v ≤ longest → eqb (uid_span v) (length v) ≡ uid_upto longest v
upto-span longest v h k = span-all v h ∙ sym (ap (λ b. b && formed v) (le-leb (length v) longest k))

pub upto-long : (longest : ℕ) (v : List ℕ) → longest < length v → false ≡ uid_upto longest v
upto-long longest v h = sym (ap (λ b. b && formed v) (lt-leb (length v) longest h))

pub upto-none : (longest : ℕ) (v : List ℕ) → length v ≡ 0 → false ≡ uid_upto longest v
unfolding formed components every component
upto-none longest [] h = sym (and-false (leb 0 longest))
upto-none longest (x ∷ v) h = absurd (omega arith)
