-- The loop of `put_uids`: what holds at its head, and each way on or out of it. No contract cites this file. Assumes nothing.
--     pieces_from v a              the pieces of v from the place a on
--     Going                        at the head: the text so far and what is left make the whole; so do the names so far
--     start                        before the first piece
--     piece-upto                   the piece at hand ends within the value
--     stop                         out: the piece is too long for a slot, or no slot is left
--     uid-bound                    of a slot that was found: there is a place for the new UID
--     done, go                     the last piece; another one follows
use mathlib.Core.Path.{◌≡◌, refl, sym, ap, ap₂, ◌∙◌, subst}
use mathlib.Core.Bool.{true}
use Rattle.std.specs.Prelude.{Option, None, Some}
use Rattle.std.proofs.lemmas.Option.{none-some}
use mathlib.Core.List.{List, [], ◌∷◌, ◌++◌, map, append_assoc}
use Prim.Native.Nat.{ℕ, ◌+◌, ◌*◌, ◌≤◌, ◌<◌}
use native.Mathlib.Decide.{dec_lt}
use native.Mathlib.Omega.{arith}
use lib.ListN.{length, take, length-append}
use lib.Seq.{take-take}
use Rattle.basis.specs.Bytes.{part}
use Rattle.basis.specs.Pieces.{backslash, pieces, after, joined, piece_end}
use Rattle.basis.specs.Choice.{every}
use Rattle.basis.proofs.BytesLaws.{part-all}
use Rattle.basis.proofs.ChoiceLaws.{both-true}
use Rattle.basis.proofs.PiecesLaws.{pieces-some, joined-one}
use Rattle.basis.proofs.PieceEndLaws.{PieceEnd, piece_end-is, pieces-last, pieces-more}
use Rattle.buffer.specs.Buffer.{laid}
use Rattle.buffer.proofs.Laws.{laid-none, laid-more, laid-over, length-laid}
use Rattle.uid.specs.Uid.{longest_root, is_uid, longest_uid}
use Rattle.uid.specs.NewUid.{new_uid}
use Rattle.uid.proofs.UidLaws.{uid_upto-is}
use Rattle.uid.proofs.NewUidLaws.{new_uid-short}
use Rattle.ledger.specs.FirstMet.{learn, learns, number_of, numbers, same_uid}
use Rattle.ledger.specs.Slots.{slot_size, slots_of, slot_of, slots_in, flat}
use Rattle.ledger.specs.declared.Slot.{Slot}
use Rattle.ledger.proofs.FirstMetLaws.{learns-length}
use Rattle.ledger.proofs.LaidLaws.{laid-same}
use Rattle.ledger.proofs.SlotLaws.{slots_of-fits, length-slot_of, flat-slots_in, flat-learn}
use Rattle.ledger.proofs.SlotForLaws.{Slotted, slot_for-is}
use Rattle.write_uids.specs.Steps.{SlotFound, text_of, Texted}

-- ---- text and names, a piece at a time

text-last : (root : List ℕ) (ks : List (List ℕ)) (u : List ℕ)
    → text_of root ks (u ∷ []) ≡ new_uid root (number_of same_uid (learn same_uid ks (slot_of u)) (slot_of u))
unfolding numbers
text-last root ks u = joined-one (new_uid root (number_of same_uid (learn same_uid ks (slot_of u)) (slot_of u)))

text-more : (root : List ℕ) (ks : List (List ℕ)) (u : List ℕ) (us : List (List ℕ)) → 0 < length us
    → text_of root ks (u ∷ us)
    ≡ new_uid root (number_of same_uid (learn same_uid ks (slot_of u)) (slot_of u)) ++ backslash ∷ text_of root (learn same_uid ks (slot_of u)) us
unfolding joined after numbers
text-more root ks u [] h = absurd (omega arith)
text-more root ks u (v ∷ us) h = refl

learns-one : (ks : List (List ℕ)) (u : List ℕ) (us : List (List ℕ))
    → learns same_uid ks (map slot_of (u ∷ us)) ≡ learns same_uid (learn same_uid ks (slot_of u)) (map slot_of us)
unfolding learns
learns-one ks u us = refl

learns-none : (ks : List (List ℕ)) → learns same_uid ks (map slot_of []) ≡ ks
unfolding learns
learns-none ks = refl

-- the first of some UIDs is short, and the others are UIDs
first-uid : (u : List ℕ) (us : List (List ℕ)) → every is_uid (u ∷ us) ≡ true → (length u ≤ longest_uid) × (every is_uid us ≡ true)
unfolding every
first-uid u us e = let b = both-true (is_uid u) (every is_uid us) e in ((uid_upto-is longest_uid u b.0).upto, b.1)

-- ---- the loop

abbrev pub pieces_from : List ℕ → ℕ → List (List ℕ)
pieces_from v a = pieces (part v a (length v))

pub record Going (v root l₀ : List ℕ) (used : ℕ) (o₀ : List ℕ) (pos : ℕ) (l o : List ℕ) (a p n : ℕ) : Type 0 where
  pub out_size : length o ≡ length o₀
  pub ledger_size : length l ≡ length l₀
  pub kept : take (slot_size * used) l ≡ take (slot_size * used) l₀
  pub grown : used ≤ n
  pub room : n ≤ slots_of l₀
  pub low : pos ≤ p
  pub bound : p ≤ pos + 66 * a
  pub upto : a ≤ length v
  pub text : List ℕ
  pub laid-is : o ≡ laid o₀ pos text
  pub place-is : p ≡ pos + length text
  pub rest : text ++ text_of root (slots_in l n) (pieces_from v a) ≡ text_of root (slots_in l₀ used) (pieces v)
  pub names : learns same_uid (slots_in l n) (map slot_of (pieces_from v a)) ≡ learns same_uid (slots_in l₀ used) (map slot_of (pieces v))
  pub bytes : l ≡ laid l₀ 0 (flat (slots_in l n))
  pub uids : every is_uid (pieces v) ≡ true → every is_uid (pieces_from v a) ≡ true

pub start : (v root l₀ : List ℕ) (used : ℕ) (o₀ : List ℕ) (pos : ℕ) → used ≤ slots_of l₀ → Going v root l₀ used o₀ pos l₀ o₀ 0 pos used
start v root l₀ used o₀ pos k =
    let e : pieces_from v 0 ≡ pieces v = ap pieces (part-all v) in
    record {
      out_size = refl;
      ledger_size = refl;
      kept = refl;
      grown = omega arith;
      room = k;
      low = omega arith;
      bound = omega arith;
      upto = omega arith;
      text = [];
      laid-is = sym (laid-none o₀ pos);
      place-is = omega arith;
      rest = ap (text_of root (slots_in l₀ used)) e;
      names = ap (λ z. learns same_uid (slots_in l₀ used) (map slot_of z)) e;
      bytes = sym (ap (laid l₀ 0) (flat-slots_in l₀ used (slots_of-fits l₀ used k)) ∙ laid-same l₀ (slot_size * used));
      uids = λ h. ap (every is_uid) e ∙ h;
    }

module _ {v root l₀ : List ℕ} {used : ℕ} {o₀ : List ℕ} {pos : ℕ} {l o : List ℕ} {a p n : ℕ} (g : Going v root l₀ used o₀ pos l o a p n)
    {b : ℕ} (ends : b ≡ piece_end v a (length v)) where
  q : PieceEnd v a (length v) b
  q = piece_end-is v a (length v) g.upto (omega arith) b ends

  pub piece-upto : b ≤ length v
  piece-upto = q.upto

  abbrev u : List ℕ
  u = part v a b

  abbrev x : List ℕ
  x = slot_of u

  abbrev ks : List (List ℕ)
  ks = slots_in l n

  learnt : learns same_uid (learn same_uid ks x) (map slot_of q.others) ≡ learns same_uid (slots_in l₀ used) (map slot_of (pieces v))
  learnt = sym (ap (λ z. learns same_uid ks (map slot_of z)) q.cut ∙ learns-one ks u q.others) ∙ g.names

  kept-on : (l' : List ℕ) → take (slot_size * n) l' ≡ take (slot_size * n) l → take (slot_size * used) l' ≡ take (slot_size * used) l₀
  kept-on l' e =
      sym (take-take (slot_size * used) (slot_size * n) l' (omega (arith, g.grown))) ∙ ap (take (slot_size * used)) e
      ∙ take-take (slot_size * used) (slot_size * n) l (omega (arith, g.grown)) ∙ g.kept

  -- a slot was asked for, and r was answered
  slotted : (l' : List ℕ) (r : Option Slot) → SlotFound u l l' n r → length u ≤ slot_size → Slotted l l' n x r
  slotted l' r f short = slot_for-is l n x (length-slot_of u short) (omega (arith, g.room, g.ledger_size)) r l' (f.short short)

  pub stop-long : slot_size < length u → Texted v root l₀ l used o₀ o pos None
  stop-long lt = record {
    out_size = g.out_size;
    ledger_size = g.ledger_size;
    kept = g.kept;
    bounds = tt;
    right = λ us.
        let t = first-uid u q.others (ap (every is_uid) (sym q.cut) ∙ g.uids us) in
        absurd (omega (arith, t.0));
  }

  pub stop-full : (l' : List ℕ) → Slotted l l' n x None → Texted v root l₀ l' used o₀ o pos None
  stop-full l' w = record {
    out_size = g.out_size;
    ledger_size = w.size ∙ g.ledger_size;
    kept = kept-on l' w.kept;
    bounds = tt;
    right = λ us.
        omega (arith, w.slot.1, learns-length same_uid (learn same_uid ks x) (map slot_of q.others), ap length learnt, g.ledger_size);
  }

  pub stop : {l' : List ℕ} {r : Option Slot} → SlotFound u l l' n r → r ≡ None → Texted v root l₀ l' used o₀ o pos None
  stop {l'} {r} f is = step (dec_lt slot_size (length u))
    where
      step : Dec (slot_size < length u) → Texted v root l₀ l' used o₀ o pos None
      step (yes lt) = subst (λ z. Texted v root l₀ z used o₀ o pos None) (sym (f.long lt).1) (stop-long lt)
      step (no m) = stop-full l' (subst (λ z. Slotted l l' n x z) is (slotted l' r f (omega arith)))

  module _ {l' : List ℕ} {r : Option Slot} {slot : Slot} (f : SlotFound u l l' n r) (is-slot : r ≡ Some slot) where
    short : length u ≤ slot_size
    short = step (dec_lt slot_size (length u))
      where
        step : Dec (slot_size < length u) → length u ≤ slot_size
        step (yes lt) = absurd (none-some slot (sym (f.long lt).0 ∙ is-slot))
        step (no m) = omega arith

    w : Slotted l l' n x (Some slot)
    w = subst (λ z. Slotted l l' n x z) is-slot (slotted l' r f short)

    bytes-on : l' ≡ laid l₀ 0 (flat (learn same_uid ks x))
    bytes-on =
        w.slot.2 ∙ ap (λ z. laid z 0 (flat (learn same_uid ks x))) g.bytes
        ∙ laid-over l₀ 0 (flat ks) (flat (learn same_uid ks x)) (flat-learn ks x)

    pub same-ledger : length l' ≡ length l₀
    same-ledger = w.size ∙ g.ledger_size

    module _ (root-short : length root ≤ longest_root) where
      uid-short : length (new_uid root slot.number) ≤ 64
      uid-short = new_uid-short root 3 (omega arith) slot.number (omega (arith, w.fits))

      pub uid-bound : p + length (new_uid root slot.number) ≤ pos + 66 * (length v + 1)
      uid-bound = omega (arith, uid-short, g.bound, q.from, q.upto)

      module _ {o' : List ℕ} {e : ℕ} (written : (e ≡ p + length (new_uid root slot.number)) × (o' ≡ laid o p (new_uid root slot.number))) where
        laid-uid : o' ≡ laid o₀ pos (g.text ++ new_uid root slot.number)
        laid-uid = laid-more o₀ pos g.text (new_uid root slot.number) g.laid-is g.place-is written.1

        pub done : b ≡ length v → Texted v root l₀ l' used o₀ o' pos (Some (e, slot.used))
        done is =
            let t : g.text ++ new_uid root slot.number ≡ text_of root (slots_in l₀ used) (pieces v)
            = ap (λ z. g.text ++ z) (sym (ap (text_of root ks) (pieces-last q is) ∙ text-last root ks u ∙ ap (new_uid root) (sym w.slot.0))) ∙ g.rest in
            let s : learn same_uid ks x ≡ learns same_uid (slots_in l₀ used) (map slot_of (pieces v))
            = sym (ap (λ z. learns same_uid (learn same_uid ks x) (map slot_of z)) (q.last is) ∙ learns-none (learn same_uid ks x)) ∙ learnt in
            record {
              out_size = ap length laid-uid ∙ length-laid _ _ _;
              ledger_size = same-ledger;
              kept = kept-on l' w.kept;
              bounds = omega (arith, w.fits, g.grown, g.ledger_size, written.0, uid-bound, g.low);
              right = λ us. (
                omega (arith, written.0, g.place-is, length-append g.text (new_uid root slot.number), ap length t),
                laid-uid ∙ ap (laid o₀ pos) t,
                w.slot.1 ∙ ap length s,
                w.slot.3 ∙ s,
                bytes-on ∙ ap (λ z. laid l₀ 0 (flat z)) s,
              );
            }

        pub go : (b ≡ length v → ⊥) → {o'' : List ℕ} → o'' ≡ laid o' e (backslash ∷ []) → Going v root l₀ used o₀ pos l' o'' (b + 1) (e + 1) slot.used
        go no_end {o''} put =
            let lt : b < length v = omega (arith, q.upto, no_end) in
            let us : List (List ℕ) = pieces_from v (b + 1) in
            let c : pieces_from v a ≡ u ∷ us = pieces-more q lt in
            let y : o'' ≡ laid o₀ pos ((g.text ++ new_uid root slot.number) ++ backslash ∷ [])
            = laid-more o₀ pos (g.text ++ new_uid root slot.number) (backslash ∷ []) laid-uid
            (omega (arith, written.0, g.place-is, length-append g.text (new_uid root slot.number))) put in
            let t : text_of root ks (pieces_from v a) ≡ new_uid root slot.number ++ backslash ∷ text_of root (slots_in l' slot.used) us
            = ap (text_of root ks) c ∙ text-more root ks u us (pieces-some (part v (b + 1) (length v)))
            ∙ ap₂ (λ y z. new_uid root y ++ backslash ∷ text_of root z us) (sym w.slot.0) (sym w.slot.3) in
            record {
              out_size = ap length y ∙ length-laid _ _ _;
              ledger_size = same-ledger;
              kept = kept-on l' w.kept;
              grown = omega (arith, w.fits, g.grown);
              room = omega (arith, w.fits, g.ledger_size);
              low = omega (arith, written.0, g.low);
              bound = omega (arith, written.0, uid-short, g.bound, q.from);
              upto = omega arith;
              text = (g.text ++ new_uid root slot.number) ++ backslash ∷ [];
              laid-is = y;
              place-is = omega (
                arith,
                written.0,
                g.place-is,
                length-append g.text (new_uid root slot.number),
                length-append (g.text ++ new_uid root slot.number) (backslash ∷ []),
              );
              rest = append_assoc (g.text ++ new_uid root slot.number) (backslash ∷ []) (text_of root (slots_in l' slot.used) us)
                  ∙ append_assoc g.text (new_uid root slot.number) (backslash ∷ text_of root (slots_in l' slot.used) us) ∙ ap (λ z. g.text ++ z) (sym t) ∙ g.rest;
              names = ap₂ (λ y z. learns same_uid y (map slot_of z)) w.slot.3 (sym (q.more lt)) ∙ learnt;
              bytes = bytes-on ∙ ap (λ z. laid l₀ 0 (flat z)) (sym w.slot.3);
              uids = λ h. (first-uid u us (ap (every is_uid) (sym c) ∙ g.uids h)).1;
            }
