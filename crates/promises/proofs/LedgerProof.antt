-- The ledger after a run that is done, and the numbers that UIDs get in it: `specs/LedgerAfter.antt`. What stands in the slots in use
-- before needs no rule (U6). No contract cites this file. Assumes nothing.
--     learns-takes, takes-learns         the definition's slots stand in the relation, and no others
--     number-numbered, numbered-number     and so with the number of a slot
--     uid_in k                            what stands for every slot: its UID, or, where it holds none, itself
--     number_after i u                     the number of the UID u after the run
--     numbered_is                          the export's numbers are these
--     numbered-fits                        and kept content with them fits its level
--     ledger-after                         the ledger
use mathlib.Core.Path.{◌≡◌, refl, sym, ap, subst, ◌∙◌}
use mathlib.Core.Logic.{◌≢◌, ◌⊎◌, inl, inr, ite, if_pos}
use mathlib.Core.List.Memᴰ
use mathlib.Core.List.{List, [], ◌∷◌, ◌++◌, map, map-map, map-id, append_assoc, append-nil, Memᴰ}
use Prim.Native.Nat.{ℕ, zero, suc, ◌-◌, ◌*◌, ◌≤◌}
use native.Mathlib.Omega.{arith}
use lib.ListN.{length, take, replicate, length-map}
use lib.Seq.{take_at, length-take-le}
use Rattle.basis.specs.Bytes.{AllBytes}
use Rattle.basis.proofs.PiecesLaws.{Free}
use Rattle.uid.proofs.NewUidLaws.{new_uid-inj}
use Rattle.layout.specs.Limits.{deepest}
use Rattle.layout.proofs.MadeLaws.{read-made}
use Rattle.ledger.specs.FirstMet.{first_at, number_of, learn, learns, same_uid}
use Rattle.ledger.specs.Slots.{slot_size, most_slots, slot_of, flat}
use Rattle.ledger.proofs.FirstMetLaws.{learns-begins, learns-member, stands_for, stands_for-number_of}
use Rattle.ledger.proofs.RenameLaws.{map-agree, learns-rename}
use Rattle.ledger.proofs.SlotLaws.{Sized, slots_of-fits, slots_of-most, unslot, unslot-slot_of, slot_of-inj, flat-slots_in, flat-append, length-flat, sized-slots_in, sized-learns}
use Rattle.treatment.specs.declared.Level.TheVariants.{Top}
use Rattle.kept.specs.Content.{Content, map_content, uids_in}
use Rattle.kept.specs.Numbering.{numbered}
use Rattle.kept.proofs.ContentLaws.{map_content-id, map_content-map, map_content-agree, uids_in-map}
use Rattle.kept.proofs.NumberingLaws.{numbered-last, numbered-rename}
use Rattle.kept.proofs.UidsLaws.{AllUids, kept-uids, uids-no_zero, sized-uids}
use Rattle.kept.proofs.WrittenLaws.{Numbered as Fits}
use Rattle.kept.proofs.KeptLaws.{kept-numbered}
use Rattle.outcome.specs.Input.{Input, read_as, tree_in, tree_of, content, in_use, slots_after}
use Rattle.outcome.specs.Outcome.{done, outcome_of, report_of, ledger_of}
use Rattle.outcome.proofs.OutcomeLaws.{accepted}
use Rattle.promises.specs.LedgerAfter.{TakesSlots, over, known, new, Numbered, first, later, LedgerAfter}

-- ---- the relations are the definitions

-- of the slots ks, once k was met, ls: they hold it, or it is the next
abbrev Met : List ℕ → List (List ℕ) → List (List ℕ) → Type 0
Met k ks ls = (Memᴰ k ks × (ls ≡ ks)) ⊎ ((Memᴰ k ks → ⊥) × (ls ≡ ks ++ k ∷ []))

learn-met : (ks : List (List ℕ)) (k : List ℕ) → Met k ks (learn same_uid ks k)
unfolding learn
learn-met [] k = inr (Memᴰ.not-nil, refl)
learn-met (x ∷ xs) k = step (same_uid x k) (learn-met xs k)
  where
    absent : x ≢ k → (Memᴰ k xs → ⊥) → (k ≡ x) ⊎ Memᴰ k xs → ⊥
    absent n m (inl e) = n (sym e)
    absent n m (inr i) = m i

    past : x ≢ k → Met k xs (learn same_uid xs k) → Met k (x ∷ xs) (x ∷ learn same_uid xs k)
    past n (inl p) = inl (Memᴰ.tail p.0, ap (λ (l : List (List ℕ)). x ∷ l) p.1)
    past n (inr p) = inr (λ i. absent n p.0 (Memᴰ.cases_cons i), ap (λ (l : List (List ℕ)). x ∷ l) p.1)

    step : (d : Dec (x ≡ k)) → Met k xs (learn same_uid xs k) → Met k (x ∷ xs) (x ∷ ite d xs (learn same_uid xs k))
    step (yes p) ih = inl (Memᴰ.head (sym p), refl)
    step (no n) ih = past n ih

pub learns-takes : (ks us : List (List ℕ)) → TakesSlots ks us (learns same_uid ks (map slot_of us))
unfolding learns
learns-takes ks [] = over
learns-takes ks (u ∷ us) = step (learn same_uid ks (slot_of u)) (learn-met ks (slot_of u)) (learns-takes (learn same_uid ks (slot_of u)) us)
  where
    step : (ls : List (List ℕ)) → Met (slot_of u) ks ls → TakesSlots ls us (learns same_uid ls (map slot_of us)) → TakesSlots ks (u ∷ us) (learns same_uid ls (map slot_of us))
    step ls (inl p) h = known p.0 (subst (λ (js : List (List ℕ)). TakesSlots js us (learns same_uid ls (map slot_of us))) p.1 h)
    step ls (inr p) h = new p.0 (subst (λ (js : List (List ℕ)). TakesSlots js us (learns same_uid ls (map slot_of us))) p.1 h)

pub takes-learns : {ks us ls : List (List ℕ)} → TakesSlots ks us ls → ls ≡ learns same_uid ks (map slot_of us)
unfolding learns
takes-learns over = refl
takes-learns (known {u} {ks} {us} m l) = takes-learns l ∙ ap (λ (js : List (List ℕ)). learns same_uid js (map slot_of us)) (step (learn-met ks (slot_of u)))
  where
    step : Met (slot_of u) ks (learn same_uid ks (slot_of u)) → ks ≡ learn same_uid ks (slot_of u)
    step (inl p) = sym p.1
    step (inr p) = absurd (p.0 m)
takes-learns (new {u} {ks} {us} n l) = takes-learns l ∙ ap (λ (js : List (List ℕ)). learns same_uid js (map slot_of us)) (step (learn-met ks (slot_of u)))
  where
    step : Met (slot_of u) ks (learn same_uid ks (slot_of u)) → ks ++ slot_of u ∷ [] ≡ learn same_uid ks (slot_of u)
    step (inl p) = absurd (n p.0)
    step (inr p) = sym p.1

pub number-numbered : (ks : List (List ℕ)) (k : List ℕ) → Memᴰ k ks → Numbered k ks (number_of same_uid ks k)
unfolding number_of first_at
number-numbered [] k m = elim m [ ]
number-numbered (x ∷ xs) k m = step (same_uid x k) (Memᴰ.cases_cons m) (λ i. number-numbered xs k i)
  where
    step : (d : Dec (x ≡ k)) → (k ≡ x) ⊎ Memᴰ k xs → (Memᴰ k xs → Numbered k xs (suc (first_at same_uid xs k)))
        → Numbered k (x ∷ xs) (suc (ite d zero (suc (first_at same_uid xs k))))
    step (yes p) c ih = first p
    step (no n) (inl e) ih = absurd (n (sym e))
    step (no n) (inr i) ih = later n (ih i)

pub numbered-number : {k : List ℕ} {ks : List (List ℕ)} {n : ℕ} → Numbered k ks n → n ≡ number_of same_uid ks k
unfolding number_of first_at
numbered-number {k} (first {j} {ks} e) = ap suc (sym (if_pos (same_uid j k) e zero (suc (first_at same_uid ks k))))
numbered-number {k} (later {j} {ks} {n} e h) = ap suc (step (same_uid j k) (numbered-number h))
  where
    step : (d : Dec (j ≡ k)) → n ≡ suc (first_at same_uid ks k) → n ≡ ite d zero (suc (first_at same_uid ks k))
    step (yes p) ih = absurd (e p)
    step (no m) ih = ih

-- ---- what stands for every slot

unfoldable uid_in : List ℕ → List ℕ
uid_in k = ite (same_uid (slot_of (unslot k)) k) (unslot k) k

slot_whole : (k : List ℕ) → length k ≡ slot_size → slot_of k ≡ k
unfolding slot_of
slot_whole k h = let z : slot_size - length k ≡ 0 = omega arith in rw z (append-nil k)

-- a slot of 64 bytes is the slot of what stands for it
slot-uid_in : (k : List ℕ) → length k ≡ slot_size → slot_of (uid_in k) ≡ k
unfolding uid_in
slot-uid_in k h = step (same_uid (slot_of (unslot k)) k)
  where
    step : (d : Dec (slot_of (unslot k) ≡ k)) → slot_of (ite d (unslot k) k) ≡ k
    step (yes p) = p
    step (no n) = slot_whole k h

-- that UID stands for the slot of a UID
uid_in-slot : (u : List ℕ) → Free 0 u → uid_in (slot_of u) ≡ u
unfolding uid_in
uid_in-slot u f =
    if_pos (same_uid (slot_of (unslot (slot_of u))) (slot_of u)) (ap slot_of (unslot-slot_of u f)) (unslot (slot_of u)) (slot_of u) ∙ unslot-slot_of u f

sized-member : (ks : List (List ℕ)) → Sized ks → (k : List ℕ) → Memᴰ k ks → length k ≡ slot_size
sized-member [] h k x'' = elim x'' [ ]
sized-member (j ∷ ks) h k (Memᴰ.head e) = ap length e ∙ h.0
sized-member (j ∷ ks) h k (Memᴰ.tail m) = sized-member ks h.1 k m

-- ---- the numbers of a run

abbrev pub number_after : Input → List ℕ → ℕ
number_after i u = number_of same_uid (slots_after i) (slot_of u)

module _ (i : Input) where
  after_is : slots_after i ≡ learns same_uid (in_use i) (uids_in (map_content slot_of (content i)))
  unfolding slots_after
  after_is = ap (learns same_uid (in_use i)) (sym (uids_in-map slot_of (content i)))

  pub numbered_is : numbered same_uid (in_use i) (map_content slot_of (content i)) ≡ map_content (number_after i) (content i)
  numbered_is =
      numbered-last same_uid (in_use i) (map_content slot_of (content i))
      ∙ map_content-map (number_of same_uid (learns same_uid (in_use i) (uids_in (map_content slot_of (content i))))) slot_of (content i)
      ∙ ap (λ (ks : List (List ℕ)). map_content (λ u. number_of same_uid ks (slot_of u)) (content i)) (sym after_is)

module _ (i : Input) (ok : outcome_of i ≡ done) where
  are : AllUids (uids_in (content i))
  unfolding content
  are = kept-uids (tree_of i) i.settings Top

  in-use-sized : Sized (in_use i)
  in-use-sized = sized-slots_in i.ledger i.used (slots_of-fits i.ledger i.used (accepted i ok).slots)

  -- the same numbers, had the ledger held names
  named-content : numbered same_uid (map uid_in (in_use i)) (content i) ≡ numbered same_uid (in_use i) (map_content slot_of (content i))
  named-content =
      let back : map_content uid_in (map_content slot_of (content i)) ≡ content i =
      map_content-map uid_in slot_of (content i)
      ∙ map_content-agree (λ u. uid_in (slot_of u)) (λ u. u) (content i) (λ u m. uid_in-slot u (uids-no_zero (uids_in (content i)) are u m))
      ∙ map_content-id (content i) in
      ap (numbered same_uid (map uid_in (in_use i))) (sym back)
      ∙ numbered-rename same_uid same_uid uid_in slot_of (in_use i) (map_content slot_of (content i))
      (λ k m. slot-uid_in k (sized-member (in_use i) in-use-sized k m))
      (λ k m. slot-uid_in k (sized-member (map slot_of (uids_in (content i))) (sized-uids (uids_in (content i)) are) k (rw (uids_in-map slot_of (content i)) at m)))

  named-few : length (learns same_uid (map uid_in (in_use i)) (uids_in (content i))) ≤ most_slots
  unfolding slots_after
  named-few =
      let us : List (List ℕ) = uids_in (content i) in
      let back : map uid_in (map slot_of us) ≡ us =
      map-map uid_in slot_of us ∙ map-agree (λ u. uid_in (slot_of u)) (λ u. u) us (λ u m. uid_in-slot u (uids-no_zero us are u m)) ∙ map-id us in
      let e : learns same_uid (map uid_in (in_use i)) us ≡ map uid_in (slots_after i) =
      ap (learns same_uid (map uid_in (in_use i))) (sym back)
      ∙ learns-rename same_uid same_uid uid_in slot_of (in_use i) (map slot_of us)
      (λ k m. slot-uid_in k (sized-member (in_use i) in-use-sized k m)) (λ k m. slot-uid_in k (sized-member (map slot_of us) (sized-uids us are) k m)) in
      omega (arith, ap length e ∙ length-map (slots_after i) uid_in, (accepted i ok).free, slots_of-most i.ledger)

  pub tree-is : tree_of i ≡ (accepted i ok).tree
  unfolding tree_of read_as
  tree-is = ap tree_in (accepted i ok).reads

  pub numbered-fits : AllBytes i.lent.bytes → Fits (map_content (number_after i) (content i)) i.settings Top deepest 0
  unfolding content
  numbered-fits bytes =
      let a = accepted i ok in
      let q = read-made deepest i.lent a.tree a.past bytes a.reads in
      subst (λ (c : Content ℕ). Fits c i.settings Top deepest 0) (named-content ∙ numbered_is i)
      (kept-numbered same_uid (tree_of i) i.settings Top deepest 0 (map uid_in (in_use i)) (rw tree-is q) (rw tree-is a.values) named-few)

  -- ---- the ledger

  after-sized : Sized (slots_after i)
  unfolding slots_after
  after-sized = sized-learns (in_use i) (map slot_of (uids_in (content i))) in-use-sized (sized-uids (uids_in (content i)) are)

  after-length : length (flat (slots_after i)) ≡ slot_size * length (slots_after i)
  after-length = length-flat (slots_after i) after-sized

  pub after-bytes : ledger_of i ≡ flat (slots_after i) ++ replicate (length i.ledger - slot_size * length (slots_after i)) 0
  unfolding ledger_of
  after-bytes = rw ok (ap (λ n. flat (slots_after i) ++ replicate (length i.ledger - n) 0) after-length)

  after-stays : take (slot_size * i.used) (ledger_of i) ≡ take (slot_size * i.used) i.ledger
  unfolding slots_after
  after-stays =
      let fits : slot_size * i.used ≤ length i.ledger = slots_of-fits i.ledger i.used (accepted i ok).slots in
      let b = learns-begins same_uid (in_use i) (map slot_of (uids_in (content i))) in
      let zs : List ℕ = replicate (length i.ledger - slot_size * length (slots_after i)) 0 in
      let front : List ℕ = take (slot_size * i.used) i.ledger in
      let e : flat (slots_after i) ≡ front ++ flat b.more =
      ap flat b.split ∙ flat-append (in_use i) b.more ∙ ap (λ (k : List ℕ). k ++ flat b.more) (flat-slots_in i.ledger i.used fits) in
      ap (take (slot_size * i.used)) (after-bytes ∙ ap (λ (k : List ℕ). k ++ zs) e ∙ append_assoc front (flat b.more) zs)
      ∙ take_at front (flat b.more ++ zs) (slot_size * i.used) (length-take-le (slot_size * i.used) i.ledger fits)

  pub ledger-after : LedgerAfter i (report_of i) (ledger_of i) (uids_in (content i)) (number_after i)
  unfolding report_of slots_after
  ledger-after =
      let us : List (List ℕ) = uids_in (content i) in
      let in_after : (u : List ℕ) → Memᴰ u us → Memᴰ (slot_of u) (slots_after i) =
      λ u m. learns-member same_uid (in_use i) (map slot_of us) (slot_of u) (Memᴰ.map slot_of m) in
      record {
        slots = slots_after i;
        takes = learns-takes (in_use i) us;
        count = rw ok;
        fits = omega (arith, (accepted i ok).free);
        bytes = after-bytes;
        stays = after-stays;
        numbered = λ u m. number-numbered (slots_after i) (slot_of u) (in_after u m);
        one_to_one = λ u w m n e.
            let k : number_after i u ≡ number_after i w = new_uid-inj i.settings.root (number_after i u) (number_after i w) e in
            slot_of-inj u w (uids-no_zero us are u m) (uids-no_zero us are w n)
            (sym (stands_for-number_of same_uid (slots_after i) [] (slot_of u) (in_after u m))
            ∙ ap (stands_for same_uid (slots_after i) []) k
            ∙ stands_for-number_of same_uid (slots_after i) [] (slot_of w) (in_after w n));
      }
