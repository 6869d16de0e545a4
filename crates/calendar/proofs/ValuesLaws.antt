-- Laws of `specs/Values.antt`. No contract cites this file. Assumes nothing.
--     dates_end-le             the dates end in the value
--     dates-upto, dates-take, dates-drop    the dates and the pad of a value, by the place where the dates end
--     length-shifted_text      the text is as long as the value, whatever the value is
--     dates_end-shifted        and its dates end at the same place, where all of them can be moved
--     shifted_value-nil        an empty value stays empty
--     shifted_value-is         what `shifted_value` says; `is-shifted_value` the other way
--     shifted_value-text       a value that is not refused is written as `shifted_text`
--     shifted_value-refused, shifted_value-good    what the answer of `date_fault` says
--     shifted_value-length     its text is as long as it
--     shifted_value-back       the text, shifted back, is the value again
--     shifted_value-inj        two values that are shifted to one text are one value
--     shifted_value-zero       a value that some shift takes is left as it is by a shift of 0
--     shifted_value-again      so is the text of a shifted value
use mathlib.Core.Path.{◌≡◌, refl, sym, ap, ap₂, ◌∙◌, subst}
use mathlib.Core.Bool.{Bool, true, false, ◌&&◌, false≢true, and-eq-true_iff, and-false, or-true}
use mathlib.Core.Logic.{◌⊎◌, inl, inr, ⊎_elim}
use Rattle.std.specs.Prelude.{Option, None, Some}
use Rattle.std.proofs.lemmas.Option.{none-some, same_Some}
use mathlib.Core.List.{List, [], ◌∷◌, ◌++◌, map, append-nil}
use Prim.Native.Nat.{ℕ, suc, ◌-◌, ◌%◌, ◌≤◌, ◌<◌}
use native.Mathlib.Omega.{arith}
use lib.Dec.{eqb}
use lib.IntN.{ℤ, pos, neg_ℤ}
use lib.ListN.{length, take, drop, get_or, length-append, length-drop, take-append-drop}
use lib.Seq.{take_all, length-take-le, take_at, drop_at, get_or_at, drop-length, drop-cons}
use borrow.Author.Tests.{eqb-true, eq-eqb, ne_eqb}
use Rattle.basis.specs.Choice.{pick, fork, is_some, is_none}
use Rattle.basis.specs.Bytes.{part}
use Rattle.basis.specs.Pieces.{backslash, pieces, after, joined}
use Rattle.basis.proofs.PiecesLaws.{Free, FreeAll, free-append, free-get_or, pieces-some, pieces-free, joined-pieces, pieces-joined}
use Rattle.calendar.specs.Text.{moved_date, shifted_piece}
use Rattle.calendar.specs.Values.{space, padded, dates_end, date_pieces, shifted_text, all_move, is_empty, shifted_value}
use Rattle.calendar.proofs.TextLaws.{Again, NoDigit, length-shifted_piece, shifted_piece-free, shifted_piece-tight, shifted_piece-back, shifted_piece-zero}

-- ---- dates_end

pub dates_end-le : (da : Bool) (v : List ℕ) → dates_end da v ≤ length v
unfolding dates_end
dates_end-le da v = go (padded da v)
  where
    go : (b : Bool) → pick b (length v - 1) (length v) ≤ length v
    go true = omega arith
    go false = omega arith

-- the dates and the pad of a value, by the place where the dates end
module _ (da : Bool) (v : List ℕ) (stop : ℕ) (e : stop ≡ dates_end da v) where
  pub dates-upto : stop ≤ length v
  dates-upto = omega (arith, e, dates_end-le da v)

  pub dates-take : take (dates_end da v) v ≡ part v 0 stop
  dates-take = let n : dates_end da v ≡ stop - 0 = omega (arith, e) in ap (λ k. take k v) n

  pub dates-drop : drop (dates_end da v) v ≡ part v stop (length v)
  dates-drop = ap (λ k. drop k v) (sym e) ∙ sym (take_all (length v - stop) (drop stop v) (omega (arith, length-drop stop v)))

pub length-dates : (da : Bool) (v : List ℕ) → length (take (dates_end da v) v) ≡ dates_end da v
length-dates da v = length-take-le (dates_end da v) v (dates_end-le da v)

-- ---- the pieces, each shifted

module _ (f : List ℕ → List ℕ) (same : (u : List ℕ) → length (f u) ≡ length u) where
  length-after : (us : List (List ℕ)) → length (after (map f us)) ≡ length (after us)
  unfolding after
  length-after [] = refl
  length-after (u ∷ us) = omega (arith, same u, length-after us, length-append (f u) (after (map f us)), length-append u (after us))

  length-joined : (us : List (List ℕ)) → length (joined (map f us)) ≡ length (joined us)
  unfolding joined
  length-joined [] = refl
  length-joined (u ∷ us) = omega (arith, same u, length-after us, length-append (f u) (after (map f us)), length-append u (after us))

no-backslash : NoDigit backslash
no-backslash n l e = omega arith

no-space : NoDigit space
no-space n l e = omega arith

record AllAgain (da : Bool) (days : ℤ) (ws us : List (List ℕ)) : Type 0 where
  pub moves : all_move da days ws ≡ true
  pub gives : map (shifted_piece da days) ws ≡ us

none-again : (da : Bool) (days : ℤ) → AllAgain da days [] []
unfolding all_move
none-again da days = record { moves = refl; gives = refl }

all-again : (da : Bool) (days : ℤ) (w u : List ℕ) (ws us : List (List ℕ)) → Again da days w u → AllAgain da days ws us → AllAgain da days (w ∷ ws) (u ∷ us)
unfolding all_move
all-again da days w u ws us a b = record { moves = ap₂ ◌&&◌ a.moves b.moves; gives = ap₂ ◌∷◌ a.gives b.gives }

module _ (da : Bool) (days : ℤ) where
  all-free : (us : List (List ℕ)) → FreeAll backslash us → FreeAll backslash (map (shifted_piece da days) us)
  all-free [] f = tt
  all-free (u ∷ us) f = (shifted_piece-free backslash da days u no-backslash f.0, all-free us f.1)

  pieces-shifted : (us : List (List ℕ)) → 0 < length us → FreeAll backslash us → pieces (joined (map (shifted_piece da days) us)) ≡ map (shifted_piece da days) us
  pieces-shifted [] l f = absurd (omega arith)
  pieces-shifted (u ∷ us) l f = pieces-joined (shifted_piece da days u) (map (shifted_piece da days) us) (all-free (u ∷ us) f)

  all-back : (us : List (List ℕ)) → all_move da days us ≡ true → AllAgain da (neg_ℤ days) (map (shifted_piece da days) us) us
  unfolding all_move
  all-back [] e = none-again da (neg_ℤ days)
  all-back (u ∷ us) e =
      let s = (and-eq-true_iff (is_some (moved_date da days u)) (all_move da days us)).0 e in
      all-again da (neg_ℤ days) (shifted_piece da days u) u (map (shifted_piece da days) us) us (shifted_piece-back da days u s.0) (all-back us s.1)

  all-zero : (us : List (List ℕ)) → all_move da days us ≡ true → AllAgain da (pos 0) us us
  unfolding all_move
  all-zero [] e = none-again da (pos 0)
  all-zero (u ∷ us) e =
      let s = (and-eq-true_iff (is_some (moved_date da days u)) (all_move da days us)).0 e in
      all-again da (pos 0) u u us us (shifted_piece-zero da days u s.0) (all-zero us s.1)

-- a DA value of dates alone has no space
module _ (days : ℤ) where
  after-free : (us : List (List ℕ)) → all_move true days us ≡ true → Free space (after (map (shifted_piece true days) us))
  unfolding all_move after
  after-free [] e = tt
  after-free (u ∷ us) e =
      let s = (and-eq-true_iff (is_some (moved_date true days u)) (all_move true days us)).0 e in
      (λ b. omega arith, free-append space (shifted_piece true days u) _ (shifted_piece-tight space days u no-space s.0) (after-free us s.1))

  joined-free : (us : List (List ℕ)) → all_move true days us ≡ true → Free space (joined (map (shifted_piece true days) us))
  unfolding all_move joined
  joined-free [] e = tt
  joined-free (u ∷ us) e =
      let s = (and-eq-true_iff (is_some (moved_date true days u)) (all_move true days us)).0 e in
      free-append space (shifted_piece true days u) _ (shifted_piece-tight space days u no-space s.0) (after-free us s.1)

-- ---- shifted_text

module _ (da : Bool) (days : ℤ) (v : List ℕ) where
  abbrev pub shifted : List ℕ
  shifted = joined (map (shifted_piece da days) (date_pieces da v))

  pub length-shifted : length shifted ≡ dates_end da v
  length-shifted =
      length-joined (shifted_piece da days) (length-shifted_piece da days) (date_pieces da v)
      ∙ ap length (joined-pieces (take (dates_end da v) v)) ∙ length-dates da v

  pub length-shifted_text : length (shifted_text da days v) ≡ length v
  unfolding shifted_text
  length-shifted_text =
      omega (
        arith,
        length-append shifted (drop (dates_end da v) v),
        length-shifted,
        length-dates da v,
        length-append (take (dates_end da v) v) (drop (dates_end da v) v),
        ap length (take-append-drop (dates_end da v) v),
      )

-- a value that ends with a space, and its text
record Padded (v : List ℕ) : Type 0 where
  pub even : eqb (length v % 2) 0 ≡ true
  pub last : get_or v (length v - 1) 0 ≡ space
  pub full : 0 < length v

padded-is : (v : List ℕ) → padded true v ≡ true → Padded v
unfolding padded
padded-is [] e = absurd (false≢true e)
padded-is (x ∷ v) e =
    let s = (and-eq-true_iff (eqb (length (x ∷ v) % 2) 0) _).0 e in
    record { even = s.0; last = eqb-true _ space s.1; full = omega arith }

module _ (days : ℤ) (v : List ℕ) (h : all_move true days (date_pieces true v) ≡ true) where
  padded-yes : padded true v ≡ true → padded true (shifted_text true days v) ≡ true
  unfolding padded shifted_text dates_end
  padded-yes e =
      let p : Padded v = padded-is v e in
      let n : length (shifted_text true days v) ≡ length v = length-shifted_text true days v in
      let d : dates_end true v ≡ length v - 1 = rw e refl in
      let t : drop (dates_end true v) v ≡ space ∷ drop (suc (length v - 1)) v
      = ap (λ k. drop k v) d ∙ drop-cons v (length v - 1) 0 (omega (arith, p.full)) ∙ ap (λ c. c ∷ drop (suc (length v - 1)) v) p.last in
      let l : get_or (shifted_text true days v) (length (shifted_text true days v) - 1) 0 ≡ space
      = ap (λ w. get_or (shifted true days v ++ w) (length (shifted_text true days v) - 1) 0) t
      ∙ get_or_at (shifted true days v) space (drop (suc (length v - 1)) v) 0 _ (length-shifted true days v ∙ d ∙ ap (λ k. k - 1) (sym n)) in
      ap₂ ◌&&◌ (ap (λ k. eqb (k % 2) 0) n ∙ p.even) (eq-eqb _ space l)

  padded-no : padded true v ≡ false → padded true (shifted_text true days v) ≡ false
  unfolding padded shifted_text dates_end
  padded-no e =
      let d : dates_end true v ≡ length v = rw e refl in
      let t : shifted_text true days v ≡ shifted true days v
      = ap (λ w. shifted true days v ++ w) (ap (λ k. drop k v) d ∙ drop-length v) ∙ append-nil (shifted true days v) in
      let l : get_or (shifted_text true days v) (length (shifted_text true days v) - 1) 0 ≡ space → ⊥
      = free-get_or space 0 (shifted_text true days v) (length (shifted_text true days v) - 1) (λ z. omega arith)
      (subst (Free space) (sym t) (joined-free days (date_pieces true v) h)) in
      ap (λ b. eqb (length (shifted_text true days v) % 2) 0 && b) (ne_eqb _ space l) ∙ and-false (eqb (length (shifted_text true days v) % 2) 0)

padded-shifted : (da : Bool) (days : ℤ) (v : List ℕ) → all_move da days (date_pieces da v) ≡ true → padded da (shifted_text da days v) ≡ padded da v
unfolding padded
padded-shifted false days v h = refl
padded-shifted true days v h = go (padded true v) refl
  where
    go : (b : Bool) → padded true v ≡ b → padded true (shifted_text true days v) ≡ b
    go true e = padded-yes days v h e
    go false e = padded-no days v h e

pub dates_end-shifted : (da : Bool) (days : ℤ) (v : List ℕ) → all_move da days (date_pieces da v) ≡ true → dates_end da (shifted_text da days v) ≡ dates_end da v
unfolding dates_end
dates_end-shifted da days v h = ap₂ (λ b n. pick b (n - 1) n) (padded-shifted da days v h) (length-shifted_text da days v)

-- ---- shifted_value

pub shifted_value-nil : (da : Bool) (days : ℤ) → shifted_value da days [] ≡ Some []
unfolding shifted_value
shifted_value-nil da days = ap Some (empty (shifted_text da days []) (length-shifted_text da days []))
  where
    empty : (x : List ℕ) → length x ≡ 0 → x ≡ []
    empty [] e = refl
    empty (y ∷ x) e = absurd (omega arith)

pub record IsShifted (da : Bool) (days : ℤ) (v x : List ℕ) : Type 0 where
  pub moves : (v ≡ []) ⊎ (all_move da days (date_pieces da v) ≡ true)
  pub text : x ≡ shifted_text da days v

pub shifted_value-is : (da : Bool) (days : ℤ) (v x : List ℕ) → shifted_value da days v ≡ Some x → IsShifted da days v x
unfolding shifted_value
shifted_value-is da days [] x e = record { moves = inl refl; text = sym (same_Some _ x e) }
shifted_value-is da days (y ∷ v) x e = go (all_move da days (date_pieces da (y ∷ v))) refl e
  where
    go : (b : Bool) → all_move da days (date_pieces da (y ∷ v)) ≡ b
        → ◌≡◌ {A = Option (List ℕ)} (fork b (λ _. Some (shifted_text da days (y ∷ v))) (λ _. None)) (Some x) → IsShifted da days (y ∷ v) x
    go true h e = record { moves = inr h; text = sym (same_Some _ x e) }
    go false h e = absurd (none-some x e)

pub is-shifted_value : (da : Bool) (days : ℤ) (v : List ℕ) → all_move da days (date_pieces da v) ≡ true → shifted_value da days v ≡ Some (shifted_text da days v)
unfolding shifted_value
is-shifted_value da days v h = rw (h, or-true (is_empty v)) refl

pub shifted_value-text : (da : Bool) (days : ℤ) (v x : List ℕ) → shifted_value da days v ≡ Some x → shifted_text da days v ≡ x
shifted_value-text da days v x e = sym (shifted_value-is da days v x e).text

-- by the answer of `date_fault`
pub shifted_value-refused : (da : Bool) (days : ℤ) (v : List ℕ) → is_none (shifted_value da days v) ≡ true → shifted_value da days v ≡ None
shifted_value-refused da days v e = go (shifted_value da days v) e
  where
    go : (o : Option (List ℕ)) → is_none o ≡ true → o ≡ None
    go None e = refl
    go (Some x) e = absurd (false≢true e)

pub shifted_value-good : (da : Bool) (days : ℤ) (v : List ℕ) → is_none (shifted_value da days v) ≡ false → shifted_value da days v ≡ Some (shifted_text da days v)
shifted_value-good da days v e = go (shifted_value da days v) refl e
  where
    go : (o : Option (List ℕ)) → shifted_value da days v ≡ o → is_none o ≡ false → shifted_value da days v ≡ Some (shifted_text da days v)
    go None h e = absurd (false≢true (sym e))
    go (Some x) h e = h ∙ ap Some (sym (shifted_value-text da days v x h))

pub shifted_value-length : (da : Bool) (days : ℤ) (v x : List ℕ) → shifted_value da days v ≡ Some x → length x ≡ length v
shifted_value-length da days v x e = ap length (sym (shifted_value-text da days v x e)) ∙ length-shifted_text da days v

-- a value w whose pieces a shift takes to the pieces us
text-again : (da : Bool) (days : ℤ) (w : List ℕ) (us : List (List ℕ)) (t : List ℕ) → AllAgain da days (date_pieces da w) us → drop (dates_end da w) w ≡ t
    → shifted_value da days w ≡ Some (joined us ++ t)
unfolding shifted_text
text-again da days w us t a e =
    is-shifted_value da days w a.moves ∙ ap Some (ap₂ (λ ps r. joined ps ++ r) a.gives e)

-- the pieces of a value, joined, and its pad
whole : (da : Bool) (v : List ℕ) → joined (date_pieces da v) ++ drop (dates_end da v) v ≡ v
whole da v = ap (λ w. w ++ drop (dates_end da v) v) (joined-pieces (take (dates_end da v) v)) ∙ take-append-drop (dates_end da v) v

nil-again : (da : Bool) (days : ℤ) (v x : List ℕ) → x ≡ [] → v ≡ [] → shifted_value da days x ≡ Some v
nil-again da days v x e f = ap (shifted_value da days) e ∙ shifted_value-nil da days ∙ ap Some (sym f)

back-again : (da : Bool) (days : ℤ) (v : List ℕ) → all_move da days (date_pieces da v) ≡ true → shifted_value da (neg_ℤ days) (shifted_text da days v) ≡ Some v
unfolding shifted_text
back-again da days v h =
    let w : List ℕ = shifted_text da days v in
    let us : List (List ℕ) = date_pieces da v in
    let t : List ℕ = drop (dates_end da v) v in
    let e : dates_end da w ≡ dates_end da v = dates_end-shifted da days v h in
    let n : length (shifted da days v) ≡ dates_end da v = length-shifted da days v in
    let ps : date_pieces da w ≡ map (shifted_piece da days) us
    = ap (λ k. pieces (take k w)) e ∙ ap pieces (take_at (shifted da days v) t (dates_end da v) n)
    ∙ pieces-shifted da days us (pieces-some (take (dates_end da v) v)) (pieces-free (take (dates_end da v) v)) in
    text-again da (neg_ℤ days) w us t (subst (λ z. AllAgain da (neg_ℤ days) z us) (sym ps) (all-back da days us h))
    (ap (λ k. drop k w) e ∙ drop_at (shifted da days v) t (dates_end da v) n)
    ∙ ap Some (whole da v)

pub shifted_value-back : (da : Bool) (days : ℤ) (v x : List ℕ) → shifted_value da days v ≡ Some x → shifted_value da (neg_ℤ days) x ≡ Some v
shifted_value-back da days v x e =
    let s : IsShifted da days v x = shifted_value-is da days v x e in
    ⊎_elim (λ n. nil-again da (neg_ℤ days) v x (same_Some x [] (sym e ∙ ap (shifted_value da days) n ∙ shifted_value-nil da days)) n)
    (λ h. ap (shifted_value da (neg_ℤ days)) s.text ∙ back-again da days v h) s.moves

pub shifted_value-inj : (da : Bool) (days : ℤ) (v w x : List ℕ) → shifted_value da days v ≡ Some x → shifted_value da days w ≡ Some x → v ≡ w
shifted_value-inj da days v w x e f = same_Some v w (sym (shifted_value-back da days v x e) ∙ shifted_value-back da days w x f)

pub shifted_value-zero : (da : Bool) (days : ℤ) (v x : List ℕ) → shifted_value da days v ≡ Some x → shifted_value da (pos 0) v ≡ Some v
shifted_value-zero da days v x e =
    ⊎_elim (λ n. nil-again da (pos 0) v v n n)
    (λ h. text-again da (pos 0) v (date_pieces da v) (drop (dates_end da v) v) (all-zero da days (date_pieces da v) h) refl ∙ ap Some (whole da v))
    (shifted_value-is da days v x e).moves

pub shifted_value-again : (da : Bool) (days : ℤ) (v x : List ℕ) → shifted_value da days v ≡ Some x → shifted_value da (pos 0) x ≡ Some x
shifted_value-again da days v x e = shifted_value-zero da (neg_ℤ days) x v (shifted_value-back da days v x e)
