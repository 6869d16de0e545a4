-- Laws of `specs/Write.antt` of the crate `layout`: what is put in front of k is put, and then k. No contract cites this file. Assumes nothing.
--     put-field-on, put_elements-on, put_items-on    an element's bytes, a level's, those of a sequence's items
--     item-on                                        an item, by what puts its elements and what follows it
use mathlib.Core.Path.{◌≡◌, refl, sym, ap, ◌∙◌}
use mathlib.Core.List.{List, [], ◌++◌, append_assoc}
use Prim.Native.Nat.{ℕ}
use Rattle.layout.specs.Tree.{Field, value, items, Elements, nil, elem, Items, none, item}
use Rattle.layout.specs.Heads.{undefined}
use Rattle.layout.specs.Write.{header, opened, closed, put_elements, put_field, put_sequence, put_items, bytes_of}

-- an item whose elements are put by e, and what follows it by p
pub item-on : (e p : List ℕ → List ℕ) → ((k : List ℕ) → e k ≡ e [] ++ k) → ((k : List ℕ) → p k ≡ p [] ++ k)
    → (k : List ℕ) → opened (e (closed (p k))) ≡ opened (e (closed (p []))) ++ k
item-on e p he hp k =
    let f : opened (e [] ++ closed (p [] ++ k)) ≡ opened (e [] ++ closed (p [])) ++ k = simp append_assoc in
    ap (λ (l : List ℕ). opened l) (he (closed (p k)) ∙ ap (λ (l : List ℕ). e [] ++ closed l) (hp k))
    ∙ f
    ∙ ap (λ (l : List ℕ). opened l ++ k) (sym (he (closed (p []))))

mutual
  unfolding put_elements put_field put_sequence put_items

  pub put-field-on : {L : Type 0} (f : Field L) (tag vr : ℕ) (k : List ℕ) → put_field tag vr f k ≡ put_field tag vr f [] ++ k
  put-field-on (value v) tag vr k = simp append_assoc
  put-field-on (items is) tag vr k = sequence-on is tag vr k

  sequence-on : {L : Type 0} (is : Items L) (tag vr : ℕ) (k : List ℕ) → put_sequence tag vr is k ≡ put_sequence tag vr is [] ++ k
  sequence-on none tag vr k = simp append_assoc
  sequence-on (item es is) tag vr k =
      ap (λ (l : List ℕ). header tag vr undefined ++ l) (item-on (λ l. put_elements es l) (λ l. put_items is l) (λ l. elements-on es l) (λ l. put_items-on is l) k)
      ∙ sym (append_assoc (header tag vr undefined) (opened (put_elements es (closed (put_items is [])))) k)

  elements-on : {L : Type 0} (es : Elements L) (k : List ℕ) → put_elements es k ≡ put_elements es [] ++ k
  elements-on nil k = refl
  elements-on (elem l tag vr f es) k =
      put-field-on f tag vr (put_elements es k)
      ∙ ap (λ (m : List ℕ). put_field tag vr f [] ++ m) (elements-on es k)
      ∙ sym (append_assoc (put_field tag vr f []) (put_elements es []) k)
      ∙ ap (λ (m : List ℕ). m ++ k) (sym (put-field-on f tag vr (put_elements es [])))

  pub put_items-on : {L : Type 0} (is : Items L) (k : List ℕ) → put_items is k ≡ put_items is [] ++ k
  put_items-on none k = simp append_assoc
  put_items-on (item es is) k = item-on (λ l. put_elements es l) (λ l. put_items is l) (λ l. elements-on es l) (λ l. put_items-on is l) k

pub put_elements-on : {L : Type 0} (es : Elements L) (k : List ℕ) → put_elements es k ≡ bytes_of es ++ k
unfolding bytes_of
put_elements-on es k = elements-on es k
