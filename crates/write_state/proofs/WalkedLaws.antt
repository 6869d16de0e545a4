-- Laws of `specs/Passed.antt` for a sequence that is walked into: without items, and with some. No contract cites this file. Assumes nothing.
--     lower        the level of what stands in its items
--     one-shut     it has no items: a header with length 0
--     one-open     it has some: a header, and then the items
use mathlib.Core.Path.{◌≡◌, refl, sym, ap, ◌∙◌}
use mathlib.Core.List.{List, [], ◌++◌, append_assoc, append-nil}
use Prim.Native.Nat.{ℕ}
use native.Mathlib.Omega.{arith}
use Rattle.vr.specs.Names.{SQ}
use Rattle.layout.specs.Tree.{items, Elements, nil, elem, Items, none as no_item, item, Place}
use Rattle.layout.specs.Heads.{undefined}
use Rattle.layout.specs.Write.{header, put_elements, put_field, put_sequence, put_items}
use Rattle.ledger.specs.FirstMet.{learns, same_uid}
use Rattle.treatment.specs.Settings.{Settings}
use Rattle.treatment.specs.Fates.{fate, below}
use Rattle.treatment.specs.declared.Level.{Level}
use Rattle.treatment.specs.declared.Fate.TheVariants.{Walked}
use Rattle.kept.specs.Content.{walk, Walks, map_content, map_walks, uids_in, uids_in_walks}
use Rattle.kept.specs.Kept.{kept_of, kept_items}
use Rattle.kept.specs.Numbering.{numbered_body, numbered, numbered_walks}
use Rattle.kept.specs.Written.{written_field, written_of, written_items}
use Rattle.kept.specs.Counts.{plus, one, counts_of, counts_items}
use Rattle.write_state.specs.Passed.{State, say, count, slotted_items, passed_one, passed_items}
use Rattle.write_state.proofs.PassedLaws.{plus-nothing, plus-assoc, state, state-is, Appears, appears, one-keep}

-- ---- a sequence that is walked into: without items, and with some

module _ (s : Settings) (level : Level) (tag : ℕ) (p : Place) (st : State) (e : fate s level tag SQ ≡ Walked) where
  -- the level of what stands in its items
  abbrev lower : Level
  lower = below Walked level

  walked-as : (is : Items Place) → Appears s level tag SQ (items is) (walk (kept_items is s lower))
  unfolding kept_of
  walked-as is q es = appears s level tag SQ (items is) Walked e (λ z. let y : ◌≡◌ {A = ℕ} 0 1 = cc in omega arith) q es

  walked-count : (is : Items Place) → counts_of (elem p tag SQ (items is) nil) s level ≡ plus (one Walked) (counts_items is s lower)
  unfolding counts_of
  walked-count is = rw e (ap (plus (one Walked)) (plus-nothing _))

  walked-field : (ws : Walks (List ℕ)) → written_field (numbered_body same_uid st.slots (walk ws)) s level tag SQ ≡ items (written_items (numbered_walks same_uid st.slots ws) s lower)
  unfolding numbered written_of
  walked-field ws = ap (λ φ. items (written_items (numbered_walks same_uid st.slots ws) s (below φ level))) e

  walked-one : (is : Items Place) → passed_one s level (elem p tag SQ (items is) nil) st
      ≡ state (st.bytes ++ put_sequence tag SQ (written_items (numbered_walks same_uid st.slots (slotted_items is s lower)) s lower) [])
      (learns same_uid st.slots (uids_in_walks (slotted_items is s lower))) (plus (plus st.tally (one Walked)) (counts_items is s lower))
  unfolding put_elements map_content uids_in
  walked-one is =
      one-keep s level tag SQ (items is) st (walk (kept_items is s lower)) (walked-as is) p
      ∙ state-is (ap (λ f. st.bytes ++ put_field tag SQ f []) (walked-field (slotted_items is s lower))) refl
      (ap (plus st.tally) (walked-count is) ∙ sym (plus-assoc st.tally (one Walked) (counts_items is s lower)))

  pub one-shut : passed_one s level (elem p tag SQ (items no_item) nil) st ≡ count (say st (header tag SQ 0)) (one Walked)
  unfolding kept_items map_walks numbered_walks written_items put_sequence uids_in_walks learns counts_items
  one-shut = walked-one no_item ∙ state-is (ap (λ x. st.bytes ++ x) (append-nil (header tag SQ 0))) refl (plus-nothing _)

  pub one-open : (es : Elements Place) (is : Items Place) → passed_one s level (elem p tag SQ (items (item es is)) nil) st
      ≡ passed_items s lower (item es is) (count (say st (header tag SQ undefined)) (one Walked))
  unfolding passed_items kept_items map_walks numbered_walks written_items put_sequence put_items uids_in_walks counts_items
  one-open es is = walked-one (item es is) ∙ state-is (sym (append_assoc st.bytes (header tag SQ undefined) _)) refl refl
