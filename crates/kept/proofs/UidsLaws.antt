-- The names of kept content are UIDs, whatever the data set is. No contract cites this file. Assumes nothing.
--     AllUids us       each of us is a UID
--     kept-uids        so are the names of kept content
--     learns-uids      and what a ledger learns of them
--     sized-uids       their slots have 64 bytes each
use mathlib.Core.Path.{◌≡◌, refl, ap, ap₂, ◌∙◌}
use mathlib.Core.Logic.{◌⊎◌, inl, inr}
use mathlib.Core.Bool.{true, ◌&&◌, and-eq-true_iff}
use mathlib.Core.List.{List, [], ◌∷◌, ◌++◌, map, Memᴰ}
use Rattle.std.specs.Prelude.{Option, None, Some}
use Prim.Native.Nat.{ℕ}
use Rattle.basis.proofs.ChoiceLaws.{pick-case, every-append}
use Rattle.basis.specs.Choice.{every}
use Rattle.layout.specs.Tree.{Field, value, items, Elements, nil, elem, Items, none as no_item, item}
use Rattle.uid.specs.Uid.{is_uid, longest_uid}
use Rattle.uid.specs.Value.{uids_of}
use Rattle.uid.proofs.UidLaws.{uid_upto-is}
use Rattle.uid.proofs.ValueLaws.{uids_of-are}
use Rattle.ledger.specs.FirstMet.{learns, same_uid}
use Rattle.ledger.specs.Slots.{slot_of}
use Rattle.ledger.proofs.SlotLaws.{Sized, length-slot_of}
use Rattle.treatment.specs.Settings.{Settings}
use Rattle.treatment.specs.Fates.{fate, walks_into, below}
use Rattle.treatment.specs.declared.Level.{Level}
use Rattle.treatment.specs.declared.Fate.{Fate}
use Rattle.treatment.specs.declared.Fate.TheVariants.{Removed, Kept, Walked, Emptied, Dummied, Renamed, Shifted, Wrong}
use Rattle.kept.specs.Content.{blank, walk, Body, Content, Walks, uids_in_body, uids_in, uids_in_walks}
use Rattle.kept.specs.Kept.{Uid, or_none, held_uids, kept_value, kept_sequence, entry, kept_field, kept_of, kept_items}
use Rattle.kept.proofs.NumberingLaws.{NoZero, learns-only}

-- ---- all is_uid

yes-all : (us ws : List Uid) → every is_uid us ≡ true → every is_uid ws ≡ true → every is_uid (us ++ ws) ≡ true
yes-all us ws e f = every-append is_uid us ws ∙ ap₂ (λ a b. a && b) e f

uids-in : (v : List ℕ) → every is_uid (held_uids v) ≡ true
unfolding every
uids-in v = step (uids_of v) refl
  where
    step : (x : Option (List Uid)) → uids_of v ≡ x → every is_uid (or_none x) ≡ true
    step None e = refl
    step (Some us) e = (uids_of-are v us e).uids

value-uids : (v : List ℕ) (φ : Fate) → every is_uid (uids_in_body (kept_value v φ)) ≡ true
unfolding every uids_in_body
value-uids v Removed = refl
value-uids v Kept = refl
value-uids v Walked = refl
value-uids v Emptied = refl
value-uids v Dummied = refl
value-uids v Renamed = uids-in v
value-uids v Shifted = refl
value-uids v Wrong = refl

sequence-uids : (ws : Walks Uid) (φ : Fate) → every is_uid (uids_in_walks ws) ≡ true → every is_uid (uids_in_body (kept_sequence ws φ)) ≡ true
unfolding every uids_in_body
sequence-uids ws φ e = pick-case (λ b. every is_uid (uids_in_body b) ≡ true) (walks_into φ) (walk ws) blank (λ _. e) (λ _. refl)

entry-uids : (φ : Fate) (tag vr : ℕ) (b : Fate → Body Uid) (c : Content Uid) → every is_uid (uids_in_body (b φ)) ≡ true → every is_uid (uids_in c) ≡ true
    → every is_uid (uids_in (entry φ tag vr b c)) ≡ true
unfolding uids_in
entry-uids Removed tag vr b c e f = f
entry-uids Kept tag vr b c e f = yes-all (uids_in_body (b Kept)) (uids_in c) e f
entry-uids Walked tag vr b c e f = yes-all (uids_in_body (b Walked)) (uids_in c) e f
entry-uids Emptied tag vr b c e f = yes-all (uids_in_body (b Emptied)) (uids_in c) e f
entry-uids Dummied tag vr b c e f = yes-all (uids_in_body (b Dummied)) (uids_in c) e f
entry-uids Renamed tag vr b c e f = yes-all (uids_in_body (b Renamed)) (uids_in c) e f
entry-uids Shifted tag vr b c e f = yes-all (uids_in_body (b Shifted)) (uids_in c) e f
entry-uids Wrong tag vr b c e f = yes-all (uids_in_body (b Wrong)) (uids_in c) e f

mutual
  unfolding every uids_in kept_of

  field-uids : {L : Type 0} (f : Field L) (s : Settings) (level : Level) (φ : Fate) → every is_uid (uids_in_body (kept_field f s level φ)) ≡ true
  field-uids (value v) s level φ = value-uids v φ
  field-uids (items is) s level φ = sequence-uids (kept_items is s (below φ level)) φ (items-uids is s (below φ level))

  of-uids : {L : Type 0} (es : Elements L) (s : Settings) (level : Level) → every is_uid (uids_in (kept_of es s level)) ≡ true
  of-uids nil s level = refl
  of-uids (elem l tag vr f es) s level =
      entry-uids (fate s level tag vr) tag vr (λ φ. kept_field f s level φ) (kept_of es s level) (field-uids f s level (fate s level tag vr)) (of-uids es s level)

  items-uids : {L : Type 0} (is : Items L) (s : Settings) (level : Level) → every is_uid (uids_in_walks (kept_items is s level)) ≡ true
  items-uids no_item s level = refl
  items-uids (item es is) s level =
      yes-all (uids_in (kept_of es s level)) (uids_in_walks (kept_items is s level)) (of-uids es s level) (items-uids is s level)

-- ---- one by one

abbrev pub AllUids : List Uid → Type 0
AllUids us = (u : Uid) → Memᴰ u us → is_uid u ≡ true

all-member : (us : List Uid) → every is_uid us ≡ true → AllUids us
unfolding every
all-member [] e u x'' = elim x'' [ ]
all-member (w ∷ us) e u (Memᴰ.head p) = ap is_uid p ∙ ((and-eq-true_iff (is_uid w) (every is_uid us)).0 e).0
all-member (w ∷ us) e u (Memᴰ.tail m) = all-member us ((and-eq-true_iff (is_uid w) (every is_uid us)).0 e).1 u m

pub kept-uids : {L : Type 0} (es : Elements L) (s : Settings) (level : Level) → AllUids (uids_in (kept_of es s level))
kept-uids es s level = all-member (uids_in (kept_of es s level)) (of-uids es s level)

pub learns-uids : (l us : List Uid) → AllUids l → AllUids us → AllUids (learns same_uid l us)
learns-uids l us f g u i = step (learns-only same_uid l us u i)
  where
    step : Memᴰ u l ⊎ Memᴰ u us → is_uid u ≡ true
    step (inl m) = f u m
    step (inr m) = g u m

pub uids-no_zero : (us : List Uid) → AllUids us → NoZero us
uids-no_zero us f u m = (uid_upto-is longest_uid u (f u m)).no-zero

pub sized-uids : (us : List Uid) → AllUids us → Sized (map slot_of us)
sized-uids [] f = tt
sized-uids (u ∷ us) f =
    (length-slot_of u (uid_upto-is longest_uid u (f u (Memᴰ.head refl))).upto, sized-uids us (λ w m. f w (Memᴰ.tail m)))
