-- What is asked of the two lists, and what is shown: document 01, "What each action writes", the paragraph on list values, 2nd
-- sentence; reading W12. The contract of `lookup` cites `Shown` and `asked`. Laws: `proofs/LookupLaws.antt`. Assumes nothing.
--     seek_from left s at t     the first of at most `left` entries of s, from the place `at` on, whose tag is t, where those before it have lesser ones
--     entry_of s t              the entry of s for the tag t, if there is one
--     entry_for es t            the first of the entries es whose tag is t
--     value_for s t             the bytes of the value for t in the list s
--     study_first x y           x, or y where there is none
--     asked study site t        the value for the tag t: the study's, else the site's, else none
--     bytes_or x                the bytes that were found, or no bytes
--     Shown x y r study site    r is the value of the entry x of the study's list, else of the entry y of the site's, else an empty part of it
-- Of a list that keeps the rule, `entry_of` is the entry of `entries` for that tag (`entry_of-entry`); other bytes it reads as far as they are entries.
use Rattle.std.specs.Prelude.{List, [], ◌∷◌, ℕ, zero, suc, eqb, ltb, Option, None, Some, option_map}
use Rattle.std.specs.Borrow.{Bor}
use Rattle.basis.specs.Choice.{pick, fork, then}
use Rattle.basis.specs.Parts.{IsPart}
use Rattle.lists.specs.Lists.{most_entries, entry_at, entry_value}
use Rattle.lists.specs.declared.Entry.{Entry}

unfoldable pub seek_from : ℕ → List ℕ → ℕ → ℕ → Option Entry
seek_from zero s at t = None
seek_from (suc left) s at t =
    then (entry_at s at) (λ e.
    fork (ltb e.tag t) (λ _. seek_from left s e.to t) (λ _. pick (eqb e.tag t) (Some e) None))

unfoldable pub entry_of : List ℕ → ℕ → Option Entry
entry_of s t = seek_from most_entries s 0 t

abbrev pub entry_for : List Entry → ℕ → Option Entry
entry_for [] t = None
entry_for (e ∷ es) t = fork (eqb e.tag t) (λ _. Some e) (λ _. entry_for es t)

abbrev pub value_for : List ℕ → ℕ → Option (List ℕ)
value_for s t = option_map (entry_value s) (entry_of s t)

abbrev pub study_first : {A : Type 0} → Option A → Option A → Option A
study_first None y = y
study_first (Some x) y = Some x

-- Document 01, What each action writes, list values, 2nd sentence: the study's list is asked first, then the site's
unfoldable pub asked : List ℕ → List ℕ → ℕ → Option (List ℕ)
asked study site t = study_first (value_for study t) (value_for site t)

abbrev pub bytes_or : Option (List ℕ) → List ℕ
bytes_or None = []
bytes_or (Some xs) = xs

-- ... and what is found is shown as the very part of that list
abbrev pub Shown : Option Entry → Option Entry → Bor (List ℕ) → Bor (List ℕ) → Bor (List ℕ) → Type 0
Shown (Some e) y r study site = IsPart r study e.from e.to
Shown None (Some e) r study site = IsPart r site e.from e.to
Shown None None r study site = IsPart r site 0 0
