-- The words by which a definition chooses. Most spec files of the project use them. Assumes nothing.
--     pick b x y                   x where the test b holds, else y
--     fork b (λ _. x) (λ _. y)     the same where x or y goes on by recursion: only the side that is taken is worked out
--     then a (λ x. b)              b of what was found, or nothing where nothing was found
--     is_some o, is_none o         tests: something was found, or nothing
--     every p xs                   the test p holds of each of xs
--     among n xs                   n is one of xs
use Rattle.std.specs.Prelude.{Bool, true, false, ◌&&◌, ◌||◌, List, [], ◌∷◌, ℕ, eqb, Option, None, Some}

abbrev pub pick : {A : Type 0} → Bool → A → A → A
pick true x y = x
pick false x y = y

abbrev pub fork : {A : Type 0} → Bool → (Unit {0} → A) → (Unit {0} → A) → A
fork true x y = x tt
fork false x y = y tt

abbrev pub then : {A B : Type 0} → Option A → (A → Option B) → Option B
then None f = None
then (Some a) f = f a

abbrev pub is_some : {A : Type 0} → Option A → Bool
is_some None = false
is_some (Some a) = true

abbrev pub is_none : {A : Type 0} → Option A → Bool
is_none None = true
is_none (Some a) = false

unfoldable pub every : {A : Type 0} → (A → Bool) → List A → Bool
every p [] = true
every p (x ∷ xs) = p x && every p xs

unfoldable pub among : ℕ → List ℕ → Bool
among n [] = false
among n (x ∷ xs) = eqb n x || among n xs
