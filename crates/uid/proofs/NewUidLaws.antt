-- Laws of `specs/NewUid.antt`. No contract cites this file. Assumes nothing.
--     decimal-small, decimal-more        a number below ten is one digit; another is its tenth's digits and one more
--     decimal-inj                        two numbers are written alike only where they are one
--     length-decimal-small, length-decimal-more, decimal-short     a number below a power of ten has no more digits than that
--     decimal-component                  a number in decimal is a component of a UID
--     length-new_uid, new_uid-inj, new_uid-free
--     digits_left, new_uid-is_uid        a root with a number of the digits that it leaves room for is a UID
--     uids_text-inj                      two values of new UIDs are alike only where their numbers are
--     new_uid-short, uids_text-length    a value of new UIDs fits a length of two bytes (W18)
--     uids_of-uids_text                  new UIDs that were written are read back
use mathlib.Core.Path.{◌≡◌, refl, sym, ap, ap₂, ◌∙◌}
use mathlib.Core.Bool.{Bool, true, false, and-eq-true_iff}
use mathlib.Core.Logic.{◌≢◌}
use Rattle.std.specs.Prelude.{Some}
use mathlib.Core.List.{List, [], ◌∷◌, ◌++◌, map, append_cancel_left, head-eq_of_cons-eq, tail-eq_of_cons-eq, nil≢cons, cons≢nil, Memᴰ}
use Prim.Native.Nat.{ℕ, zero, suc, ◌+◌, ◌-◌, ◌*◌, ◌/◌, ◌%◌, ◌^◌, ◌≤◌, ◌<◌}
use native.Mathlib.Decide.{dec_lt}
use native.Mathlib.Omega.{arith}
use borrow.Author.Tests.{lt-ltb, le-ltb, eqb-true}
use lib.Dec.{eqb}
use lib.ListN.{length, length-append, length-map}
use Rattle.basis.specs.Choice.{pick, every}
use Rattle.basis.specs.Pieces.{backslash}
use Rattle.basis.specs.Text.{is_digit, digit0}
use Rattle.basis.proofs.PiecesLaws.{Free, FreeAll, free-append}
use Rattle.basis.proofs.TextLaws.{is_digit-yes}
use Rattle.uid.specs.Uid.{dot, component, is_uid, is_root, longest_uid, longest_root}
use Rattle.uid.specs.Value.{most_uids, uids_of}
use Rattle.uid.specs.NewUid.{digits_in, decimal, new_uid, uids_text}
use Rattle.uid.proofs.UidLaws.{every-free, component-digits, formed-one, formed-append, uid_upto-is, uid_upto-formed, uid_upto-from}
use Rattle.uid.proofs.ValueLaws.{Short, Filled, uids_of-joined, value_of-inj, value_of-length}

-- ---- decimal

digits-small : (k n : ℕ) → n < 10 → digits_in (suc k) n ≡ (digit0 + n) ∷ []
unfolding digits_in
digits-small k n h = rw (lt-ltb n 10 h) refl

digits-more : (k n : ℕ) → 10 ≤ n → digits_in (suc k) n ≡ digits_in k (n / 10) ++ (digit0 + n % 10) ∷ []
unfolding digits_in
digits-more k n h = rw (le-ltb n 10 h) refl

-- any fuel above the number
digits-fuel : (k j n : ℕ) → n < k → n < j → digits_in k n ≡ digits_in j n
digits-fuel zero j n h i = absurd (omega arith)
digits-fuel (suc k) zero n h i = absurd (omega arith)
digits-fuel (suc k) (suc j) n h i = step (dec_lt n 10) (digits-fuel k j (n / 10))
  where
    step : Dec (n < 10) → (n / 10 < k → n / 10 < j → digits_in k (n / 10) ≡ digits_in j (n / 10)) → digits_in (suc k) n ≡ digits_in (suc j) n
    step (yes p) ih = digits-small k n p ∙ sym (digits-small j n p)
    step (no q) ih =
        digits-more k n (omega arith) ∙ ap (λ l. l ++ (digit0 + n % 10) ∷ []) (ih (omega arith) (omega arith)) ∙ sym (digits-more j n (omega arith))

pub decimal-small : (n : ℕ) → n < 10 → decimal n ≡ (digit0 + n) ∷ []
unfolding decimal
decimal-small n h = digits-small n n h

pub decimal-more : (n : ℕ) → 10 ≤ n → decimal n ≡ decimal (n / 10) ++ (digit0 + n % 10) ∷ []
unfolding decimal
decimal-more n h =
    digits-more n n h ∙ ap (λ l. l ++ (digit0 + n % 10) ∷ []) (digits-fuel n (suc (n / 10)) (n / 10) (omega arith) (omega arith))

-- what holds of the digits of numbers, of each by what holds of its tenth
decimal-each : (P : ℕ → List ℕ → Type 0) → ((n : ℕ) → n < 10 → P n ((digit0 + n) ∷ []))
    → ((n : ℕ) → 10 ≤ n → P (n / 10) (decimal (n / 10)) → P n (decimal (n / 10) ++ (digit0 + n % 10) ∷ []))
    → (k n : ℕ) → n < k → P n (decimal n)
decimal-each P small more zero n h = absurd (omega arith)
decimal-each P small more (suc k) n h = step (dec_lt n 10) (decimal-each P small more k (n / 10))
  where
    step : Dec (n < 10) → (n / 10 < k → P (n / 10) (decimal (n / 10))) → P n (decimal n)
    step (yes p) ih = rw (decimal-small n p) (small n p)
    step (no q) ih = rw (decimal-more n (omega arith)) (more n (omega arith) (ih (omega arith)))

-- the number that digits spell, after those that spelt a
read_from : ℕ → List ℕ → ℕ
read_from a [] = a
read_from a (c ∷ cs) = read_from (a * 10 + (c - digit0)) cs

read-last : (a : ℕ) (cs : List ℕ) (c : ℕ) → read_from a (cs ++ c ∷ []) ≡ read_from a cs * 10 + (c - digit0)
unfolding read_from
read-last a [] c = refl
read-last a (d ∷ cs) c = read-last (a * 10 + (d - digit0)) cs c

read-decimal : (n : ℕ) → read_from 0 (decimal n) ≡ n
unfolding read_from
read-decimal n =
    decimal-each (λ m cs. read_from 0 cs ≡ m) (λ m h. omega arith)
    (λ m h ih. read-last 0 (decimal (m / 10)) (digit0 + m % 10) ∙ omega arith) (suc n) n (omega arith)

pub decimal-inj : (m n : ℕ) → decimal m ≡ decimal n → m ≡ n
decimal-inj m n e = sym (read-decimal m) ∙ ap (read_from 0) e ∙ read-decimal n

pub length-decimal-small : (n : ℕ) → n < 10 → length (decimal n) ≡ 1
length-decimal-small n h = ap length (decimal-small n h)

pub length-decimal-more : (n : ℕ) → 10 ≤ n → length (decimal n) ≡ length (decimal (n / 10)) + 1
length-decimal-more n h = ap length (decimal-more n h) ∙ length-append (decimal (n / 10)) ((digit0 + n % 10) ∷ [])

pub decimal-short : (j n : ℕ) → n < 10 ^ suc j → length (decimal n) ≤ suc j
decimal-short zero n h = omega (arith, length-decimal-small n (omega arith))
decimal-short (suc j) n h = step (dec_lt n 10) (decimal-short j (n / 10))
  where
    step : Dec (n < 10) → (n / 10 < 10 ^ suc j → length (decimal (n / 10)) ≤ suc j) → length (decimal n) ≤ suc (suc j)
    step (yes p) ih = omega (arith, length-decimal-small n p)
    step (no q) ih = omega (arith, length-decimal-more n (omega arith), ih (omega arith))

-- digits, the first no zero unless the number is
Proper : ℕ → List ℕ → Type 0
Proper n [] = ⊥
Proper n (x ∷ p) = (every is_digit (x ∷ p) ≡ true) × (0 < n → x ≢ digit0) × (n < 10 → length p ≡ 0)

proper-small : (n : ℕ) → n < 10 → Proper n ((digit0 + n) ∷ [])
unfolding Proper every
proper-small n h = ((and-eq-true_iff (is_digit (digit0 + n)) true).1 (is_digit-yes (digit0 + n) (omega arith) (omega arith), refl), (λ k e. omega arith), λ k. refl)

every-snoc : (p : List ℕ) (x : ℕ) → every is_digit p ≡ true → is_digit x ≡ true → every is_digit (p ++ x ∷ []) ≡ true
unfolding every
every-snoc [] x e f = (and-eq-true_iff (is_digit x) true).1 (f, refl)
every-snoc (y ∷ p) x e f =
    let b = (and-eq-true_iff (is_digit y) (every is_digit p)).0 e in
    (and-eq-true_iff (is_digit y) (every is_digit (p ++ x ∷ []))).1 (b.0, every-snoc p x b.1 f)

proper-more : (n : ℕ) → 10 ≤ n → (l : List ℕ) → Proper (n / 10) l → Proper n (l ++ (digit0 + n % 10) ∷ [])
unfolding Proper
proper-more n h [] q = absurd q
proper-more n h (x ∷ p) q =
    (every-snoc (x ∷ p) (digit0 + n % 10) q.0 (is_digit-yes (digit0 + n % 10) (omega arith) (omega arith)), (λ k. q.1 (omega arith)), λ k. absurd (omega arith))

proper-component : (n : ℕ) (l : List ℕ) → Proper n l → component l ≡ true
unfolding Proper component
proper-component n [] q = absurd q
proper-component n (x ∷ p) q = step (eqb x digit0) refl (dec_lt n 10)
  where
    step : (b : Bool) → eqb x digit0 ≡ b → Dec (n < 10) → pick b (eqb (length p) 0) (every is_digit (x ∷ p)) ≡ true
    step true e (yes h) = rw (q.2 h) refl
    step true e (no h) = absurd (q.1 (omega arith) (eqb-true x digit0 e))
    step false e d = q.0

pub decimal-component : (n : ℕ) → component (decimal n) ≡ true
decimal-component n =
    proper-component n (decimal n) (decimal-each Proper proper-small (λ m h q. proper-more m h (decimal (m / 10)) q) (suc n) n (omega arith))

-- ---- new_uid

pub length-new_uid : (root : List ℕ) (n : ℕ) → length (new_uid root n) ≡ length root + 1 + length (decimal n)
unfolding new_uid
length-new_uid root n = length-append root (dot ∷ decimal n) ∙ omega arith

pub new_uid-inj : (root : List ℕ) (m n : ℕ) → new_uid root m ≡ new_uid root n → m ≡ n
unfolding new_uid
new_uid-inj root m n e = decimal-inj m n (tail-eq_of_cons-eq (append_cancel_left root (dot ∷ decimal m) (dot ∷ decimal n) e))

pub new_uid-free : (c : ℕ) → is_digit c ≡ false → dot ≢ c → (root : List ℕ) (n : ℕ) → Free c root → Free c (new_uid root n)
unfolding new_uid
new_uid-free c e k root n f =
    free-append c root (dot ∷ decimal n) f (k, every-free c e (decimal n) (component-digits (decimal n) (decimal-component n)))

-- what a root of any allowed length leaves for a number: four digits
abbrev pub digits_left : ℕ
digits_left = longest_uid - longest_root - 1

pub new_uid-is_uid : (root : List ℕ) (n : ℕ) → is_root root ≡ true → n < 10 ^ digits_left → is_uid (new_uid root n) ≡ true
unfolding new_uid
new_uid-is_uid root n e h =
    uid_upto-from longest_uid (new_uid root n)
    (omega (arith, length-new_uid root n, decimal-short (digits_left - 1) n h, (uid_upto-is longest_root root e).upto))
    (formed-append root (decimal n) (uid_upto-formed longest_root root e) (formed-one (decimal n) (decimal-component n)))

-- ---- uids_text

module _ (root : List ℕ) where
  news-free : (c : ℕ) → is_digit c ≡ false → dot ≢ c → Free c root → (ns : List ℕ) → FreeAll c (map (new_uid root) ns)
  news-free c e k f [] = tt
  news-free c e k f (n ∷ ns) = (new_uid-free c e k root n f, news-free c e k f ns)

  news-filled : (ns : List ℕ) → Filled (map (new_uid root) ns)
  news-filled [] = tt
  news-filled (n ∷ ns) = (omega (arith, length-new_uid root n), news-filled ns)

  news-inj : (ms ns : List ℕ) → map (new_uid root) ms ≡ map (new_uid root) ns → ms ≡ ns
  news-inj [] [] e = refl
  news-inj [] (n ∷ ns) e = absurd (nil≢cons e)
  news-inj (m ∷ ms) [] e = absurd (cons≢nil e)
  news-inj (m ∷ ms) (n ∷ ns) e = ap₂ ◌∷◌ (new_uid-inj root m n (head-eq_of_cons-eq e)) (news-inj ms ns (tail-eq_of_cons-eq e))

  pub uids_text-inj : Free backslash root → Free 0 root → (ms ns : List ℕ) → uids_text root ms ≡ uids_text root ns → ms ≡ ns
  uids_text-inj f g ms ns e =
      news-inj ms ns
      (value_of-inj (map (new_uid root) ms) (map (new_uid root) ns) (news-free 0 refl (omega arith) g ms) (news-free 0 refl (omega arith) g ns)
      (news-free backslash refl (omega arith) f ms) (news-free backslash refl (omega arith) f ns) (news-filled ms) (news-filled ns) e)

-- numbers of at most d + 1 digits, for which the root leaves room: so 59 characters and four digits, or 58 and five
module _ (root : List ℕ) (d : ℕ) (room : length root + 1 + suc d ≤ longest_uid) where
  pub new_uid-short : (n : ℕ) → n < 10 ^ suc d → length (new_uid root n) ≤ longest_uid
  new_uid-short n h = omega (arith, length-new_uid root n, decimal-short d n h)

  news-short : (ns : List ℕ) → ((n : ℕ) → Memᴰ n ns → n < 10 ^ suc d) → Short longest_uid (map (new_uid root) ns)
  news-short [] h = tt
  news-short (n ∷ ns) h = (new_uid-short n (h n (Memᴰ.head refl)), news-short ns (λ m k. h m (Memᴰ.tail k)))

  pub uids_text-length : (ns : List ℕ) → ((n : ℕ) → Memᴰ n ns → n < 10 ^ suc d) → length ns ≤ most_uids → length (uids_text root ns) < 65536
  uids_text-length ns h k = omega (arith, value_of-length (map (new_uid root) ns) (news-short ns h), length-map ns (new_uid root))

-- a good root, and numbers for which every root leaves room
module _ (root : List ℕ) (good : is_root root ≡ true) where
  news-uids : (ns : List ℕ) → ((n : ℕ) → Memᴰ n ns → n < 10 ^ digits_left) → every is_uid (map (new_uid root) ns) ≡ true
  unfolding every
  news-uids [] h = refl
  news-uids (n ∷ ns) h =
      (and-eq-true_iff (is_uid (new_uid root n)) (every is_uid (map (new_uid root) ns))).1
      (new_uid-is_uid root n good (h n (Memᴰ.head refl)), news-uids ns (λ m k. h m (Memᴰ.tail k)))

  pub uids_of-uids_text : (ns : List ℕ) → ((n : ℕ) → Memᴰ n ns → n < 10 ^ digits_left) → length ns ≤ most_uids
      → uids_of (uids_text root ns) ≡ Some (map (new_uid root) ns)
  uids_of-uids_text ns h k = uids_of-joined (map (new_uid root) ns) (omega (arith, length-map ns (new_uid root))) (news-uids ns h)
