-- Laws of numbers as text: what digits say grows with each, a number is read digit by digit, and written it is its last digits, of which
-- there are at most 20. Assumes nothing.
use mathlib.Core.Path.{◌≡◌, refl, sym, ap, ap₂, ◌∙◌}
use mathlib.Core.Bool.{Bool, true, false, ◌&&◌, cond, and-false, and-true, and_assoc}
use mathlib.Core.List.{List, [], ◌∷◌, ◌++◌}
use Prim.Native.Nat.{ℕ, zero, suc, ◌+◌, ◌-◌, ◌*◌, ◌/◌, ◌%◌, ◌^◌, ◌≤◌, ◌<◌}
use native.Mathlib.Nat.{pow-suc, one-le-pow, div-lt_iff_lt-mul}
use native.Mathlib.Numerals.{add-one}
use native.Mathlib.Omega.{arith}
use lib.ListN.{length, get_or, drop, set, drop_of_length-le, length-append}
use lib.Seq.{sets, drop-cons, set_comm}
use lib.Dec.{leb, ltb}
use borrow.Author.Tests.{ltb-true, ltb-false, lt-ltb, le-ltb, le-leb, ne_eqb}
use Rattle.little.proofs.Parts.{sets_append}
use Rattle.std.specs.Prelude.{Option, Some, None}
use Rattle.numeral.specs.Numeral.{digits_alone, with_digit, said_from, begins, number_in, spelled, numeral_of}

-- ---- said_from

pub said_from_grows : (v : ℕ) (s : List ℕ) → v ≤ said_from v s
unfolding said_from
said_from_grows v [] = omega arith
said_from_grows v (b ∷ bs) = omega (arith, said_from_grows (v * 10 + (b - 48)) bs)

pub said_from_append : (v : ℕ) (x y : List ℕ) → said_from v (x ++ y) ≡ said_from (said_from v x) y
unfolding said_from
said_from_append v [] y = refl
said_from_append v (b ∷ x) y = said_from_append (v * 10 + (b - 48)) x y

-- ---- digits_alone

pub digits_alone_append : (x y : List ℕ) → digits_alone (x ++ y) ≡ (digits_alone x && digits_alone y)
unfolding digits_alone
digits_alone_append [] y = refl
digits_alone_append (b ∷ x) y =
    ap (λ (t : Bool). leb 48 b && leb b 57 && t) (digits_alone_append x y)
    ∙ sym (and_assoc (leb 48 b && leb b 57) (digits_alone x) (digits_alone y))

pub digits_alone_one : (b : ℕ) → 48 ≤ b → b ≤ 57 → digits_alone (b ∷ []) ≡ true
unfolding digits_alone
digits_alone_one b l h = rw (le-leb 48 b l, le-leb b 57 h)

-- ---- a number, read from digit i on

-- the number that a field says, behind digits that said v
unfoldable pub number_from : ℕ → List ℕ → Option ℕ
number_from v s = cond (digits_alone s && ltb (said_from v s) (2 ^ 64)) (Some (said_from v s)) None

pub number_from_end : (v : ℕ) → v < 2 ^ 64 → number_from v [] ≡ Some v
unfolding number_from digits_alone said_from
number_from_end v h = rw (lt-ltb v (2 ^ 64) h)

pub number_from_large : (v b : ℕ) (bs : List ℕ) → 2 ^ 64 ≤ v * 10 + (b - 48) → number_from v (b ∷ bs) ≡ None
unfolding number_from said_from
number_from_large v b bs h =
    rw (le-ltb (said_from (v * 10 + (b - 48)) bs) (2 ^ 64) (omega (arith, said_from_grows (v * 10 + (b - 48)) bs)), and-false (digits_alone (b ∷ bs)))

-- where a field begins: with no zero, or with no more than that zero
pub number_from_start : (s : List ℕ) → 1 ≤ length s → (2 ≤ length s → get_or s 0 0 ≡ 48 → ⊥) → number_from 0 s ≡ number_in s
unfolding number_from number_in
number_from_start [] h f = absurd (omega arith)
number_from_start (b ∷ []) h f = rw and-true
number_from_start (b ∷ c ∷ s) h f = rw (ne_eqb b 48 (f (omega arith)), and-true)

-- ---- as the program reads it

-- where a field begins as no number does, and where it does
pub number_begun : (s : List ℕ) → begins s ≡ false → number_in s ≡ None
unfolding number_in
number_begun [] e = refl
number_begun (b ∷ s) e = rw (e, and-false (digits_alone (b ∷ s)))

pub number_begins : (s : List ℕ) → begins s ≡ true → number_from 0 s ≡ number_in s
unfolding number_in number_from
number_begins [] e = cc
number_begins (b ∷ s) e = rw (e, and-true)

-- byte b, behind digits that said v: there is no number, or it goes on from what the digit makes of v
module _ (v b : ℕ) (bs : List ℕ) where
  by_byte : (P : Option ℕ → Type 0)
      → (number_from v (b ∷ bs) ≡ None → P None)
      → (v * 10 + (b - 48) < 2 ^ 64 → number_from v (b ∷ bs) ≡ number_from (v * 10 + (b - 48)) bs → P (Some (v * 10 + (b - 48))))
      → P (with_digit v b)
  unfolding number_from digits_alone said_from
  by_byte P none some = by (leb 48 b && leb b 57) refl (ltb (v * 10 + (b - 48)) (2 ^ 64)) refl
    where
      by : (t : Bool) → (leb 48 b && leb b 57) ≡ t → (u : Bool) → ltb (v * 10 + (b - 48)) (2 ^ 64) ≡ u
          → P (cond (t && u) (Some (v * 10 + (b - 48))) None)
      by false p u q = none (rw p)
      by true p true q = some (ltb-true (v * 10 + (b - 48)) (2 ^ 64) q) (rw p)
      by true p false q = none (number_from_large v b bs (ltb-false (v * 10 + (b - 48)) (2 ^ 64) q))

same_some : {m n : ℕ} → Some m ≡ Some n → m ≡ n
same_some e = cc

-- and byte i of a field
module _ (s : List ℕ) (i v : ℕ) (inside : i < length s) where
  split : drop i s ≡ get_or s i 0 ∷ drop (i + 1) s
  split = rw add-one (drop-cons s i 0 inside)

  pub read_none : None ≡ with_digit v (get_or s i 0) → number_from v (drop i s) ≡ None
  read_none e =
      ap (number_from v) split
      ∙ by_byte v (get_or s i 0) (drop (i + 1) s) (λ o. None ≡ o → number_from v (get_or s i 0 ∷ drop (i + 1) s) ≡ None) (λ q _. q) (λ _ _ f. cc) e

  pub read_digit : {w : ℕ} → Some w ≡ with_digit v (get_or s i 0) → (w < 2 ^ 64) × (number_from w (drop (i + 1) s) ≡ number_from v (drop i s))
  read_digit {w} e =
      let more = by_byte v (get_or s i 0) (drop (i + 1) s)
      (λ o. Some w ≡ o → (w < 2 ^ 64) × (number_from w (drop (i + 1) s) ≡ number_from v (get_or s i 0 ∷ drop (i + 1) s)))
      (λ _ f. cc)
      (λ fits q f. (omega (arith, same_some f), ap (λ (n : ℕ). number_from n (drop (i + 1) s)) (same_some f) ∙ sym q))
      e in
      (more.0, more.1 ∙ sym (ap (number_from v) split))

pub read_end : (s : List ℕ) (i v : ℕ) → length s ≤ i → v < 2 ^ 64 → number_from v (drop i s) ≡ Some v
read_end s i v h l = ap (number_from v) (drop_of_length-le s h) ∙ number_from_end v l

-- ---- spelled

-- the last n digits of v
unfoldable pub lasts : ℕ → ℕ → List ℕ
lasts zero v = []
lasts (suc n) v = lasts n (v / 10) ++ ((48 + v % 10) ∷ [])

pub length_lasts : (n v : ℕ) → length (lasts n v) ≡ n
unfolding lasts
length_lasts zero v = refl
length_lasts (suc n) v = length-append (lasts n (v / 10)) ((48 + v % 10) ∷ []) ∙ omega (arith, length_lasts n (v / 10))

-- what holds of one digit, and of one more behind the digits of a tenth, holds of every number
module _ (P : ℕ → ℕ → List ℕ → Type 0)
    (last : (v : ℕ) → P 0 v ((48 + v % 10) ∷ []))
    (one : (fuel v : ℕ) → v < 10 → P (suc fuel) v ((48 + v) ∷ []))
    (more : (fuel v : ℕ) (s : List ℕ) → 10 ≤ v → P fuel (v / 10) s → P (suc fuel) v (s ++ ((48 + v % 10) ∷ []))) where
  spelled_every : (fuel v : ℕ) → P fuel v (spelled fuel v)
  unfolding spelled
  spelled_every zero v = last v
  spelled_every (suc fuel) v = by (ltb v 10) refl (spelled_every fuel (v / 10))
    where
      by : (t : Bool) → ltb v 10 ≡ t → P fuel (v / 10) (spelled fuel (v / 10))
          → P (suc fuel) v (cond t ((48 + v) ∷ []) (spelled fuel (v / 10) ++ ((48 + v % 10) ∷ [])))
      by true e ih = one fuel v (ltb-true v 10 e)
      by false e ih = more fuel v (spelled fuel (v / 10)) (ltb-false v 10 e) ih

length_snoc : (s : List ℕ) (b : ℕ) → length (s ++ (b ∷ [])) ≡ suc (length s)
length_snoc s b = length-append s (b ∷ []) ∙ add-one (length s)

pub length_spelled : (fuel v : ℕ) → (1 ≤ length (spelled fuel v)) × (length (spelled fuel v) ≤ suc fuel)
length_spelled =
    spelled_every (λ fuel v s. (1 ≤ length s) × (length s ≤ suc fuel)) (λ v. (omega arith, omega arith)) (λ fuel v h. (omega arith, omega arith))
    (λ fuel v s h ih. (omega (arith, length_snoc s (48 + v % 10)), omega (arith, length_snoc s (48 + v % 10))))

length_spelled_one : (fuel v : ℕ) → v < 10 → length (spelled fuel v) ≡ 1
unfolding spelled
length_spelled_one zero v h = refl
length_spelled_one (suc fuel) v h = rw (lt-ltb v 10 h)

length_spelled_more : (fuel v : ℕ) → 10 ≤ v → length (spelled (suc fuel) v) ≡ suc (length (spelled fuel (v / 10)))
unfolding spelled
length_spelled_more fuel v h = rw (le-ltb v 10 h) (length_snoc (spelled fuel (v / 10)) (48 + v % 10))

-- more than one digit are those of no zero
pub spelled_long : (fuel v : ℕ) → 2 ≤ length (spelled fuel v) → 1 ≤ v
spelled_long = spelled_every (λ fuel v s. 2 ≤ length s → 1 ≤ v) (λ v h. absurd (omega arith)) (λ fuel v l h. absurd (omega arith)) (λ fuel v s l ih h. omega arith)

-- the digits are the last ones, as many as there are
pub spelled_lasts : (fuel v : ℕ) → spelled fuel v ≡ lasts (length (spelled fuel v)) v
unfolding lasts
spelled_lasts =
    spelled_every (λ fuel v s. s ≡ lasts (length s) v) (λ v. refl) (λ fuel v h. ap (λ (n : ℕ). (48 + n) ∷ []) (omega arith))
    (λ fuel v s h ih. rw (length_snoc s (48 + v % 10)) (ap (λ (l : List ℕ). l ++ ((48 + v % 10) ∷ [])) ih))

pub digits_alone_spelled : (fuel v : ℕ) → digits_alone (spelled fuel v) ≡ true
digits_alone_spelled =
    spelled_every (λ fuel v s. digits_alone s ≡ true) (λ v. digits_alone_one (48 + v % 10) (omega arith) (omega arith))
    (λ fuel v h. digits_alone_one (48 + v) (omega arith) (omega arith))
    (λ fuel v s h ih. digits_alone_append s ((48 + v % 10) ∷ [])
    ∙ ap₂ ◌&&◌ ih (digits_alone_one (48 + v % 10) (omega arith) (omega arith)))

-- a tenth has a digit less
tenth_below : (fuel v : ℕ) → v < 10 ^ suc (suc fuel) → v / 10 < 10 ^ suc fuel
tenth_below fuel v h =
    (div-lt_iff_lt-mul {k = 10} {x = v} {y = 10 ^ suc fuel} (omega arith)).1 (rw pow-suc at h)

-- they say the number
pub said_from_spelled : (fuel v : ℕ) → v < 10 ^ suc fuel → said_from 0 (spelled fuel v) ≡ v
unfolding said_from
said_from_spelled =
    spelled_every (λ fuel v s. v < 10 ^ suc fuel → said_from 0 s ≡ v) (λ v l. omega arith) (λ fuel v h l. omega arith)
    (λ fuel v s h ih l. said_from_append 0 s ((48 + v % 10) ∷ []) ∙ omega (arith, ih (tenth_below fuel v l)))

-- and begin with no zero, but for the number 0
pub spelled_leads : (fuel v : ℕ) → v < 10 ^ suc fuel → 1 ≤ v → get_or (spelled fuel v) 0 48 ≡ 48 → ⊥
spelled_leads =
    spelled_every (λ fuel v s. v < 10 ^ suc fuel → 1 ≤ v → get_or s 0 48 ≡ 48 → ⊥) (λ v l h e. omega arith) (λ fuel v h l k e. omega arith)
    (λ fuel v s h ih l k. lead s (48 + v % 10) (ih (tenth_below fuel v l) (omega arith)))
  where
    lead : (s : List ℕ) (b : ℕ) → (get_or s 0 48 ≡ 48 → ⊥) → get_or (s ++ (b ∷ [])) 0 48 ≡ 48 → ⊥
    lead [] b f e = f refl
    lead (a ∷ s) b f e = f e

-- ---- how many digits, by the powers of ten that a number lies between

length_spelled_at : (fuel k v : ℕ) → k ≤ fuel → 10 ^ k ≤ v → v < 10 * 10 ^ k → length (spelled fuel v) ≡ k + 1
length_spelled_at fuel zero v f l h = length_spelled_one fuel v (omega arith)
length_spelled_at zero (suc k) v f l h = absurd (omega arith)
length_spelled_at (suc fuel) (suc k) v f l h =
    let power = pow-suc 10 k in
    length_spelled_more fuel v (omega (arith, one-le-pow k 10 (omega arith)))
    ∙ omega (arith, length_spelled_at fuel k (v / 10) (omega arith) (omega arith) (omega arith))

pub numeral_long : (k v : ℕ) → k < 20 → 10 ^ k ≤ v → v < 10 * 10 ^ k → length (numeral_of v) ≡ k + 1
unfolding numeral_of
numeral_long k v f l h = length_spelled_at 19 k v (omega arith) l h

pub numeral_zero : (v : ℕ) → v ≡ 0 → length (numeral_of v) ≡ 1
unfolding numeral_of
numeral_zero v e = length_spelled_one 19 v (omega arith)

-- ---- digits, stored from the last on

pub lasts_numeral_of : {n : ℕ} (v : ℕ) → n ≡ length (numeral_of v) → lasts n v ≡ numeral_of v
unfolding numeral_of
lasts_numeral_of v e = ap (λ (n : ℕ). lasts n v) e ∙ sym (spelled_lasts 19 v)

set_sets : (s : List ℕ) (at : ℕ) (xs : List ℕ) (i b : ℕ) → at + length xs ≤ i → set (sets s at xs) i b ≡ sets (set s i b) at xs
set_sets s at [] i b h = refl
set_sets s at (x ∷ xs) i b h =
    set_sets (set s at x) (suc at) xs i b (omega arith) ∙ ap (λ (l : List ℕ). sets l (suc at) xs) (set_comm s at i x b (λ e. omega arith))

pub sets_lasts : (s : List ℕ) (at n v : ℕ) → 0 < n
    → sets (set s (at + (n - 1)) (48 + v % 10)) at (lasts (n - 1) (v / 10)) ≡ sets s at (lasts n v)
unfolding lasts
sets_lasts s at n v h =
    sym (set_sets s at xs (at + (n - 1)) (48 + v % 10) (omega (arith, length_lasts (n - 1) (v / 10))))
    ∙ ap (λ (m : ℕ). set (sets s at xs) (at + m) (48 + v % 10)) (sym (length_lasts (n - 1) (v / 10)))
    ∙ sym (sets_append s at xs ((48 + v % 10) ∷ []))
    ∙ ap (λ (m : ℕ). sets s at (lasts m v)) more
  where
    xs : List ℕ
    xs = lasts (n - 1) (v / 10)

    more : suc (n - 1) ≡ n
    more = omega arith

pub sets_lasts_end : (s : List ℕ) (at n v : ℕ) → n ≤ 0 → sets s at (lasts n v) ≡ s
unfolding lasts
sets_lasts_end s at zero v h = refl
sets_lasts_end s at (suc n) v h = absurd (omega arith)
