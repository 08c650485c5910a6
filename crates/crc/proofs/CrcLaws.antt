-- Laws of CRC32C: a checksum of two parts is that of the first carried on over the second; it fits 32 bits; eight steps are one
-- look at the table; and what a fold or a loop over bytes computes, of one run or of four. Assumes nothing.
use mathlib.Core.Path.{◌≡◌, refl, sym, ap, ap₂, subst, ◌∙◌}
use mathlib.Core.List.{List, [], ◌∷◌, ◌++◌}
use Prim.Native.Nat.{ℕ, zero, suc, ◌+◌, ◌*◌, ◌/◌, ◌%◌, ◌^◌, ◌<◌, ◌≤◌}
use native.Mathlib.Nat.{pow-suc, mul_assoc, mul-one, add-zero, zero-add, add-suc, suc-add, le_of_suc-le-suc, not-suc-le-zero}
use native.Mathlib.Numerals.{add-one}
use native.Mathlib.Omega.{arith}
use lib.Bits.{bit_xor, xor_lt, xor_self, xor_zero_r}
use lib.ListN.{length, get_or, drop, drop_of_length-le}
use lib.Seq.{drop-cons}
use Rattle.std.proofs.lemmas.List as list
use Rattle.std.specs.Prelude.{map}
use Rattle.std.specs.List.{fold}
use Rattle.std.proofs.Common.{Bor}
use Rattle.std.proofs.Math.ListN.{get_or-map}
use Rattle.crc.specs.Abreast.{OneLength}
use Rattle.crc.specs.Crc.{poly, filled, step_by, step, steps, byte_step, run, crc_more, crc_of}
use Rattle.crc.specs.Table.{tab_from, step_table}
use Rattle.crc.proofs.XorLaws.{xor_half, xor_odd, xor_assoc, xor_swap, xor_twice, xor_pairs, xor_parts}

-- ---- a list in two parts

pub run_append : (c : ℕ) (xs ys : List ℕ) → run c (xs ++ ys) ≡ run (run c xs) ys
unfolding run
run_append c [] ys = refl
run_append c (x ∷ xs) ys = run_append (byte_step c x) xs ys

pub crc_more_append : (c : ℕ) (xs ys : List ℕ) → crc_more c (xs ++ ys) ≡ crc_more (crc_more c xs) ys
unfolding crc_more
crc_more_append c xs ys =
    ap (λ (x : ℕ). bit_xor x filled)
    (run_append (bit_xor c filled) xs ys ∙ ap (λ (x : ℕ). run x ys) (sym (xor_twice (run (bit_xor c filled) xs) filled)))

pub crc_append : (xs ys : List ℕ) → crc_of (xs ++ ys) ≡ crc_more (crc_of xs) ys
crc_append xs ys = crc_more_append 0 xs ys

-- ---- a checksum fits 32 bits

step_by_below : (n h : ℕ) → h < 2 ^ 32 → step_by n h < 2 ^ 32
unfolding step_by
step_by_below zero h l = l
step_by_below (suc n) h l = xor_lt 32 h poly l (omega arith)

pub step_below : (c : ℕ) → c < 2 ^ 32 → step c < 2 ^ 32
unfolding step
step_below c l = step_by_below (c % 2) (c / 2) (omega arith)

pub steps_below : (n c : ℕ) → c < 2 ^ 32 → steps n c < 2 ^ 32
unfolding steps
steps_below zero c l = l
steps_below (suc n) c l = steps_below n (step c) (step_below c l)

pub byte_step_below : (c b : ℕ) → c < 2 ^ 32 → b < 256 → byte_step c b < 2 ^ 32
unfolding byte_step
byte_step_below c b l h = steps_below 8 (bit_xor c b) (xor_lt 32 c b l (omega arith))

pub run_below : (c : ℕ) (l : List ℕ) → c < 2 ^ 32 → ((i : ℕ) → i < length l → get_or l i 0 < 256) → run c l < 2 ^ 32
unfolding run
run_below c [] h bytes = h
run_below c (b ∷ l) h bytes =
    run_below (byte_step c b) l (byte_step_below c b h (bytes 0 (omega arith))) (λ i k. bytes (suc i) (omega arith))

pub crc_more_below : (c : ℕ) (l : List ℕ) → c < 2 ^ 32 → ((i : ℕ) → i < length l → get_or l i 0 < 256) → crc_more c l < 2 ^ 32
unfolding crc_more
crc_more_below c l h bytes =
    xor_lt 32 (run (bit_xor c filled) l) filled
    (run_below (bit_xor c filled) l (xor_lt 32 c filled h (omega arith)) bytes)
    (omega arith)

pub crc_below : (l : List ℕ) → ((i : ℕ) → i < length l → get_or l i 0 < 256) → crc_of l < 2 ^ 32
crc_below l bytes = crc_more_below 0 l (omega arith) bytes

-- ---- a byte at a time

-- a step keeps `^`
step_by_both : (i j x y : ℕ) → i < 2 → j < 2 → step_by ((i + j) % 2) (bit_xor x y) ≡ bit_xor (step_by i x) (step_by j y)
unfolding step_by
step_by_both zero zero x y h k = refl
step_by_both zero (suc zero) x y h k = xor_assoc x y poly
step_by_both zero (suc (suc j)) x y h k = absurd (omega arith)
step_by_both (suc zero) zero x y h k = xor_swap x y poly
step_by_both (suc zero) (suc zero) x y h k =
    sym (xor_pairs x poly y poly ∙ ap (bit_xor (bit_xor x y)) (xor_self poly) ∙ xor_zero_r (bit_xor x y))
step_by_both (suc zero) (suc (suc j)) x y h k = absurd (omega arith)
step_by_both (suc (suc i)) j x y h k = absurd (omega arith)

pub step_both : (a b : ℕ) → step (bit_xor a b) ≡ bit_xor (step a) (step b)
unfolding step
step_both a b =
    let odd : bit_xor a b % 2 ≡ (a % 2 + b % 2) % 2 = xor_odd a b ∙ omega arith in
    ap₂ step_by odd (xor_half a b) ∙ step_by_both (a % 2) (b % 2) (a / 2) (b / 2) (omega arith) (omega arith)

pub steps_both : (n a b : ℕ) → steps n (bit_xor a b) ≡ bit_xor (steps n a) (steps n b)
unfolding steps
steps_both zero a b = refl
steps_both (suc n) a b = ap (steps n) (step_both a b) ∙ steps_both n (step a) (step b)

-- what lies above the n low digits is only shifted
step_even : (y : ℕ) → step (y * 2) ≡ y
unfolding step step_by
step_even y =
    let even : y * 2 % 2 ≡ 0 = omega arith in
    let half : y * 2 / 2 ≡ y = omega arith in
    ap₂ step_by even half

steps_shifted : (n y : ℕ) → steps n (y * 2 ^ n) ≡ y
unfolding steps
steps_shifted zero y = mul-one y
steps_shifted (suc n) y =
    let e : y * 2 ^ suc n ≡ y * 2 ^ n * 2 = ap (λ (x : ℕ). y * x) (pow-suc 2 n) ∙ sym (mul_assoc y (2 ^ n) 2) in
    ap (λ (x : ℕ). steps n (step x)) e ∙ ap (steps n) (step_even (y * 2 ^ n)) ∙ steps_shifted n y

pub steps_xor : (n s y : ℕ) → steps n (bit_xor s (y * 2 ^ n)) ≡ bit_xor (steps n s) y
steps_xor n s y = steps_both n s (y * 2 ^ n) ∙ ap (bit_xor (steps n s)) (steps_shifted n y)

tab_from_lem : (f : ℕ → ℕ) (n i k : ℕ) → k < n → get_or (tab_from f i n) k 0 ≡ f (i + k)
unfolding tab_from
tab_from_lem f zero i k h = absurd (not-suc-le-zero h)
tab_from_lem f (suc n) i zero h = ap f (sym (add-zero i))
tab_from_lem f (suc n) i (suc k) h = tab_from_lem f n (suc i) k (le_of_suc-le-suc h) ∙ ap f (suc-add i k ∙ sym (add-suc i k))

-- the table's rule, at each of its places
pub step_table_at : (i : ℕ) → i < 256 → get_or step_table i 0 ≡ steps 8 i
unfolding step_table
step_table_at i h = tab_from_lem (steps 8) 256 0 i h ∙ ap (steps 8) (zero-add i)

-- one look at the table, at x, is a byte
pub byte_step_by : {x : ℕ} (t : List ℕ) (c b : ℕ) → t ≡ step_table → b < 256 → x ≡ bit_xor (c % 256) b → bit_xor (get_or t x 0) (c / 256) ≡ byte_step c b
unfolding byte_step
byte_step_by {x} t c b e fits at =
    ap (λ (y : ℕ). bit_xor y (c / 256))
    (ap (λ (l : List ℕ). get_or l x 0) e ∙ step_table_at x low ∙ ap (steps 8) at)
    ∙ sym (steps_xor 8 (bit_xor (c % 256) b) (c / 256))
    ∙ ap (steps 8) (xor_swap (c % 256) b (c / 256 * 2 ^ 8) ∙ ap (λ (y : ℕ). bit_xor y b) (sym (xor_parts c 8)))
  where
    low : x < 256
    low = subst (λ (y : ℕ). y < 256) (sym at) (xor_lt 8 (c % 256) b (omega arith) fits)

-- ---- a loop over the bytes of a list

-- the next byte worked
pub run_next : {r c₀ : ℕ} (c : ℕ) (s : List ℕ) (i k : ℕ) → k ≡ i → run c (drop i s) ≡ c₀ → i < length s → r ≡ byte_step c (get_or s k 0) → run r (drop (i + 1) s) ≡ c₀
unfolding run
run_next c s i k at going h e =
    ap (λ (x : ℕ). run x (drop (i + 1) s)) (e ∙ ap (λ (n : ℕ). byte_step c (get_or s n 0)) at)
    ∙ sym (ap (run c) (drop-cons s i 0 h ∙ ap (λ (n : ℕ). get_or s i 0 ∷ drop n s) (sym (add-one i))))
    ∙ going

-- behind the last byte
pub run_end : {c₀ : ℕ} (c : ℕ) (s : List ℕ) (i : ℕ) → run c (drop i s) ≡ c₀ → length s ≤ i → c ≡ c₀
unfolding run
run_end c s i going h = sym (ap (run c) (drop_of_length-le s h)) ∙ going

-- ---- four runs abreast

-- a run, as it is lent in an array of runs
abbrev pub lent : List (Bor (List ℕ)) → ℕ → List ℕ
lent runs i = (get_or runs i (record { ref_ptr = (0, 0); now = [] })).now

pub lent_is : (runs : List (Bor (List ℕ))) (i : ℕ) → get_or (map (λ r. r.now) runs) i [] ≡ lent runs i
lent_is runs i = get_or-map (λ (r : Bor (List ℕ)). r.now) runs i (record { ref_ptr = (0, 0); now = [] })

-- the place of a byte of the first is one in each of them
pub in_each : (runs : List (Bor (List ℕ))) {k : ℕ} → OneLength (map (λ r. r.now) runs) → k < length (lent runs 0)
    → (k < length (lent runs 1)) × (k < length (lent runs 2)) × (k < length (lent runs 3))
in_each runs {k} h l = (inside 1 h.0, inside 2 h.1, inside 3 h.2)
  where
    inside : (i : ℕ) → length (get_or (map (λ r. r.now) runs) i []) ≡ length (get_or (map (λ r. r.now) runs) 0 []) → k < length (lent runs i)
    inside i e = omega (arith, e, ap length (lent_is runs i), ap length (lent_is runs 0))

-- and behind its last byte lies none of theirs; what the register of one of them has come to
pub run_end_at : (c c₀ : ℕ) (runs : List (Bor (List ℕ))) (i k : ℕ)
    → length (get_or (map (λ r. r.now) runs) i []) ≡ length (get_or (map (λ r. r.now) runs) 0 [])
    → length (lent runs 0) ≤ k
    → run c (drop k (lent runs i)) ≡ run c₀ (lent runs i)
    → c ≡ run c₀ (get_or (map (λ r. r.now) runs) i [])
run_end_at c c₀ runs i k e h going =
    let behind : length (lent runs i) ≤ k = omega (arith, e, ap length (lent_is runs i), ap length (lent_is runs 0)) in
    run_end c (lent runs i) k going behind ∙ ap (run c₀) (sym (lent_is runs i))

-- the checksum that its register comes to
pub crc_at : {registers : List ℕ} (crcs : List ℕ) (s : List ℕ) (i : ℕ) → registers ≡ map (λ x. bit_xor x filled) crcs → i < length crcs
    → bit_xor (run (get_or registers i 0) s) filled ≡ crc_more (get_or crcs i 0) s
unfolding crc_more
crc_at crcs s i e h =
    ap (λ (x : ℕ). bit_xor (run x s) filled) (ap (λ (l : List ℕ). get_or l i 0) e ∙ list.get_or-map (λ x. bit_xor x filled) crcs i 0 0 h)

-- four numbers are what each of them is
pub four_eq : {a b c d a' b' c' d' : ℕ} → a ≡ a' → b ≡ b' → c ≡ c' → d ≡ d' → (a ∷ b ∷ c ∷ d ∷ []) ≡ (a' ∷ b' ∷ c' ∷ d' ∷ [])
four_eq ea eb ec ed = rw (ea, eb, ec, ed)

-- a register over a list is a fold over it
pub run_fold : (c : ℕ) (s : List ℕ) → fold byte_step c s ≡ run c s
unfolding run
run_fold c [] = refl
run_fold c (b ∷ s) = run_fold (byte_step c b) s
