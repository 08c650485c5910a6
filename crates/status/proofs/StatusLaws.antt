-- Status bits: what was put is read, and the bits of every other number, the header, the length and being bytes stay. The laws
-- of two bits in a byte are over the shift. Assumes nothing.
use mathlib.Core.Path.{◌≡◌, refl, sym, ap, ◌∙◌}
use mathlib.Core.Bool.{Bool, true, false}
use mathlib.Core.Logic.{⊎_elim}
use mathlib.Core.List.{List, [], ◌∷◌}
use Prim.Native.Nat.{ℕ, zero, suc, ◌+◌, ◌-◌, ◌*◌, ◌/◌, ◌%◌, ◌^◌, ◌≤◌, ◌<◌}
use native.Mathlib.Nat.{mod-lt, div-eq_of_lt, add-mul-div_right, add-mul-mod_self_right, mod-mod, div-div-eq-div-mul, div-lt_iff_lt-mul, mul_comm, one-le-pow, pow-le-pow_right}
use native.Mathlib.Omega.{arith}
use lib.Arith.{mod-mul, digits_div, digits_lt}
use lib.Pow.{pow-add}
use lib.Dec.{eqb}
use lib.ListN.{length, get_or, set, length-set}
use lib.Seq.{get_or-set_same, get_or-set_other}
use borrow.Author.Tests.{eqb-true, eqb-false}
use Rattle.little.specs.Little.{part, Bytes}
use Rattle.little.proofs.Parts.{part_sets_below}
use Rattle.little.proofs.AllBytes.{bytes_sets}
use Rattle.ground.proofs.Ranges.{lt_or_le}
use Rattle.kind.specs.Kind.{page_size}
use Rattle.status.specs.Status.{status_place, status_shift, bits_in, put_bits_in, bits_of, status_of, status_at, put_status}
use Rattle.status.specs.declared.Status.{Status}
use Rattle.status.specs.declared.Status.TheVariants.{InWork, Committed, Withdrawn, Reserved}

-- ---- a pair of bits in a number, where u is the lower of the two

-- from the unit of a pair to that of a later one: a whole number of pairs
unit_apart : (k j : ℕ) → k < j → 2 ^ (j * 2) ≡ 2 ^ (k * 2) * (4 * 2 ^ ((j - suc k) * 2))
unit_apart k j h =
    ap (λ (n : ℕ). 2 ^ n) shifts
    ∙ pow-add 2 (k * 2) (2 + (j - suc k) * 2)
    ∙ ap (λ (n : ℕ). 2 ^ (k * 2) * n) (pow-add 2 2 ((j - suc k) * 2))
  where
    shifts : j * 2 ≡ k * 2 + (2 + (j - suc k) * 2)
    shifts = omega arith

pub unit_pos : (n : ℕ) → 0 < 2 ^ status_shift n
unit_pos n = one-le-pow (status_shift n) 2 (omega arith)

pub unit_byte : (n : ℕ) → 2 ^ status_shift n < 256
unit_byte n = omega (arith, pow-le-pow_right {n = 2} (omega arith) {i = status_shift n} {j = 6} (omega arith))

module _ (u v b : ℕ) (some : 0 < u) where
  put_div : (b % u + (v + 4 * (b / u / 4)) * u) / u ≡ v + 4 * (b / u / 4)
  put_div =
      let z : b % u / u ≡ 0 = div-eq_of_lt (mod-lt b some) in
      omega (arith, add-mul-div_right (b % u) (v + 4 * (b / u / 4)) some)

  put_mod : (b % u + (v + 4 * (b / u / 4)) * u) % u ≡ b % u
  put_mod = add-mul-mod_self_right (b % u) (v + 4 * (b / u / 4)) u ∙ mod-mod b u

  -- the pairs above stay
  put_above : (t : ℕ) → v < 4 → (b % u + (v + 4 * (b / u / 4)) * u) / (u * (4 * t)) ≡ b / (u * (4 * t))
  put_above t h = high (b % u + (v + 4 * (b / u / 4)) * u) ∙ ap (λ (n : ℕ). n / t) same ∙ sym (high b)
    where
      high : (y : ℕ) → y / (u * (4 * t)) ≡ y / u / 4 / t
      high y = sym (div-div-eq-div-mul y u (4 * t)) ∙ sym (div-div-eq-div-mul (y / u) 4 t)

      same : (b % u + (v + 4 * (b / u / 4)) * u) / u / 4 ≡ b / u / 4
      same = omega (arith, put_div)

-- the pairs below are told by the remainder
pair_below : (w t y : ℕ) → 0 < w → 0 < t → y / w % 4 ≡ y % (w * (4 * t)) / w % 4
pair_below w t y some more = sym (ap (λ (n : ℕ). n / w % 4) split ∙ ap (λ (n : ℕ). n % 4) (digits_div (y / w % (t * 4)) (mod-lt y some)) ∙ low)
  where
    split : y % (w * (4 * t)) ≡ y / w % (t * 4) * w + y % w
    split = ap (λ (n : ℕ). y % n) (mul_comm w (4 * t) ∙ ap (λ (n : ℕ). n * w) (mul_comm 4 t)) ∙ mod-mul y {m = t * 4} {c = w} (omega arith) some

    low : y / w % (t * 4) % 4 ≡ y / w % 4
    low = omega (arith, mod-mul (y / w) {m = t} {c = 4} more (omega arith))

-- ---- the two bits of a number in its byte

pub bits_in_put_same : (n v b : ℕ) → v < 4 → bits_in n (put_bits_in n v b) ≡ v
unfolding bits_in put_bits_in
bits_in_put_same n v b h = omega (arith, put_div (2 ^ status_shift n) v b (unit_pos n))

pub bits_in_put_other : (m n v b : ℕ) → v < 4 → (m % 4 ≡ n % 4 → ⊥) → bits_in m (put_bits_in n v b) ≡ bits_in m b
unfolding bits_in put_bits_in
bits_in_put_other m n v b h ne = ⊎_elim below above (lt_or_le (m % 4) (n % 4))
  where
    put : ℕ
    put = b % 2 ^ status_shift n + (v + 4 * (b / 2 ^ status_shift n / 4)) * 2 ^ status_shift n

    pos : (k : ℕ) → 0 < 2 ^ k
    pos k = one-le-pow k 2 (omega arith)

    below : m % 4 < n % 4 → put / 2 ^ status_shift m % 4 ≡ b / 2 ^ status_shift m % 4
    below l =
        let t : ℕ = 2 ^ ((n % 4 - suc (m % 4)) * 2) in
        let e : 2 ^ status_shift n ≡ 2 ^ status_shift m * (4 * t) = unit_apart (m % 4) (n % 4) l in
        pair_below (2 ^ status_shift m) t put (unit_pos m) (pos ((n % 4 - suc (m % 4)) * 2))
        ∙ ap (λ (x : ℕ). x / 2 ^ status_shift m % 4)
        (ap (λ (x : ℕ). put % x) (sym e) ∙ put_mod (2 ^ status_shift n) v b (unit_pos n) ∙ ap (λ (x : ℕ). b % x) e)
        ∙ sym (pair_below (2 ^ status_shift m) t b (unit_pos m) (pos ((n % 4 - suc (m % 4)) * 2)))

    above : n % 4 ≤ m % 4 → put / 2 ^ status_shift m % 4 ≡ b / 2 ^ status_shift m % 4
    above l =
        let l' : n % 4 < m % 4 = omega arith in
        let t : ℕ = 2 ^ ((m % 4 - suc (n % 4)) * 2) in
        let e : 2 ^ status_shift m ≡ 2 ^ status_shift n * (4 * t) = unit_apart (n % 4) (m % 4) l' in
        ap (λ (x : ℕ). x % 4)
        (ap (λ (x : ℕ). put / x) e ∙ put_above (2 ^ status_shift n) v b (unit_pos n) t h ∙ ap (λ (x : ℕ). b / x) (sym e))

-- a byte stays a byte
pub put_bits_in_byte : (n v b : ℕ) → v < 4 → b < 256 → put_bits_in n v b < 256
unfolding put_bits_in
put_bits_in_byte n v b h k =
    let u : ℕ = 2 ^ status_shift n in
    let t : ℕ = 2 ^ ((4 - suc (n % 4)) * 2) in
    let e : 256 ≡ 4 * t * u = unit_apart (n % 4) 4 (omega arith) ∙ mul_comm u (4 * t) in
    let below : b / u < 4 * t = (div-lt_iff_lt-mul {k = u} {x = b} {y = 4 * t} (unit_pos n)).1 (omega arith) in
    let room : (v + 4 * (b / u / 4)) * u + b % u < 4 * t * u = digits_lt {q = v + 4 * (b / u / 4)} {m = 4 * t} (omega arith) (mod-lt b (unit_pos n)) in
    omega arith

pub bits_of_two : (v : Status) → bits_of v < 4
bits_of_two InWork = omega arith
bits_of_two Committed = omega arith
bits_of_two Withdrawn = omega arith
bits_of_two Reserved = omega arith

pub status_of_bits_of : (v : Status) → status_of (bits_of v) ≡ v
status_of_bits_of InWork = refl
status_of_bits_of Committed = refl
status_of_bits_of Withdrawn = refl
status_of_bits_of Reserved = refl

-- ---- the status of a number in a page

-- "byte 48 + n/4"
pub status_place_page : (n : ℕ) → n < 32576 → status_place page_size n ≡ 48 + n / 4
status_place_page n h = omega arith

pub status_at_page : (n : ℕ) (s : List ℕ) → n < 32576 → status_at n s ≡ status_of (get_or s (48 + n / 4) 0 / 2 ^ status_shift n % 4)
unfolding status_at bits_in
status_at_page n s h = ap (λ (p : ℕ). status_of (bits_in n (get_or s p 0))) (status_place_page n h)

pub put_status_page : (n : ℕ) (v : Status) (s : List ℕ) → n < 32576
    → put_status n v s ≡ set s (48 + n / 4) (put_bits_in n (bits_of v) (get_or s (48 + n / 4) 0))
unfolding put_status
put_status_page n v s h = ap (λ (p : ℕ). set s p (put_bits_in n (bits_of v) (get_or s p 0))) (status_place_page n h)

pub status_at_put_same : (n : ℕ) (v : Status) (s : List ℕ) → n < 32576 → length s ≡ 8192 → status_at n (put_status n v s) ≡ v
unfolding status_at put_status
status_at_put_same n v s h l =
    let p : ℕ = status_place page_size n in
    ap (λ (b : ℕ). status_of (bits_in n b)) (get_or-set_same s p (put_bits_in n (bits_of v) (get_or s p 0)) 0 (omega (arith, status_place_page n h)))
    ∙ ap status_of (bits_in_put_same n (bits_of v) (get_or s p 0) (bits_of_two v))
    ∙ status_of_bits_of v

-- the bits of other numbers stay
pub status_at_put_other : (m n : ℕ) (v : Status) (s : List ℕ) → m < 32576 → n < 32576 → (m ≡ n → ⊥) → length s ≡ 8192 → status_at m (put_status n v s) ≡ status_at m s
unfolding status_at put_status
status_at_put_other m n v s hm hn ne l = by (eqb p q) refl
  where
    p : ℕ
    p = status_place page_size m

    q : ℕ
    q = status_place page_size n

    new : ℕ
    new = put_bits_in n (bits_of v) (get_or s q 0)

    byte : p ≡ q → m / 4 ≡ n / 4
    byte e = omega (arith, status_place_page m hm, status_place_page n hn)

    number : (i j : ℕ) → i / 4 ≡ j / 4 → i % 4 ≡ j % 4 → i ≡ j
    number i j e f = omega arith

    by : (t : Bool) → eqb p q ≡ t → status_of (bits_in m (get_or (set s q new) p 0)) ≡ status_of (bits_in m (get_or s p 0))
    by true e =
        let same : p ≡ q = eqb-true p q e in
        ap (λ (x : ℕ). status_of (bits_in m (get_or (set s q new) x 0))) same
        ∙ ap (λ (b : ℕ). status_of (bits_in m b)) (get_or-set_same s q new 0 (omega (arith, status_place_page n hn)))
        ∙ ap status_of (bits_in_put_other m n (bits_of v) (get_or s q 0) (bits_of_two v) (λ f. ne (number m n (byte same) f)))
        ∙ ap (λ (x : ℕ). status_of (bits_in m (get_or s x 0))) (sym same)
    by false e = ap (λ (b : ℕ). status_of (bits_in m b)) (get_or-set_other s q p new 0 (eqb-false p q e))

pub length_put_status : (n : ℕ) (v : Status) (s : List ℕ) → length (put_status n v s) ≡ length s
unfolding put_status
length_put_status n v s = length-set s (status_place page_size n) (put_bits_in n (bits_of v) (get_or s (status_place page_size n) 0))

-- the header stays
pub part_put_status : (a w n : ℕ) (v : Status) (s : List ℕ) → a + w ≤ 48 → part a w (put_status n v s) ≡ part a w s
unfolding put_status
part_put_status a w n v s h =
    part_sets_below a w s (status_place page_size n) (put_bits_in n (bits_of v) (get_or s (status_place page_size n) 0) ∷ []) (omega arith)

pub bytes_put_status : (n : ℕ) (v : Status) (s : List ℕ) → Bytes s → Bytes (put_status n v s)
unfolding put_status
bytes_put_status n v s h =
    bytes_sets
    (put_bits_in n (bits_of v) (get_or s (status_place page_size n) 0) ∷ [])
    s
    (status_place page_size n)
    (put_bits_in_byte n (bits_of v) (get_or s (status_place page_size n) 0) (bits_of_two v) (byte_at s (status_place page_size n) h), tt)
    h
  where
    byte_at : (l : List ℕ) (i : ℕ) → Bytes l → get_or l i 0 < 256
    byte_at [] i k = omega arith
    byte_at (x ∷ l) zero k = k.0
    byte_at (x ∷ l) (suc i) k = byte_at l i k.1

-- gauge pieces P1 and P2: "status of 32,575: byte 8,191, shift 6", "of 5: byte 49, shift 2"
gauge_1 : (status_place page_size 32575 ≡ 8191) × (status_shift 32575 ≡ 6)
gauge_1 = (refl, refl)

gauge_2 : (status_place page_size 5 ≡ 49) × (status_shift 5 ≡ 2)
gauge_2 = (refl, refl)
