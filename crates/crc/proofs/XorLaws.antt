-- Laws of `^` that the logic's library lacks: the half, the low digit, the order of three and four, an operand that falls out or is solved for,
-- a number as its low and its high digits. Assumes nothing.
use mathlib.Core.Path.{◌≡◌, refl, sym, ap, ◌∙◌}
use Prim.Native.Nat.{ℕ, ◌+◌, ◌*◌, ◌/◌, ◌%◌, ◌^◌}
use native.Mathlib.Nat.{mod-lt, add_comm}
use native.Mathlib.Omega.{arith}
use lib.Arith.{bin_ind}
use lib.Bits.{bit_xor, xor_shr, xor_add_and, xor_comm, xor_self, xor_zero_l, xor_zero_r, xor_shifted}
use lib.Pow.{pow_pos, split}

pub xor_half : (a b : ℕ) → bit_xor a b / 2 ≡ bit_xor (a / 2) (b / 2)
xor_half a b = xor_shr a b 1

pub xor_odd : (a b : ℕ) → bit_xor a b % 2 ≡ (a + b) % 2
xor_odd a b = omega (arith, xor_add_and a b)

by_digits : {x y : ℕ} → x / 2 ≡ y / 2 → x % 2 ≡ y % 2 → x ≡ y
by_digits p q = omega arith

add_odd : (x y z : ℕ) → x % 2 ≡ y % 2 → (x + z) % 2 ≡ (y + z) % 2
add_odd x y z e = omega arith

assoc_odd : (a b c : ℕ) → bit_xor (bit_xor a b) c % 2 ≡ bit_xor a (bit_xor b c) % 2
assoc_odd a b c =
    xor_odd (bit_xor a b) c ∙ add_odd (bit_xor a b) (a + b) c (xor_odd a b) ∙ ap (λ (x : ℕ). x % 2) (omega arith)
    ∙ sym (add_odd (bit_xor b c) (b + c) a (xor_odd b c))
    ∙ ap (λ (x : ℕ). x % 2) (add_comm (bit_xor b c) a)
    ∙ sym (xor_odd a (bit_xor b c))

pub xor_assoc : (a b c : ℕ) → bit_xor (bit_xor a b) c ≡ bit_xor a (bit_xor b c)
xor_assoc a =
    bin_ind (λ (n : ℕ). (b c : ℕ) → bit_xor (bit_xor n b) c ≡ bit_xor n (bit_xor b c)) (λ b c. refl)
    (λ n ih b c. by_digits
    (xor_half (bit_xor n b) c ∙ ap (λ (x : ℕ). bit_xor x (c / 2)) (xor_half n b) ∙ ih (b / 2) (c / 2)
    ∙ ap (bit_xor (n / 2)) (sym (xor_half b c)) ∙ sym (xor_half n (bit_xor b c)))
    (assoc_odd n b c)) a

-- the same operand twice falls out
pub xor_twice : (a b : ℕ) → bit_xor (bit_xor a b) b ≡ a
xor_twice a b = xor_assoc a b b ∙ ap (bit_xor a) (xor_self b) ∙ xor_zero_r a

pub xor_swap : (a b c : ℕ) → bit_xor (bit_xor a b) c ≡ bit_xor (bit_xor a c) b
xor_swap a b c = xor_assoc a b c ∙ ap (bit_xor a) (xor_comm b c) ∙ sym (xor_assoc a c b)

pub xor_pairs : (a b c d : ℕ) → bit_xor (bit_xor a b) (bit_xor c d) ≡ bit_xor (bit_xor a c) (bit_xor b d)
xor_pairs a b c d =
    sym (xor_assoc (bit_xor a b) c d) ∙ ap (λ (x : ℕ). bit_xor x d) (xor_swap a b c) ∙ xor_assoc (bit_xor a c) b d

-- solved for an operand
pub xor_back : {c : ℕ} (a b : ℕ) → bit_xor a b ≡ c → a ≡ bit_xor c b
xor_back a b e = sym (xor_twice a b) ∙ ap (λ (x : ℕ). bit_xor x b) e

pub xor_over : {h : ℕ} (c s : ℕ) → h ≡ bit_xor c s → bit_xor c h ≡ s
xor_over {h} c s e = xor_comm c h ∙ sym (xor_back s c (xor_comm s c ∙ sym e))

pub xor_cancel : (a b x : ℕ) → bit_xor a x ≡ bit_xor b x → a ≡ b
xor_cancel a b x e = xor_back a x e ∙ xor_twice b x

pub xor_none : (a b : ℕ) → bit_xor a b ≡ 0 → a ≡ b
xor_none a b e = xor_back a b e ∙ xor_zero_l b

-- a number is known by what it gives with its half
pub xor_halved : (a b : ℕ) → bit_xor a (a / 2) ≡ bit_xor b (b / 2) → a ≡ b
xor_halved a b e =
    let same : bit_xor (bit_xor a b) (bit_xor a b / 2) ≡ 0 =
    ap (bit_xor (bit_xor a b)) (xor_half a b)
    ∙ xor_pairs a b (a / 2) (b / 2)
    ∙ ap (λ (x : ℕ). bit_xor x (bit_xor b (b / 2))) e
    ∙ xor_self (bit_xor b (b / 2)) in
    let none : bit_xor a b ≡ 0 = omega (arith, xor_none (bit_xor a b) (bit_xor a b / 2) same) in
    xor_none a b none

-- a number as its k low digits and its high ones
pub xor_parts : (x k : ℕ) → x ≡ bit_xor (x % 2 ^ k) (x / 2 ^ k * 2 ^ k)
xor_parts x k =
    sym (split x k) ∙ sym (xor_shifted (x / 2 ^ k) k (x % 2 ^ k) (mod-lt x (pow_pos k)))
    ∙ xor_comm (x / 2 ^ k * 2 ^ k) (x % 2 ^ k)
