-- A number and its bytes, over every width: each is read from the other. Assumes nothing.
use mathlib.Core.Path.{◌≡◌, refl, sym, ap, ap₂, ◌∙◌, subst}
use mathlib.Core.List.{List, [], ◌∷◌, ◌++◌}
use Prim.Native.Nat.{ℕ, zero, suc, ◌+◌, ◌-◌, ◌*◌, ◌/◌, ◌%◌, ◌^◌, ◌<◌}
use native.Mathlib.Nat.{zero-add, suc-add, pow-suc, pow-succ', mul_assoc, mul_comm, div-lt_iff_lt-mul, div-div-eq-div-mul, pow-zero, one-le-pow}
use native.Mathlib.Omega.{arith}
use lib.Arith.{mod-mul}
use lib.ListN.{length, take}
use lib.Seq.{take-suc, length-take-le, take_all}
use Rattle.std.specs.Int.{Width, byte_at, byte_len, byte_worth, bytes_low_first, sum_through, to_le_bytes, from_le_bytes}
use Rattle.std.specs.List.{slice_index}
use Rattle.little.specs.Little.{little, digits, Bytes}

pub length_digits : (w v : ℕ) → length (digits w v) ≡ w
unfolding digits
length_digits zero v = refl
length_digits (suc w) v = ap suc (length_digits w (v / 256))

pub little_digits : (w v : ℕ) → v < 256 ^ w → little (digits w v) ≡ v
unfolding digits little
little_digits zero v h = omega (arith, pow-zero 256)
little_digits (suc w) v h =
    let below : v / 256 < 256 ^ w = (div-lt_iff_lt-mul {k = 256} {x = v} {y = 256 ^ w} (omega arith)).1 (subst (λ (n : ℕ). v < n) (pow-suc 256 w) h) in
    let rest : little (digits w (v / 256)) ≡ v / 256 = little_digits w (v / 256) below in
    omega arith

pub little_append : (x y : List ℕ) → little (x ++ y) ≡ little x + 256 ^ length x * little y
unfolding little
little_append [] y = omega (arith, ap (λ (n : ℕ). n * little y) (pow-zero 256))
little_append (b ∷ x) y =
    let e : 256 ^ suc (length x) * little y ≡ 256 * (256 ^ length x * little y) =
    ap (λ (n : ℕ). n * little y) (pow-succ' 256 (length x)) ∙ mul_assoc 256 (256 ^ length x) (little y)
    in
    omega (arith, little_append x y)

-- a number's low bytes and its high ones
pub digits_add : (a b v : ℕ) → digits (a + b) v ≡ digits a v ++ digits b (v / 256 ^ a)
unfolding digits
digits_add zero b v = ap (λ (n : ℕ). digits n v) (zero-add b) ∙ ap (digits b) (omega arith)
digits_add (suc a) b v =
    ap (λ (n : ℕ). digits n v) (suc-add a b)
    ∙ ap (λ (r : List ℕ). v % 256 ∷ r)
    (digits_add a b (v / 256)
    ∙ ap (λ (n : ℕ). digits a (v / 256) ++ digits b n) (div-div-eq-div-mul v 256 (256 ^ a) ∙ ap (λ (n : ℕ). v / n) (sym (pow-succ' 256 a))))

-- the bytes above the width do not count
pub digits_low : (w v : ℕ) → digits w (v % 256 ^ w) ≡ digits w v
unfolding digits
digits_low zero v = refl
digits_low (suc w) v =
    let e : v % 256 ^ suc w ≡ v / 256 % 256 ^ w * 256 + v % 256 = ap (λ (n : ℕ). v % n) (pow-suc 256 w) ∙ mod-mul v {m = 256 ^ w} {c = 256} (one-le-pow w 256 (omega arith)) (omega arith) in
    ap (λ (n : ℕ). n ∷ digits w (v % 256 ^ suc w / 256)) (omega arith)
    ∙ ap (λ (r : List ℕ). v % 256 ∷ r) (ap (digits w) (omega arith) ∙ digits_low w (v / 256))

-- bytes are the digits of the number that they write
pub digits_little : (l : List ℕ) → Bytes l → digits (length l) (little l) ≡ l
unfolding digits little
digits_little [] h = refl
digits_little (b ∷ l) h =
    let low : (b + 256 * little l) % 256 ≡ b = omega (arith, h.0) in
    let high : (b + 256 * little l) / 256 ≡ little l = omega (arith, h.0) in
    ap₂ ◌∷◌ low (ap (digits (length l)) high ∙ digits_little l h.1)

pub little_below : (l : List ℕ) → Bytes l → little l < 256 ^ length l
unfolding little
little_below [] h = omega (arith, pow-zero 256)
little_below (b ∷ l) h = omega (arith, pow-succ' 256 (length l), little_below l h.1, h.0)

-- ---- std's bytes of a number are these

low_first : (k i v : ℕ) → bytes_low_first i k v ≡ digits k (v / 256 ^ i)
unfolding digits
low_first zero i v = refl
low_first (suc k) i v = ap₂ ◌∷◌ (byte i) (low_first k (suc i) v ∙ ap (digits k) next)
  where
    byte : (i : ℕ) → byte_at i v ≡ v / 256 ^ i % 256
    byte zero = omega (arith, pow-zero 256)
    byte (suc i) = refl

    next : v / 256 ^ suc i ≡ v / 256 ^ i / 256
    next = ap (λ n. v / n) (pow-suc 256 i) ∙ sym (div-div-eq-div-mul v (256 ^ i) 256)

pub digits_std : (w : Width) (v : ℕ) → to_le_bytes w v ≡ digits (byte_len w) v
digits_std w v = low_first (byte_len w) 0 v ∙ ap (digits (byte_len w)) (omega (arith, pow-zero 256))

-- the same of a number that is equal, by the bytes that the code wrote of it
pub digits_written : (w : Width) (v : ℕ) {x : ℕ} {bytes : List ℕ} → bytes ≡ to_le_bytes w x → x ≡ v → bytes ≡ digits (byte_len w) v
digits_written w v {x} is same = is ∙ digits_std w x ∙ ap (digits (byte_len w)) same

through : (k : ℕ) (l : List ℕ) → k < length l → sum_through (λ i. byte_worth i (slice_index l i)) k ≡ little (take (suc k) l)
unfolding little
through zero [] h = absurd (omega arith)
through zero (b ∷ l) h = omega arith
through (suc k) l h =
    sym (ap little (take-suc l (suc k) 0 h)
    ∙ little_append (take (suc k) l) (slice_index l (suc k) ∷ [])
    ∙ omega (arith, ap (λ n. 256 ^ n * slice_index l (suc k)) (length-take-le (suc k) l (omega arith)), mul_comm (256 ^ suc k) (slice_index l (suc k)), through k l (omega arith)))

pub little_std : (w : Width) (l : List ℕ) → 0 < byte_len w → length l ≡ byte_len w → from_le_bytes w l ≡ little l
little_std w l some long =
    let last : suc (byte_len w - 1) ≡ byte_len w = omega arith in
    through (byte_len w - 1) l (omega arith) ∙ ap little (ap (λ n. take n l) last ∙ take_all (byte_len w) l (omega arith))
