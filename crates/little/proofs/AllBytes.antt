-- Parts of bytes are bytes, stores of bytes keep bytes, and a number in w bytes fits w bytes and may be stored over itself. Assumes nothing.
use mathlib.Core.Path.{◌≡◌, sym, ap, subst, ◌∙◌}
use mathlib.Core.List.{List, [], ◌∷◌, ◌++◌}
use Prim.Native.Nat.{ℕ, zero, suc, ◌+◌, ◌/◌, ◌^◌, ◌≤◌, ◌<◌}
use native.Mathlib.Omega.{arith}
use lib.ListN.{length, take, drop, get_or, set, replicate}
use lib.Seq.{sets}
use Rattle.little.specs.Little.{little, digits, part, bytes_of, Bytes}
use Rattle.little.proofs.Digits.{little_below, digits_little}
use Rattle.little.proofs.Parts.{length_part, sets_part}

bytes_take : (n : ℕ) (l : List ℕ) → Bytes l → Bytes (take n l)
bytes_take zero l h = tt
bytes_take (suc n) [] h = tt
bytes_take (suc n) (x ∷ l) h = (h.0, bytes_take n l h.1)

bytes_drop : (n : ℕ) (l : List ℕ) → Bytes l → Bytes (drop n l)
bytes_drop zero l h = h
bytes_drop (suc n) [] h = tt
bytes_drop (suc n) (x ∷ l) h = bytes_drop n l h.1

pub bytes_part : (at w : ℕ) (l : List ℕ) → Bytes l → Bytes (part at w l)
unfolding part
bytes_part at w l h = bytes_take w (drop at l) (bytes_drop at l h)

bytes_set : (l : List ℕ) (i v : ℕ) → v < 256 → Bytes l → Bytes (set l i v)
bytes_set [] i v k h = tt
bytes_set (x ∷ l) zero v k h = (k, h.1)
bytes_set (x ∷ l) (suc i) v k h = (h.0, bytes_set l i v k h.1)

pub bytes_sets : (vs l : List ℕ) (i : ℕ) → Bytes vs → Bytes l → Bytes (sets l i vs)
bytes_sets [] l i k h = h
bytes_sets (v ∷ vs) l i k h = bytes_sets vs (set l i v) (suc i) k.1 (bytes_set l i v k.0 h)

pub bytes_append : (x y : List ℕ) → Bytes x → Bytes y → Bytes (x ++ y)
bytes_append [] y h k = k
bytes_append (b ∷ x) y h k = (h.0, bytes_append x y h.1 k)

pub bytes_digits : (w v : ℕ) → Bytes (digits w v)
unfolding digits
bytes_digits zero v = tt
bytes_digits (suc w) v = (omega arith, bytes_digits w (v / 256))

pub bytes_zeros : (n : ℕ) → Bytes (replicate n 0)
bytes_zeros zero = tt
bytes_zeros (suc n) = (omega arith, bytes_zeros n)

pub bytes_bytes_of : (fs : List (ℕ × ℕ)) → Bytes (bytes_of fs)
unfolding bytes_of
bytes_bytes_of [] = tt
bytes_bytes_of (f ∷ fs) = bytes_append (digits f.0 f.1) (bytes_of fs) (bytes_digits f.0 f.1) (bytes_bytes_of fs)

pub little_part_below : (at w : ℕ) (s : List ℕ) → Bytes s → at + w ≤ length s → little (part at w s) < 256 ^ w
little_part_below at w s h k =
    subst (λ (n : ℕ). little (part at w s) < 256 ^ n) (length_part at w s k) (little_below (part at w s) (bytes_part at w s h))

-- a number stored where it is read
pub sets_little : (at w v : ℕ) (s : List ℕ) → Bytes s → at + w ≤ length s → v ≡ little (part at w s) → sets s at (digits w v) ≡ s
sets_little at w v s b h is =
    ap (λ (n : ℕ). sets s at (digits w n)) is
    ∙ ap (λ (n : ℕ). sets s at (digits n (little (part at w s)))) (sym (length_part at w s h))
    ∙ ap (sets s at) (digits_little (part at w s) (bytes_part at w s b))
    ∙ sets_part at w s h

pub bytes_at : (l : List ℕ) → Bytes l → (i : ℕ) → i < length l → get_or l i 0 < 256
bytes_at [] h i k = absurd (omega arith)
bytes_at (b ∷ l) h zero k = h.0
bytes_at (b ∷ l) h (suc i) k = bytes_at l h.1 i (omega arith)
