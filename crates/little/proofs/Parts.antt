-- Parts of a list of bytes and stores into it: what is stored is read, and every disjoint part stays. Assumes nothing.
use mathlib.Core.Path.{◌≡◌, refl, sym, ap, ◌∙◌}
use mathlib.Core.List.{List, [], ◌∷◌, ◌++◌, append_assoc}
use Prim.Native.Nat.{ℕ, zero, suc, ◌+◌, ◌-◌, ◌*◌, ◌/◌, ◌%◌, ◌^◌, ◌≤◌, ◌<◌}
use native.Mathlib.Nat.{add-zero, zero-add, add-suc, suc-add, add-sub_of_le}
use native.Mathlib.Omega.{arith}
use lib.ListN.{length, take, drop, get_or, set, replicate, length-drop, length-set, length-replicate, take-append-drop}
use lib.Seq.{sets, sets-eq, take-add, drop-drop, drop-cons, take_at, drop_at, length-take-le, take-take, drop-set-add, drop-set-lt, take-set-le, take-set-lt, set-set, set_comm, take_all, take-append-le, drop-append-le, drop-append-add, get_or-set_other}
use Rattle.std.specs.Int.{Width, byte_len, from_le_bytes}
use borrow.Rule.Slice.PartMut.{put_mid}
use Rattle.std.proofs.lemmas.Slice.{put_mid-paste}
use Rattle.std.proofs.lemmas.List.Edits.{paste_all}
use Rattle.little.specs.Little.{little, digits, part}
use Rattle.little.proofs.Digits.{length_digits, little_digits, little_append, digits_add, digits_low, little_std}

-- ---- parts

pub length_part : (at w : ℕ) (s : List ℕ) → at + w ≤ length s → length (part at w s) ≡ w
unfolding part
length_part at w s h = length-take-le w (drop at s) (simp length-drop (omega arith))

pub part_add : (at a b : ℕ) (s : List ℕ) → part at (a + b) s ≡ part at a s ++ part (at + a) b s
unfolding part
part_add at a b s = take-add a b (drop at s) ∙ ap (λ (r : List ℕ). take a (drop at s) ++ take b r) (drop-drop a at s)

pub part_byte : (at : ℕ) (s : List ℕ) → at < length s → part at 1 s ≡ get_or s at 0 ∷ []
unfolding part
part_byte at s h = ap (λ (r : List ℕ). take 1 r) (drop-cons s at 0 h)

inner : (k w n : ℕ) (l : List ℕ) → k + w ≤ n → take w (drop k (take n l)) ≡ take w (drop k l)
inner zero w n l h = take-take w n l (omega arith)
inner (suc k) w zero l h = absurd (omega arith)
inner (suc k) w (suc n) [] h = refl
inner (suc k) w (suc n) (x ∷ l) h = inner k w n l (omega arith)

-- a part of a part
pub part_part : (k w at n : ℕ) (s : List ℕ) → k + w ≤ n → part k w (part at n s) ≡ part (at + k) w s
unfolding part
part_part k w at n s h = inner k w n (drop at s) h ∙ ap (take w) (drop-drop k at s)

pub part_all : (w : ℕ) (s : List ℕ) → length s ≤ w → part 0 w s ≡ s
unfolding part
part_all w s h = take_all w s h

pub part_front : (x y : List ℕ) (n : ℕ) → length x ≡ n → part 0 n (x ++ y) ≡ x
unfolding part
part_front x y n e = take_at x y n e

pub part_skip : (x y : List ℕ) (n k w : ℕ) → length x ≡ n → part (n + k) w (x ++ y) ≡ part k w y
unfolding part
part_skip x y n k w e = ap (take w) (ap (λ (m : ℕ). drop (m + k) (x ++ y)) (sym e) ∙ drop-append-add x y k)

-- ---- a number at a place

pub little_part_add : (at a b : ℕ) (s : List ℕ) → at + a ≤ length s → little (part at (a + b) s) ≡ little (part at a s) + 256 ^ a * little (part (at + a) b s)
little_part_add at a b s h =
    ap little (part_add at a b s)
    ∙ little_append (part at a s) (part (at + a) b s)
    ∙ ap (λ (n : ℕ). little (part at a s) + 256 ^ n * little (part (at + a) b s)) (length_part at a s h)

pub little_byte : (at : ℕ) (s : List ℕ) → at < length s → little (part at 1 s) ≡ get_or s at 0
unfolding little
little_byte at s h = ap little (part_byte at s h) ∙ omega arith

-- the number that std makes of a part
pub little_read : (w : Width) (at : ℕ) (s b : List ℕ) (v : ℕ) → v ≡ from_le_bytes w b → b ≡ part at (byte_len w) s → 0 < byte_len w → at + byte_len w ≤ length s → v ≡ little (part at (byte_len w) s)
little_read w at s b v is e some h = is ∙ ap (from_le_bytes w) e ∙ little_std w (part at (byte_len w) s) some (length_part at (byte_len w) s h)

-- ---- stores

pub sets_append : (s : List ℕ) (at : ℕ) (x y : List ℕ) → sets s at (x ++ y) ≡ sets (sets s at x) (at + length x) y
sets_append s at [] y = ap (λ (n : ℕ). sets s n y) (sym (add-zero at))
sets_append s at (a ∷ x) y = sets_append (set s at a) (suc at) x y ∙ ap (λ (n : ℕ). sets (sets (set s at a) (suc at) x) n y) (omega arith)

-- a number is stored as its low and its high part
pub sets_digits_add : (s : List ℕ) (at a b v : ℕ) → sets s at (digits (a + b) v) ≡ sets (sets s at (digits a (v % 256 ^ a))) (at + a) (digits b (v / 256 ^ a))
sets_digits_add s at a b v =
    ap (sets s at) (digits_add a b v ∙ ap (λ (r : List ℕ). r ++ digits b (v / 256 ^ a)) (sym (digits_low a v)))
    ∙ sets_append s at (digits a (v % 256 ^ a)) (digits b (v / 256 ^ a))
    ∙ ap (λ (n : ℕ). sets (sets s at (digits a (v % 256 ^ a))) (at + n) (digits b (v / 256 ^ a))) (length_digits a (v % 256 ^ a))

-- what was stored is read
pub part_sets : (s : List ℕ) (at : ℕ) (vs : List ℕ) → at + length vs ≤ length s → part at (length vs) (sets s at vs) ≡ vs
unfolding part
part_sets s at vs h =
    ap (λ (r : List ℕ). take (length vs) (drop at r)) (sets-eq vs s at h ∙ append_assoc (take at s) vs (drop (at + length vs) s))
    ∙ ap (take (length vs)) (drop_at (take at s) (vs ++ drop (at + length vs) s) at (length-take-le at s (omega arith)))
    ∙ take_at vs (drop (at + length vs) s) (length vs) refl

part_set_below : (a w at v : ℕ) (s : List ℕ) → a + w ≤ at → part a w (set s at v) ≡ part a w s
unfolding part
part_set_below a w at v s h =
    ap (λ (n : ℕ). take w (drop a (set s n v))) (sym (add-sub_of_le (omega arith)))
    ∙ ap (take w) (drop-set-add a s (at - a) v)
    ∙ take-set-le w (drop a s) (at - a) v (omega arith)

part_set_above : (a w at v : ℕ) (s : List ℕ) → at < a → part a w (set s at v) ≡ part a w s
unfolding part
part_set_above a w at v s h = ap (take w) (drop-set-lt a s at v h)

-- a part that ends before the stores begin, and one that starts where they end or later, is as it was
pub part_sets_below : (a w : ℕ) (s : List ℕ) (at : ℕ) (vs : List ℕ) → a + w ≤ at → part a w (sets s at vs) ≡ part a w s
part_sets_below a w s at [] h = refl
part_sets_below a w s at (v ∷ vs) h = part_sets_below a w (set s at v) (suc at) vs (omega arith) ∙ part_set_below a w at v s h

pub part_sets_above : (a w : ℕ) (s : List ℕ) (at : ℕ) (vs : List ℕ) → at + length vs ≤ a → part a w (sets s at vs) ≡ part a w s
part_sets_above a w s at [] h = refl
part_sets_above a w s at (v ∷ vs) h = part_sets_above a w (set s at v) (suc at) vs (omega arith) ∙ part_set_above a w at v s (omega arith)

-- a number is read where it was stored
pub little_sets : (s : List ℕ) (at w v : ℕ) → v < 256 ^ w → at + w ≤ length s → little (part at w (sets s at (digits w v))) ≡ v
little_sets s at w v h k =
    ap (λ (n : ℕ). little (part at n (sets s at (digits w v)))) (sym (length_digits w v))
    ∙ ap little (part_sets s at (digits w v) (simp length_digits k))
    ∙ little_digits w v h

-- ---- a store into a part, and a part stored back

part_set_inside : (at n k v : ℕ) (s : List ℕ) → k < n → part at n (set s (at + k) v) ≡ set (part at n s) k v
unfolding part
part_set_inside at n k v s h = ap (take n) (drop-set-add at s k v) ∙ take-set-lt n (drop at s) k v h

pub part_sets_inside : (at n : ℕ) (s : List ℕ) (k : ℕ) (vs : List ℕ) → k + length vs ≤ n → part at n (sets s (at + k) vs) ≡ sets (part at n s) k vs
part_sets_inside at n s k [] h = refl
part_sets_inside at n s k (v ∷ vs) h =
    ap (λ (m : ℕ). part at n (sets (set s (at + k) v) m vs)) (sym (add-suc at k))
    ∙ part_sets_inside at n (set s (at + k) v) (suc k) vs (omega arith)
    ∙ ap (λ (l : List ℕ). sets l (suc k) vs) (part_set_inside at n k v s (omega arith))

pub part_sets_inside_front : (at n : ℕ) (s vs : List ℕ) → length vs ≤ n → part at n (sets s at vs) ≡ sets (part at n s) 0 vs
part_sets_inside_front at n s vs h =
    ap (λ (m : ℕ). part at n (sets s m vs)) (sym (add-zero at)) ∙ part_sets_inside at n s 0 vs (omega arith)

-- what is stored into the inside of what was stored
set_sets_below : (s : List ℕ) (i at v : ℕ) (x : List ℕ) → i < at → set (sets s at x) i v ≡ sets (set s i v) at x
set_sets_below s i at v [] h = refl
set_sets_below s i at v (a ∷ x) h =
    set_sets_below (set s at a) i (suc at) v x (omega arith)
    ∙ ap (λ (l : List ℕ). sets l (suc at) x) (set_comm s at i a v (λ e. omega arith))

set_sets_inside : (s : List ℕ) (at : ℕ) (x : List ℕ) (k v : ℕ) → k < length x → set (sets s at x) (at + k) v ≡ sets s at (set x k v)
set_sets_inside s at [] k v h = absurd (omega arith)
set_sets_inside s at (a ∷ x) zero v h =
    ap (λ (i : ℕ). set (sets (set s at a) (suc at) x) i v) (add-zero at)
    ∙ set_sets_below (set s at a) at (suc at) v x (omega arith)
    ∙ ap (λ (l : List ℕ). sets l (suc at) x) (set-set s at a v)
set_sets_inside s at (a ∷ x) (suc k) v h =
    ap (λ (i : ℕ). set (sets (set s at a) (suc at) x) i v) (add-suc at k ∙ sym (suc-add at k))
    ∙ set_sets_inside (set s at a) (suc at) x k v (omega arith)

pub sets_sets_inside : (s : List ℕ) (at : ℕ) (x : List ℕ) (k : ℕ) (vs : List ℕ) → k + length vs ≤ length x → sets (sets s at x) (at + k) vs ≡ sets s at (sets x k vs)
sets_sets_inside s at x k [] h = refl
sets_sets_inside s at x k (v ∷ vs) h =
    ap (λ (m : ℕ). sets (set (sets s at x) (at + k) v) m vs) (sym (add-suc at k))
    ∙ ap (λ (y : List ℕ). sets y (at + suc k) vs) (set_sets_inside s at x k v (omega arith))
    ∙ sets_sets_inside s at (set x k v) (suc k) vs (simp length-set (omega arith))

-- stores at disjoint places, in either order; and as many bytes stored over what was stored
pub sets_comm : (s : List ℕ) (at : ℕ) (x : List ℕ) (bt : ℕ) (y : List ℕ) → at + length x ≤ bt → sets (sets s bt y) at x ≡ sets (sets s at x) bt y
sets_comm s at [] bt y h = refl
sets_comm s at (a ∷ x) bt y h =
    ap (λ (l : List ℕ). sets l (suc at) x) (set_sets_below s at bt a y (omega arith))
    ∙ sets_comm (set s at a) (suc at) x bt y (omega arith)

pub sets_again : (s : List ℕ) (at : ℕ) (x y : List ℕ) → length x ≡ length y → sets (sets s at x) at y ≡ sets s at y
sets_again s at [] [] e = refl
sets_again s at [] (b ∷ y) e = absurd (omega arith)
sets_again s at (a ∷ x) [] e = absurd (omega arith)
sets_again s at (a ∷ x) (b ∷ y) e =
    ap (λ (l : List ℕ). sets l (suc at) y)
    (set_sets_below (set s at a) at (suc at) b x (omega arith)
    ∙ ap (λ (l : List ℕ). sets l (suc at) x) (set-set s at a b))
    ∙ sets_again (set s at b) (suc at) x y (omega arith)

-- what is written to the n bytes from index at on, the part that they are
pub put_part : (at n : ℕ) (s ys vs : List ℕ) → ys ≡ vs → length vs ≡ n → at + n ≤ length s → put_mid at (at + n - at) s ys ≡ sets s at vs
put_part at n s ys vs e long h =
    put_mid-paste at (at + n - at) s ys vs n e (omega arith) (sym long)
    ∙ paste_all s at vs n (sym long)
    ∙ ap (λ m. take at s ++ (vs ++ drop (at + m) s)) (sym long)
    ∙ sym (append_assoc (take at s) vs (drop (at + length vs) s))
    ∙ sym (sets-eq vs s at (omega arith))

pub put_zeros_part : (at n : ℕ) (s ys : List ℕ) → ys ≡ replicate (length (take (at + n - at) (drop at s))) 0 → at + n ≤ length s → put_mid at (at + n - at) s ys ≡ sets s at (replicate n 0)
put_zeros_part at n s ys e h =
    let whole : length (take (at + n - at) (drop at s)) ≡ n = length-take-le (at + n - at) (drop at s) (simp length-drop (omega arith)) ∙ omega arith in
    put_part at n s ys (replicate n 0) (e ∙ ap (λ m. replicate m 0) whole) (length-replicate n 0) h

-- a part stored where it lies
pub sets_part : (at w : ℕ) (s : List ℕ) → at + w ≤ length s → sets s at (part at w s) ≡ s
unfolding part
sets_part at w s h =
    let long : length (part at w s) ≡ w = length_part at w s h in
    sets-eq (part at w s) s at (omega arith)
    ∙ ap (λ (n : ℕ). take at s ++ part at w s ++ drop (at + n) s) long
    ∙ ap (λ (l : List ℕ). l ++ drop (at + w) s) (sym (take-add at w s))
    ∙ take-append-drop (at + w) s

-- a list stored over as many elements, and over the front of a longer one
pub sets_front : (l vs : List ℕ) → length vs ≤ length l → sets l 0 vs ≡ vs ++ drop (length vs) l
sets_front l vs h = sets-eq vs l 0 (omega arith) ∙ ap (λ (n : ℕ). vs ++ drop n l) (zero-add (length vs))

-- ---- parts of two lists, bytes beside a store, and parts of zeros

pub part_append : (a w : ℕ) (x y : List ℕ) → a + w ≤ length x → part a w (x ++ y) ≡ part a w x
unfolding part
part_append a w x y h = ap (take w) (drop-append-le a x y (omega arith)) ∙ take-append-le w (drop a x) y (simp length-drop (omega arith))

pub part_behind : (x y : List ℕ) (n w : ℕ) → length x ≡ n → length y ≤ w → part n w (x ++ y) ≡ y
unfolding part
part_behind x y n w e h = ap (take w) (drop_at x y n e) ∙ take_all w y h

pub get_d_sets_below : (s : List ℕ) (at : ℕ) (vs : List ℕ) (i : ℕ) → i < at → get_or (sets s at vs) i 0 ≡ get_or s i 0
get_d_sets_below s at [] i h = refl
get_d_sets_below s at (v ∷ vs) i h = get_d_sets_below (set s at v) (suc at) vs i (omega arith) ∙ get_or-set_other s at i v 0 (λ e. omega arith)

pub get_d_sets_above : (s : List ℕ) (at : ℕ) (vs : List ℕ) (i : ℕ) → at + length vs ≤ i → get_or (sets s at vs) i 0 ≡ get_or s i 0
get_d_sets_above s at [] i h = refl
get_d_sets_above s at (v ∷ vs) i h = get_d_sets_above (set s at v) (suc at) vs i (omega arith) ∙ get_or-set_other s at i v 0 (λ e. omega arith)

little_take_zeros : (w n : ℕ) → little (take w (replicate n 0)) ≡ 0
unfolding little
little_take_zeros zero n = refl
little_take_zeros (suc w) zero = refl
little_take_zeros (suc w) (suc n) = omega (arith, little_take_zeros w n)

pub little_part_zeros : (a w n : ℕ) → little (part a w (replicate n 0)) ≡ 0
unfolding part
little_part_zeros zero w n = little_take_zeros w n
little_part_zeros (suc a) w zero = little_take_zeros w 0
little_part_zeros (suc a) w (suc n) = little_part_zeros a w n
