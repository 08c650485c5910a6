-- What zeros make of a register. No two registers come to the same one, whatever bytes follow; and 32 bits 0 leave just two registers of 32 digits as
-- they are. (In polynomials 32 bits 0 multiply by x ^ 32; x ^ 32 + 1 is (x + 1) ^ 32, and the polynomial of CRC32C has the factor x + 1 just once.)
-- Assumes nothing.
use mathlib.Core.Path.{◌≡◌, refl, sym, ap, ◌∙◌}
use mathlib.Core.Logic.{◌⊎◌, inl, inr, ⊎_elim}
use mathlib.Core.List.{List, [], ◌∷◌}
use Prim.Native.Nat.{ℕ, zero, suc, ◌+◌, ◌/◌, ◌%◌, ◌^◌, ◌<◌}
use native.Mathlib.Nat.{zero-add, suc-add}
use native.Mathlib.Omega.{arith}
use lib.Bits.{bit_xor, xor_lt, xor_comm, xor_self, xor_zero_l}
use lib.ListN.{length, get_or}
use Rattle.crc.specs.Crc.{poly, step_by, step, steps, byte_step, run}
use Rattle.crc.proofs.XorLaws.{xor_assoc, xor_pairs, xor_back, xor_cancel, xor_none, xor_over, xor_halved}
use Rattle.crc.proofs.CrcLaws.{step_below, steps_below, byte_step_below, step_both, steps_both}

pub steps_add : (m n c : ℕ) → steps n (steps m c) ≡ steps (m + n) c
unfolding steps
steps_add zero n c = ap (λ (i : ℕ). steps i c) (sym (zero-add n))
steps_add (suc m) n c = steps_add m n (step c) ∙ ap (λ (i : ℕ). steps i c) (sym (suc-add m n))

-- ---- two registers that differ never meet

step_none : (c : ℕ) → c < 2 ^ 32 → step c ≡ 0 → c ≡ 0
unfolding step step_by
step_none c h = by (c % 2) refl
  where
    by : (n : ℕ) → c % 2 ≡ n → step_by n (c / 2) ≡ 0 → c ≡ 0
    by zero o e = omega arith
    by (suc n) o e = absurd (omega (arith, xor_none (c / 2) poly e))

step_injective : (a b : ℕ) → a < 2 ^ 32 → b < 2 ^ 32 → step a ≡ step b → a ≡ b
step_injective a b h k e =
    xor_none a b
    (step_none (bit_xor a b) (xor_lt 32 a b h k) (step_both a b ∙ ap (λ (x : ℕ). bit_xor x (step b)) e ∙ xor_self (step b)))

pub steps_injective : (n a b : ℕ) → a < 2 ^ 32 → b < 2 ^ 32 → steps n a ≡ steps n b → a ≡ b
unfolding steps
steps_injective zero a b h k e = e
steps_injective (suc n) a b h k e =
    step_injective a b h k (steps_injective n (step a) (step b) (step_below a h) (step_below b k) e)

pub run_injective : (l : List ℕ) (a b : ℕ) → a < 2 ^ 32 → b < 2 ^ 32 → ((i : ℕ) → i < length l → get_or l i 0 < 256)
    → run a l ≡ run b l
    → a ≡ b
unfolding run byte_step
run_injective [] a b h k bytes e = e
run_injective (x ∷ l) a b h k bytes e =
    let byte : x < 256 = bytes 0 (omega arith) in
    let met : byte_step a x ≡ byte_step b x =
    run_injective l (byte_step a x) (byte_step b x) (byte_step_below a x h byte) (byte_step_below b x k byte) (λ i m. bytes (suc i) (omega arith)) e in
    xor_cancel a b x (steps_injective 8 (bit_xor a x) (bit_xor b x) (xor_lt 32 a x h (omega arith)) (xor_lt 32 b x k (omega arith)) met)

-- ---- the registers that zeros leave as they are: 0, and this one

abbrev pub still : ℕ
still = 0xFCA42DAF

step_still : (c : ℕ) → step c ≡ c → (c ≡ 0) ⊎ (c ≡ still)
unfolding step step_by
step_still c = by (c % 2) refl
  where
    by : (n : ℕ) → c % 2 ≡ n → step_by n (c / 2) ≡ c → (c ≡ 0) ⊎ (c ≡ still)
    by zero o e = inl (omega arith)
    by (suc n) o e = inr (xor_halved c still (xor_over c poly (xor_back (c / 2) poly e)))

-- no step changes a register by just that one
step_other : (c : ℕ) → step c ≡ bit_xor c still → ⊥
unfolding step step_by
step_other c = by (c % 2) refl
  where
    by : (n : ℕ) → c % 2 ≡ n → step_by n (c / 2) ≡ bit_xor c still → ⊥
    by zero o e = omega (arith, xor_halved c 0xA8C7C935 (xor_over c still e))
    by (suc n) o e =
        omega (arith, xor_halved c 0x5463E49A (xor_over c (bit_xor still poly) (xor_back (c / 2) poly e ∙ xor_assoc c still poly)))

-- n steps leave what a step leaves, and change no register by `still`
record Like (n : ℕ) : Type 0 where
  pub stays : (c : ℕ) → c < 2 ^ 32 → steps n c ≡ c → step c ≡ c
  pub other : (c : ℕ) → c < 2 ^ 32 → steps n c ≡ bit_xor c still → ⊥

like_one : Like 1
unfolding steps
like_one = record { stays = λ c h e. e; other = λ c h e. step_other c e }

like_twice : {n : ℕ} → Like n → Like (n + n)
like_twice {n} like = record { stays = stays; other = other }
  where
    -- what n steps change
    change : ℕ → ℕ
    change c = bit_xor (steps n c) c

    change_below : (c : ℕ) → c < 2 ^ 32 → change c < 2 ^ 32
    change_below c h = xor_lt 32 (steps n c) c (steps_below n c h) h

    -- they change of that what twice as many change of the register
    change_twice : (c : ℕ) → change (change c) ≡ bit_xor (steps (n + n) c) c
    change_twice c =
        ap (λ (x : ℕ). bit_xor x (change c)) (steps_both n (steps n c) c ∙ xor_comm (steps n (steps n c)) (steps n c))
        ∙ xor_pairs (steps n c) (steps n (steps n c)) (steps n c) c
        ∙ ap (λ (x : ℕ). bit_xor x (bit_xor (steps n (steps n c)) c)) (xor_self (steps n c))
        ∙ xor_zero_l (bit_xor (steps n (steps n c)) c)
        ∙ ap (λ (x : ℕ). bit_xor x c) (steps_add n n c)

    other : (c : ℕ) → c < 2 ^ 32 → steps (n + n) c ≡ bit_xor c still → ⊥
    other c h e =
        like.other (change c) (change_below c h)
        (xor_back (steps n (change c)) (change c) (change_twice c ∙ xor_comm (steps (n + n) c) c ∙ xor_over c still e)
        ∙ xor_comm still (change c))

    stays : (c : ℕ) → c < 2 ^ 32 → steps (n + n) c ≡ c → step c ≡ c
    stays c h e =
        let kept : steps n (change c) ≡ change c =
        xor_none (steps n (change c)) (change c) (change_twice c ∙ ap (λ (x : ℕ). bit_xor x c) e ∙ xor_self c) in
        ⊎_elim
        (λ (none : change c ≡ 0). like.stays c h (xor_none (steps n c) c none))
        (λ (by : change c ≡ still). absurd (like.other c h (xor_back (steps n c) c by ∙ xor_comm still c)))
        (step_still (change c) (like.stays (change c) (change_below c h) kept))

pub steps_still : (c : ℕ) → c < 2 ^ 32 → steps 32 c ≡ c → (c ≡ 0) ⊎ (c ≡ still)
steps_still c h e = step_still c (like.stays c h e)
  where
    like : Like 32
    like = like_twice (like_twice (like_twice (like_twice (like_twice like_one))))
