-- The two numbers of a page: they agree exactly where four bytes 0 leave the register after its first 20 bytes as it is; and on no page number 1
-- whose txn_id is a number that is handed out. Assumes nothing.
use mathlib.Core.Path.{◌≡◌, refl, sym, ap, ap₂, ◌∙◌}
use mathlib.Core.Logic.{◌⊎◌, ⊎_elim}
use mathlib.Core.Bool.{Bool, true, false, ◌||◌}
use mathlib.Core.List.{List, ◌++◌}
use Prim.Native.Nat.{ℕ, ◌+◌, ◌^◌, ◌≤◌, ◌<◌}
use native.Mathlib.Omega.{arith}
use lib.Bits.{bit_xor, xor_comm, xor_zero_r, xor_lt}
use lib.Dec.{eqb}
use lib.ListN.{length}
use lib.Seq.{sets}
use borrow.Author.Tests.{eqb-true, eq-eqb, ne_eqb}
use Rattle.ground.proofs.Ranges.{same_truth, or_true_right}
use Rattle.little.specs.Little.{little, digits, part, Bytes}
use Rattle.little.proofs.Digits.{length_digits, digits_little}
use Rattle.little.proofs.Parts.{length_part, part_add, part_sets_below, part_sets_above}
use Rattle.little.proofs.AllBytes.{bytes_part, bytes_digits, bytes_at}
use Rattle.crc.specs.Crc.{filled, step_by, step, steps, run, crc_more, crc_of}
use Rattle.crc.proofs.XorLaws.{xor_cancel}
use Rattle.crc.proofs.CrcLaws.{steps_below, run_append, run_below}
use Rattle.crc.proofs.Registers.{steps_injective, run_injective, still, steps_still}
use Rattle.whole.specs.Whole.{checksum_of, start_of}
use Rattle.whole.proofs.Wholes.{zeroed}
use Rattle.whole.proofs.Runs.{run_digits}
use Rattle.former.specs.Former.{former_checksum, agree, register_of}

-- four bytes 0 are 32 bits 0
run_zeros : (c : ℕ) → run c (digits 4 0) ≡ steps 32 c
run_zeros c = run_digits 4 c 0 (omega arith) ∙ ap (steps 32) (xor_zero_r c)

-- ---- the two numbers of a page

-- the field does not count for the old rule either
pub former_store : (page : List ℕ) (v : ℕ) → former_checksum (sets page 20 (digits 4 v)) ≡ former_checksum page
unfolding former_checksum
former_store page v =
    ap₂ (λ (x y : List ℕ). crc_of (x ++ y))
    (part_sets_below 0 20 page 20 (digits 4 v) (omega arith))
    (part_sets_above 24 8168 page 20 (digits 4 v) (omega (arith, length_digits 4 v)))

module _ (page : List ℕ) (long : length page ≡ 8192) (bytes : Bytes page) where
  -- what stands behind the checksum
  abbrev behind : List ℕ
  behind = part 24 8168 page

  register_below : register_of page < 2 ^ 32
  register_below = run_below filled (part 0 20 page) (omega arith) (bytes_at (part 0 20 page) (bytes_part 0 20 page bytes))

  -- both are what a register comes to over that
  former_run : former_checksum page ≡ bit_xor (run (register_of page) behind) filled
  unfolding former_checksum crc_more
  former_run = ap (λ (x : ℕ). bit_xor x filled) (run_append filled (part 0 20 page) behind)

  today_run : checksum_of page ≡ bit_xor (run (run (register_of page) (digits 4 0)) behind) filled
  unfolding checksum_of crc_more
  today_run =
      ap crc_of (zeroed page long)
      ∙ ap (λ (x : ℕ). bit_xor x filled)
      (run_append filled (start_of page) behind ∙ ap (λ (x : ℕ). run x behind) (run_append filled (part 0 20 page) (digits 4 0)))

  pub former_fits : former_checksum page < 256 ^ 4
  former_fits =
      rw former_run
      (xor_lt 32 (run (register_of page) behind) filled
      (run_below (register_of page) behind register_below (bytes_at behind (bytes_part 24 8168 page bytes)))
      (omega arith))

  pub agree_left : agree page ≡ eqb (run (register_of page) (digits 4 0)) (register_of page)
  unfolding agree
  agree_left =
      same_truth (eqb (former_checksum page) (checksum_of page)) (eqb (run (register_of page) (digits 4 0)) (register_of page))
      (λ e. eq-eqb (run (register_of page) (digits 4 0)) (register_of page) (sym (met (eqb-true (former_checksum page) (checksum_of page) e))))
      (λ e. eq-eqb (former_checksum page) (checksum_of page) (parted (eqb-true (run (register_of page) (digits 4 0)) (register_of page) e)))
    where
      met : former_checksum page ≡ checksum_of page → register_of page ≡ run (register_of page) (digits 4 0)
      met e =
          run_injective behind (register_of page) (run (register_of page) (digits 4 0)) register_below
          (run_below (register_of page) (digits 4 0) register_below (bytes_at (digits 4 0) (bytes_digits 4 0)))
          (bytes_at behind (bytes_part 24 8168 page bytes))
          (xor_cancel (run (register_of page) behind) (run (run (register_of page) (digits 4 0)) behind) filled (sym former_run ∙ e ∙ today_run))

      parted : run (register_of page) (digits 4 0) ≡ register_of page → former_checksum page ≡ checksum_of page
      parted e = former_run ∙ ap (λ (x : ℕ). bit_xor (run x behind) filled) (sym e) ∙ sym today_run

  pub agree_two : agree page ≡ (eqb (register_of page) 0 || eqb (register_of page) still)
  unfolding steps step step_by
  agree_two =
      agree_left ∙ ap (λ (x : ℕ). eqb x (register_of page)) (run_zeros (register_of page)) ∙ same (register_of page) register_below
    where
      either : (c : ℕ) → (c ≡ 0) ⊎ (c ≡ still) → (eqb c 0 || eqb c still) ≡ true
      either c = ⊎_elim (λ (e : c ≡ 0). rw e) (λ (e : c ≡ still). rw e)

      stays : (c : ℕ) (t : Bool) → eqb c 0 ≡ t → (eqb c 0 || eqb c still) ≡ true → eqb (steps 32 c) c ≡ true
      stays c true e h = ap (λ (x : ℕ). eqb (steps 32 x) x) (eqb-true c 0 e)
      stays c false e h = ap (λ (x : ℕ). eqb (steps 32 x) x) (eqb-true c still (or_true_right (eqb c 0) (eqb c still) h e))

      same : (c : ℕ) → c < 2 ^ 32 → eqb (steps 32 c) c ≡ (eqb c 0 || eqb c still)
      same c h =
          same_truth (eqb (steps 32 c) c) (eqb c 0 || eqb c still)
          (λ e. either c (steps_still c h (eqb-true (steps 32 c) c e)))
          (stays c (eqb c 0) refl)

-- ---- page number 1

-- the register after page_lsn 0, a txn_id and page_id 1
register_by : ℕ → ℕ
register_by t = steps 32 (bit_xor (steps 64 (bit_xor (steps 64 filled) t)) 1)

register_by_injective : (t u : ℕ) → t < 2 ^ 32 → u < 2 ^ 32 → register_by t ≡ register_by u → t ≡ u
unfolding register_by
register_by_injective t u h k e =
    xor_cancel t u (steps 64 filled)
    (xor_comm t (steps 64 filled)
    ∙ steps_injective 64 (bit_xor (steps 64 filled) t) (bit_xor (steps 64 filled) u) (mixed_below t h) (mixed_below u k)
    (xor_cancel (before t) (before u) 1
    (steps_injective 32 (bit_xor (before t) 1) (bit_xor (before u) 1) (xor_lt 32 (before t) 1 (before_below t h) (omega arith))
    (xor_lt 32 (before u) 1 (before_below u k) (omega arith)) e))
    ∙ xor_comm (steps 64 filled) u)
  where
    before : ℕ → ℕ
    before v = steps 64 (bit_xor (steps 64 filled) v)

    mixed_below : (v : ℕ) → v < 2 ^ 32 → bit_xor (steps 64 filled) v < 2 ^ 32
    mixed_below v l = xor_lt 32 (steps 64 filled) v (steps_below 64 filled (omega arith)) l

    before_below : (v : ℕ) → v < 2 ^ 32 → before v < 2 ^ 32
    before_below v l = steps_below 64 (bit_xor (steps 64 filled) v) (mixed_below v l)

-- the two txn_ids after which it is left as it is, far above every number that is handed out
register_by_none : register_by 3659175800 ≡ 0
unfolding register_by steps step step_by
register_by_none = refl

register_by_still : register_by 650033879 ≡ still
unfolding register_by steps step step_by
register_by_still = refl

module _ (page : List ℕ) (long : length page ≡ 8192) (bytes : Bytes page) where
  field_bytes : (at w : ℕ) → at + w ≤ 8192 → part at w page ≡ digits w (little (part at w page))
  field_bytes at w h =
      sym (digits_little (part at w page) (bytes_part at w page bytes))
      ∙ ap (λ (n : ℕ). digits n (little (part at w page))) (length_part at w page (omega arith))

  register_fields : little (part 0 8 page) ≡ 0 → little (part 16 4 page) ≡ 1 → little (part 8 8 page) < 256 ^ 8
      → register_of page ≡ register_by (little (part 8 8 page))
  unfolding register_by
  register_fields lsn id fits =
      ap (run filled) three
      ∙ run_append filled (digits 8 0 ++ digits 8 txn) (digits 4 1)
      ∙ ap (λ (c : ℕ). run c (digits 4 1)) (run_append filled (digits 8 0) (digits 8 txn))
      ∙ run_digits 4 (run (run filled (digits 8 0)) (digits 8 txn)) 1 (omega arith)
      ∙ ap (λ (c : ℕ). steps 32 (bit_xor c 1)) (run_digits 8 (run filled (digits 8 0)) txn fits)
      ∙ ap (λ (c : ℕ). steps 32 (bit_xor (steps 64 (bit_xor c txn)) 1)) (run_digits 8 filled 0 (omega arith) ∙ ap (steps 64) (xor_zero_r filled))
    where
      txn : ℕ
      txn = little (part 8 8 page)

      said : {v : ℕ} (at w : ℕ) → little (part at w page) ≡ v → at + w ≤ 8192 → part at w page ≡ digits w v
      said at w e h = field_bytes at w h ∙ ap (digits w) e

      three : part 0 20 page ≡ digits 8 0 ++ digits 8 txn ++ digits 4 1
      three =
          part_add 0 16 4 page
          ∙ ap₂ ◌++◌ (part_add 0 8 8 page ∙ ap₂ ◌++◌ (said 0 8 lsn (omega arith)) (field_bytes 8 8 (omega arith))) (said 16 4 id (omega arith))

  pub first_differs : little (part 0 8 page) ≡ 0 → little (part 16 4 page) ≡ 1 → little (part 8 8 page) ≤ 32575 → agree page ≡ false
  first_differs lsn id few =
      agree_two page long bytes
      ∙ ap₂ ◌||◌
      (ne_eqb (register_of page) 0 (λ e. apart 3659175800 (omega arith) (omega arith) (e ∙ sym register_by_none)))
      (ne_eqb (register_of page) still (λ e. apart 650033879 (omega arith) (omega arith) (e ∙ sym register_by_still)))
    where
      apart : (u : ℕ) → 32575 < u → u < 2 ^ 32 → register_of page ≡ register_by u → ⊥
      apart u above fits e =
          omega (arith, register_by_injective (little (part 8 8 page)) u (omega arith) fits (sym (register_fields lsn id (omega arith)) ∙ e))
