-- CRC32C over the bytes of a number: its bits, lowest first, are xored into the register at once. Assumes nothing.
use mathlib.Core.Path.{◌≡◌, sym, ap, ◌∙◌}
use Prim.Native.Nat.{ℕ, zero, suc, ◌+◌, ◌*◌, ◌/◌, ◌%◌, ◌^◌, ◌<◌}
use native.Mathlib.Omega.{arith}
use lib.Bits.{bit_xor, xor_zero_r}
use Rattle.little.specs.Little.{digits}
use Rattle.crc.specs.Crc.{steps, byte_step, run}
use Rattle.crc.proofs.XorLaws.{xor_assoc, xor_parts}
use Rattle.crc.proofs.CrcLaws.{steps_xor}
use Rattle.crc.proofs.Registers.{steps_add}

pub run_digits : (w c v : ℕ) → v < 256 ^ w → run c (digits w v) ≡ steps (w * 8) (bit_xor c v)
unfolding run digits byte_step steps
run_digits zero c v h =
    let none : v ≡ 0 = omega arith in
    sym (xor_zero_r c) ∙ ap (bit_xor c) (sym none)
run_digits (suc w) c v h =
    let more : 8 + w * 8 ≡ suc w * 8 = omega arith in
    let low : bit_xor (byte_step c (v % 256)) (v / 256) ≡ steps 8 (bit_xor c v) =
    sym (steps_xor 8 (bit_xor c (v % 256)) (v / 256))
    ∙ ap (steps 8) (xor_assoc c (v % 256) (v / 256 * 256) ∙ ap (bit_xor c) (sym (xor_parts v 8))) in
    run_digits w (byte_step c (v % 256)) (v / 256) (omega arith)
    ∙ ap (steps (w * 8)) low
    ∙ steps_add 8 (w * 8) (bit_xor c v)
    ∙ ap (λ (n : ℕ). steps n (bit_xor c v)) more
