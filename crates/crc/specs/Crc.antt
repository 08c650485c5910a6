-- CRC32C (Castagnoli): the checksum of a page ("01, The page": "Check CRC32C against RFC 3720's published examples"),
-- bit by bit, over the logic's own `^`. It computes in the checker. Assumes nothing.
use Rattle.std.specs.Prelude.{List, [], ◌∷◌, ℕ, zero, suc, ◌/◌, ◌%◌}
use Rattle.std.specs.Int.Bits.{bit_xor}

-- the polynomial 0x1EDC6F41 with its digits turned round: its lowest term is the highest digit
abbrev pub poly : ℕ
poly = 0x82F63B78

-- 32 digits 1: what the register starts from, and what it is xored with at last
abbrev pub filled : ℕ
filled = 0xFFFFFFFF

-- a halved register, with the polynomial where a 1 was shifted out
unfoldable pub step_by : ℕ → ℕ → ℕ
step_by zero h = h
step_by (suc n) h = bit_xor h poly

-- the register after one bit: the lowest digit goes out
unfoldable pub step : ℕ → ℕ
step c = step_by (c % 2) (c / 2)

-- the register after n bits
unfoldable pub steps : ℕ → ℕ → ℕ
steps zero c = c
steps (suc n) c = steps n (step c)

-- the register after one byte, which is xored into the low digits
unfoldable pub byte_step : ℕ → ℕ → ℕ
byte_step c b = steps 8 (bit_xor c b)

-- the register after a list of bytes
unfoldable pub run : ℕ → List ℕ → ℕ
run c [] = c
run c (b ∷ bs) = run (byte_step c b) bs

-- a checksum carried on over a further list of bytes
unfoldable pub crc_more : ℕ → List ℕ → ℕ
crc_more crc l = bit_xor (run (bit_xor crc filled) l) filled

-- the checksum of a list of bytes
abbrev pub crc_of : List ℕ → ℕ
crc_of l = crc_more 0 l
