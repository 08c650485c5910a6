-- The table of CRC32C (02, T-02: "a byte at a time from a table of 256 numbers"): its rule, at all its places. Assumes nothing.
use Rattle.std.specs.Prelude.{List, [], ◌∷◌, ℕ, zero, suc}
use Rattle.crc.specs.Crc.{steps}

-- f at i, i + 1, .., n of them
unfoldable pub tab_from : (ℕ → ℕ) → ℕ → ℕ → List ℕ
tab_from f i zero = []
tab_from f i (suc n) = f i ∷ tab_from f (suc i) n

-- entry i is the register i after eight bits
unfoldable pub step_table : List ℕ
step_table = tab_from (steps 8) 0 256
