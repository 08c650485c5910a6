-- Four runs of bytes, worked abreast (02, T-02: "Every value stays the same"): of each, what is said of it alone. Assumes nothing.
use Rattle.std.specs.Prelude.{◌≡◌, List, [], ◌∷◌, ℕ, length, slice_index, slice_index_or}
use Rattle.crc.specs.Crc.{run, crc_more}

-- runs of one length
abbrev pub OneLength : List (List ℕ) → Type 0
OneLength runs = (length (slice_index_or runs 1 []) ≡ length (slice_index_or runs 0 [])) × (length (slice_index_or runs 2 []) ≡ length (slice_index_or runs 0 [])) × (length (slice_index_or runs 3 []) ≡ length (slice_index_or runs 0 []))

-- four registers, each after its own run
abbrev pub run_four : ℕ → ℕ → ℕ → ℕ → List (List ℕ) → List ℕ
run_four a b c d runs =
    run a (slice_index_or runs 0 []) ∷ run b (slice_index_or runs 1 []) ∷ run c (slice_index_or runs 2 []) ∷ run d (slice_index_or runs 3 []) ∷ []

-- four checksums, each carried on over its own run
abbrev pub crc_four_more : List ℕ → List (List ℕ) → List ℕ
crc_four_more crcs runs =
    crc_more (slice_index crcs 0) (slice_index_or runs 0 []) ∷ crc_more (slice_index crcs 1) (slice_index_or runs 1 []) ∷ crc_more (slice_index crcs 2) (slice_index_or runs 2 []) ∷ crc_more (slice_index crcs 3) (slice_index_or runs 3 []) ∷ []

-- the checksums of four runs
abbrev pub crc_four : List (List ℕ) → List ℕ
crc_four runs = crc_four_more (0 ∷ 0 ∷ 0 ∷ 0 ∷ []) runs
