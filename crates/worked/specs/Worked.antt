-- The paper's whole worked run ("01, The script and one whole run"): where it starts, its lines and what each answers. "In the script run
-- `commit 3` becomes 18, and the second sweep then needs a `withdraw 3` before it" ("02, T-07"). Assumes nothing.
use Rattle.std.specs.Prelude.{ℕ, List, [], ◌∷◌, ◌++◌, replicate}
use Prim.Native.Char.{code}
use Prim.Native.String.{String, [] as none, ◌∷◌ as ◌then◌}
use Rattle.kind.specs.Areas.{areas}
use Rattle.script.specs.Script.{Carried, carried, fresh_footing}

-- the bytes of a text whose characters are bytes
unfoldable pub bytes : String → List ℕ
bytes none = []
bytes (c then s) = code c ∷ bytes s

-- "Z is 64 digits 0, F is 64 letters f"
abbrev pub Z : List ℕ
Z = replicate 64 48

abbrev pub F : List ℕ
F = replicate 64 102

-- "left of the arrow the input, right of it the whole output"
unfoldable pub run : List (List ℕ × List ℕ)
run =
    (bytes "format\t1\t1", bytes "0")
    ∷ (bytes "begin", bytes "0\t1")
    ∷ (bytes "insert\t1\t" ++ Z, bytes "0\t0")
    ∷ (bytes "commit\t1", bytes "0")
    ∷ (bytes "begin", bytes "0\t2")
    ∷ (bytes "begin", bytes "0\t3")
    ∷ (bytes "update\t2\t0\t" ++ F, bytes "0")
    ∷ (bytes "read\t3\t0", bytes "0\t2\t" ++ Z)
    ∷ (bytes "delete\t3\t0", bytes "9")
    ∷ (bytes "commit\t2", bytes "0")
    ∷ (bytes "read\t3\t0", bytes "0\t2\t" ++ Z)
    ∷ (bytes "delete\t3\t0", bytes "10")
    ∷ (bytes "sweep\t0\t127", bytes "0\t127\t0")
    ∷ (bytes "commit\t3", bytes "18")
    ∷ (bytes "withdraw\t3", bytes "0")
    ∷ (bytes "sweep\t0\t127", bytes "0\t127\t1")
    ∷ (bytes "begin", bytes "0\t4")
    ∷ (bytes "read\t4\t0", bytes "0\t1\t" ++ F)
    ∷ []

-- "newline after each line": the text of the lines, and of the answers
unfoldable pub input_of : List (List ℕ × List ℕ) → List ℕ
input_of [] = []
input_of (p ∷ ps) = p.0 ++ (10 ∷ input_of ps)

unfoldable pub output_of : List (List ℕ × List ℕ) → List ℕ
output_of [] = []
output_of (p ∷ ps) = p.1 ++ (10 ∷ output_of ps)

-- before the first line: 3 pages of data and of undo lent, 1 of status, all zeros
unfoldable pub start : Carried
start = carried fresh_footing (areas (replicate 24576 0) (replicate 24576 0) (replicate 8192 0))
