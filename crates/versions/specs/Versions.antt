-- The words in which it is said what writes do to chains ("01, Sessions and sight", "01, Writes, withdrawal, sweep"). Assumes nothing.
use Rattle.std.specs.Prelude.{ℕ, ◌^◌, ◌<◌, ◌≡◌, true, List, drop}
use Rattle.little.specs.Little.{Bytes}
use Rattle.kind.specs.Kind.{pages, rows, entries}
use Rattle.records.specs.Entry.{entry_at}
use Rattle.chain.specs.Chain.{Chain, chain_of}

-- a chain without its first version
abbrev pub older : Chain → Chain
older c = record { versions = drop 1 c.versions; whole = c.whole }

-- no row of the store has a broken chain
abbrev pub AllWhole : List ℕ → List ℕ → Type 0
AllWhole d u = (t : ℕ) → t < rows d → (chain_of d u t).whole ≡ true

-- session number n and its statement c fit their fields, no session is number 0, and r is a row of the data area
pub record Fits (n c r : ℕ) (d : List ℕ) : Type 0 where
  pub some : 0 < n
  pub number : n < 2 ^ 64
  pub statement : c < 2 ^ 32
  pub row : r < rows d
  pub bytes : Bytes d

-- entry e of the undo area is free, and row r, the entry and the pages have numbers that fit an entry and a pointer
pub record Takes (r e : ℕ) (u : List ℕ) : Type 0 where
  pub row : r < 2 ^ 32
  pub entry : e < 2 ^ 32
  pub few : pages u < 2 ^ 32
  pub here : e < entries u
  pub free : (entry_at e u).writer ≡ 0
