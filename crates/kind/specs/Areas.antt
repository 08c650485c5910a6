-- The three lent areas together ("01, What the station lends"): what a call that writes them all leaves, what one that writes data and
-- undo does, and whether their lengths are allowed. Assumes nothing.
use Rattle.std.specs.Prelude.{ℕ, Bool, not, List, length}
use Rattle.kind.specs.Kind.{lengths_ok}

pub record Areas : Type 0 where
  pub «data» : List ℕ
  pub undo : List ℕ
  pub status : List ℕ

abbrev pub areas : List ℕ → List ℕ → List ℕ → Areas
areas d u s = record { «data» = d; undo = u; status = s }

-- the two areas that withdraw and sweep write row by row
pub record Both : Type 0 where
  pub «data» : List ℕ
  pub undo : List ℕ

abbrev pub both : List ℕ → List ℕ → Both
both d u = record { «data» = d; undo = u }

-- 1: "an area's length isn't allowed"
abbrev pub bad_length : Areas → Bool
bad_length a = not (lengths_ok (length a.«data») (length a.undo) (length a.status))
