-- The numbers of the table fit together ("01, The page"): the records of a page reach to its free_space_offset, and one more would not fit.
-- Assumes nothing.
use Prim.Native.Nat.{◌+◌, ◌*◌, ◌≤◌, ◌<◌}
use mathlib.Core.Path.{◌≡◌, refl}
use native.Mathlib.Omega.{arith}
use Rattle.kind.specs.declared.Kind.{Kind}
use Rattle.kind.specs.Kind.{page_size, header_size, data_kind, undo_kind, status_kind}

-- as many records as fit
pub record Fills (k : Kind) : Type 0 where
  pub reach : header_size + k.count * k.size ≡ k.free
  pub inside : k.free ≤ page_size
  pub no_more : page_size < k.free + k.size

pub fills_data : Fills data_kind
fills_data = record { reach = refl; inside = omega arith; no_more = omega arith }

pub fills_undo : Fills undo_kind
fills_undo = record { reach = refl; inside = omega arith; no_more = omega arith }

-- a status page has no records, and no free space
pub fills_status : (status_kind.count ≡ 0) × (status_kind.free ≡ page_size)
fills_status = (refl, refl)
