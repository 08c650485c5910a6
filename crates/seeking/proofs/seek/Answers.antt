-- `seeking::seek` meets its contract: what a walk without a version refuses. Assumes nothing.
use mathlib.Core.Path.{◌∙◌}
use native.Mathlib.Omega.{arith}
use Rattle.std.proofs.lemmas.Result.{err_from_is_err_and}
use Rattle.seeking.proofs.Seekings.{seek_none}
use Rattle.seeking.proofs.seek.Goals as goal

pub returns-in_err-walk : goal.returns-in_err-walk
returns-in_err-walk c =
    let refused = err_from_is_err_and c.from_residual.result c.from_residual.ensures.1 in
    refused.1 ∙ seek_none _ _ _ _ _ c.rows.ensures (omega arith) c.search-walk.ensures c.in_err-walk.was refused.2
