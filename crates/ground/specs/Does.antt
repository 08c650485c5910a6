-- The form of a call's contract: the answer, and what the lent areas hold afterwards, are those of a rule.
-- `left` is the one area that the call writes, or a record of them. Assumes nothing.
use Rattle.std.specs.Prelude.{◌≡◌}

pub record Does {A B : Type 0} (rule : A × B) (answer : A) (left : B) : Type 0 where
  pub answers : answer ≡ rule.0
  pub leaves : left ≡ rule.1
