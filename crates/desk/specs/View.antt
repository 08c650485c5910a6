-- What a session sees by: its number, its statement, and the numbers open when it began ("01, Sessions and sight"). Assumes nothing.
use Rattle.std.specs.Prelude.{ℕ, List}

pub record View : Type 0 where
  pub number : ℕ
  pub statement : ℕ
  pub list : List ℕ
