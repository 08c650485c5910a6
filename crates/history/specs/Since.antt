-- Calls of which one is an accepted format: from then on they are a run, and what the lines say happened is its history
-- (demand 3: after any sequence of calls from a format). For the script and for the station's library. Assumes nothing.
use Rattle.std.specs.Prelude.{◌≡◌, Bool, false, ◌&&◌, ◌||◌, List, [], ◌∷◌}
use Rattle.machine.specs.Table.{History}
use Rattle.machine.specs.Lines.{Call, is_done, is_format}
use Rattle.history.specs.World.{World, says, after}
use Rattle.history.specs.Asked.{Run, end, history}

-- the call is a format, and it is accepted
abbrev pub accepted : World → Call → Bool
accepted w c = is_format c && is_done (says w c)

-- one of these calls is
abbrev pub formats : World → List Call → Bool
formats w [] = false
formats w (c ∷ cs) = accepted w c || formats (after w c) cs

-- calls from an accepted format that end in world w with history h
pub record Since (w : World) (h : History) : Type 0 where
  pub run : Run
  pub ends : end run ≡ w
  pub happened : history run ≡ h
