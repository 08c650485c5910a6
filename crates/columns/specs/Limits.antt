-- The desk's limits ("01, Sessions and sight"), and its mark ("02, T-07"). Assumes nothing.
use Rattle.std.specs.Prelude.{ℕ, ◌*◌}

-- "at most 16 open sessions"; of each "the numbers open when it began: at most 15"
abbrev pub sessions : ℕ
sessions = 16

abbrev pub members : ℕ
members = 15

-- the places of all lists together
abbrev pub places : ℕ
places = sessions * members

-- "its statement (0 to 65,535)"
abbrev pub last_statement : ℕ
last_statement = 65535

-- "The desk record gains the mark" ("02, T-07"): what it is where a session is spoiled; else it is 0
abbrev pub spoiled_mark : ℕ
spoiled_mark = 1
