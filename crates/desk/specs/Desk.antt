-- The first and the last number and the first statement of a desk, and a desk without sessions ("01, Sessions and sight"). Assumes
-- nothing.
use Rattle.std.specs.Prelude.{ℕ, replicate}
use Rattle.columns.specs.Limits.{sessions, places}
use Rattle.desk.specs.declared.Desk.{Desk}

-- "the next number (1 to 32,576)"
abbrev pub first_number : ℕ
first_number = 1

abbrev pub last_next : ℕ
last_next = 32576

-- "its statement (0 to 65,535)"
abbrev pub first_statement : ℕ
first_statement = 0

-- "a desk without sessions"
unfoldable pub fresh_desk : ℕ → Desk
fresh_desk next =
    record { next = next; numbers = replicate sessions 0; statements = replicate sessions 0; marks = replicate sessions 0; lists = replicate places 0 }

-- what stands for a desk where none comes back: all its numbers are 0, and it is unsound
abbrev pub no_desk : Desk
no_desk = fresh_desk 0
