-- The number of each refusal, and of what a call answers ("01, When the desk says no", the table; 16 from "01, The script",
-- 17 from "02, T-05", 18 from "02, T-07"). Assumes nothing.
use Rattle.std.specs.Prelude.{ℕ, Result, Ok, Err}
use Rattle.std.specs.Result.{result_unwrap_or}
use Rattle.answer.specs.declared.Refusal.{Refusal}
use Rattle.answer.specs.declared.Refusal.TheVariants.{BadLength, Unsound, BadPages, NotOpen, BadArgument, Broken, NotThere, OwnWrite, InWork, Conflict, NoRoom, TooManyOpen, NumbersUsed, StatementsUsed, StillOpen, IllFormed, InDoubt, Spoiled}

abbrev pub code_of : Refusal → ℕ
code_of BadLength = 1
code_of Unsound = 2
code_of BadPages = 3
code_of NotOpen = 4
code_of BadArgument = 5
code_of Broken = 6
code_of NotThere = 7
code_of OwnWrite = 8
code_of InWork = 9
code_of Conflict = 10
code_of NoRoom = 11
code_of TooManyOpen = 12
code_of NumbersUsed = 13
code_of StatementsUsed = 14
code_of StillOpen = 15
code_of IllFormed = 16
code_of InDoubt = 17
code_of Spoiled = 18

-- "0: done"
abbrev pub number_of : {A : Type 0} → Result A Refusal → ℕ
number_of (Ok a) = 0
number_of (Err r) = code_of r

-- "Each number reported by a refused call is 0"
abbrev pub reported : Result ℕ Refusal → ℕ
reported r = result_unwrap_or r 0
