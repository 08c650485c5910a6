-- Sessions that lost a conflict, read off the lines of a history alone ("02, T-07"): there is no desk here and no mark. Assumes nothing.
use Rattle.std.specs.Prelude.{ℕ, Bool, true, false, not, ◌&&◌, ◌||◌, List, [], ◌∷◌, eqb}
use Rattle.machine.specs.Lines.{Call, format, opens, seal, begin, next, insert, update, delete, read, commit, withdraw, sweep, Verdict, refused, done, is_done, given, Line}

-- the call would replace or end a row's version for session n: an update or a delete of it
abbrev pub replaces : ℕ → Call → Bool
replaces n (update s r b) = eqb n s
replaces n (delete s r) = eqb n s
replaces n (format d u s) = false
replaces n opens = false
replaces n seal = false
replaces n begin = false
replaces n (next s) = false
replaces n (insert s b) = false
replaces n (read s r) = false
replaces n (commit s) = false
replaces n (withdraw s) = false
replaces n (sweep r q) = false

abbrev pub is_begin : Call → Bool
is_begin begin = true
is_begin (format d u s) = false
is_begin opens = false
is_begin seal = false
is_begin (next s) = false
is_begin (insert s b) = false
is_begin (update s r b) = false
is_begin (delete s r) = false
is_begin (read s r) = false
is_begin (commit s) = false
is_begin (withdraw s) = false
is_begin (sweep r q) = false

-- "an answer 10"
abbrev pub is_ten : Verdict → Bool
is_ten (refused n) = eqb n 10
is_ten (done a b y) = false

-- the line answers 10 to session n
abbrev pub loses : ℕ → Line → Bool
loses n l = is_ten l.answer && replaces n l.call

-- the line is the begin that answered n
abbrev pub begins : ℕ → Line → Bool
begins n l = is_begin l.call && (is_done l.answer && eqb n (given l.answer))

-- session n is spoiled after these lines, where b tells whether it was before them
abbrev pub spoiled_from : Bool → ℕ → List Line → Bool
spoiled_from b n [] = b
spoiled_from b n (l ∷ ls) = spoiled_from (not (begins n l) && (loses n l || b)) n ls

-- some update or delete of session n answered 10 since it began
abbrev pub spoiled_in : List Line → ℕ → Bool
spoiled_in ls n = spoiled_from false n ls
