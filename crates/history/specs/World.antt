-- The world that a station lends, and one step of it: a call made on what the call before left ("01, What the station lends, and who
-- decides"). A step is made of what the calls leave by their rules and of nothing else. Assumes nothing.
use Rattle.std.specs.Prelude.{ℕ, cond, List, [], ◌∷◌}
use Rattle.ground.specs.Refuse.{settle}
use Rattle.places.specs.Open.{place_in}
use Rattle.desk.specs.declared.Desk.{Desk}
use Rattle.desk.specs.Turns.{spoiled}
use Rattle.kind.specs.Areas.{Areas, areas}
use Rattle.calls.specs.Calls.{Left, body, format_leaves, open_leaves, seal_leaves, begin_leaves, next_leaves, insert_leaves, update_leaves, delete_leaves, read_leaves, commit_leaves, withdraw_leaves, sweep_leaves}
use Rattle.machine.specs.Table.{Body}
use Rattle.machine.specs.Lines.{Call, format, opens, seal, begin, next, insert, update, delete, read, commit, withdraw, sweep, Verdict, refused, done, is_format, Line}

-- the three areas, and the session record
pub record World : Type 0 where
  pub held : Areas
  pub desk : Desk

abbrev pub world : Areas → Desk → World
world a d = record { held = a; desk = d }

-- a call's answer, and the world that it leaves
pub record Response : Type 0 where
  pub answer : Verdict
  pub left : World

abbrev pub response : Verdict → World → Response
response a w = record { answer = a; left = w }

-- by the number that a rule gives: refused where it is not 0, else done with what it reports
abbrev pub answered : ℕ → ℕ → ℕ → Body → Verdict
answered n a b y = settle n (done a b y) refused

-- what a call leaves of a world; a format is lent areas of its own
abbrev pub left_by : World → Call → Left
left_by w (format d u s) = format_leaves (areas d u s) w.desk
left_by w opens = open_leaves w.held w.desk
left_by w seal = seal_leaves w.held w.desk
left_by w begin = begin_leaves w.held w.desk
left_by w (next x) = next_leaves w.held w.desk x
left_by w (insert x y) = insert_leaves w.held w.desk x y
left_by w (update x q y) = update_leaves w.held w.desk x q y
left_by w (delete x q) = delete_leaves w.held w.desk x q
left_by w (read x q) = read_leaves w.held w.desk x q
left_by w (commit x) = commit_leaves w.held w.desk x
left_by w (withdraw x) = withdraw_leaves w.held w.desk x
left_by w (sweep first quota) = sweep_leaves w.held w.desk first quota

abbrev pub verdict_of : Left → Verdict
verdict_of l = answered l.code l.first l.second (body l)

abbrev pub world_after : Left → World
world_after l = world l.lent l.desk

-- the answer and the world of it: a refused format leaves the world, and not the areas that it was lent
abbrev pub responds : World → Call → Left → Response
responds w c l = response (verdict_of l) (cond (is_format c) (settle l.code (world_after l) (λ (n : ℕ). w)) (world_after l))

unfoldable pub step : World → Call → Response
step w c = responds w c (left_by w c)

abbrev pub says : World → Call → Verdict
says w c = (step w c).answer

abbrev pub after : World → Call → World
after w c = (step w c).left

-- the world in which session n is marked spoiled, and nothing else is changed ("02, T-07")
abbrev pub marking : ℕ → World → World
marking n w = world w.held (spoiled (place_in n w.desk.numbers) w.desk)

-- ---- histories

-- the world after these calls, each made on what the one before left
abbrev pub after_all : World → List Call → World
after_all w [] = w
after_all w (c ∷ cs) = after_all (after w c) cs

-- what the auditor has then: each call with its answer, refused ones too
abbrev pub lines_of : World → List Call → List Line
lines_of w [] = []
lines_of w (c ∷ cs) = record { call = c; answer = says w c } ∷ lines_of (after w c) cs
