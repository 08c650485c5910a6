-- A text fed to the end: what its rounds say in all is the output of what they read in all. What `round` and `serve` ensure says of a round which piece
-- it read, how many runs it made and what it left; that a round's answers are written in their order, and that the pieces are the file's, is not said here.
-- Assumes nothing.
use Prim.Native.Nat.{ℕ, zero, suc, ◌≤◌}
use mathlib.Core.Path.{◌≡◌, refl, sym, ap, ◌∙◌}
use mathlib.Core.Bool.{Bool, true, false}
use mathlib.Core.List.{List, [], ◌∷◌, ◌++◌, append-nil, append_assoc}
use lib.ListN.{drop}
use Rattle.reply.specs.Reply.{longest as longest_answer}
use Rattle.script.specs.Script.{output}
use Rattle.script.proofs.Promises.{run_carries, run_ends, run_done}
use Rattle.feeding.specs.Feeding.{Stand, stand, run_of, after, said, after_round, said_in, read_all, said_all, WholeOutput}

-- ---- some runs of a text, and more behind it

runs_carry : (room : ℕ) (s : Stand) (more : List ℕ) (n : ℕ)
    → output s.on (s.left ++ more) ≡ said false room s n ++ output (after false room s n).on ((after false room s n).left ++ more)
unfolding after said
runs_carry room s more zero = refl
runs_carry room s more (suc n) =
    let a = after false room s n in
    runs_carry room s more n
    ∙ ap (λ (l : List ℕ). said false room s n ++ l) (run_carries a.on a.left more room)
    ∙ sym (append_assoc (said false room s n) (run_of false room a).said (output (run_of false room a).on (drop (run_of false room a).taken a.left ++ more)))

-- and no more
runs_end : (room : ℕ) (s : Stand) (n : ℕ)
    → output s.on s.left ≡ said true room s n ++ output (after true room s n).on (after true room s n).left
unfolding after said
runs_end room s zero = refl
runs_end room s (suc n) =
    let a = after true room s n in
    runs_end room s n
    ∙ ap (λ (l : List ℕ). said true room s n ++ l) (run_ends a.on a.left room)
    ∙ sym (append_assoc (said true room s n) (run_of true room a).said (output (run_of true room a).on (drop (run_of true room a).taken a.left)))

-- a run that took nothing is the last
runs_all : (room : ℕ) (s : Stand) (n : ℕ) → longest_answer ≤ room → (run_of true room (after true room s n)).taken ≡ 0
    → output s.on s.left ≡ said true room s (suc n)
unfolding after
runs_all room s n roomy none =
    runs_end room s (suc n)
    ∙ ap (λ (l : List ℕ). said true room s (suc n) ++ l) (run_done (after true room s n).on (after true room s n).left room roomy none)
    ∙ append-nil (said true room s (suc n))

-- ---- round by round

pub whole_output : WholeOutput
unfolding read_all said_all
whole_output room k kept [] roomy end = absurd end
whole_output room k kept (p ∷ []) roomy (none, (n, is, last)) =
    append-nil (said_in room k kept p)
    ∙ ap (λ (b : Bool). said b room (stand k (kept ++ p.read)) p.runs) none
    ∙ ap (said true room (stand k (kept ++ p.read))) is
    ∙ sym (runs_all room (stand k (kept ++ p.read)) n roomy last)
    ∙ ap (λ (l : List ℕ). output k (kept ++ l)) (sym (append-nil p.read))
whole_output room k kept (p ∷ p₁ ∷ ps) roomy (some, end) =
    ap (λ (l : List ℕ). said_in room k kept p ++ l) (whole_output room (after_round room k kept p).on (after_round room k kept p).left (p₁ ∷ ps) roomy end)
    ∙ ap (λ (b : Bool). said b room (stand k (kept ++ p.read)) p.runs ++ output (after b room (stand k (kept ++ p.read)) p.runs).on ((after b room (stand k (kept ++ p.read)) p.runs).left ++ read_all (p₁ ∷ ps))) some
    ∙ sym (runs_carry room (stand k (kept ++ p.read)) (read_all (p₁ ∷ ps)) p.runs)
    ∙ ap (output k) (append_assoc kept p.read (read_all (p₁ ∷ ps)))
