-- What a call reads by walking the chain is what the machine's session reads, and the versions looked at are as many. Assumes nothing.
use Prim.Native.Nat.{ℕ, ◌+◌, ◌≤◌, ◌<◌}
use mathlib.Core.Path.{◌≡◌, sym, subst, fun_ext}
use mathlib.Core.Bool.{Bool, true}
use mathlib.Core.List.{List}
use native.Mathlib.Omega.{arith}
use lib.ListN.{length}
use borrow.Author.Tests.{lt-ltb}
use Rattle.kind.specs.Kind.{rows}
use Rattle.desk.specs.declared.Desk.{Desk}
use Rattle.desk.specs.View.{View}
use Rattle.sight.specs.Sight.{known}
use Rattle.chain.specs.Chain.{chain_of}
use Rattle.chain.specs.Walk.{walk_rule, first_in, there_in}
use Rattle.machine.specs.Machine.{first_there, looked_at, knows, reads}
use Rattle.seen.specs.Seen.{all_held, row_of, seen_as}
use Rattle.seen.proofs.Walked.{Says, first_in_is}
use Rattle.seen.proofs.Knowing.{session_of, known_is}

zero_plus : (n : ℕ) → 0 + n ≡ n
zero_plus n = omega arith

pub walk_is : (d u s : List ℕ) (k : Desk) (v : View) (r : ℕ) → length v.list ≤ 15 → r < rows d → (chain_of d u r).whole ≡ true
    → Says d u (walk_rule d u s v r) (reads (seen_as d u s k) (session_of v) r) (looked_at (knows (seen_as d u s k) (session_of v)) (row_of d u r))
unfolding walk_rule
walk_is d u s k v r h l w =
    subst (λ (p : ℕ → ℕ → Bool). Says d u (first_in (there_in v s) 0 (chain_of d u r).versions (chain_of d u r).whole) (first_there p (row_of d u r)) (looked_at p (row_of d u r)))
    (sym knows_is)
    (subst (λ (b : Bool). Says d u (first_in (there_in v s) 0 (chain_of d u r).versions b) (first_there (known v s) (row_of d u r)) (looked_at (known v s) (row_of d u r))) (sym w)
    (rw (lt-ltb r (rows d) l) (subst (λ (n : ℕ). Says d u (first_in (there_in v s) 0 (chain_of d u r).versions true) (first_there (known v s) (all_held d u (chain_of d u r).versions)) n)
    (zero_plus (looked_at (known v s) (all_held d u (chain_of d u r).versions))) (first_in_is v s d u 0 (chain_of d u r).versions))))
  where
    knows_is : knows (seen_as d u s k) (session_of v) ≡ known v s
    knows_is = fun_ext (λ x. fun_ext (λ c. known_is v s x c h))
