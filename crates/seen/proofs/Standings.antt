-- The status page, seen as the machine's: a status put is put for that number alone, and a header field changes none. Assumes nothing.
use Prim.Native.Nat.{ℕ, ◌+◌, ◌≤◌}
use mathlib.Core.Path.{◌≡◌, refl, ap}
use mathlib.Core.Bool.{Bool, true, false, ◌&&◌, cond}
use mathlib.Core.List.{List}
use native.Mathlib.Omega.{arith}
use lib.Dec.{eqb, leb}
use lib.ListN.{length}
use borrow.Author.Tests.{eqb-true, eqb-false, le-leb, leb-true}
use Rattle.ground.proofs.Ranges.{and_true_left, and_true_right}
use Rattle.status.specs.declared.Status.{Status}
use Rattle.status.specs.declared.Status.TheVariants.{InWork}
use Rattle.status.specs.Status.{status_at, put_status}
use Rattle.status.proofs.StatusLaws.{status_at_put_same, status_at_put_other}
use Rattle.page.specs.Header.{put_field}
use Rattle.page.proofs.Headers.{status_at_put_field}
use Rattle.sight.specs.Sight.{standing}
use Rattle.machine.specs.Table.{put}
use Rattle.seen.specs.Seen.{as_standing, standings}

-- the standing of a number that has one is its status, and the others' is told by no area
module _ (s t : List ℕ) (x : ℕ) where
  standing_agree : (1 ≤ x → x ≤ 32575 → status_at x s ≡ status_at x t) → standing x s ≡ standing x t
  unfolding standing
  standing_agree same = by (leb 1 x && leb x 32575) refl
    where
      by : (b : Bool) → (leb 1 x && leb x 32575) ≡ b → cond b (status_at x s) InWork ≡ cond b (status_at x t) InWork
      by true e =
          same (leb-true 1 x (and_true_left (leb 1 x) (leb x 32575) e)) (leb-true x 32575 (and_true_right (leb 1 x) (leb x 32575) e))
      by false e = refl

module _ (n : ℕ) (v : Status) (s : List ℕ) (low : 1 ≤ n) (high : n ≤ 32575) (long : length s ≡ 8192) where
  standing_own : standing n (put_status n v s) ≡ v
  unfolding standing
  standing_own = rw (le-leb 1 n low, le-leb n 32575 high) (status_at_put_same n v s (omega arith) long)

  -- what a number's standing says, it says of the status put or of the standing before
  pub standing_put : {A : Type 0} (f : Status → A) (x : ℕ) → f (standing x (put_status n v s)) ≡ cond (eqb x n) (f v) (f (standing x s))
  standing_put f x = by (eqb x n) refl
    where
      by : (b : Bool) → eqb x n ≡ b → f (standing x (put_status n v s)) ≡ cond b (f v) (f (standing x s))
      by true e = rw (eqb-true x n e) (ap f standing_own)
      by false e =
          ap f (standing_agree (put_status n v s) s x (λ l h. status_at_put_other x n v s (omega arith) (omega arith) (eqb-false x n e) long))

pub standing_field : (f : ℕ × ℕ) (v : ℕ) (s : List ℕ) → f.0 + f.1 ≤ 48 → (x : ℕ) → standing x (put_field f 0 v s) ≡ standing x s
standing_field f v s h x = standing_agree (put_field f 0 v s) s x (λ l k. status_at_put_field f x 0 v s h)

pub standings_put : (n : ℕ) (v : Status) (s : List ℕ) → 1 ≤ n → n ≤ 32575 → length s ≡ 8192 → (x : ℕ)
    → standings (put_status n v s) x ≡ put (standings s) n (as_standing v) x
standings_put n v s low high long x = standing_put n v s low high long as_standing x

pub standings_field : (f : ℕ × ℕ) (v : ℕ) (s : List ℕ) → f.0 + f.1 ≤ 48 → (x : ℕ) → standings (put_field f 0 v s) x ≡ standings s x
standings_field f v s h x = ap as_standing (standing_field f v s h x)
