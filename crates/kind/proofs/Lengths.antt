-- The three areas: what allowed lengths say of them (a whole number of pages, from one to the most of the kind), and areas that
-- are equal one by one. Assumes nothing.
use mathlib.Core.Path.{◌≡◌}
use mathlib.Core.List.{List}
use mathlib.Core.Bool.{true, ◌&&◌}
use Prim.Native.Nat.{ℕ, ◌*◌, ◌/◌, ◌%◌, ◌≤◌}
use native.Mathlib.Omega.{arith}
use lib.Dec.{eqb, leb}
use borrow.Author.Tests.{eqb-true, leb-true}
use Rattle.ground.proofs.Ranges.{and_true_left, and_true_right}
use Rattle.kind.specs.Areas.{areas}
use Rattle.kind.specs.Kind.{length_ok, lengths_ok}

pub record Lent (most n : ℕ) : Type 0 where
  pub whole : n ≡ n / 8192 * 8192
  pub some : 1 ≤ n / 8192
  pub few : n / 8192 ≤ most

pub lent : (most n : ℕ) → length_ok most n ≡ true → Lent most n
unfolding length_ok
lent most n e =
    let two : (eqb (n % 8192) 0 && leb 1 (n / 8192)) ≡ true = and_true_left (eqb (n % 8192) 0 && leb 1 (n / 8192)) (leb (n / 8192) most) e in
    let zero : n % 8192 ≡ 0 = eqb-true (n % 8192) 0 (and_true_left (eqb (n % 8192) 0) (leb 1 (n / 8192)) two) in
    record {
      whole = omega arith;
      some = leb-true 1 (n / 8192) (and_true_right (eqb (n % 8192) 0) (leb 1 (n / 8192)) two);
      few = leb-true (n / 8192) most (and_true_right (eqb (n % 8192) 0 && leb 1 (n / 8192)) (leb (n / 8192) most) e);
    }

-- the three areas
pub record AllLent (d u s : ℕ) : Type 0 where
  pub in_data : Lent 64 d
  pub in_undo : Lent 64 u
  pub in_status : Lent 1 s

pub all_lent : (d u s : ℕ) → lengths_ok d u s ≡ true → AllLent d u s
unfolding lengths_ok
all_lent d u s e =
    let two : (length_ok 64 d && length_ok 64 u) ≡ true = and_true_left (length_ok 64 d && length_ok 64 u) (length_ok 1 s) e in
    record {
      in_data = lent 64 d (and_true_left (length_ok 64 d) (length_ok 64 u) two);
      in_undo = lent 64 u (and_true_right (length_ok 64 d) (length_ok 64 u) two);
      in_status = lent 1 s (and_true_right (length_ok 64 d && length_ok 64 u) (length_ok 1 s) e);
    }

pub areas_eq : {d d' u u' s s' : List ℕ} → d ≡ d' → u ≡ u' → s ≡ s' → areas d u s ≡ areas d' u' s'
areas_eq p q r = rw (p, q, r)

-- the status area is one page
pub status_length : (d u s : ℕ) → lengths_ok d u s ≡ true → s ≡ 8192
status_length d u s e = let one = (all_lent d u s e).in_status in omega (arith, one.whole, one.some, one.few)
