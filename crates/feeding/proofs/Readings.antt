-- Laws of one reading: what it gave, by what it answered; and what that leaves of the text. Assumes nothing.
use Prim.Native.Nat.{ℕ, zero, suc, ◌+◌, ◌-◌, ◌≤◌}
use native.Mathlib.Omega.{arith}
use mathlib.Core.Path.{◌≡◌, sym, subst⁻¹, ◌∙◌}
use mathlib.Core.List.{List}
use lib.ListN.{length, take, drop, length-drop}
use lib.Seq.{length-take-le}
use lib.Dec.{eqb}
use borrow.Rule.Slice.PartMut.{put_mid, take_put}
use borrow.Author.Tests.{eq-eqb, ne_eqb}
use Rattle.std.specs.Prelude.{min, Option, Some, None, IfSome}
use Rattle.feeding.specs.declared.Filled.{Filled}
use Rattle.feeding.specs.Feeding.{filled_by, Behind, Fills}

-- ---- what it gave

-- no more than there is room for is counted
counts : (got room : ℕ) → min got room ≤ room
counts got room = omega arith

-- ---- what it leaves

-- what is left of a text behind a place
pub part_long : (at : ℕ) (s : List ℕ) → at ≤ length s → length (take (length s - at) (drop at s)) ≡ length s - at
part_long at s h = length-take-le (length s - at) (drop at s) (omega (arith, length-drop at s))

-- nothing came exactly where the text is as long as it was
pub longer : (kept n : ℕ) → eqb n 0 ≡ eqb (kept + n) kept
longer kept zero = sym (eq-eqb (kept + 0) kept (omega arith))
longer kept (suc n) = ne_eqb (suc n) 0 (λ e. omega (arith, e)) ∙ sym (ne_eqb (kept + suc n) kept (λ e. omega (arith, e)))

fills_by : (kept : ℕ) (got : Option ℕ) (before behind : List ℕ) (room : ℕ) (r : Option Filled)
    → r ≡ filled_by kept got room
    → kept + room ≡ length before
    → take kept behind ≡ take kept before
    → Fills kept before behind r
unfolding filled_by
fills_by kept (Some n) before behind room r e long same = record {
  keeps = same;
  given = subst⁻¹ (λ (o : Option Filled). IfSome o (Behind kept before)) e (record {
    begins = omega arith;
    within = omega (arith, long);
    ends = longer kept (min n room);
  });
}
fills_by kept None before behind room r e long same = record {
  keeps = same;
  given = subst⁻¹ (λ (o : Option Filled). IfSome o (Behind kept before)) e tt;
}

-- what was read stands behind what was kept, in all the room there is
pub fills : (kept : ℕ) (got : Option ℕ) (before new : List ℕ) (r : Option Filled)
    → kept ≤ length before
    → length (put_mid kept (length before - kept) before new) ≡ length before
    → r ≡ filled_by kept got (length (take (length (put_mid kept (length before - kept) before new) - kept) (drop kept (put_mid kept (length before - kept) before new))))
    → Fills kept before (put_mid kept (length before - kept) before new) r
fills kept got before new r h same e =
    fills_by kept got before behind (length (take (length behind - kept) (drop kept behind))) r e
    (omega (arith, same, part_long kept behind (omega (arith, same)))) (take_put kept (length before - kept) before new h)
  where
    behind : List ℕ
    behind = put_mid kept (length before - kept) before new
