-- That a desk without sessions is sound where its next number is, and that what stands for no desk is not. Assumes nothing.
use mathlib.Core.Path.{◌≡◌, refl}
use mathlib.Core.Bool.{true, false}
use Prim.Native.Nat.{ℕ, ◌≤◌}
use borrow.Author.Tests.{le-leb}
use Rattle.ground.specs.Range.{count_below, all_below}
use Rattle.places.specs.Places.{follows, placed, ascending, session_sound}
use Rattle.places.specs.Open.{open_count}
use Rattle.desk.specs.Desk.{fresh_desk, no_desk}
use Rattle.desk.specs.Sound.{sound_columns, sound}

pub fresh_sound : (next : ℕ) → 1 ≤ next → next ≤ 32576 → sound (fresh_desk next) ≡ true
unfolding fresh_desk follows placed ascending session_sound sound_columns sound all_below
fresh_sound next h l = rw (le-leb 1 next h, le-leb next 32576 l)

pub fresh_closed : (next : ℕ) → open_count (fresh_desk next).numbers ≡ 0
unfolding fresh_desk open_count count_below
fresh_closed next = refl

pub none_unsound : sound no_desk ≡ false
unfolding fresh_desk sound_columns sound
none_unsound = refl
