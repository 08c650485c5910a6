-- The rules of format, seal and open, case by case. Assumes nothing.
use mathlib.Core.Path.{◌≡◌}
use mathlib.Core.List.{List}
use mathlib.Core.Bool.{true, false}
use Prim.Native.Nat.{ℕ, ◌+◌}
use native.Mathlib.Omega.{arith}
use lib.ListN.{length}
use borrow.Author.Tests.{lt-ltb, le-ltb}
use Rattle.places.specs.Open.{open_count}
use Rattle.desk.specs.declared.Desk.{Desk}
use Rattle.desk.specs.Desk.{first_number, fresh_desk, no_desk}
use Rattle.desk.specs.Sound.{sound}
use Rattle.kind.specs.Kind.{lengths_ok}
use Rattle.kind.specs.Areas.{areas}
use Rattle.keep.specs.Whole.{highest, store_right}
use Rattle.keep.specs.Keep.{format_refusal, formatted, format_rule, seal_refusal, sealed, seal_rule, open_refusal, open_rule}

module _ (d u s : List ℕ) where
  module _ (l : lengths_ok (length d) (length u) (length s) ≡ false) where
    pub format_1 : format_rule (areas d u s) ≡ ((1, no_desk), areas d u s)
    unfolding format_rule format_refusal
    format_1 = rw l

    pub seal_1 : (desk : Desk) → seal_rule (areas d u s) desk ≡ (1, areas d u s)
    unfolding seal_rule seal_refusal
    seal_1 desk = rw l

    pub open_1 : open_rule (areas d u s) ≡ (1, no_desk)
    unfolding open_rule open_refusal
    open_1 = rw l

  module _ (l : lengths_ok (length d) (length u) (length s) ≡ true) where
    pub format_0 : format_rule (areas d u s) ≡ ((0, fresh_desk first_number), formatted (areas d u s))
    unfolding format_rule format_refusal
    format_0 = rw l

    pub seal_2 : (desk : Desk) → sound desk ≡ false → seal_rule (areas d u s) desk ≡ (2, areas d u s)
    unfolding seal_rule seal_refusal
    seal_2 desk e = rw (l, e)

    pub seal_15 : (desk : Desk) → sound desk ≡ true → (open_count desk.numbers ≡ 0 → ⊥) → seal_rule (areas d u s) desk ≡ (15, areas d u s)
    unfolding seal_rule seal_refusal
    seal_15 desk e h = rw (l, e, lt-ltb 0 (open_count desk.numbers) (omega arith))

    pub seal_0 : (desk : Desk) → sound desk ≡ true → open_count desk.numbers ≡ 0 → seal_rule (areas d u s) desk ≡ (0, sealed (areas d u s))
    unfolding seal_rule seal_refusal
    seal_0 desk e h = rw (l, e, le-ltb 0 (open_count desk.numbers) (omega arith))

    pub open_3 : store_right (areas d u s) ≡ false → open_rule (areas d u s) ≡ (3, no_desk)
    unfolding open_rule open_refusal
    open_3 e = rw (l, e)

    pub open_0 : store_right (areas d u s) ≡ true → open_rule (areas d u s) ≡ (0, fresh_desk (highest s + 1))
    unfolding open_rule open_refusal
    open_0 e = rw (l, e)
