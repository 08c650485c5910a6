-- Laws of where a line ends: at its newline, or unended at the text's end. Assumes nothing.
use mathlib.Core.Path.{◌≡◌, sym, ap, subst⁻¹, ◌∙◌}
use mathlib.Core.Bool.{Bool, true, false, cond}
use mathlib.Core.List.{List}
use Prim.Native.Nat.{ℕ, ◌+◌, ◌≤◌, ◌<◌}
use native.Mathlib.Omega.{arith}
use lib.ListN.{length}
use borrow.Author.Tests.{ltb-true, ltb-false}
use Rattle.lines.specs.declared.Line.{Line}
use Rattle.lines.specs.Lines.{end_from, ended_from, line_at}

-- what a line tells
module _ (text : List ℕ) (at : ℕ) (l : Line) (e : l ≡ line_at text at) where
  pub line_start : l.start ≡ at
  unfolding line_at
  line_start = ap (λ (x : Line). x.start) e

  pub line_end : l.end ≡ end_from text at
  unfolding line_at
  line_end = ap (λ (x : Line). x.end) e

  -- it begins before it ends
  pub line_order : l.start ≤ l.end
  line_order = omega (arith, line_start, line_end)

  test : l.ended ≡ ended_from text at
  unfolding line_at
  test = ap (λ (x : Line). x.ended) e

  behind_is : l.behind ≡ cond l.ended (l.end + 1) l.end
  unfolding line_at
  behind_is =
      ap (λ (x : Line). x.behind) e
      ∙ ap (λ (b : Bool). cond b (end_from text at + 1) (end_from text at)) (sym test)
      ∙ ap (λ (n : ℕ). cond l.ended (n + 1) n) (sym line_end)

  pub ended_end : l.ended ≡ true → (l.end < length text) × (l.behind ≡ l.end + 1)
  ended_end h = (
    subst⁻¹ (λ (n : ℕ). n < length text) line_end (ltb-true (end_from text at) (length text) (sym test ∙ h)),
    behind_is ∙ ap (λ (b : Bool). cond b (l.end + 1) l.end) h,
  )

  pub unended_end : l.ended ≡ false → (length text ≤ l.end) × (l.behind ≡ l.end)
  unended_end h = (
    subst⁻¹ (λ (n : ℕ). length text ≤ n) line_end (ltb-false (end_from text at) (length text) (sym test ∙ h)),
    behind_is ∙ ap (λ (b : Bool). cond b (l.end + 1) l.end) h,
  )
