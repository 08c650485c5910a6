-- What stands behind the last newline of a text: the four ways in which it is left. Assumes nothing.
use Prim.Native.Nat.{ℕ, ◌+◌, ◌-◌, ◌≤◌, ◌<◌}
use native.Mathlib.Omega.{arith}
use mathlib.Core.Path.{◌≡◌, refl, sym, ap, ◌∙◌}
use mathlib.Core.Bool.{Bool, true, false, not, ◌&&◌}
use mathlib.Core.List.{List, []}
use lib.ListN.{length}
use lib.Seq.{sets}
use lib.Dec.{eqb}
use borrow.Author.Tests.{le-leb, lt-leb, eqb-true, eqb-false, eq-eqb, ne_eqb}
use Rattle.answer.specs.declared.Refusal.TheVariants.{IllFormed as Ill}
use Rattle.answer.specs.Code.{code_of}
use Rattle.line.specs.Line.{longest}
use Rattle.reply.specs.Reply.{Says, answer_line}
use Rattle.script.specs.declared.Footing.{Footing}
use Rattle.script.specs.declared.Ran.{Ran}
use Rattle.script.specs.Script.{sixteen, in_line, rest_of, Rests}

-- nothing is left between a place and the end exactly where they are the same
gap : (at end : ℕ) → at ≤ end → eqb (end - at) 0 ≡ eqb at end
gap at end h = by (eqb at end) refl
  where
    by : (t : Bool) → eqb at end ≡ t → eqb (end - at) 0 ≡ t
    by true e = let z : at ≡ end = eqb-true at end e in eq-eqb (end - at) 0 (omega (arith, z))
    by false e = ne_eqb (end - at) 0 (λ z. eqb-false at end e (omega (arith, z, h)))

-- what is left, by what is said, taken and carried on
rests : (s : Footing) (at n : ℕ) (last : Bool) (made : ℕ) (buffer : List ℕ) (r : Ran) (behind : List ℕ) (w : List ℕ × ℕ × Footing)
    → rest_of last s n ≡ w
    → r.taken ≡ at + w.1
    → r.made ≡ made + length w.0
    → r.footing ≡ w.2
    → behind ≡ sets buffer made w.0
    → Rests s at n last made buffer r behind
rests s at n last made buffer r behind w is t m k b =
    record {
      takes = t ∙ ap (λ (y : List ℕ × ℕ × Footing). at + y.1) (sym is);
      makes = m ∙ ap (λ (y : List ℕ × ℕ × Footing). made + length y.0) (sym is);
      carries = k ∙ ap (λ (y : List ℕ × ℕ × Footing). y.2) (sym is);
      writes = b ∙ ap (λ (y : List ℕ × ℕ × Footing). sets buffer made y.0) (sym is);
    }

module _ (s : Footing) (at end : ℕ) (last : Bool) (made : ℕ) (buffer : List ℕ) (h : at ≤ end) where
  -- no more text comes, and nothing is left
  pub rest_none : last ≡ true → (eqb at end && not s.long) ≡ true
      → Rests s at (end - at) last made buffer (record { footing = s; taken = at; made = made }) buffer
  unfolding rest_of
  rest_none l e =
      rests s at (end - at) last made buffer _ buffer ([], 0, s) (rw (l, gap at end h, e) refl) (omega arith) (omega arith) refl refl

  -- no more text comes: an unended line
  pub rest_unended : (n m : ℕ) (t : Footing) (behind : List ℕ)
      → last ≡ true
      → (eqb at end && not s.long) ≡ false
      → t ≡ in_line false s
      → n ≡ code_of Ill
      → Says (answer_line n []) made buffer m behind
      → Rests s at (end - at) last made buffer (record { footing = t; taken = end; made = m }) behind
  unfolding rest_of
  rest_unended n m t behind l e is code says =
      rests s at (end - at) last made buffer _ behind (sixteen, end - at, in_line false s) (rw (l, gap at end h, e) refl)
      (omega (arith, h)) (says.ends ∙ ap (λ (k : ℕ). made + length (answer_line k [])) code) is (says.leaves ∙ ap (λ (k : ℕ). sets buffer made (answer_line k [])) code)

  -- more comes: what is left waits for it
  pub rest_waits : last ≡ false → end - at ≤ longest
      → Rests s at (end - at) last made buffer (record { footing = s; taken = at; made = made }) buffer
  unfolding rest_of
  rest_waits l e =
      rests s at (end - at) last made buffer _ buffer ([], 0, s) (rw (l, le-leb (end - at) longest e) refl) (omega arith) (omega arith) refl refl

  -- more comes, of a line that is too long already
  pub rest_long : (t : Footing) → last ≡ false → longest < end - at → t ≡ in_line true s
      → Rests s at (end - at) last made buffer (record { footing = t; taken = end; made = made }) buffer
  unfolding rest_of
  rest_long t l e is =
      rests s at (end - at) last made buffer _ buffer ([], end - at, in_line true s) (rw (l, lt-leb (end - at) longest e) refl)
      (omega (arith, h)) (omega arith) is refl
