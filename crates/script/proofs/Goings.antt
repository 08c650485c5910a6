-- A run line by line: what holds from line to line, and what the run is where it is done. Assumes nothing.
use Prim.Native.Nat.{ℕ, suc, ◌+◌, ◌-◌, ◌≤◌, ◌<◌}
use native.Mathlib.Omega.{arith}
use mathlib.Core.Path.{◌≡◌, refl, subst, subst⁻¹, ◌∙◌}
use mathlib.Core.Bool.{Bool, true, false}
use mathlib.Core.List.{List}
use lib.ListN.{length, take, drop}
use borrow.Author.Tests.{leb-true, leb-false}
use Rattle.std.specs.declared.ops.ControlFlow.TheVariants.{Break, Continue}
use Rattle.kind.specs.Areas.{Areas}
use Rattle.lines.specs.declared.Line.{Line}
use Rattle.lines.specs.Lines.{line_at}
use Rattle.lines.proofs.Ends.{line_start, line_end, ended_end, unended_end}
use Rattle.reply.specs.Reply.{longest}
use Rattle.script.specs.declared.Footing.{Footing}
use Rattle.script.specs.declared.Ran.{Ran}
use Rattle.script.specs.Script.{Carried, carried, command_in, Steps, Rests, run_rule, Yields, room_for, Goes}
use Rattle.script.proofs.Portions.{line_left, Sofar, sofar_start, sofar_next, sofar_full, sofar_rest}

-- what is left of the text, where no line ends
pub goes_unended : (k : Carried) (text : List ℕ) (l : Line) (at : ℕ) (last : Bool) (made : ℕ) (buffer behind : List ℕ) (r : Ran) → l ≡ line_at text at → at ≤ length text
    → l.ended ≡ false → (r.taken ≤ l.end) × (r.made ≤ length buffer) → Rests k.footing l.start (l.end - l.start) last made buffer r behind
    → Goes k text l last made buffer (Break r) k.lent behind
goes_unended k text l at last made buffer behind r is h past inside rests =
    let whole = (line_left text at l.end h (line_end text at l is) (unended_end text at l is past).0).2 in
    (past, rests, refl, (omega (arith, inside.0, whole), inside.1))

-- where there is room for one more answer, and where there is none
pub room_yes : (room made : ℕ) → room_for room made ≡ true → made + longest ≤ room
unfolding longest
room_yes room made h = omega (arith, leb-true longest (room - made) h)

room_no : (room made : ℕ) → room_for room made ≡ false → room < made + longest
unfolding longest
room_no room made h = omega (arith, leb-false longest (room - made) h)

-- what holds at a reader's place: the rule does from there on what it does from the start
pub record Holds (text : List ℕ) (last : Bool) (k₀ : Carried) (out₀ : List ℕ) (a : Areas) (out : List ℕ) (at : ℕ) (ran : Ran) : Type 0 where
  pub inside : (ran.taken ≤ length text) × (ran.made ≤ length out₀)
  pub long : length out ≡ length out₀
  pub here : at ≡ ran.taken
  pub sofar : Sofar text last k₀ out₀ (carried ran.footing a) ran.taken ran.made out

pub holds_start : (text : List ℕ) (last : Bool) (s : Footing) (a : Areas) (out : List ℕ)
    → Holds text last (carried s a) out a out 0 (record { footing = s; taken = 0; made = 0 })
holds_start text last s a out = record {
  inside = (omega arith, omega arith);
  long = refl;
  here = refl;
  sofar = sofar_start text last (carried s a) out;
}

module _ (text : List ℕ) (last : Bool) (k₀ : Carried) (out₀ : List ℕ) (a : Areas) (out : List ℕ) (at : ℕ) (ran : Ran) (h : Holds text last k₀ out₀ a out at ran) where
  -- no room for one more answer
  pub full_done : room_for (length out) ran.made ≡ false → Yields (run_rule k₀ text last (length out₀)) out₀ ran a out
  full_done e = sofar_full text last k₀ out₀ ran.footing a ran.taken ran.made 0 out h.sofar (omega (arith, h.long, room_no (length out) ran.made e))

  module _ (room : ran.made + longest ≤ length out) (l : Line) (is : l ≡ line_at text ran.taken) (r : Ran) (left : Areas) (out' : List ℕ) where
    room₀ : ran.made + longest ≤ length out₀
    room₀ = omega (arith, room, h.long)

    -- one line more, and less is left
    module _ (went : Goes (carried ran.footing a) text l last ran.made out (Continue r) left out') where
      steps : Steps (carried ran.footing a) (command_in (carried ran.footing a) (take (l.end - ran.taken) (drop ran.taken text))) ran.made out (record { footing = r.footing; end = r.made }) left out'
      steps =
          subst (λ (n : ℕ). Steps (carried ran.footing a) (command_in (carried ran.footing a) (take (l.end - n) (drop n text))) ran.made out (record { footing = r.footing; end = r.made }) left out')
          (line_start text ran.taken l is) went.1

      behind : r.taken ≡ l.end + 1
      behind = went.2 ∙ (ended_end text ran.taken l is went.0).1

      pub holds_next : length out' ≡ length out → Holds text last k₀ out₀ left out' l.behind r
      holds_next same = record {
        inside = (omega (arith, behind, (ended_end text ran.taken l is went.0).0), omega (arith, went.1.within, h.long));
        long = same ∙ h.long;
        here = omega (arith, went.2);
        sofar =
            subst⁻¹ (λ (n : ℕ). Sofar text last k₀ out₀ (carried r.footing left) n r.made out') behind
            (sofar_next text last k₀ out₀ ran.footing a ran.taken ran.made l.end out h.sofar (command_in (carried ran.footing a) (take (l.end - ran.taken) (drop ran.taken text)))
            (record { footing = r.footing; end = r.made }) left out' room₀ (line_end text ran.taken l is) (ended_end text ran.taken l is went.0).0 refl steps);
      }

      pub nearer : suc (length text) - l.behind < suc (length text) - at
      nearer = omega (arith, h.inside.0, h.here, line_end text ran.taken l is, ended_end text ran.taken l is went.0)

    -- the end of the text
    pub rest_done : Goes (carried ran.footing a) text l last ran.made out (Break r) left out' → Yields (run_rule k₀ text last (length out₀)) out₀ r left out'
    rest_done went =
        subst⁻¹ (λ (x : Areas). Yields (run_rule k₀ text last (length out₀)) out₀ r x out') went.2
        (sofar_rest text last k₀ out₀ ran.footing a ran.taken ran.made l.end out h.sofar r out' room₀ h.inside.0 (line_end text ran.taken l is) (unended_end text ran.taken l is went.0).0
        (subst (λ (n : ℕ). Rests ran.footing n (l.end - n) last ran.made out r out') (line_start text ran.taken l is) went.1))
