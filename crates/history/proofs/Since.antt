-- Calls of which one is an accepted format are a run from there on. Assumes nothing.
use mathlib.Core.Path.{◌≡◌, refl, subst}
use mathlib.Core.Bool.{Bool, true, false, ◌||◌}
use mathlib.Core.List.{List, [], ◌∷◌}
use Prim.Native.Nat.{ℕ, ◌<◌}
use Rattle.kind.specs.Kind.{rows}
use Rattle.machine.specs.Table.{History, plain_table, open_in}
use Rattle.machine.specs.Lines.{Call, format, opens, seal, begin, next, insert, update, delete, read, commit, withdraw, sweep, Verdict, refused, done, is_done, heard, history_from, history_of}
use Rattle.machine.proofs.Basics.{true_false}
use Rattle.history.specs.World.{World, says, after, after_all, lines_of}
use Rattle.history.specs.Asked.{AllProper, history, Matches}
use Rattle.history.specs.Since.{accepted, formats, Since}
use Rattle.history.proofs.Promises.{reading}

-- what is known after the calls, and what was known before them
abbrev Then : History → World → List Call → Type 0
Then h w cs = Since (after_all w cs) (history_from h (lines_of w cs))

-- an accepted format begins a run
begins : (c : Call) (cs : List Call) (w : World) (h : History) → AllProper cs → accepted w c ≡ true → Then h w (c ∷ cs)
begins (format d u s) cs w h p e = record {
  run = record { before = w; «data» = d; undo = u; status = s; formatted = e; calls = cs; proper = p };
  ends = refl;
  happened = anew (says w (format d u s)) e;
}
  where
    anew : (a : Verdict) → is_done a ≡ true
        → history_of (lines_of (after w (format d u s)) cs) ≡ history_from (heard h (format d u s) a) (lines_of (after w (format d u s)) cs)
    anew (refused n) e = true_false false e refl
    anew (done a b y) e = refl
begins opens cs w h p e = true_false false e refl
begins seal cs w h p e = true_false false e refl
begins begin cs w h p e = true_false false e refl
begins (next x) cs w h p e = true_false false e refl
begins (insert x y) cs w h p e = true_false false e refl
begins (update x q y) cs w h p e = true_false false e refl
begins (delete x q) cs w h p e = true_false false e refl
begins (read x q) cs w h p e = true_false false e refl
begins (commit x) cs w h p e = true_false false e refl
begins (withdraw x) cs w h p e = true_false false e refl
begins (sweep first quota) cs w h p e = true_false false e refl

since_from : (cs : List Call) (w : World) (h : History) → AllProper cs → formats w cs ≡ true → Then h w cs
since_from [] w h p e = true_false false e refl
since_from (c ∷ cs) w h p e = by (accepted w c) refl e (since_from cs (after w c) (heard h c (says w c)) p.1)
  where
    by : (b : Bool) → accepted w c ≡ b → (b || formats (after w c) cs) ≡ true
        → (formats (after w c) cs ≡ true → Then (heard h c (says w c)) (after w c) cs)
        → Then h w (c ∷ cs)
    by true q e ih = begins c cs w h p.1 q
    by false q e ih = ih e

pub since : (w : World) (cs : List Call) → AllProper cs → formats w cs ≡ true → Since (after_all w cs) (history_of (lines_of w cs))
since w cs p e = since_from cs w [] p e

-- the theorem of reading, of a world that such calls lead to
pub since_reading : (w : World) (h : History) → Since w h → (n : ℕ) → open_in h n ≡ true → (r : ℕ) → r < rows w.held.«data»
    → Matches (plain_table h n r) (says w (read n r))
since_reading w h s n o r inside =
    subst (λ (h : History). open_in h n ≡ true → Matches (plain_table h n r) (says w (read n r))) s.happened
    (λ o. subst (λ (w : World). r < rows w.held.«data» → Matches (plain_table (history s.run) n r) (says w (read n r))) s.ends
    (reading s.run n o r) inside)
    o
