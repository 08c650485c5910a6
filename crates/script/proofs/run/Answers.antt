-- `script::run` meets its contract: what holds at the reader's place holds at the next one (`Goings.antt`). Assumes nothing.
use mathlib.Core.Path.{◌≡◌, sym, ap, ◌∙◌}
use mathlib.Core.List.{List}
use Prim.Native.Nat.{ℕ}
use Rattle.lines.specs.declared.Line.{Line}
use Rattle.lines.specs.declared.Reader.{Reader}
use Rattle.lines.specs.Lines.{line_at, read_from}
use Rattle.script.proofs.Goings.{room_yes, holds_start, holds_next, nearer, full_done, rest_done}
use Rattle.script.proofs.run.Goals as goal

-- the line read is the one at the reader's place, and the reader stands behind it in the same text
line_taken : (l : Line) (moved reader : Reader) (text : List ℕ) (at : ℕ) → (l, moved) ≡ read_from reader → reader.text.now ≡ text → reader.at ≡ at
    → (l ≡ line_at text at) × (moved.at ≡ l.behind) × (moved.text.now ≡ text)
line_taken l moved reader text at is lent here = (
  ap (λ (x : Line × Reader). x.0) is ∙ rw (lent, here),
  ap (λ (x : Line × Reader). x.1.at) is ∙ sym (ap (λ (x : Line × Reader). x.0.behind) is),
  ap (λ (x : Line × Reader). x.1.text.now) is ∙ lent,
)

pub loop-reader-init : goal.loop-reader-init
loop-reader-init c = record {
  lent = ap (λ t. t.now) c.new-reader.ensures.0;
  holds = rw (c.new-reader.ensures.1) (holds_start _ _ _ _ _);
}

pub loop-reader-smaller : goal.loop-reader-smaller
loop-reader-smaller c =
    let held = c.loop-reader.invariant.holds in
    let taken = line_taken _ _ _ _ _ c.next_line-line.ensures c.loop-reader.invariant.lent held.here in
    let room = room_yes _ _ (sym c.room_for.ensures ∙ c.loop-reader-test.true) in
    rw (taken.1) (nearer _ _ _ _ _ _ _ _ held room _ taken.0 _ _ _ c.in-Continue.ensures)

pub loop-reader-preserved : goal.loop-reader-preserved
loop-reader-preserved c =
    let held = c.loop-reader.invariant.holds in
    let taken = line_taken _ _ _ _ _ c.next_line-line.ensures c.loop-reader.invariant.lent held.here in
    let room = room_yes _ _ (sym c.room_for.ensures ∙ c.loop-reader-test.true) in record {
      lent = taken.2;
      holds = rw (taken.1) (holds_next _ _ _ _ _ _ _ _ held room _ taken.0 _ _ _ c.in-Continue.ensures c.goes_on.auto.out);
    }

pub returns-in-Break-clause-runs : goal.returns-in-Break-clause-runs
returns-in-Break-clause-runs c =
    let held = c.loop-reader.invariant.holds in
    let taken = line_taken _ _ _ _ _ c.next_line-line.ensures c.loop-reader.invariant.lent held.here in
    let room = room_yes _ _ (sym c.room_for.ensures ∙ c.loop-reader-test.true) in
    rest_done _ _ _ _ _ _ _ _ held room _ taken.0 _ _ _ c.in-Break.ensures

pub returns-clause-runs : goal.returns-clause-runs
returns-clause-runs c = full_done _ _ _ _ _ _ _ _ c.loop-reader.invariant.holds (sym c.room_for.ensures ∙ c.loop-reader-test.false)
