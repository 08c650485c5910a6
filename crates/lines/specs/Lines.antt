-- Where a line of a text begins and ends ("01, The script and one whole run"): "newline after each line". Assumes nothing.
use Rattle.std.specs.Prelude.{ℕ, ◌+◌, Bool, cond, List, length, drop, ltb}
use Rattle.lines.specs.Span.{before}
use Rattle.lines.specs.declared.Line.{Line}
use Rattle.lines.specs.declared.Reader.{Reader}

-- where the line that begins at a place ends
abbrev pub end_from : List ℕ → ℕ → ℕ
end_from text at = at + length (before 10 (drop at text))

-- whether its newline is there
abbrev pub ended_from : List ℕ → ℕ → Bool
ended_from text at = ltb (end_from text at) (length text)

-- the line: behind it is the byte behind its newline, or, where it is unended, the end of the text
unfoldable pub line_at : List ℕ → ℕ → Line
line_at text at = record {
  start = at;
  end = end_from text at;
  ended = ended_from text at;
  behind = cond (ended_from text at) (end_from text at + 1) (end_from text at);
}

-- what a reader answers: the line at its place; and the reader then, of the same text behind that line
abbrev pub read_from : Reader → Line × Reader
read_from r =
    let l = line_at r.text.now r.at in
    (l, record { text = r.text; at = l.behind })
