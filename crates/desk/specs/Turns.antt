-- What a session sees by, the desk's changes, spoiled sessions ("02, T-07"), and the mark ("01, Sessions and sight", "01, Writes,
-- withdrawal, sweep"). Each change hands a new desk back. Assumes nothing.
use Rattle.std.specs.Prelude.{ℕ, ◌+◌, ◌*◌, Bool, get_or, set, take, drop, eqb}
use Rattle.std.proofs.lemmas.List.Edits.{sets}
use Rattle.columns.specs.Limits.{members, spoiled_mark}
use Rattle.columns.specs.Columns.{without, mark_of}
use Rattle.places.specs.Open.{open_count, place_in}
use Rattle.desk.specs.declared.Desk.{Desk}
use Rattle.desk.specs.View.{View}
use Rattle.desk.specs.Desk.{first_statement}

-- what the session at place k sees by: "its number .., its statement .. and the numbers open when it began"
unfoldable pub view_at : ℕ → Desk → View
view_at k d =
    record {
      number = get_or d.numbers k 0;
      statement = get_or d.statements k 0;
      list = take members (drop (k * members) d.lists);
    }

-- ---- the changes

-- "Begin hands out the next number, with statement 0", and with the numbers open then. It stands behind the open sessions, unmarked
unfoldable pub begun : Desk → Desk
begun d =
    record {
      next = d.next + 1;
      numbers = set d.numbers (open_count d.numbers) d.next;
      statements = set d.statements (open_count d.numbers) first_statement;
      marks = set d.marks (open_count d.numbers) 0;
      lists = sets d.lists (open_count d.numbers * members) (take members d.numbers);
    }

-- "Next statement adds 1"
unfoldable pub moved : ℕ → Desk → Desk
moved k d =
    record {
      next = d.next;
      numbers = d.numbers;
      statements = set d.statements k (get_or d.statements k 0 + 1);
      marks = d.marks;
      lists = d.lists;
    }

-- "closes": the desk without the session at place k, whose mark goes with it. The lists of others keep its number
unfoldable pub closed : ℕ → Desk → Desk
closed k d =
    record {
      next = d.next;
      numbers = without k 1 d.numbers;
      statements = without k 1 d.statements;
      marks = without k 1 d.marks;
      lists = without (k * members) members d.lists;
    }

-- ---- spoiled sessions ("02, T-07")

-- "the desk marks that session spoiled": the one at place k, and nothing else of the desk changes
unfoldable pub spoiled : ℕ → Desk → Desk
spoiled k d =
    record {
      next = d.next;
      numbers = d.numbers;
      statements = d.statements;
      marks = set d.marks k spoiled_mark;
      lists = d.lists;
    }

-- the session at place k is spoiled
unfoldable pub spoiled_at : ℕ → Desk → Bool
spoiled_at k d = eqb (get_or d.marks k 0) spoiled_mark

-- session x is
abbrev pub is_spoiled : ℕ → Desk → Bool
is_spoiled x d = spoiled_at (place_in x d.numbers) d

-- ---- the mark

unfoldable pub mark : Desk → ℕ
mark d = mark_of d.next d.numbers d.lists
