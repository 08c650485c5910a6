-- What each of the twelve calls leaves, by its rule ("01, What the station lends, and who decides"). The script, the station's library and the
-- theorems say it by these definitions. Assumes nothing.
use Rattle.std.specs.Prelude.{ℕ, List}
use Rattle.ground.specs.Refuse.{kept}
use Rattle.kind.specs.Areas.{Areas, areas}
use Rattle.desk.specs.declared.Desk.{Desk}
use Rattle.chain.specs.declared.Place.{Place}
use Rattle.chain.specs.declared.Place.TheVariants.{Nowhere}
use Rattle.chain.specs.Walk.{body_of}
use Rattle.keep.specs.Keep.{format_rule, open_rule, seal_rule}
use Rattle.turns.specs.Turns.{begin_rule, next_rule, commit_rule}
use Rattle.rows.specs.Rows.{insert_rule, update_rule, delete_rule, read_rule}
use Rattle.undoing.specs.Undoing.{withdraw_rule}
use Rattle.sweeping.specs.Sweeping.{sweep_rule}

-- what a call leaves: its number; the numbers that it reports, "begin the number, insert the row, read count and body, sweep next row and removed,
-- the rest none", and 0 where there is none; where the body lies that it hands back, nowhere but for a read; the areas and the desk
pub record Left : Type 0 where
  pub code : ℕ
  pub first : ℕ
  pub second : ℕ
  pub place : Place
  pub lent : Areas
  pub desk : Desk

abbrev pub left : ℕ → ℕ → ℕ → Place → Areas → Desk → Left
left n x y p a d = record { code = n; first = x; second = y; place = p; lent = a; desk = d }

-- without anything reported
abbrev pub bare : ℕ → Areas → Desk → Left
bare n a d = left n 0 0 Nowhere a d

-- the body that it hands back
abbrev pub body : Left → List ℕ
body l = body_of l.place l.lent.«data» l.lent.undo

-- ---- the whole store

-- format and open hand a desk back where they are accepted; where they are refused the one that was there stays
abbrev pub format_leaves : Areas → Desk → Left
format_leaves a d = let r = format_rule a in bare r.0.0 r.1 (kept r.0.0 r.0.1 d)

abbrev pub open_leaves : Areas → Desk → Left
open_leaves a d = let r = open_rule a in bare r.0 a (kept r.0 r.1 d)

abbrev pub seal_leaves : Areas → Desk → Left
seal_leaves a d = let r = seal_rule a d in bare r.0 r.1 d

-- ---- sessions

abbrev pub begin_leaves : Areas → Desk → Left
begin_leaves a d = let r = begin_rule a d in left r.0.0 r.0.1 0 Nowhere (areas a.«data» a.undo r.1) r.0.2

abbrev pub next_leaves : Areas → Desk → ℕ → Left
next_leaves a d x = let r = next_rule a d x in bare r.0 a r.1

abbrev pub commit_leaves : Areas → Desk → ℕ → Left
commit_leaves a d x = let r = commit_rule a d x in bare r.0.0 (areas a.«data» a.undo r.1) r.0.1

abbrev pub withdraw_leaves : Areas → Desk → ℕ → Left
withdraw_leaves a d x = let r = withdraw_rule a d x in bare r.0.0 r.1 r.0.1

-- ---- rows

abbrev pub insert_leaves : Areas → Desk → ℕ → List ℕ → Left
insert_leaves a d x body =
    let r = insert_rule a d x body in left r.0.0 r.0.1 0 Nowhere (areas r.1 a.undo a.status) d

abbrev pub update_leaves : Areas → Desk → ℕ → ℕ → List ℕ → Left
update_leaves a d x row body = let r = update_rule a d x row body in bare r.0.0 r.1 r.0.1

abbrev pub delete_leaves : Areas → Desk → ℕ → ℕ → Left
delete_leaves a d x row = let r = delete_rule a d x row in bare r.0.0 (areas r.1 a.undo a.status) r.0.1

abbrev pub read_leaves : Areas → Desk → ℕ → ℕ → Left
read_leaves a d x row = let r = read_rule a d x row in left r.0 r.2 0 r.1 a d

abbrev pub sweep_leaves : Areas → Desk → ℕ → ℕ → Left
sweep_leaves a d first quota = let r = sweep_rule a d first quota in left r.0.0 r.0.1 r.0.2 Nowhere r.1 d
