-- The gauge pieces P1 to P12 ("01, Gauge pieces") of the rules themselves: "a single list under one claim". Where a piece does not depend on
-- the status page, it is said of every one. Assumes nothing.
use Rattle.std.specs.Prelude.{◌≡◌, true, false, List, [], ◌∷◌, ℕ, ◌+◌, replicate}
use Rattle.kind.specs.Kind.{page_size, header_size}
use Rattle.kind.specs.Areas.{Areas, bad_length, Both, both}
use Rattle.records.specs.Slot.{slot_place}
use Rattle.status.specs.declared.Status.TheVariants.{Committed}
use Rattle.status.specs.Status.{status_place, status_shift, status_at}
use Rattle.pointer.specs.Pointer.{pointer_to}
use Rattle.desk.specs.declared.Desk.{Desk}
use Rattle.desk.specs.View.{View}
use Rattle.desk.specs.Desk.{fresh_desk}
use Rattle.desk.specs.Turns.{mark}
use Rattle.sight.specs.declared.Stamp.{Stamp}
use Rattle.sight.specs.Sight.{there}
use Rattle.sight.specs.Conflict.{conflict_of}
use Rattle.chain.specs.Chain.{Version, chain_of}
use Rattle.chain.specs.Walk.{stamp_of}
use Rattle.trimming.specs.Trimming.{swept_at, cut_at, swept_row, gone_row}
use Rattle.turns.specs.Turns.{next_rule}

-- session 7 in statement k, with nobody in its list
abbrev pub seven : ℕ → View
seven k = record { number = 7; statement = k; list = replicate 15 0 }

-- a desk with one session, number 1, in statement k
abbrev pub one_open : ℕ → Desk
one_open k = record { next = 2; numbers = 1 ∷ replicate 15 0; statements = k ∷ replicate 15 0; marks = replicate 16 0; lists = replicate 240 0 }

-- P9's desk: session 6 with list {5}, next 7
abbrev pub six : Desk
six = record { next = 7; numbers = 6 ∷ replicate 15 0; statements = replicate 16 0; marks = replicate 16 0; lists = 5 ∷ replicate 239 0 }

-- an insert of session 7 in statement 3, its update of an own version of statement 2, and a version that 5 ended
abbrev pub inserted : Stamp
inserted = record { create = 7; expire = 0; cmd = 3; expire_cmd = 0 }

abbrev pub replaced : Stamp
replaced = record { create = 7; expire = 7; cmd = 2; expire_cmd = 3 }

abbrev pub ended_by_five : Stamp
ended_by_five = record { create = 4; expire = 5; cmd = 0; expire_cmd = 0 }

-- row r of these areas has two versions: the newer one, which nobody ended, and "version expired by 5"
pub record TwoVersions (r : ℕ) (p : Both) (newer older : Version) : Type 0 where
  pub chain : (chain_of p.«data» p.undo r).versions ≡ newer ∷ older ∷ []
  pub unended : newer.slot.expire ≡ 0
  pub expired : stamp_of older.slot ≡ ended_by_five

pub record Gauge : Type 0 where
  -- "P1 status of 32,575: byte 8,191, shift 6. P2 of 5: byte 49, shift 2"
  pub p1 : (status_place page_size 32575 ≡ 8191) × (status_shift 32575 ≡ 6)
  pub p2 : (status_place page_size 5 ≡ 49) × (status_shift 5 ≡ 2)
  -- "P3 pointer to page 2, offset 128: 288230376185298944": entry 102 is the second of the second page
  pub p3 : pointer_to 102 ≡ 288230376185298944
  -- "P4 row 127 is page 2, slot 0": it begins behind the first page and the second one's header
  pub p4 : slot_place 127 ≡ page_size + header_size
  -- "P5 own insert isn't there in its own statement. P6 it is there in the next"
  pub p5 : (s : List ℕ) → there (seven 3) s inserted ≡ false
  pub p6 : (s : List ℕ) → there (seven 4) s inserted ≡ true
  -- "P7 own delete still shows in its statement"
  pub p7 : (s : List ℕ) → there (seven 3) s replaced ≡ true
  -- "P8 a second update in one statement: 8": the replaced version is there, so 7 is passed, and the slot says 8
  pub p8 : (s : List ℕ) → (there (seven 3) s replaced ≡ true) × (conflict_of (seven 3) s inserted ≡ 8)
  -- "P9 session 6 with list {5}, version expired by 5, 5 committed: mark 5, the version stays": the sweep leaves the row as it is
  pub p9 : (s : List ℕ) → status_at 5 s ≡ Committed → (mark six ≡ 5)
      × ((r : ℕ) (p : Both) (newer older : Version) → TwoVersions r p newer older
      → (swept_row (mark six) s r p ≡ p) × (gone_row (mark six) s r p ≡ 0))
  -- "P10 no session open, next 6: it goes": its entry is freed, the newer version's pointer becomes 0, and 1 version is removed
  pub p10 : (s : List ℕ) → status_at 5 s ≡ Committed → (mark (fresh_desk 6) ≡ 6)
      × ((r : ℕ) (p : Both) (newer older : Version) → TwoVersions r p newer older
      → (swept_row (mark (fresh_desk 6)) s r p ≡ cut_at newer.place newer.slot (both p.«data» (swept_at older.place p.undo)))
      × (gone_row (mark (fresh_desk 6)) s r p ≡ 1))
  -- "P11 statement 65,534 moves on. P12 65,535 is refused"
  pub p11 : (a : Areas) → bad_length a ≡ false → next_rule a (one_open 65534) 1 ≡ (0, one_open 65535)
  pub p12 : (a : Areas) → bad_length a ≡ false → next_rule a (one_open 65535) 1 ≡ (14, one_open 65535)
