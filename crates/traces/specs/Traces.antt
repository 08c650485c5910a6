-- What the calls that write leave of the bytes of the areas ("01, The page", "01, Writes, withdrawal, sweep"): which txn_id and which
-- item_count a touched page gets, and that every other byte stays, of pages, of slots and of undo entries. These are the statements;
-- proofs/ has their proofs. Assumes nothing.
use Rattle.std.specs.Prelude.{ℕ, ◌+◌, ◌-◌, ◌/◌, ◌≤◌, ◌<◌, ◌≡◌, ◌⊎◌, List, [], ◌∷◌, ◌++◌, replicate}
use Rattle.std.proofs.lemmas.List.Edits.{sets}
use Rattle.little.specs.Little.{part, bytes_of, Bytes}
use Rattle.desk.specs.declared.Desk.{Desk}
use Rattle.desk.specs.Turns.{mark}
use Rattle.kind.specs.declared.Kind.{Kind}
use Rattle.kind.specs.Kind.{page_size, data_kind, undo_kind}
use Rattle.kind.specs.Areas.{Areas, both}
use Rattle.kind.specs.Place.{record_at}
use Rattle.records.specs.Slot.{slot_fields, slot_at, slot_bytes, body_at}
use Rattle.records.specs.Entry.{entry_fields, entry_at, entry_bytes}
use Rattle.page.specs.Header.{page_at, field_in, txn_id, item_count}
use Rattle.page.specs.Count.{items_in}
use Rattle.chain.specs.declared.Place.TheVariants.{Undo}
use Rattle.chain.specs.Chain.{Version, chain_of}
use Rattle.pointer.specs.Pointer.{pointer_to}
use Rattle.writing.specs.Writing.{made, expired, kept}
use Rattle.vacant.specs.Vacant.{lowest_empty, lowest_free}
use Rattle.trimming.specs.Trimming.{gone_row}
use Rattle.undoing.specs.Undoing.{withdraw_refusal, withdraw_rule}
use Rattle.sweeping.specs.Sweeping.{treated, sweep_refusal, sweep_rule}
use Rattle.turns.specs.Turns.{begin_refusal, begin_rule, commit_refusal, commit_rule}
use Rattle.rows.specs.Rows.{view_in, insert_refusal, insert_rule, update_refusal, update_rule, delete_refusal, delete_rule}

-- ---- a page before and after

-- "is touched and gets the session's number as txn_id .. item_count [is set] to its slots with create not 0, or its entries with writer
-- not 0": session n touched a page of kind k. Bytes 0 to 7, 16 to 37 and 40 to 47 of the header stay, and so do the bytes behind the last
-- record
pub record Touched (k : Kind) (n : ℕ) (page page' : List ℕ) : Type 0 where
  pub number : field_in txn_id page' ≡ n
  pub items : field_in item_count page' ≡ items_in k page'
  pub front : part 0 8 page' ≡ part 0 8 page
  pub middle : part 16 22 page' ≡ part 16 22 page
  pub back : part 40 8 page' ≡ part 40 8 page
  pub behind : part k.free (page_size - k.free) page' ≡ part k.free (page_size - k.free) page

-- "sweeping touches pages alike but leaves txn_id": bytes 0 to 37 and 40 to 47 of the header stay, and those behind the
-- last record
pub record Counted (k : Kind) (page page' : List ℕ) : Type 0 where
  pub count : field_in item_count page' ≡ items_in k page'
  pub front : part 0 38 page' ≡ part 0 38 page
  pub back : part 40 8 page' ≡ part 40 8 page
  pub behind : part k.free (page_size - k.free) page' ≡ part k.free (page_size - k.free) page

-- ---- an area before and after: s and s' are of kind k, and R says what becomes of a page that is touched

abbrev pub record_in : Kind → ℕ → List ℕ → List ℕ
record_in k t s = record_at page_size k.size k.count t s

-- each page keeps every byte or is touched, so where a byte of it changed it is touched; it keeps every byte where each of its records
-- does, and is touched where one of them does not
pub record Traced (k : Kind) (R : List ℕ → List ℕ → Type 0) (s s' : List ℕ) : Type 0 where
  pub pages : (p : ℕ) → (page_at p s' ≡ page_at p s) ⊎ R (page_at p s) (page_at p s')
  pub changed : (p : ℕ) → (page_at p s' ≡ page_at p s → ⊥) → R (page_at p s) (page_at p s')
  pub unwritten : (p : ℕ) → ((t : ℕ) → t / k.count ≡ p → record_in k t s' ≡ record_in k t s) → page_at p s' ≡ page_at p s
  pub written : (t : ℕ) → (record_in k t s' ≡ record_in k t s → ⊥) → R (page_at (t / k.count) s) (page_at (t / k.count) s')

-- the page of record r is touched, every other page keeps every byte, and so does every other record; so where a byte of a page or of a
-- record of it changed, the page is touched
pub record TouchedAt (k : Kind) (R : List ℕ → List ℕ → Type 0) (r : ℕ) (s s' : List ℕ) : Type 0 where
  pub here : R (page_at (r / k.count) s) (page_at (r / k.count) s')
  pub pages : (p : ℕ) → (p ≡ r / k.count → ⊥) → page_at p s' ≡ page_at p s
  pub records : (t : ℕ) → (t ≡ r → ⊥) → record_in k t s' ≡ record_in k t s
  pub changed : (p : ℕ) → (page_at p s' ≡ page_at p s → ⊥) → R (page_at p s) (page_at p s')
  pub written : (t : ℕ) → (record_in k t s' ≡ record_in k t s → ⊥) → R (page_at (t / k.count) s) (page_at (t / k.count) s')

-- ---- insert, update, delete

-- an accepted insert writes in the page of the row that it takes, and in no other
abbrev pub InsertTouches : Type 0
InsertTouches = (a : Areas) (d : Desk) (x : ℕ) (body : List ℕ) → insert_refusal a d x body ≡ 0
    → TouchedAt data_kind (Touched data_kind x) (lowest_empty a.«data») a.«data» (insert_rule a d x body).1

-- an accepted delete in that of the row
abbrev pub DeleteTouches : Type 0
DeleteTouches = (a : Areas) (d : Desk) (x r : ℕ) → delete_refusal a d x r ≡ 0
    → TouchedAt data_kind (Touched data_kind x) r a.«data» (delete_rule a d x r).1

-- an accepted update in that of the row and in that of the entry that it takes
abbrev pub UpdateTouches : Type 0
UpdateTouches = (a : Areas) (d : Desk) (x r : ℕ) (body : List ℕ) → update_refusal a d x r body ≡ 0
    → TouchedAt data_kind (Touched data_kind x) r a.«data» (update_rule a d x r body).1.«data»
    × TouchedAt undo_kind (Touched undo_kind x) (lowest_free a.undo) a.undo (update_rule a d x r body).1.undo
    × ((update_rule a d x r body).1.status ≡ a.status)

-- what they write: all 64 bytes of the slot, and all 80 of the entry, its zero among them

-- "create = S, cmd = its statement, other metadata 0", then the body
abbrev pub InsertBytes : Type 0
InsertBytes = (a : Areas) (d : Desk) (x : ℕ) (body : List ℕ) → insert_refusal a d x body ≡ 0
    → slot_bytes (lowest_empty a.«data») (insert_rule a d x body).1 ≡ bytes_of (slot_fields (made x (view_in d x).statement 0)) ++ body

-- "Delete sets expire and expire_cmd", and the body stays
abbrev pub DeleteBytes : Type 0
DeleteBytes = (a : Areas) (d : Desk) (x r : ℕ) → delete_refusal a d x r ≡ 0
    → slot_bytes r (delete_rule a d x r).1
    ≡ bytes_of (slot_fields (expired x (view_in d x).statement (slot_at r a.«data»))) ++ body_at r a.«data»

-- "Update copies the slot to the lowest free entry", with its body; the slot then has "a pointer to the entry" and "the new body"
abbrev pub UpdateBytes : Type 0
UpdateBytes = (a : Areas) (d : Desk) (x r : ℕ) (body : List ℕ) → update_refusal a d x r body ≡ 0
    → (slot_bytes r (update_rule a d x r body).1.«data»
    ≡ bytes_of (slot_fields (made x (view_in d x).statement (pointer_to (lowest_free a.undo)))) ++ body)
    × (entry_bytes (lowest_free a.undo) (update_rule a d x r body).1.undo
    ≡ bytes_of (entry_fields (kept x (view_in d x).statement r (slot_at r a.«data»))) ++ body_at r a.«data»)

-- ---- what the sweep and withdraw make of records

-- a record of n bytes is emptied or freed: "Whatever is emptied or freed becomes all zeros"
abbrev pub Zeros : ℕ → List ℕ → Type 0
Zeros n y = y ≡ replicate n 0

-- by the sweep it is, or "the newer version's pointer becomes 0", and nothing else: the eight bytes at `at`
abbrev pub SweptBytes : ℕ → ℕ → List ℕ → List ℕ → Type 0
SweptBytes n at x y = Zeros n y ⊎ (y ≡ sets x at (replicate 8 0))

-- what is emptied and what is freed, from areas a to areas a'
pub record Cleared (a a' : Areas) : Type 0 where
  pub emptied : (t : ℕ) → ((slot_at t a.«data»).create ≡ 0 → ⊥) → (slot_at t a'.«data»).create ≡ 0 → Zeros 64 (slot_bytes t a'.«data»)
  pub freed : (e : ℕ) → ((entry_at e a.undo).writer ≡ 0 → ⊥) → (entry_at e a'.undo).writer ≡ 0 → Zeros 80 (entry_bytes e a'.undo)

-- ---- sweep

-- entry e holds one of the versions xs
abbrev pub HoldsOne : ℕ → List Version → Type 0
HoldsOne e [] = ⊥
HoldsOne e (x ∷ xs) = (x.place ≡ Undo e) ⊎ HoldsOne e xs

-- what is lent are bytes
pub record Lent (a : Areas) : Type 0 where
  pub «data» : Bytes a.«data»
  pub undo : Bytes a.undo

-- row t is not treated, or nothing goes from it
abbrev pub Spared : Areas → Desk → ℕ → ℕ → ℕ → Type 0
Spared a d first quota t =
    ((t < first) ⊎ (first + treated a.«data» first quota ≤ t)) ⊎ (gone_row (mark d) a.status t (both a.«data» a.undo) ≡ 0)

-- "All other rows .. keep their bytes": the 64 bytes of their slots
abbrev pub SweepSlots : Type 0
SweepSlots = (a : Areas) (d : Desk) (first quota : ℕ) → Lent a → sweep_refusal a d first quota ≡ 0
    → (t : ℕ) → Spared a d first quota t
    → slot_bytes t (sweep_rule a d first quota).1.«data» ≡ slot_bytes t a.«data»

-- an entry keeps its 80 bytes where it holds no version of a treated row from which something goes
abbrev pub SweepEntries : Type 0
SweepEntries = (a : Areas) (d : Desk) (first quota : ℕ) → Lent a → sweep_refusal a d first quota ≡ 0
    → (e : ℕ) → ((t : ℕ) → HoldsOne e (chain_of a.«data» a.undo t).versions → Spared a d first quota t)
    → entry_bytes e (sweep_rule a d first quota).1.undo ≡ entry_bytes e a.undo

-- "and the entries of other rows, keep their bytes": entries that are free, or say a row that is not treated or from which nothing goes
abbrev pub SweepOthers : Type 0
SweepOthers = (a : Areas) (d : Desk) (first quota : ℕ) → Lent a → sweep_refusal a d first quota ≡ 0
    → (e : ℕ) → ((entry_at e a.undo).writer ≡ 0) ⊎ Spared a d first quota (entry_at e a.undo).row
    → entry_bytes e (sweep_rule a d first quota).1.undo ≡ entry_bytes e a.undo

-- a slot keeps its bytes, or is emptied, or loses its pointer; an entry keeps its bytes, or is freed, or its copy loses its pointer
abbrev pub SweepRecords : Type 0
SweepRecords = (a : Areas) (d : Desk) (first quota : ℕ) → Lent a → sweep_refusal a d first quota ≡ 0
    → ((t : ℕ)
    → (slot_bytes t (sweep_rule a d first quota).1.«data» ≡ slot_bytes t a.«data»)
    ⊎ SweptBytes 64 16 (slot_bytes t a.«data») (slot_bytes t (sweep_rule a d first quota).1.«data»))
    × ((e : ℕ)
    → (entry_bytes e (sweep_rule a d first quota).1.undo ≡ entry_bytes e a.undo)
    ⊎ SweptBytes 80 32 (entry_bytes e a.undo) (entry_bytes e (sweep_rule a d first quota).1.undo))
    × Cleared a (sweep_rule a d first quota).1

-- "sweeping touches pages alike but leaves txn_id": a page in which nothing is written keeps every byte, and any other is counted anew
abbrev pub SweepPages : Type 0
SweepPages = (a : Areas) (d : Desk) (first quota : ℕ) → Lent a → sweep_refusal a d first quota ≡ 0
    → Traced data_kind (Counted data_kind) a.«data» (sweep_rule a d first quota).1.«data»
    × Traced undo_kind (Counted undo_kind) a.undo (sweep_rule a d first quota).1.undo
    × ((sweep_rule a d first quota).1.status ≡ a.status)

-- ---- withdraw

-- the 64 bytes of a slot stay where S neither created nor ended what stands there
abbrev pub WithdrawSlots : Type 0
WithdrawSlots = (a : Areas) (d : Desk) (x : ℕ) → Lent a → withdraw_refusal a d x ≡ 0
    → (t : ℕ) → ((slot_at t a.«data»).create ≡ x → ⊥) → ((slot_at t a.«data»).create ≡ 0) ⊎ ((slot_at t a.«data»).expire ≡ x → ⊥)
    → slot_bytes t (withdraw_rule a d x).1.«data» ≡ slot_bytes t a.«data»

-- the 80 bytes of an entry stay where it holds no version of a row whose slot S created
abbrev pub WithdrawEntries : Type 0
WithdrawEntries = (a : Areas) (d : Desk) (x : ℕ) → Lent a → withdraw_refusal a d x ≡ 0
    → (e : ℕ) → ((t : ℕ) → HoldsOne e (chain_of a.«data» a.undo t).versions → (slot_at t a.«data»).create ≡ x → ⊥)
    → entry_bytes e (withdraw_rule a d x).1.undo ≡ entry_bytes e a.undo

-- so where it is free, or says a row whose slot S did not create
abbrev pub WithdrawOthers : Type 0
WithdrawOthers = (a : Areas) (d : Desk) (x : ℕ) → Lent a → withdraw_refusal a d x ≡ 0
    → (e : ℕ) → ((entry_at e a.undo).writer ≡ 0) ⊎ ((slot_at (entry_at e a.undo).row a.«data»).create ≡ x → ⊥)
    → entry_bytes e (withdraw_rule a d x).1.undo ≡ entry_bytes e a.undo

-- an entry keeps its bytes or is freed, and what is emptied or freed becomes all zeros
abbrev pub WithdrawRecords : Type 0
WithdrawRecords = (a : Areas) (d : Desk) (x : ℕ) → Lent a → withdraw_refusal a d x ≡ 0
    → ((e : ℕ) → (entry_bytes e (withdraw_rule a d x).1.undo ≡ entry_bytes e a.undo) ⊎ Zeros 80 (entry_bytes e (withdraw_rule a d x).1.undo))
    × Cleared a (withdraw_rule a d x).1

-- a page in which nothing is written keeps every byte, and any other is touched
abbrev pub WithdrawPages : Type 0
WithdrawPages = (a : Areas) (d : Desk) (x : ℕ) → Lent a → withdraw_refusal a d x ≡ 0
    → Traced data_kind (Touched data_kind x) a.«data» (withdraw_rule a d x).1.«data»
    × Traced undo_kind (Touched undo_kind x) a.undo (withdraw_rule a d x).1.undo

-- ---- the status page

-- "The status page's txn_id is the highest number handed out; begin writes it": and no other byte of the header, so its item_count stays
abbrev pub BeginHeader : Type 0
BeginHeader = (a : Areas) (d : Desk) → begin_refusal a d ≡ 0
    → (field_in txn_id (page_at 0 (begin_rule a d).1) ≡ d.next)
    × (part 0 8 (page_at 0 (begin_rule a d).1) ≡ part 0 8 (page_at 0 a.status))
    × (part 16 32 (page_at 0 (begin_rule a d).1) ≡ part 16 32 (page_at 0 a.status))

-- commit and withdraw write no byte of the header
abbrev pub CommitHeader : Type 0
CommitHeader = (a : Areas) (d : Desk) (x : ℕ) → commit_refusal a d x ≡ 0
    → part 0 48 (page_at 0 (commit_rule a d x).1) ≡ part 0 48 (page_at 0 a.status)

abbrev pub WithdrawHeader : Type 0
WithdrawHeader = (a : Areas) (d : Desk) (x : ℕ) → withdraw_refusal a d x ≡ 0
    → part 0 48 (page_at 0 (withdraw_rule a d x).1.status) ≡ part 0 48 (page_at 0 a.status)
