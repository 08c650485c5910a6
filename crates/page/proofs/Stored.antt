-- A store inside a record whose page is then touched, or counted anew ("01, The page"): every other record, every other page and the length
-- are as they were. Said once, over the record size, for all who write slots and entries. Assumes nothing.
use mathlib.Core.Path.{◌≡◌, ◌∙◌}
use mathlib.Core.List.{List}
use Prim.Native.Nat.{ℕ, ◌/◌}
use lib.ListN.{length}
use Rattle.kind.specs.declared.Kind.{Kind}
use Rattle.kind.specs.Place.{record_at}
use Rattle.kind.proofs.Places.{Lie, Within, within_other, within_page, length_within}
use Rattle.records.specs.Slot.{slot_at, body_at}
use Rattle.records.specs.Entry.{entry_at, copy_body_at}
use Rattle.records.proofs.Slots.{slots_lie, slot_at_same, body_at_same}
use Rattle.records.proofs.Entries.{entries_lie, entry_at_same, copy_body_at_same}
use Rattle.page.specs.Header.{page_at}
use Rattle.page.specs.Count.{counted, touched}
use Rattle.page.proofs.Counts.{length_counted, length_touched, record_at_counted, record_at_touched}
use Rattle.page.proofs.Touches.{page_at_counted_other, page_at_touched_other}

-- z is s with some bytes of record r stored, and then its page touched or counted anew. Of that step only this is needed: it leaves
-- every record, the other pages and the length
pub record Stored (size count r : ℕ) (s z : List ℕ) : Type 0 where
  pub stored : List ℕ
  pub within : Within 8192 size count r s stored
  pub long : length z ≡ length stored
  pub records : (t : ℕ) → record_at 8192 size count t z ≡ record_at 8192 size count t stored
  pub pages : (p : ℕ) → (p ≡ r / count → ⊥) → page_at p z ≡ page_at p stored

module _ {size count r : ℕ} {s y : List ℕ} (lie : Lie 8192 size count) (w : Within 8192 size count r s y) (k : Kind) where
  pub stored_counted : Stored size count r s (counted k (r / count) y)
  stored_counted =
      record {
        stored = y;
        within = w;
        long = length_counted k (r / count) y;
        records = λ t. record_at_counted lie k (r / count) t y;
        pages = page_at_counted_other k (r / count) y;
      }

  pub stored_touched : (txn : ℕ) → Stored size count r s (touched k (r / count) txn y)
  stored_touched txn =
      record {
        stored = y;
        within = w;
        long = length_touched k (r / count) txn y;
        records = λ t. record_at_touched lie k (r / count) t y txn;
        pages = page_at_touched_other k (r / count) y txn;
      }

module _ {size count r : ℕ} {s z : List ℕ} (lie : Lie 8192 size count) (w : Stored size count r s z) where
  pub length_stored : length z ≡ length s
  length_stored = w.long ∙ length_within lie w.within

  -- another record
  pub record_at_stored_other : (t : ℕ) → (t ≡ r → ⊥) → record_at 8192 size count t z ≡ record_at 8192 size count t s
  record_at_stored_other t ne = w.records t ∙ within_other lie w.within t ne

  -- "is touched": a page that is not keeps every byte
  pub page_at_stored_other : (p : ℕ) → (p ≡ r / count → ⊥) → page_at p z ≡ page_at p s
  unfolding page_at
  page_at_stored_other p ne = w.pages p ne ∙ within_page lie w.within p ne

abbrev pub StoredSlot : ℕ → List ℕ → List ℕ → Type 0
StoredSlot = Stored 64 127

abbrev pub StoredEntry : ℕ → List ℕ → List ℕ → Type 0
StoredEntry = Stored 80 101

-- another row is as it was
module _ {r : ℕ} {d z : List ℕ} (w : StoredSlot r d z) (t : ℕ) (ne : t ≡ r → ⊥) where
  pub slot_at_stored_other : slot_at t z ≡ slot_at t d
  slot_at_stored_other = slot_at_same d z t (record_at_stored_other slots_lie w t ne)

  pub body_at_stored_other : body_at t z ≡ body_at t d
  body_at_stored_other = body_at_same d z t (record_at_stored_other slots_lie w t ne)

-- another entry is as it was
module _ {e : ℕ} {u z : List ℕ} (w : StoredEntry e u z) (t : ℕ) (ne : t ≡ e → ⊥) where
  pub entry_at_stored_other : entry_at t z ≡ entry_at t u
  entry_at_stored_other = entry_at_same u z t (record_at_stored_other entries_lie w t ne)

  pub copy_body_at_stored_other : copy_body_at t z ≡ copy_body_at t u
  copy_body_at_stored_other = copy_body_at_same u z t (record_at_stored_other entries_lie w t ne)
