-- Pages touched and counted ("01, The page"): what a store inside a record of a page leaves of all pages and of all other records, where
-- the page is then touched, or counted anew. Said once over the two, and over the kind of the area. Assumes nothing.
use mathlib.Core.Path.{◌≡◌, refl, sym, subst, ◌∙◌}
use mathlib.Core.Bool.{Bool, true, false}
use mathlib.Core.List.{List}
use Prim.Native.Nat.{ℕ, ◌+◌, ◌-◌, ◌*◌, ◌/◌, ◌^◌, ◌≤◌, ◌<◌}
use native.Mathlib.Nat.{div-lt_iff_lt-mul}
use native.Mathlib.Omega.{arith}
use lib.ListN.{length}
use lib.Dec.{eqb}
use borrow.Author.Tests.{eqb-true, eqb-false}
use Rattle.little.specs.Little.{part}
use Rattle.kind.specs.declared.Kind.{Kind}
use Rattle.kind.specs.Kind.{pages, data_kind, undo_kind}
use Rattle.kind.proofs.Places.{Lie, Within, length_within}
use Rattle.records.proofs.Slots.{slots_lie}
use Rattle.records.proofs.Entries.{entries_lie}
use Rattle.page.specs.Header.{page_at}
use Rattle.page.specs.Count.{counted, touched}
use Rattle.page.proofs.Stored.{Stored, stored_counted, stored_touched, record_at_stored_other, page_at_stored_other}
use Rattle.traces.specs.Traces.{Touched, Counted, TouchedAt}
use Rattle.page.proofs.Touches.{record_at_page, part_within, part_within_behind, items_counted, part_counted_before, part_counted_after, number_touched, items_touched, part_touched_before, part_touched_between, part_touched_after}

-- ---- a kind of area whose records lie in their page, and few enough to be counted in two bytes

pub record Held (k : Kind) : Type 0 where
  pub lie : Lie 8192 k.size k.count
  pub few : k.count < 65536
  pub last : 48 + k.count * k.size ≤ k.free
  pub free : k.free ≤ 8192

pub data_held : Held data_kind
data_held = record { lie = slots_lie; few = omega arith; last = omega arith; free = omega arith }

pub undo_held : Held undo_kind
undo_held = record { lie = entries_lie; few = omega arith; last = omega arith; free = omega arith }

-- ---- a way to mark page p of an area once something is stored in it: R is what then becomes of that page

pub record Marks (k : Kind) (R : List ℕ → List ℕ → Type 0) (mark : ℕ → List ℕ → List ℕ) : Type 0 where
  pub held : Held k
  pub stores : {r : ℕ} {s y : List ℕ} → Within 8192 k.size k.count r s y → Stored k.size k.count r s (mark (r / k.count) y)
  pub marks : {r : ℕ} {s y : List ℕ} → Within 8192 k.size k.count r s y → (p : ℕ) → p * 8192 + 8192 ≤ length y
      → R (page_at p s) (page_at p (mark p y))
  pub again : {x y z : List ℕ} → R x y → R y z → R x z

module _ (k : Kind) (held : Held k) where
  tail : {r : ℕ} {s y : List ℕ} → Within 8192 k.size k.count r s y → (p : ℕ)
      → part k.free (8192 - k.free) (page_at p y) ≡ part k.free (8192 - k.free) (page_at p s)
  tail w p = part_within_behind held.lie w p k.free (8192 - k.free) held.last (omega (arith, held.free))

  -- "sweeping touches pages alike but leaves txn_id"
  pub counting : Marks k (Counted k) (counted k)
  counting =
      record {
        held = held;
        stores = λ w. stored_counted held.lie w k;
        marks = λ {r} {s} {y} w p inside.
            record {
              count = items_counted k p y held.few inside;
              front = part_counted_before k p y 0 38 (omega arith) ∙ part_within held.lie w p 0 38 (omega arith);
              back = part_counted_after k p y 40 8 (omega arith) ∙ part_within held.lie w p 40 8 (omega arith);
              behind = part_counted_after k p y k.free (8192 - k.free) (omega (arith, held.last)) ∙ tail w p;
            };
        again = λ a b. record { count = b.count; front = b.front ∙ a.front; back = b.back ∙ a.back; behind = b.behind ∙ a.behind };
      }

  -- "is touched and gets the session's number as txn_id"
  pub touching : (n : ℕ) → n < 2 ^ 64 → Marks k (Touched k n) (λ (p : ℕ) (s : List ℕ). touched k p n s)
  touching n fits =
      record {
        held = held;
        stores = λ w. stored_touched held.lie w k n;
        marks = λ {r} {s} {y} w p inside.
            record {
              number = number_touched k p y n fits inside;
              items = items_touched k p y n held.few inside;
              front = part_touched_before k p y n 0 8 (omega arith) ∙ part_within held.lie w p 0 8 (omega arith);
              middle = part_touched_between k p y n 16 22 (omega arith) (omega arith) ∙ part_within held.lie w p 16 22 (omega arith);
              back = part_touched_after k p y n 40 8 (omega arith) ∙ part_within held.lie w p 40 8 (omega arith);
              behind = part_touched_after k p y n k.free (8192 - k.free) (omega (arith, held.last)) ∙ tail w p;
            };
        again = λ a b.
            record { number = b.number; items = b.items; front = b.front ∙ a.front; middle = b.middle ∙ a.middle; back = b.back ∙ a.back; behind = b.behind ∙ a.behind };
      }

-- ---- a store inside record r, and its page then marked

module _ {k : Kind} {R : List ℕ → List ℕ → Type 0} {mark : ℕ → List ℕ → List ℕ} (m : Marks k R mark) {r : ℕ} {s y : List ℕ}
    (inside : r < pages s * k.count) (w : Within 8192 k.size k.count r s y)
  where
    abbrev lie : Lie 8192 k.size k.count
    lie = m.held.lie

    abbrev left : List ℕ
    left = mark (r / k.count) y

    here : R (page_at (r / k.count) s) (page_at (r / k.count) left)
    here =
        let home : r / k.count < pages s = (div-lt_iff_lt-mul {k = k.count} {x = r} {y = pages s} lie.some).1 inside in
        m.marks w (r / k.count) (omega (arith, length_within lie w))

    others : (p : ℕ) → (p ≡ r / k.count → ⊥) → page_at p left ≡ page_at p s
    others = page_at_stored_other lie (m.stores w)

    -- a page that changed is the one that was marked, and a record that changed lies in it
    changed : (p : ℕ) → (page_at p left ≡ page_at p s → ⊥) → R (page_at p s) (page_at p left)
    changed p differs = by (eqb p (r / k.count)) refl
      where
        by : (b : Bool) → eqb p (r / k.count) ≡ b → R (page_at p s) (page_at p left)
        by true e = subst (λ (q : ℕ). R (page_at q s) (page_at q left)) (sym (eqb-true p (r / k.count) e)) here
        by false e = absurd (differs (others p (eqb-false p (r / k.count) e)))

    pub stored_at : TouchedAt k R r s (mark (r / k.count) y)
    stored_at =
        record {
          here = here;
          pages = others;
          records = record_at_stored_other lie (m.stores w);
          changed = changed;
          written = λ t differs. changed (t / k.count) (λ same. differs (record_at_page lie t s left same));
        }
