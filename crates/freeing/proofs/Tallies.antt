-- What counting at the end makes of an area: it leaves the records and the length; and where a page's flag is set with a store into one
-- of its records, it comes to the same as counting that page at once. Assumes nothing.
use mathlib.Core.Path.{◌≡◌, refl, sym, ap, ap₂, subst, ◌∙◌}
use mathlib.Core.Logic.{⊎_elim}
use mathlib.Core.Bool.{Bool, true, false, cond}
use mathlib.Core.List.{List}
use Prim.Native.Nat.{ℕ, zero, suc, ◌+◌, ◌/◌, ◌≤◌, ◌<◌}
use native.Mathlib.Nat.{not-suc-le-zero, eq-or-lt_of_le, le_of_suc-le-suc}
use native.Mathlib.Numerals.{add-one}
use native.Mathlib.Omega.{arith}
use lib.ListN.{length, get_or, set}
use lib.Seq.{get_or-set_same, get_or-set_other}
use lib.Dec.{eqb}
use borrow.Author.Tests.{eq-eqb, ne_eqb}
use Rattle.little.specs.Little.{Bytes}
use Rattle.kind.specs.declared.Kind.{Kind}
use Rattle.kind.specs.Kind.{data_kind, undo_kind, pages, rows, entries}
use Rattle.kind.specs.Place.{record_at}
use Rattle.kind.proofs.Places.{Lie, length_within}
use Rattle.records.specs.declared.slot.Slot.{Slot}
use Rattle.records.specs.Slot.{slot_at, put_meta, clear_slot}
use Rattle.records.specs.Entry.{entry_at, put_copy, clear_entry}
use Rattle.records.proofs.Slots.{slots_lie, slot_at_same}
use Rattle.records.proofs.Entries.{entries_lie, entry_at_same}
use Rattle.page.specs.Count.{counted}
use Rattle.page.proofs.Counts.{length_counted, bytes_counted, record_at_counted}
use Rattle.page.proofs.Anew.{Writes, writes_within, counted_comm, counted_writes_other, counted_writes_same, clear_slot_writes, put_meta_writes, clear_entry_writes, put_copy_writes}
use Rattle.freeing.specs.Freeing.{swept_slot, swept_entry, cut_slot, cut_copy}
use Rattle.freeing.specs.Tally.{tallied_to, tallied}

-- ---- page after page

module _ {x y : List ℕ} (k : Kind) (due s : List ℕ) (n : ℕ) (front : x ≡ tallied_to k due n s) where
  -- a page whose count is due, and one whose count is not
  pub tally_counts : (get_or due n 0 ≡ 0 → ⊥) → y ≡ counted k n x → y ≡ tallied_to k due (n + 1) s
  unfolding tallied_to
  tally_counts h is = rw (add-one, ne_eqb (get_or due n 0) 0 h) (is ∙ ap (counted k n) front)

  pub tally_passes : get_or due n 0 ≡ 0 → y ≡ x → y ≡ tallied_to k due (n + 1) s
  unfolding tallied_to
  tally_passes h is = rw (add-one, eq-eqb (get_or due n 0) 0 h) (is ∙ front)

pub tally_ends : {x : List ℕ} (k : Kind) (due s : List ℕ) (n : ℕ) → x ≡ tallied_to k due n s → n ≡ pages s → x ≡ tallied k due s
unfolding tallied
tally_ends k due s n is all = is ∙ ap (λ (m : ℕ). tallied_to k due m s) all

-- ---- what stays

module _ (k : Kind) (due : List ℕ) where
  -- whatever a count leaves
  tallied_to_keeps : (P : List ℕ → Type 0) → ((p : ℕ) (x : List ℕ) → P x → P (counted k p x)) → (n : ℕ) (s : List ℕ) → P s → P (tallied_to k due n s)
  unfolding tallied_to
  tallied_to_keeps P step zero s h = h
  tallied_to_keeps P step (suc n) s h = by (eqb (get_or due n 0) 0) (tallied_to_keeps P step n s h)
    where
      by : (b : Bool) → P (tallied_to k due n s) → P (cond b (tallied_to k due n s) (counted k n (tallied_to k due n s)))
      by true q = q
      by false q = step n (tallied_to k due n s) q

  pub length_tallied_to : (n : ℕ) (s : List ℕ) → length (tallied_to k due n s) ≡ length s
  length_tallied_to n s = tallied_to_keeps (λ (x : List ℕ). length x ≡ length s) (λ p x h. length_counted k p x ∙ h) n s refl

  module _ (s : List ℕ) where
    tallied_keeps : (P : List ℕ → Type 0) → ((p : ℕ) (x : List ℕ) → P x → P (counted k p x)) → P s → P (tallied k due s)
    unfolding tallied
    tallied_keeps P step h = tallied_to_keeps P step (pages s) s h

    pub length_tallied : length (tallied k due s) ≡ length s
    unfolding tallied
    length_tallied = length_tallied_to (pages s) s

    record_at_tallied : {size count : ℕ} → Lie 8192 size count → (r : ℕ) → record_at 8192 size count r (tallied k due s) ≡ record_at 8192 size count r s
    record_at_tallied {size} {count} lie r =
        tallied_keeps (λ (x : List ℕ). record_at 8192 size count r x ≡ record_at 8192 size count r s) (λ p x h. record_at_counted lie k p r x ∙ h) refl

    pub slot_at_tallied : (r : ℕ) → slot_at r (tallied k due s) ≡ slot_at r s
    slot_at_tallied r = slot_at_same s (tallied k due s) r (record_at_tallied slots_lie r)

    pub entry_at_tallied : (e : ℕ) → entry_at e (tallied k due s) ≡ entry_at e s
    entry_at_tallied e = entry_at_same s (tallied k due s) e (record_at_tallied entries_lie e)

    pub bytes_tallied : Bytes s → Bytes (tallied k due s)
    bytes_tallied h = tallied_keeps Bytes (λ p x b. bytes_counted k p x b) h

    -- where no count is due, all
    pub tallied_none : ((p : ℕ) → get_or due p 0 ≡ 0) → tallied k due s ≡ s
    unfolding tallied tallied_to
    tallied_none none = upto (pages s)
      where
        upto : (n : ℕ) → tallied_to k due n s ≡ s
        upto zero = refl
        upto (suc n) = ap (λ (x : ℕ). cond (eqb x 0) (tallied_to k due n s) (counted k n (tallied_to k due n s))) (none n) ∙ upto n

-- ---- a store into record r, with the flag of its page set

module _ {size count r : ℕ} {f : List ℕ → List ℕ} (lie : Lie 8192 size count) (w : Writes size count r f) (k : Kind) (due s : List ℕ) where
  abbrev page : ℕ
  page = r / count

  abbrev more : List ℕ
  more = set due page 1

  flag_other : (n : ℕ) → (n ≡ page → ⊥) → get_or more n 0 ≡ get_or due n 0
  flag_other n ne = get_or-set_other due page n 1 0 ne

  -- the pages in front of it
  tally_front : (n : ℕ) → n ≤ page → tallied_to k more n (f s) ≡ f (tallied_to k due n s)
  unfolding tallied_to
  tally_front zero h = refl
  tally_front (suc n) h =
      ap (λ (x : ℕ). cond (eqb x 0) (tallied_to k more n (f s)) (counted k n (tallied_to k more n (f s)))) (flag_other n ne)
      ∙ by (eqb (get_or due n 0) 0) (tally_front n (omega arith))
    where
      ne : n ≡ page → ⊥
      ne e = omega arith

      by : (b : Bool) → tallied_to k more n (f s) ≡ f (tallied_to k due n s)
          → cond b (tallied_to k more n (f s)) (counted k n (tallied_to k more n (f s))) ≡ f (cond b (tallied_to k due n s) (counted k n (tallied_to k due n s)))
      by true e = e
      by false e = ap (counted k n) e ∙ counted_writes_other lie w k n (tallied_to k due n s) ne

  module _ (has : page < length due) where
    -- with itself
    tally_here : tallied_to k more (suc page) (f s) ≡ counted k page (f (tallied_to k due (suc page) s))
    unfolding tallied_to
    tally_here =
        ap (λ (x : ℕ). cond (eqb x 0) (tallied_to k more page (f s)) (counted k page (tallied_to k more page (f s)))) (get_or-set_same due page 1 0 has)
        ∙ ap (counted k page) (tally_front page (omega arith))
        ∙ by (eqb (get_or due page 0) 0)
      where
        by : (b : Bool)
            → counted k page (f (tallied_to k due page s))
            ≡ counted k page (f (cond b (tallied_to k due page s) (counted k page (tallied_to k due page s))))
        by true = refl
        by false = sym (counted_writes_same lie w k page (tallied_to k due page s))

    -- and with those behind it
    tally_through : (n : ℕ) → page < n → tallied_to k more n (f s) ≡ counted k page (f (tallied_to k due n s))
    unfolding tallied_to
    tally_through zero h = absurd (not-suc-le-zero h)
    tally_through (suc n) h = ⊎_elim last (λ (l : page < n). behind l (tally_through n l)) (eq-or-lt_of_le (le_of_suc-le-suc h))
      where
        Same : ℕ → Type 0
        Same m = tallied_to k more m (f s) ≡ counted k page (f (tallied_to k due m s))

        last : page ≡ n → Same (suc n)
        last e = subst (λ (m : ℕ). Same (suc m)) e tally_here

        behind : page < n → Same n → Same (suc n)
        behind l ih =
            ap (λ (x : ℕ). cond (eqb x 0) (tallied_to k more n (f s)) (counted k n (tallied_to k more n (f s)))) (flag_other n ne)
            ∙ by (eqb (get_or due n 0) 0)
          where
            ne : n ≡ page → ⊥
            ne e = omega arith

            by : (b : Bool)
                → cond b (tallied_to k more n (f s)) (counted k n (tallied_to k more n (f s)))
                ≡ counted k page (f (cond b (tallied_to k due n s) (counted k n (tallied_to k due n s))))
            by true = ih
            by false =
                ap (counted k n) ih
                ∙ counted_comm k page n (f (tallied_to k due n s)) ne
                ∙ ap (counted k page) (counted_writes_other lie w k n (tallied_to k due n s) ne)

    -- y is the area written, and `flags` are those set
    tallied_writes : {y flags : List ℕ} → flags ≡ more → y ≡ f s → page < pages s → tallied k flags y ≡ counted k page (f (tallied k due s))
    unfolding tallied
    tallied_writes {y} {flags} set is inside =
        ap₂ (tallied k) set is
        ∙ ap (λ (n : ℕ). tallied_to k more (n / 8192) (f s)) (length_within lie (writes_within lie w s))
        ∙ tally_through (pages s) inside

-- ---- the sweep's four writers

module _ {y flags : List ℕ} (r : ℕ) (d due : List ℕ) (flag : flags ≡ set due (r / 127) 1) (row : r < rows d) (few : pages d ≤ length due) where
  pub swept_slot_tallied : y ≡ clear_slot r d → tallied data_kind flags y ≡ swept_slot r (tallied data_kind due d)
  unfolding swept_slot
  swept_slot_tallied is = tallied_writes slots_lie (clear_slot_writes r) data_kind due d (omega arith) flag is (omega arith)

  pub cut_slot_tallied : (m : Slot) → y ≡ put_meta r m d → tallied data_kind flags y ≡ cut_slot r m (tallied data_kind due d)
  unfolding cut_slot
  cut_slot_tallied m is = tallied_writes slots_lie (put_meta_writes r m) data_kind due d (omega arith) flag is (omega arith)

module _ {y flags : List ℕ} (e : ℕ) (u due : List ℕ) (flag : flags ≡ set due (e / 101) 1) (here : e < entries u) (few : pages u ≤ length due) where
  pub swept_entry_tallied : y ≡ clear_entry e u → tallied undo_kind flags y ≡ swept_entry e (tallied undo_kind due u)
  unfolding swept_entry
  swept_entry_tallied is = tallied_writes entries_lie (clear_entry_writes e) undo_kind due u (omega arith) flag is (omega arith)

  pub cut_copy_tallied : (m : Slot) → y ≡ put_copy e m u → tallied undo_kind flags y ≡ cut_copy e m (tallied undo_kind due u)
  unfolding cut_copy
  cut_copy_tallied m is = tallied_writes entries_lie (put_copy_writes e m) undo_kind due u (omega arith) flag is (omega arith)
