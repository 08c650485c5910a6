-- Laws of the lowest record that is not in use: a search page by page is one over the whole area, what the first 8 bytes of a record
-- say is what its create or its writer says, and what was found is empty while everything below it is in use. Assumes nothing.
use mathlib.Core.Path.{◌≡◌, refl, sym, ap, ◌∙◌}
use mathlib.Core.Bool.{Bool, false, not, not-not}
use mathlib.Core.List.{List}
use Prim.Native.Nat.{ℕ, zero, suc, ◌+◌, ◌*◌, ◌/◌, ◌%◌, ◌-◌, ◌≤◌, ◌<◌}
use native.Mathlib.Nat.{add-zero, mul-add-div_right, div-eq_of_lt, mul-add-mod_self_right, mod-eq_of_lt, mul-le-mul_right, zero-mul, suc-mul, sub-zero}
use native.Mathlib.Omega.{arith}
use lib.ListN.{take, drop}
use lib.Dec.{eqb}
use borrow.Author.Tests.{eqb-true, eqb-false}
use Rattle.ground.specs.Range.{first_from}
use Rattle.ground.proofs.Ranges.{first_here, first_next, first_end, first_le, first_passes, first_before}
use Rattle.little.specs.Little.{little, part}
use Rattle.kind.specs.declared.Kind.{Kind}
use Rattle.kind.specs.Kind.{data_kind, undo_kind, pages, rows, entries}
use Rattle.kind.proofs.Places.{multiple_more}
use Rattle.records.specs.Slot.{slot_at}
use Rattle.records.specs.Entry.{entry_at}
use Rattle.page.specs.Header.{page_at}
use Rattle.page.specs.Count.{in_use}
use Rattle.page.proofs.Headers.{page_at_lent}
use Rattle.page.proofs.Counts.{in_use_slot, in_use_entry}
use Rattle.vacant.specs.Vacant.{lowest_empty, lowest_free, lowest_in, lowest}

-- ---- a search in parts

module _ (f : ℕ → Bool) where
  -- m indices that don't pass are left behind
  first_skip : (m i n : ℕ) → i + m ≤ n → ((j : ℕ) → j < m → f (i + j) ≡ false)
      → first_from f i (n - i) ≡ first_from f (i + m) (n - (i + m))
  first_skip zero i n h none = ap (λ (k : ℕ). first_from f k (n - k)) (sym (add-zero i))
  first_skip (suc m) i n h none =
      let here : f i ≡ false = ap f (sym (add-zero i)) ∙ none 0 (omega arith) in
      let behind : (j : ℕ) → j < m → f (i + 1 + j) ≡ false =
      λ j l. let e : i + 1 + j ≡ i + suc j = omega arith in ap f e ∙ none (suc j) (omega arith) in
      let e : i + 1 + m ≡ i + suc m = omega arith in
      first_next f i n (omega arith) here
      ∙ first_skip m (i + 1) n (omega arith) behind
      ∙ ap (λ (k : ℕ). first_from f k (n - k)) e

  -- as a loop begins
  pub first_start : (n : ℕ) → first_from f 0 (n - 0) ≡ first_from f 0 n
  first_start n = ap (λ (m : ℕ). first_from f 0 m) (sub-zero n)

  -- two tests that agree on the n indices from i on
  first_agree : (g : ℕ → Bool) (i n : ℕ) → ((k : ℕ) → k < i + n → f k ≡ g k) → first_from f i n ≡ first_from g i n
  unfolding first_from
  first_agree g i zero h = refl
  first_agree g i (suc n) h =
      rw (h i (omega arith), first_agree g (i + 1) n (λ k l. h k (omega arith)))

-- g is the test of the `count` records from `at` on, by their place: what it finds, f finds from there
module _ (f g : ℕ → Bool) (at count n : ℕ) (agree : (i : ℕ) → i < count → g i ≡ f (at + i)) (room : at + count ≤ n) where
  none_below : (i : ℕ) → i < first_from g 0 count → f (at + i) ≡ false
  none_below i l = sym (agree i (omega (arith, first_le g 0 count))) ∙ first_before g 0 count i (omega arith) l

  first_part : first_from g 0 count < count → first_from f at (n - at) ≡ at + first_from g 0 count
  first_part h =
      first_skip f (first_from g 0 count) at n (omega arith) none_below
      ∙ first_here f (at + first_from g 0 count) n (omega arith)
      (sym (agree (first_from g 0 count) h) ∙ first_passes g 0 count (omega arith))

  first_past : count ≤ first_from g 0 count → first_from f at (n - at) ≡ first_from f (at + count) (n - (at + count))
  first_past h = first_skip f count at n room (λ i l. none_below i (omega arith))

-- ---- the search of a page, by the first 8 bytes of a record

-- record i of a page is not in use
abbrev pub idle : ℕ → List ℕ → ℕ → Bool
idle size page i = not (in_use size page i)

-- as it is read
pub idle_read : {x : ℕ} {b : Bool} (size : ℕ) (page : List ℕ) (i : ℕ) → x ≡ little (part (48 + i * size) 8 page) → eqb x 0 ≡ b → idle size page i ≡ b
unfolding in_use
idle_read size page i read e = not-not (eqb (little (part (48 + i * size) 8 page)) 0) ∙ ap (λ (n : ℕ). eqb n 0) (sym read) ∙ e

-- ---- the search of an area

-- record r of an area is not in use
abbrev pub idle_at : Kind → List ℕ → ℕ → Bool
idle_at k s r = idle k.size (page_at (r / k.count) s) (r % k.count)

-- record i of page p, by its number
idle_at_number_of : (k : Kind) (s : List ℕ) (p i : ℕ) → i < k.count → idle k.size (page_at p s) i ≡ idle_at k s (p * k.count + i)
idle_at_number_of k s p i h =
    let some : 0 < k.count = omega arith in
    let q : (p * k.count + i) / k.count ≡ p =
    mul-add-div_right some p i ∙ ap (λ (n : ℕ). p + n) (div-eq_of_lt h) ∙ add-zero p in
    let m : (p * k.count + i) % k.count ≡ i = mul-add-mod_self_right p k.count i ∙ mod-eq_of_lt h in
    sym (ap (λ (n : ℕ). idle k.size (page_at n s) ((p * k.count + i) % k.count)) q ∙ ap (λ (n : ℕ). idle k.size (page_at p s) n) m)

-- what was found in page p, as it was lent
lowest_in_lent : {i : ℕ} (k : Kind) (p : ℕ) (s : List ℕ)
    → i ≡ lowest_in k (take (p * 8192 + 8192 - p * 8192) (drop (p * 8192) s))
    → i ≡ first_from (idle k.size (page_at p s)) 0 k.count
unfolding lowest_in
lowest_in_lent k p s h = h ∙ ap (lowest_in k) (page_at_lent p s)

-- the numbers of records fit a machine's
pub number_fits : (p count : ℕ) → p ≤ 65536 → count ≤ 8144 → p * count ≤ 533725184
number_fits p count h l = omega (arith, mul-le-mul_right {m = p} {n = 65536} count h)

-- the search from page p on
abbrev pub lowest_from : Kind → List ℕ → ℕ → ℕ → ℕ
lowest_from k s n p = first_from (idle_at k s) (p * k.count) (n * k.count - p * k.count)

module _ {i : ℕ} (k : Kind) (s : List ℕ) (n p : ℕ) (inside : p < n)
    (found : i ≡ lowest_in k (take (p * 8192 + 8192 - p * 8192) (drop (p * 8192) s))) where
  -- page p has a record that is not in use
  pub lowest_from_here : i < k.count → lowest_from k s n p ≡ p * k.count + i
  lowest_from_here h =
      let e = lowest_in_lent k p s found in
      first_part (idle_at k s) (idle k.size (page_at p s)) (p * k.count) k.count (n * k.count) (idle_at_number_of k s p) (multiple_more p n k.count inside) (omega arith)
      ∙ ap (λ (j : ℕ). p * k.count + j) (sym e)

  -- page p has none
  pub lowest_from_next : k.count ≤ i → lowest_from k s n p ≡ lowest_from k s n (p + 1)
  lowest_from_next h =
      let e = lowest_in_lent k p s found in
      let more : p * k.count + k.count ≡ (p + 1) * k.count = omega (arith, suc-mul p k.count) in
      first_past (idle_at k s) (idle k.size (page_at p s)) (p * k.count) k.count (n * k.count) (idle_at_number_of k s p) (multiple_more p n k.count inside) (omega arith)
      ∙ ap (λ (j : ℕ). first_from (idle_at k s) j (n * k.count - j)) more

-- no page is left
pub lowest_from_end : (k : Kind) (s : List ℕ) (n : ℕ) → lowest_from k s n n ≡ n * k.count
lowest_from_end k s n = first_end (idle_at k s) (n * k.count) (n * k.count) (omega arith)

pub lowest_from_start : {n : ℕ} (k : Kind) (s : List ℕ) → n ≡ pages s → lowest_from k s n 0 ≡ lowest k s
unfolding lowest
lowest_from_start k s all =
    ap (λ (m : ℕ). lowest_from k s m 0) all
    ∙ ap (λ (j : ℕ). first_from (idle_at k s) j (pages s * k.count - j)) (zero-mul k.count)
    ∙ first_start (idle_at k s) (pages s * k.count)

-- ---- slots and entries

-- "Create 0 means empty"
pub lowest_data : (d : List ℕ) → lowest data_kind d ≡ lowest_empty d
unfolding lowest lowest_empty
lowest_data d = first_agree (idle_at data_kind d) (λ (r : ℕ). eqb (slot_at r d).create 0) 0 (rows d) (λ r h. empty r)
  where
    empty : (r : ℕ) → idle_at data_kind d r ≡ eqb (slot_at r d).create 0
    empty r =
        let e : r / 127 * 127 + r % 127 ≡ r = omega arith in
        ap not (in_use_slot (r / 127) (r % 127) d (omega arith))
        ∙ not-not (eqb (slot_at (r / 127 * 127 + r % 127) d).create 0)
        ∙ ap (λ (n : ℕ). eqb (slot_at n d).create 0) e

-- "writer (8; 0 means free)"
pub lowest_undo : (u : List ℕ) → lowest undo_kind u ≡ lowest_free u
unfolding lowest lowest_free
lowest_undo u = first_agree (idle_at undo_kind u) (λ (e : ℕ). eqb (entry_at e u).writer 0) 0 (entries u) (λ e h. free e)
  where
    free : (e : ℕ) → idle_at undo_kind u e ≡ eqb (entry_at e u).writer 0
    free e =
        let is : e / 101 * 101 + e % 101 ≡ e = omega arith in
        ap not (in_use_entry (e / 101) (e % 101) u (omega arith))
        ∙ not-not (eqb (entry_at (e / 101 * 101 + e % 101) u).writer 0)
        ∙ ap (λ (n : ℕ). eqb (entry_at n u).writer 0) is

-- ---- what a caller knows of the number it gets

module _ (d : List ℕ) where
  pub lowest_empty_le : lowest_empty d ≤ rows d
  unfolding lowest_empty
  lowest_empty_le = omega (arith, first_le (λ (r : ℕ). eqb (slot_at r d).create 0) 0 (rows d))

  pub lowest_empty_lt : (lowest_empty d ≡ rows d → ⊥) → lowest_empty d < rows d
  lowest_empty_lt h = omega (arith, lowest_empty_le)

  -- what was found is empty
  pub lowest_empty_empty : lowest_empty d < rows d → (slot_at (lowest_empty d) d).create ≡ 0
  unfolding lowest_empty
  lowest_empty_empty h = eqb-true _ 0 (first_passes (λ (r : ℕ). eqb (slot_at r d).create 0) 0 (rows d) (omega arith))

  -- and every row below it is occupied
  pub lowest_empty_below : (r : ℕ) → r < lowest_empty d → (slot_at r d).create ≡ 0 → ⊥
  unfolding lowest_empty
  lowest_empty_below r h = eqb-false _ 0 (first_before (λ (r : ℕ). eqb (slot_at r d).create 0) 0 (rows d) r (omega arith) h)

module _ (u : List ℕ) where
  pub lowest_free_le : lowest_free u ≤ entries u
  unfolding lowest_free
  lowest_free_le = omega (arith, first_le (λ (e : ℕ). eqb (entry_at e u).writer 0) 0 (entries u))

  pub lowest_free_lt : (lowest_free u ≡ entries u → ⊥) → lowest_free u < entries u
  lowest_free_lt h = omega (arith, lowest_free_le)

  -- what was found is free
  pub lowest_free_free : lowest_free u < entries u → (entry_at (lowest_free u) u).writer ≡ 0
  unfolding lowest_free
  lowest_free_free h = eqb-true _ 0 (first_passes (λ (e : ℕ). eqb (entry_at e u).writer 0) 0 (entries u) (omega arith))

  -- and every entry below it is in use
  pub lowest_free_below : (e : ℕ) → e < lowest_free u → (entry_at e u).writer ≡ 0 → ⊥
  unfolding lowest_free
  lowest_free_below e h = eqb-false _ 0 (first_before (λ (e : ℕ). eqb (entry_at e u).writer 0) 0 (entries u) e (omega arith) h)
