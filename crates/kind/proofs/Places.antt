-- Records do not overlap and lie behind the header of their page: once, over page size, record size and records to a page.
-- Assumes nothing.
use mathlib.Core.Path.{◌≡◌, sym, ap, subst, ◌∙◌}
use mathlib.Core.Logic.{⊎_elim}
use mathlib.Core.List.{List}
use Prim.Native.Nat.{ℕ, suc, ◌+◌, ◌*◌, ◌/◌, ◌%◌, ◌≤◌, ◌<◌}
use native.Mathlib.Nat.{add-zero, mul-add-div_right, div-eq_of_lt, mul-add-mod_self_right, mod-eq_of_lt, mul-le-mul_right, suc-mul, mod-lt, div-add-mod', div-lt_iff_lt-mul, eq-or-lt_of_le, le_of_suc-le-suc}
use native.Mathlib.Omega.{arith}
use lib.ListN.{length}
use lib.Seq.{sets, length-sets}
use Rattle.ground.proofs.Ranges.{lt_or_le}
use Rattle.little.specs.Little.{part, Bytes}
use Rattle.little.proofs.Parts.{length_part, part_sets, part_sets_inside, part_sets_inside_front, part_sets_below, part_sets_above}
use Rattle.little.proofs.AllBytes.{bytes_sets}
use Rattle.kind.specs.Place.{number_of, place_of, record_at}

-- a whole multiple more
pub multiple_more : (k n size : ℕ) → k < n → k * size + size ≤ n * size
multiple_more k n size h = omega (arith, mul-le-mul_right {m = suc k} {n = n} size h, suc-mul k size)

-- records that lie in their page, and there are some
pub record Lie (page size count : ℕ) : Type 0 where
  pub some : 0 < count
  pub room : 48 + count * size ≤ page

-- y is s with some bytes of record r stored, or all of them
pub record Within (page size count r : ℕ) (s y : List ℕ) : Type 0 where
  pub from : ℕ
  pub bytes : List ℕ
  pub inside : from + length bytes ≤ size
  pub is : y ≡ sets s (place_of page size count r + from) bytes

module _ {page size count : ℕ} (lie : Lie page size count) where
  -- record r ends in its page
  place_end : (r : ℕ) → place_of page size count r + size ≤ r / count * page + page
  place_end r = omega (arith, multiple_more (r % count) count size (mod-lt r lie.some))

  page_rises : (r t : ℕ) → r < t → r / count ≤ t / count
  page_rises r t h =
      le_of_suc-le-suc
      ((div-lt_iff_lt-mul {k = count} {x = r} {y = suc (t / count)} lie.some).1
      (omega (arith, div-add-mod' t count, mod-lt t lie.some, suc-mul (t / count) count)))

  -- the places rise by the size at least
  pub place_rises : (r t : ℕ) → r < t → place_of page size count r + size ≤ place_of page size count t
  place_rises r t h =
      let er : r / count * count + r % count ≡ r = div-add-mod' r count in
      let et : t / count * count + t % count ≡ t = div-add-mod' t count in
      ⊎_elim
      (λ (e : r / count ≡ t / count).
      let m : r / count * count ≡ t / count * count = ap (λ (n : ℕ). n * count) e in
      let q : r / count * page ≡ t / count * page = ap (λ (n : ℕ). n * page) e in
      let inside : r % count * size + size ≤ t % count * size = multiple_more (r % count) (t % count) size (omega arith) in
      omega arith)
      (λ (l : r / count < t / count). omega (arith, place_end r, multiple_more (r / count) (t / count) page l))
      (eq-or-lt_of_le (page_rises r t h))

  -- a record of a whole number of pages lies within them
  pub place_in : (pages r : ℕ) → r < pages * count → place_of page size count r + size ≤ pages * page
  place_in pages r h =
      let q : r / count < pages = (div-lt_iff_lt-mul {k = count} {x = r} {y = pages} lie.some).1 h in
      omega (arith, place_end r, multiple_more (r / count) pages page q)

  -- where record i of page p begins
  pub place_of_number_of : (p i : ℕ) → i < count → place_of page size count (number_of count p i) ≡ p * page + (48 + i * size)
  place_of_number_of p i h =
      let q : (p * count + i) / count ≡ p = mul-add-div_right lie.some p i ∙ ap (λ (n : ℕ). p + n) (div-eq_of_lt h) ∙ add-zero p in
      let m : (p * count + i) % count ≡ i = mul-add-mod_self_right p count i ∙ mod-eq_of_lt h in
      ap (λ (n : ℕ). n * page + (48 + (p * count + i) % count * size)) q ∙ ap (λ (n : ℕ). p * page + (48 + n * size)) m

  -- ---- a store inside record r

  module _ {r : ℕ} {s y : List ℕ} (w : Within page size count r s y) where
    -- leaves the other records as they were
    pub within_other : (t : ℕ) → (t ≡ r → ⊥) → record_at page size count t y ≡ record_at page size count t s
    unfolding record_at
    within_other t ne =
        ap (part (place_of page size count t) size) w.is
        ∙ ⊎_elim
        (λ (l : t < r).
        part_sets_below (place_of page size count t) size s (place_of page size count r + w.from) w.bytes (omega (arith, place_rises t r l)))
        (λ (l : r ≤ t).
        part_sets_above (place_of page size count t) size s (place_of page size count r + w.from) w.bytes
        (omega (arith, w.inside, place_rises r t (omega arith))))
        (lt_or_le t r)

    -- leaves every header as it was
    pub within_header : (p o n : ℕ) → o + n ≤ 48 → part (p * page + o) n y ≡ part (p * page + o) n s
    within_header p o n h =
        ap (part (p * page + o) n) w.is
        ∙ ⊎_elim
        (λ (l : r / count < p).
        part_sets_above (p * page + o) n s (place_of page size count r + w.from) w.bytes
        (omega (arith, w.inside, place_end r, multiple_more (r / count) p page l)))
        (λ (l : p ≤ r / count).
        part_sets_below (p * page + o) n s (place_of page size count r + w.from) w.bytes
        (omega (arith, mul-le-mul_right {m = p} {n = r / count} page l)))
        (lt_or_le (r / count) p)

    -- leaves what lies behind the last record of every page as it was
    pub within_behind : (p o n : ℕ) → 48 + count * size ≤ o → o + n ≤ page → part (p * page + o) n y ≡ part (p * page + o) n s
    within_behind p o n low high =
        ap (part (p * page + o) n) w.is
        ∙ ⊎_elim
        (λ (l : p < r / count).
        part_sets_below (p * page + o) n s (place_of page size count r + w.from) w.bytes (omega (arith, multiple_more p (r / count) page l)))
        (λ (l : r / count ≤ p).
        part_sets_above (p * page + o) n s (place_of page size count r + w.from) w.bytes
        (omega (arith, w.inside, multiple_more (r % count) count size (mod-lt r lie.some), mul-le-mul_right {m = r / count} {n = p} page l)))
        (lt_or_le p (r / count))

    -- leaves the other pages as they were
    pub within_page : (p : ℕ) → (p ≡ r / count → ⊥) → part (p * page) page y ≡ part (p * page) page s
    within_page p ne =
        ap (part (p * page) page) w.is
        ∙ ⊎_elim
        (λ (l : r / count < p).
        part_sets_above (p * page) page s (place_of page size count r + w.from) w.bytes
        (omega (arith, w.inside, place_end r, multiple_more (r / count) p page l)))
        (λ (l : p ≤ r / count).
        part_sets_below (p * page) page s (place_of page size count r + w.from) w.bytes
        (omega (arith, multiple_more p (r / count) page (omega arith))))
        (lt_or_le (r / count) p)

    pub length_within : length y ≡ length s
    length_within = ap length w.is ∙ length-sets s (place_of page size count r + w.from) w.bytes

    pub bytes_within : Bytes w.bytes → Bytes s → Bytes y
    bytes_within b h = subst Bytes (sym w.is) (bytes_sets w.bytes s (place_of page size count r + w.from) b h)

  -- from the record's first byte on
  pub within_front : (r : ℕ) (s vs : List ℕ) → length vs ≤ size → Within page size count r s (sets s (place_of page size count r) vs)
  within_front r s vs h =
      record {
        from = 0;
        bytes = vs;
        inside = omega arith;
        is = ap (λ (n : ℕ). sets s n vs) (sym (add-zero (place_of page size count r)));
      }

  -- a store inside a record is one in its bytes
  pub record_at_store : (r k : ℕ) (s vs : List ℕ) → k + length vs ≤ size
      → record_at page size count r (sets s (place_of page size count r + k) vs) ≡ sets (record_at page size count r s) k vs
  unfolding record_at
  record_at_store r k s vs h = part_sets_inside (place_of page size count r) size s k vs h

  pub record_at_front : (r : ℕ) (s vs : List ℕ) → length vs ≤ size
      → record_at page size count r (sets s (place_of page size count r) vs) ≡ sets (record_at page size count r s) 0 vs
  unfolding record_at
  record_at_front r s vs h = part_sets_inside_front (place_of page size count r) size s vs h

  -- a record stored whole is read back
  pub record_at_sets : (r : ℕ) (s vs : List ℕ) → length vs ≡ size → place_of page size count r + size ≤ length s
      → record_at page size count r (sets s (place_of page size count r) vs) ≡ vs
  unfolding record_at
  record_at_sets r s vs long h =
      ap (λ (n : ℕ). part (place_of page size count r) n (sets s (place_of page size count r) vs)) (sym long)
      ∙ part_sets s (place_of page size count r) vs (omega arith)

  pub length_record_at : (r : ℕ) (s : List ℕ) → place_of page size count r + size ≤ length s → length (record_at page size count r s) ≡ size
  unfolding record_at
  length_record_at r s h = length_part (place_of page size count r) size s h

  -- a store into a header leaves each record as it was
  pub record_at_header : (p o r : ℕ) (vs s : List ℕ) → o + length vs ≤ 48 → record_at page size count r (sets s (p * page + o) vs) ≡ record_at page size count r s
  unfolding record_at
  record_at_header p o r vs s h =
      ⊎_elim
      (λ (l : r / count < p).
      part_sets_below (place_of page size count r) size s (p * page + o) vs (omega (arith, place_end r, multiple_more (r / count) p page l)))
      (λ (l : p ≤ r / count).
      part_sets_above (place_of page size count r) size s (p * page + o) vs (omega (arith, mul-le-mul_right {m = p} {n = r / count} page l)))
      (lt_or_le (r / count) p)
