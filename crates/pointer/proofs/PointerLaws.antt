-- Undo pointers: the pointer to an entry leads to it, and what leads to an entry is the pointer to it, inside the area, and names
-- the byte where it begins. Over any page size, record size and records to a page, then at the geometry of undo pages. Assumes
-- nothing.
use mathlib.Core.Path.{◌≡◌, refl, sym, ap, ap₂, ◌∙◌}
use mathlib.Core.Bool.{Bool, true, false, ◌&&◌, cond, and-true, and-false}
use Prim.Native.Nat.{ℕ, suc, ◌+◌, ◌-◌, ◌*◌, ◌/◌, ◌%◌, ◌^◌, ◌≤◌, ◌<◌}
use native.Mathlib.Nat.{mod-lt, div-add-mod', div-lt_iff_lt-mul, le-div_iff_mul-le, mul-le-mul_right, suc-mul, mul-mod_left, mul-div_cancel}
use native.Mathlib.Omega.{arith}
use lib.Arith.{digits_lt, digits_div, digits_mod}
use lib.Dec.{eqb, leb, ltb}
use borrow.Author.Tests.{eqb-true, leb-true, ltb-true, ltb-false, eq-eqb, le-leb, lt-ltb, le-ltb, lt-leb, ne_eqb}
use Rattle.ground.proofs.Ranges.{and_true_left, and_true_right}
use Rattle.kind.specs.Place.{place_of}
use Rattle.kind.proofs.Places.{Lie, place_of_number_of}
use Rattle.pointer.specs.Pointer.{pointer_at, pointer_for, page_in, offset_in, well_formed, at_entry, entry_named, place_named, leads, pointer_to, lead_of, place_led}
use Rattle.pointer.specs.declared.Lead.TheVariants.{Nowhere, Entry, Astray}

-- ---- a pointer and its parts

module _ (p o : ℕ) (hp : p < 2 ^ 32) (ho : o < 2 ^ 16) where
  page_in_pointer_at : page_in (pointer_at p o) ≡ p
  page_in_pointer_at = omega arith

  offset_in_pointer_at : offset_in (pointer_at p o) ≡ o
  offset_in_pointer_at = omega arith

  top_pointer_at : pointer_at p o / 2 ^ 56 ≡ 4
  top_pointer_at = omega arith

  low_pointer_at : pointer_at p o % 2 ^ 8 ≡ 0
  low_pointer_at = omega arith

  well_formed_pointer_at : well_formed (pointer_at p o) ≡ true
  unfolding well_formed
  well_formed_pointer_at = ap₂ ◌&&◌ (eq-eqb (pointer_at p o / 2 ^ 56) 4 top_pointer_at) (eq-eqb (pointer_at p o % 2 ^ 8) 0 low_pointer_at)

-- what is well formed is made of its parts
pointer_at_parts : (v : ℕ) → well_formed v ≡ true → v ≡ pointer_at (page_in v) (offset_in v)
unfolding well_formed
pointer_at_parts v e =
    let top : v / 2 ^ 56 ≡ 4 = eqb-true (v / 2 ^ 56) 4 (and_true_left (eqb (v / 2 ^ 56) 4) (eqb (v % 2 ^ 8) 0) e) in
    let low : v % 2 ^ 8 ≡ 0 = eqb-true (v % 2 ^ 8) 0 (and_true_right (eqb (v / 2 ^ 56) 4) (eqb (v % 2 ^ 8) 0) e) in
    omega arith

-- ---- what leads to an entry

-- what holds of a pointer v that leads to entry e
pub record Led (size count n v e : ℕ) : Type 0 where
  pub formed : well_formed v ≡ true
  pub low : 1 ≤ page_in v
  pub high : page_in v ≤ n
  pub inside : at_entry size count (offset_in v) ≡ true
  pub names : entry_named size count (page_in v) (offset_in v) ≡ e

leads_led : (size count n v e : ℕ) → leads size count n v ≡ Entry e → Led size count n v e
unfolding leads
leads_led size count n v e h = by (go (eqb v 0) (((a && b) && c) && d) h)
  where
    a : Bool
    a = well_formed v

    b : Bool
    b = leb 1 (page_in v)

    c : Bool
    c = leb (page_in v) n

    d : Bool
    d = at_entry size count (offset_in v)

    x : ℕ
    x = entry_named size count (page_in v) (offset_in v)

    go : (s t : Bool) → cond s Nowhere (cond t (Entry x) Astray) ≡ Entry e → (t ≡ true) × (x ≡ e)
    go true t h = let z : ◌≡◌ {A = ℕ} 0 1 = cc in absurd (omega arith)
    go false true h = (refl, cc)
    go false false h = let z : ◌≡◌ {A = ℕ} 0 1 = cc in absurd (omega arith)

    by : (((a && b) && c) && d ≡ true) × (x ≡ e) → Led size count n v e
    by f =
        let f3 : (a && b) && c ≡ true = and_true_left ((a && b) && c) d f.0 in
        let f2 : a && b ≡ true = and_true_left (a && b) c f3 in
        record {
          formed = and_true_left a b f2;
          low = leb-true 1 (page_in v) (and_true_right a b f2);
          high = leb-true (page_in v) n (and_true_right (a && b) c f3);
          inside = and_true_right ((a && b) && c) d f.0;
          names = f.1;
        }

-- ---- an entry and its place in its page

module _ (size count : ℕ) (wide : 0 < size) (some : 0 < count) (room : 48 + count * size ≤ 65536) where
  -- the place of entry k of a page fits 16 bits, and is an entry's
  offset_below : (k : ℕ) → k < count → 48 + k * size < 2 ^ 16
  offset_below k h = omega (arith, mul-le-mul_right {m = suc k} {n = count} size h, suc-mul k size)

  at_entry_place : (k : ℕ) → k < count → at_entry size count (48 + k * size) ≡ true
  unfolding at_entry
  at_entry_place k h =
      let o : 48 + k * size - 48 ≡ k * size = omega arith in
      ap₂ ◌&&◌ (le-leb 48 (48 + k * size) (omega arith))
      (ap₂ ◌&&◌
      (eq-eqb ((48 + k * size - 48) % size) 0 (ap (λ (x : ℕ). x % size) o ∙ mul-mod_left k size))
      (lt-ltb ((48 + k * size - 48) / size) count (omega (arith, ap (λ (x : ℕ). x / size) o, mul-div_cancel k wide))))

  -- an entry's offset is 48 and a whole number of entries, fewer than the page holds
  at_entry_index : (o : ℕ) → at_entry size count o ≡ true → ((o - 48) / size < count) × (48 + (o - 48) / size * size ≡ o)
  unfolding at_entry
  at_entry_index o e =
      let a : Bool = leb 48 o in
      let b : Bool = eqb ((o - 48) % size) 0 in
      let c : Bool = ltb ((o - 48) / size) count in
      let bc : b && c ≡ true = and_true_right a (b && c) e in
      let low : 48 ≤ o = leb-true 48 o (and_true_left a (b && c) e) in
      let whole : (o - 48) % size ≡ 0 = eqb-true ((o - 48) % size) 0 (and_true_left b c bc) in
      (ltb-true ((o - 48) / size) count (and_true_right b c bc), omega (arith, div-add-mod' (o - 48) size))

  -- "4 × 2^56 + page × 2^24 + offset × 2^8" leads to the entry that it was made for
  pub leads_pointer_for : (n e : ℕ) → e < n * count → n < 2 ^ 32 → leads size count n (pointer_for size count e) ≡ Entry e
  unfolding leads
  leads_pointer_for n e h fits =
      let k : ℕ = e % count in
      let p : ℕ = e / count + 1 in
      let o : ℕ = 48 + k * size in
      let v : ℕ = pointer_for size count e in
      let hk : k < count = mod-lt e some in
      let page : e / count < n = (div-lt_iff_lt-mul {k = count} {x = e} {y = n} some).1 h in
      let hp : p < 2 ^ 32 = omega arith in
      let ho : o < 2 ^ 16 = offset_below k hk in
      let pe : page_in v ≡ p = page_in_pointer_at p o hp ho in
      let oe : offset_in v ≡ o = offset_in_pointer_at p o hp ho in
      let test : ((well_formed v && leb 1 (page_in v)) && leb (page_in v) n) && at_entry size count (offset_in v) ≡ true =
      ap₂ ◌&&◌
      (ap₂ ◌&&◌
      (ap₂ ◌&&◌ (well_formed_pointer_at p o hp ho) (le-leb 1 (page_in v) (omega arith)))
      (le-leb (page_in v) n (omega arith)))
      (ap (at_entry size count) oe ∙ at_entry_place k hk)
      in
      let names : entry_named size count (page_in v) (offset_in v) ≡ e =
      ap₂ (λ (x y : ℕ). (x - 1) * count + (y - 48) / size) pe oe ∙ back e
      in
      ap₂ (λ (s t : Bool). cond s Nowhere (cond t (Entry (entry_named size count (page_in v) (offset_in v))) Astray)) (ne_eqb v 0 (λ z. omega arith)) test
      ∙ ap Entry names
    where
      back : (e : ℕ) → (e / count + 1 - 1) * count + (48 + e % count * size - 48) / size ≡ e
      back e =
          ap₂ (λ (x y : ℕ). x * count + y / size) (omega arith) (omega arith)
          ∙ ap (λ (x : ℕ). e / count * count + x) (mul-div_cancel (e % count) wide)
          ∙ div-add-mod' e count

  -- what leads to an entry leads inside the area
  pub leads_inside : (n v e : ℕ) → leads size count n v ≡ Entry e → e < n * count
  leads_inside n v e h =
      let l : Led size count n v e = leads_led size count n v e h in
      omega (arith, l.low, l.high, l.names, digits_lt {q = page_in v - 1} {m = n} {c = count} (omega (arith, l.low, l.high)) (at_entry_index (offset_in v) l.inside).0)

  -- and is the pointer to that entry
  pub pointer_for_leads : (n v e : ℕ) → leads size count n v ≡ Entry e → v ≡ pointer_for size count e
  pointer_for_leads n v e h =
      let l : Led size count n v e = leads_led size count n v e h in
      let k : ℕ = (offset_in v - 48) / size in
      let place : (k < count) × (48 + k * size ≡ offset_in v) = at_entry_index (offset_in v) l.inside in
      let page : e / count ≡ page_in v - 1 = ap (λ (x : ℕ). x / count) (sym l.names) ∙ digits_div (page_in v - 1) place.0 in
      let rest : e % count ≡ k = ap (λ (x : ℕ). x % count) (sym l.names) ∙ digits_mod (page_in v - 1) place.0 in
      pointer_at_parts v l.formed
      ∙ ap₂ pointer_at (omega (arith, l.low)) (sym place.1 ∙ ap (λ (x : ℕ). 48 + x * size) (sym rest))

  -- and its page and offset name the byte where that entry begins
  pub place_named_leads : {bytes : ℕ} → Lie bytes size count → (n v e : ℕ) → leads size count n v ≡ Entry e
      → place_named bytes (page_in v) (offset_in v) ≡ place_of bytes size count e
  place_named_leads {bytes} lie n v e h =
      let l : Led size count n v e = leads_led size count n v e h in
      let k : ℕ = (offset_in v - 48) / size in
      let place : (k < count) × (48 + k * size ≡ offset_in v) = at_entry_index (offset_in v) l.inside in
      ap (place_named bytes (page_in v)) (sym place.1)
      ∙ sym (place_of_number_of lie (page_in v - 1) k place.0)
      ∙ ap (place_of bytes size count) l.names

-- ---- undo pages

pub lead_of_pointer_to : (n e : ℕ) → e < n * 101 → n < 2 ^ 32 → lead_of n (pointer_to e) ≡ Entry e
unfolding lead_of pointer_to
lead_of_pointer_to = leads_pointer_for 80 101 (omega arith) (omega arith) (omega arith)

-- "0 means none"
pub lead_of_zero : (n : ℕ) → lead_of n 0 ≡ Nowhere
unfolding lead_of leads
lead_of_zero n = refl

-- and nothing else does
pub lead_of_nowhere : (n v : ℕ) → lead_of n v ≡ Nowhere → v ≡ 0
unfolding lead_of leads
lead_of_nowhere n v h =
    by (eqb v 0) refl
    (((well_formed v && leb 1 (page_in v)) && leb (page_in v) n) && at_entry 80 101 (offset_in v))
    (entry_named 80 101 (page_in v) (offset_in v))
    h
  where
    never : (c : Bool) (e : ℕ) → cond c (Entry e) Astray ≡ Nowhere → ⊥
    never true e k = let z : ◌≡◌ {A = ℕ} 0 1 = cc in omega arith
    never false e k = let z : ◌≡◌ {A = ℕ} 0 1 = cc in omega arith

    by : (b : Bool) → eqb v 0 ≡ b → (c : Bool) (e : ℕ) → cond b Nowhere (cond c (Entry e) Astray) ≡ Nowhere → v ≡ 0
    by true k c e g = eqb-true v 0 k
    by false k c e g = absurd (never c e g)

pub lead_of_inside : (n v e : ℕ) → lead_of n v ≡ Entry e → e < n * 101
unfolding lead_of
lead_of_inside = leads_inside 80 101 (omega arith) (omega arith) (omega arith)

pub pointer_to_lead_of : (n v e : ℕ) → lead_of n v ≡ Entry e → v ≡ pointer_to e
unfolding lead_of pointer_to
pointer_to_lead_of = pointer_for_leads 80 101 (omega arith) (omega arith) (omega arith)

pub lead_of_page : (n v e : ℕ) → lead_of n v ≡ Entry e → 1 ≤ page_in v
unfolding lead_of
lead_of_page n v e h = (leads_led 80 101 n v e h).low

pub place_led_lead_of : (n v e : ℕ) → lead_of n v ≡ Entry e → place_led v ≡ place_of 8192 80 101 e
unfolding lead_of place_led
place_led_lead_of =
    place_named_leads 80 101 (omega arith) (omega arith) (omega arith) (record { some = omega arith; room = omega arith })

pub pointer_to_some : (e : ℕ) → pointer_to e ≡ 0 → ⊥
unfolding pointer_to
pointer_to_some e h = omega arith

pub pointer_to_below : (e : ℕ) → e < 2 ^ 32 → pointer_to e < 256 ^ 8
unfolding pointer_to
pointer_to_below e h = omega arith

-- gauge piece P3: "pointer to page 2, offset 128: 288230376185298944", which is entry 102
gauge_3 : (pointer_at 2 128 ≡ 288230376185298944) × (pointer_to 102 ≡ pointer_at 2 128)
unfolding pointer_to
gauge_3 = (refl, refl)

-- ---- the steps of the code

pub at_entry_header : (size count o : ℕ) → o < 48 → at_entry size count o ≡ false
unfolding at_entry
at_entry_header size count o h = rw (lt-leb 48 o h)

-- the bound is one of the offset, and no quotient is needed
pub at_entry_behind : (size count o : ℕ) → 0 < size → 48 ≤ o → at_entry size count o ≡ (ltb (o - 48) (count * size) && eqb ((o - 48) % size) 0)
unfolding at_entry
at_entry_behind size count o wide h = rw (le-leb 48 o h) (by (ltb (o - 48) (count * size)) refl (eqb ((o - 48) % size) 0))
  where
    below : o - 48 < count * size → ltb ((o - 48) / size) count ≡ true
    below l = lt-ltb ((o - 48) / size) count ((div-lt_iff_lt-mul {k = size} {x = o - 48} {y = count} wide).1 l)

    past : count * size ≤ o - 48 → ltb ((o - 48) / size) count ≡ false
    past l = le-ltb ((o - 48) / size) count ((le-div_iff_mul-le {k = size} {x = count} {y = o - 48} wide).1 l)

    by : (t : Bool) → ltb (o - 48) (count * size) ≡ t → (r : Bool) → (r && ltb ((o - 48) / size) count) ≡ (t && r)
    by true e r = rw (below (ltb-true (o - 48) (count * size) e), and-true)
    by false e r = rw (past (ltb-false (o - 48) (count * size) e), and-false)

module _ (n v p o : ℕ) (f a : Bool) (page : p ≡ page_in v) (offset : o ≡ offset_in v) (well : f ≡ well_formed v) (entry : a ≡ at_entry 80 101 o) where
  pub lead_of_tests : (v ≡ 0 → ⊥)
      → lead_of n v ≡ cond (((f && leb 1 p) && leb p n) && a) (Entry (entry_named 80 101 p o)) Astray
  unfolding lead_of leads
  lead_of_tests ne = rw (ne_eqb v 0 ne, well, entry, page, offset)

  pub lead_of_passed : ((f && leb 1 p) && leb p n) && a ≡ true → (1 ≤ p) × (48 ≤ o)
  unfolding at_entry
  lead_of_passed h =
      let fb : Bool = f && leb 1 p in (
        leb-true 1 p (and_true_right f (leb 1 p) (and_true_left fb (leb p n) (and_true_left (fb && leb p n) a h))),
        leb-true 48 o (and_true_left (leb 48 o) (eqb ((o - 48) % 80) 0 && ltb ((o - 48) / 80) 101) (sym entry ∙ and_true_right (fb && leb p n) a h)),
      )
