-- Laws of whole pages: what the stores of format and seal make of an area. Assumes nothing.
use mathlib.Core.Path.{◌≡◌, refl, sym, ap, ap₂, ◌∙◌}
use mathlib.Core.List.{List, ◌++◌}
use mathlib.Core.Bool.{◌&&◌, and_assoc, and-true}
use Prim.Native.Nat.{ℕ, ◌+◌, ◌*◌, ◌≤◌, ◌<◌}
use native.Mathlib.Omega.{arith}
use lib.ListN.{length, drop, replicate, length-append, length-replicate, length-drop}
use lib.Seq.{sets, length-sets, sets-eq}
use lib.Dec.{eqb}
use borrow.Author.Tests.{eq-eqb}
use Rattle.little.specs.Little.{little, digits, part, bytes_of, holds}
use Rattle.little.proofs.Digits.{length_digits}
use Rattle.little.proofs.Parts.{part_sets, part_sets_below, part_all, sets_sets_inside, sets_part}
use Rattle.little.proofs.Fields.{length_bytes_of}
use Rattle.crc.specs.Crc.{crc_of, crc_more}
use Rattle.crc.proofs.CrcLaws.{crc_append}
use Rattle.kind.specs.declared.Kind.{Kind}
use Rattle.page.specs.Header.{header, page_at, checksum, put_field}
use Rattle.whole.specs.Whole.{checksum_of, start_of, page_right, sealed_page, blank_page, fresh_page}
use Rattle.page.specs.Count.{items_in}

pub length_blank_page : (k : Kind) (id : ℕ) → length (blank_page k id) ≡ 8192
unfolding blank_page
length_blank_page k id =
    omega (arith, length-append (bytes_of (header k id 0 0 0)) (replicate 8144 0), length_bytes_of (header k id 0 0 0), length-replicate {A = ℕ} 8144 0)

-- page p of an area is what was stored there
pub page_at_sets : (p : ℕ) (s page : List ℕ) → length page ≡ 8192 → p * 8192 + 8192 ≤ length s → page_at p (sets s (p * 8192) page) ≡ page
unfolding page_at
page_at_sets p s page e h =
    ap (λ (n : ℕ). part (p * 8192) n (sets s (p * 8192) page)) (sym e) ∙ part_sets s (p * 8192) page (omega arith)

-- and the pages before it are what they were
pub page_at_sets_before : (p q : ℕ) (s page : List ℕ) → q < p → page_at q (sets s (p * 8192) page) ≡ page_at q s
unfolding page_at
page_at_sets_before p q s page l = part_sets_below (q * 8192) 8192 s (p * 8192) page (omega arith)

-- a blank page is zeros with five fields stored
blank_page_sets : (k : Kind) (id : ℕ)
    → blank_page k id
    ≡ sets
    (sets (sets (sets (sets (replicate 8192 0) 16 (digits 4 id)) 36 (digits 2 k.free)) 44 (digits 1 k.code)) 45 (digits 1 k.engine))
    47
    (digits 1 1)
unfolding blank_page bytes_of digits
blank_page_sets k id = refl

-- y is s with a page stored at index at; a field stored into y is one stored into the page
record Stored (s : List ℕ) (at : ℕ) (y page : List ℕ) : Type 0 where
  pub is : y ≡ sets s at page
  pub long : length page ≡ 8192

stored_field : {y page z : List ℕ} (s : List ℕ) (at o w v : ℕ)
    → o + w ≤ 8192
    → z ≡ sets y (at + o) (digits w v)
    → Stored s at y page
    → Stored s at z (sets page o (digits w v))
stored_field {y} {page} s at o w v h q e =
    record {
      is =
          q
          ∙ ap (λ (l : List ℕ). sets l (at + o) (digits w v)) e.is
          ∙ sets_sets_inside s at page o (digits w v) (omega (arith, length_digits w v, e.long));
      long = length-sets page o (digits w v) ∙ e.long;
    }

-- the stores of a blank page, one after the other: over any page, and over zeros
five_stores : {y₀ y₁ y₂ y₃ y₄ y₅ : List ℕ} (s : List ℕ) (at : ℕ) (page : List ℕ) (k : Kind) (id : ℕ)
    → length page ≡ 8192
    → y₀ ≡ sets s at page
    → y₁ ≡ sets y₀ (at + 16) (digits 4 id)
    → y₂ ≡ sets y₁ (at + 36) (digits 2 k.free)
    → y₃ ≡ sets y₂ (at + 44) (digits 1 k.code)
    → y₄ ≡ sets y₃ (at + 45) (digits 1 k.engine)
    → y₅ ≡ sets y₄ (at + 47) (digits 1 1)
    → y₅
    ≡ sets s at
    (sets (sets (sets (sets (sets page 16 (digits 4 id)) 36 (digits 2 k.free)) 44 (digits 1 k.code)) 45 (digits 1 k.engine)) 47 (digits 1 1))
five_stores s at page k id long e₀ e₁ e₂ e₃ e₄ e₅ =
    (stored_field s at 47 1 1 (omega arith) e₅
    (stored_field s at 45 1 k.engine (omega arith) e₄
    (stored_field s at 44 1 k.code (omega arith) e₃
    (stored_field s at 36 2 k.free (omega arith) e₂
    (stored_field s at 16 4 id (omega arith) e₁ (record { is = e₀; long = long })))))
    ).is

pub blank_stores : {y₀ y₁ y₂ y₃ y₄ y₅ : List ℕ} (s : List ℕ) (at : ℕ) (k : Kind) (id : ℕ)
    → y₀ ≡ sets s at (replicate 8192 0)
    → y₁ ≡ sets y₀ (at + 16) (digits 4 id)
    → y₂ ≡ sets y₁ (at + 36) (digits 2 k.free)
    → y₃ ≡ sets y₂ (at + 44) (digits 1 k.code)
    → y₄ ≡ sets y₃ (at + 45) (digits 1 k.engine)
    → y₅ ≡ sets y₄ (at + 47) (digits 1 1)
    → y₅ ≡ sets s at (blank_page k id)
blank_stores s at k id e₀ e₁ e₂ e₃ e₄ e₅ =
    five_stores s at (replicate 8192 0) k id (length-replicate {A = ℕ} 8192 0) e₀ e₁ e₂ e₃ e₄ e₅ ∙ ap (sets s at) (sym (blank_page_sets k id))

-- a checksum written: x was computed of page p of the area s₀, and is written into s, where that page is the same; y is what s then is
pub sealed_page_put : {x : ℕ} {y : List ℕ} (p : ℕ) (s₀ s : List ℕ)
    → x ≡ checksum_of (page_at p s₀)
    → page_at p s ≡ page_at p s₀
    → y ≡ put_field checksum p x s
    → y ≡ sealed_page p s
unfolding sealed_page
sealed_page_put p s₀ s h e q = q ∙ ap (λ (v : ℕ). put_field checksum p v s) (h ∙ ap checksum_of (sym e))

-- a blank page, sealed where it lies, is a fresh one stored there
pub sealed_page_blank : (p : ℕ) (s : List ℕ) (k : Kind) (id : ℕ) → p * 8192 + 8192 ≤ length s
    → page_at p s ≡ blank_page k id
    → sealed_page p s ≡ sets s (p * 8192) (fresh_page k id)
unfolding sealed_page put_field fresh_page page_at
sealed_page_blank p s k id h e =
    ap (λ (page : List ℕ). sets s (p * 8192 + 20) (digits 4 (checksum_of page))) e
    ∙ (stored_field s (p * 8192) 20 4 (checksum_of (blank_page k id)) (omega arith) refl
    (record { is = sym (sets_part (p * 8192) 8192 s h) ∙ ap (sets s (p * 8192)) e; long = length_blank_page k id })
    ).is

-- ---- the checksum

-- of what the page begins with
pub start_more : {c r : ℕ} {x z : List ℕ} (page : List ℕ)
    → x ≡ part 0 20 page
    → z ≡ digits 4 0
    → c ≡ crc_of x
    → r ≡ crc_more c z
    → r ≡ crc_of (start_of page)
start_more page ex ez ec er = er ∙ ap₂ crc_more (ec ∙ ap crc_of ex) ez ∙ sym (crc_append (part 0 20 page) (digits 4 0))

-- a page whose four checksum bytes are zero, in its parts
pub zeroed : (page : List ℕ) → length page ≡ 8192 → sets page 20 (digits 4 0) ≡ start_of page ++ part 24 8168 page
unfolding part digits
zeroed page long =
    sets-eq (digits 4 0) page 20 (omega arith)
    ∙ ap (λ (l : List ℕ). start_of page ++ l) (sym (part_all 8168 (drop 24 page) (omega (arith, length-drop 24 page))))

-- carried on over the rest
pub checksum_of_more : {c r : ℕ} {y : List ℕ} (page : List ℕ) → length page ≡ 8192
    → c ≡ crc_of (start_of page)
    → y ≡ part 24 8168 page
    → r ≡ crc_more c y
    → r ≡ checksum_of page
unfolding checksum_of
checksum_of_more page long ec ey er =
    er ∙ ap₂ crc_more ec ey ∙ sym (crc_append (start_of page) (part 24 8168 page)) ∙ sym (ap crc_of (zeroed page long))

-- ---- a right page

-- the tests of a header, field by field; that of txn_id always holds
pub page_right_tests : (k : Kind) (id : ℕ) (page : List ℕ)
    → page_right k id page
    ≡ (eqb (little (part 0 8 page)) 0
    && eqb (little (part 16 4 page)) id
    && eqb (little (part 20 4 page)) (checksum_of page)
    && eqb (little (part 24 4 page)) 0
    && eqb (little (part 28 4 page)) 0
    && eqb (little (part 32 4 page)) 0
    && eqb (little (part 36 2 page)) k.free
    && eqb (little (part 38 2 page)) (items_in k page)
    && eqb (little (part 40 2 page)) 0
    && eqb (little (part 42 2 page)) 0
    && eqb (little (part 44 1 page)) k.code
    && eqb (little (part 45 1 page)) k.engine
    && eqb (little (part 46 1 page)) 0
    && eqb (little (part 47 1 page)) 1)
unfolding page_right holds
page_right_tests k id page = rw (eq-eqb (little (part 8 8 page)) (little (part 8 8 page)) refl) (simp (and_assoc, and-true))

-- the same of what was read, field by field
pub page_right_read : {a₀ a₁ a₂ a₃ a₄ a₅ a₆ a₇ a₈ a₉ b₀ b₁ b₂ b₃ sum items : ℕ} (k : Kind) (id : ℕ) (page : List ℕ)
    → sum ≡ checksum_of page
    → items ≡ items_in k page
    → a₀ ≡ little (part 0 8 page)
    → a₁ ≡ little (part 16 4 page)
    → a₂ ≡ little (part 20 4 page)
    → a₃ ≡ little (part 24 4 page)
    → a₄ ≡ little (part 28 4 page)
    → a₅ ≡ little (part 32 4 page)
    → a₆ ≡ little (part 36 2 page)
    → a₇ ≡ little (part 38 2 page)
    → a₈ ≡ little (part 40 2 page)
    → a₉ ≡ little (part 42 2 page)
    → b₀ ≡ little (part 44 1 page)
    → b₁ ≡ little (part 45 1 page)
    → b₂ ≡ little (part 46 1 page)
    → b₃ ≡ little (part 47 1 page)
    → (eqb a₀ 0
    && eqb a₁ id
    && eqb a₂ sum
    && eqb a₃ 0
    && eqb a₄ 0
    && eqb a₅ 0
    && eqb a₆ k.free
    && eqb a₇ items
    && eqb a₈ 0
    && eqb a₉ 0
    && eqb b₀ k.code
    && eqb b₁ k.engine
    && eqb b₂ 0
    && eqb b₃ 1)
    ≡ page_right k id page
page_right_read k id page s i ea₀ ea₁ ea₂ ea₃ ea₄ ea₅ ea₆ ea₇ ea₈ ea₉ eb₀ eb₁ eb₂ eb₃ = rw (page_right_tests k id page) (cc)
