-- Laws of the pages of an area and of header fields: what a field stored into page p leaves of the pages and statuses of an area,
-- what a status put leaves of the headers, and the offsets of the header's fields. Assumes nothing.
use mathlib.Core.Path.{◌≡◌, refl, sym, ap, ◌∙◌}
use mathlib.Core.Logic.{⊎_elim}
use mathlib.Core.List.{List, [], ◌∷◌, ◌++◌}
use Prim.Native.Nat.{ℕ, zero, suc, ◌+◌, ◌*◌, ◌-◌, ◌/◌, ◌^◌, ◌≤◌, ◌<◌}
use native.Mathlib.Nat.{zero-add}
use native.Mathlib.Omega.{arith}
use lib.ListN.{length, take, drop, get_or}
use lib.Seq.{sets, length-sets}
use Rattle.ground.proofs.Ranges.{lt_or_le}
use Rattle.little.specs.Little.{little, digits, part, Bytes}
use Rattle.little.proofs.Digits.{length_digits}
use Rattle.little.proofs.Parts.{length_part, part_part, part_append, part_behind, part_sets_below, part_sets_above, part_sets_inside, little_sets, get_d_sets_below, get_d_sets_above}
use Rattle.little.proofs.Fields.{offset}
use Rattle.little.proofs.AllBytes.{bytes_part, bytes_sets, bytes_digits}
use Rattle.kind.specs.declared.Kind.{Kind}
use Rattle.kind.specs.Kind.{page_size}
use Rattle.status.specs.declared.Status.{Status}
use Rattle.status.specs.Status.{status_place, bits_in, put_bits_in, bits_of, status_of, status_at, put_status}
use Rattle.page.specs.Header.{header, page_at, field_in, put_field}

-- ---- "Header, 48 bytes, offset then size": the fields of a header begin where the paper says

-- where the fields from i on begin, n of them
abbrev offsets : List (ℕ × ℕ) → ℕ → ℕ → List ℕ
offsets fs i zero = []
offsets fs i (suc n) = offset i fs ∷ offsets fs (suc i) n

pub header_offsets : (k : Kind) (id txn sum items : ℕ)
    → offsets (header k id txn sum items) 0 15
    ≡ 0 ∷ 8 ∷ 16 ∷ 20 ∷ 24 ∷ 28 ∷ 32 ∷ 36 ∷ 38 ∷ 40 ∷ 42 ∷ 44 ∷ 45 ∷ 46 ∷ 47 ∷ []
header_offsets k id txn sum items = refl

-- ---- page p of an area: its length, its bytes, where the area is made of two, and as it is lent

pub length_page_at : (p : ℕ) (s : List ℕ) → p * 8192 + 8192 ≤ length s → length (page_at p s) ≡ 8192
unfolding page_at
length_page_at p s h = length_part (p * 8192) 8192 s h

pub bytes_page_at : (p : ℕ) (s : List ℕ) → Bytes s → Bytes (page_at p s)
unfolding page_at
bytes_page_at p s h = bytes_part (p * 8192) 8192 s h

pub page_at_append : (p : ℕ) (s t : List ℕ) → p * 8192 + 8192 ≤ length s → page_at p (s ++ t) ≡ page_at p s
unfolding page_at
page_at_append p s t h = part_append (p * 8192) 8192 s t h

pub page_at_behind : (p : ℕ) (s page : List ℕ) → length s ≡ p * 8192 → length page ≡ 8192 → page_at p (s ++ page) ≡ page
unfolding page_at
page_at_behind p s page e h = part_behind s page (p * 8192) 8192 e (omega arith)

pub page_at_lent : (p : ℕ) (s : List ℕ) → take (p * 8192 + 8192 - p * 8192) (drop (p * 8192) s) ≡ page_at p s
unfolding page_at part
page_at_lent p s =
    let e : p * 8192 + 8192 - p * 8192 ≡ 8192 = omega arith in
    ap (λ (m : ℕ). take m (drop (p * 8192) s)) e

-- ---- a field stored into page p of an area: the lengths, the bytes, the pages and the statuses

pub length_put_field : (f : ℕ × ℕ) (p v : ℕ) (s : List ℕ) → length (put_field f p v s) ≡ length s
unfolding put_field
length_put_field f p v s = length-sets s (p * 8192 + f.0) (digits f.1 v)

pub bytes_put_field : (f : ℕ × ℕ) (p v : ℕ) (s : List ℕ) → Bytes s → Bytes (put_field f p v s)
unfolding put_field
bytes_put_field f p v s h = bytes_sets (digits f.1 v) s (p * 8192 + f.0) (bytes_digits f.1 v) h

pub page_at_put_field_same : (f : ℕ × ℕ) (p v : ℕ) (s : List ℕ) → f.0 + f.1 ≤ 8192
    → page_at p (put_field f p v s) ≡ sets (page_at p s) f.0 (digits f.1 v)
unfolding page_at put_field
page_at_put_field_same f p v s h = part_sets_inside (p * 8192) 8192 s f.0 (digits f.1 v) (omega (arith, length_digits f.1 v))

pub page_at_put_field_other : (f : ℕ × ℕ) (p q v : ℕ) (s : List ℕ) → f.0 + f.1 ≤ 8192 → (q ≡ p → ⊥) → page_at q (put_field f p v s) ≡ page_at q s
unfolding page_at put_field
page_at_put_field_other f p q v s h ne =
    ⊎_elim
    (λ (l : q < p). part_sets_below (q * 8192) 8192 s (p * 8192 + f.0) (digits f.1 v) (omega arith))
    (λ (l : p ≤ q). part_sets_above (q * 8192) 8192 s (p * 8192 + f.0) (digits f.1 v) (omega (arith, length_digits f.1 v, ne)))
    (lt_or_le q p)

-- a field of the header is no byte of a status
pub status_at_put_field : (f : ℕ × ℕ) (n p v : ℕ) (s : List ℕ) → f.0 + f.1 ≤ 48 → status_at n (put_field f p v s) ≡ status_at n s
unfolding status_at put_field
status_at_put_field f n p v s h =
    ap (λ (b : ℕ). status_of (bits_in n b))
    (⊎_elim
    (λ (l : n / 32576 < p). get_d_sets_below s (p * 8192 + f.0) (digits f.1 v) (status_place page_size n) (omega arith))
    (λ (l : p ≤ n / 32576). get_d_sets_above s (p * 8192 + f.0) (digits f.1 v) (status_place page_size n) (omega (arith, length_digits f.1 v)))
    (lt_or_le (n / 32576) p))

-- what a field of page p says, by its place in the area
pub field_in_page_at : (f : ℕ × ℕ) (p : ℕ) (s : List ℕ) → f.0 + f.1 ≤ 8192 → field_in f (page_at p s) ≡ little (part (p * 8192 + f.0) f.1 s)
unfolding page_at
field_in_page_at f p s h = ap little (part_part f.0 f.1 (p * 8192) 8192 s h)

-- and is read back
pub field_in_put_field : (f : ℕ × ℕ) (p v : ℕ) (s : List ℕ) → f.0 + f.1 ≤ 8192 → v < 256 ^ f.1 → p * 8192 + f.0 + f.1 ≤ length s
    → field_in f (page_at p (put_field f p v s)) ≡ v
unfolding put_field
field_in_put_field f p v s room fits h = field_in_page_at f p (put_field f p v s) room ∙ little_sets s (p * 8192 + f.0) f.1 v fits h

-- ---- the header of a page, its first 48 bytes

-- a part of it, and so a field, is what these bytes say
pub part_header : (o n : ℕ) (x y : List ℕ) → o + n ≤ 48 → part 0 48 y ≡ part 0 48 x → part o n y ≡ part o n x
part_header o n x y h same = sym (front y) ∙ ap (part o n) same ∙ front x
  where
    front : (page : List ℕ) → part o n (part 0 48 page) ≡ part o n page
    front page = part_part o n 0 48 page h ∙ ap (λ (at : ℕ). part at n page) (zero-add o)

pub field_in_header : (f : ℕ × ℕ) (x y : List ℕ) → f.0 + f.1 ≤ 48 → part 0 48 y ≡ part 0 48 x → field_in f y ≡ field_in f x
field_in_header f x y h same = ap little (part_header f.0 f.1 x y h same)

-- those of page p
pub header_at : (p : ℕ) (s : List ℕ) → part 0 48 (page_at p s) ≡ part (p * 8192 + 0) 48 s
unfolding page_at
header_at p s = part_part 0 48 (p * 8192) 8192 s (omega arith)

-- a status is no byte of any header
pub header_put_status : (p n : ℕ) (v : Status) (s : List ℕ) → part 0 48 (page_at p (put_status n v s)) ≡ part 0 48 (page_at p s)
unfolding put_status
header_put_status p n v s =
    header_at p (put_status n v s)
    ∙ ⊎_elim
    (λ (l : n / 32576 < p). part_sets_above (p * 8192 + 0) 48 s (status_place page_size n) (byte ∷ []) (omega arith))
    (λ (l : p ≤ n / 32576). part_sets_below (p * 8192 + 0) 48 s (status_place page_size n) (byte ∷ []) (omega arith))
    (lt_or_le (n / 32576) p)
    ∙ sym (header_at p s)
  where
    byte : ℕ
    byte = put_bits_in n (bits_of v) (get_or s (status_place page_size n) 0)

pub field_in_put_status : (f : ℕ × ℕ) (p n : ℕ) (v : Status) (s : List ℕ) → f.0 + f.1 ≤ 48
    → field_in f (page_at p (put_status n v s)) ≡ field_in f (page_at p s)
field_in_put_status f p n v s h = field_in_header f (page_at p s) (page_at p (put_status n v s)) h (header_put_status p n v s)
