-- The checksum as document 01 had it before 02, T-03 mended it, seal and open of that time, and what becomes of the stores that they sealed or accept.
-- Assumes nothing.
use Rattle.std.specs.Prelude.{ℕ, zero, suc, ◌+◌, ◌≡◌, Bool, true, false, not, ◌&&◌, ◌||◌, List, [], ◌∷◌, ◌++◌, eqb, leb, length}
use Rattle.ground.specs.Refuse.{first_of, settle}
use Rattle.ground.specs.Range.{all_below}
use Rattle.little.specs.Little.{digits, part, holds, Bytes}
use Rattle.crc.specs.Crc.{filled, run, crc_of}
use Rattle.kind.specs.declared.Kind.{Kind}
use Rattle.kind.specs.Kind.{page_size, pages, data_kind, undo_kind, status_kind}
use Rattle.kind.specs.Areas.{Areas, areas, bad_length}
use Rattle.status.specs.Status.{last_number}
use Rattle.page.specs.Header.{header, page_at, txn_id, checksum, field_in, put_field}
use Rattle.page.specs.Count.{items_in}
use Rattle.whole.specs.Whole.{checksum_of}
use Rattle.desk.specs.declared.Desk.{Desk}
use Rattle.desk.specs.Desk.{fresh_desk, no_desk}
use Rattle.keep.specs.Whole.{highest, all_ended}
use Rattle.keep.specs.Keep.{sealed, seal_rule, open_rule}

-- "The checksum is CRC32C over the page without the four checksum bytes, so over 8,188 bytes"
unfoldable pub former_checksum : List ℕ → ℕ
former_checksum page = crc_of (part 0 20 page ++ part 24 8168 page)

-- ---- seal and open, with any checksum put for today's: `sealed_page`, `sealed_area` and `sealed`, then `page_right`, `area_right`, `store_right` and
-- `open_rule`, word for word but for that

unfoldable pub sealed_page_by : (List ℕ → ℕ) → ℕ → List ℕ → List ℕ
sealed_page_by sum p s = put_field checksum p (sum (page_at p s)) s

unfoldable pub sealed_area_by : (List ℕ → ℕ) → ℕ → List ℕ → List ℕ
sealed_area_by sum zero s = s
sealed_area_by sum (suc n) s = sealed_page_by sum n (sealed_area_by sum n s)

unfoldable pub sealed_by : (List ℕ → ℕ) → Areas → Areas
sealed_by sum a =
    areas
    (sealed_area_by sum (pages a.«data») a.«data»)
    (sealed_area_by sum (pages a.undo) a.undo)
    (sealed_area_by sum (pages a.status) a.status)

unfoldable pub page_right_by : (List ℕ → ℕ) → Kind → ℕ → List ℕ → Bool
page_right_by sum k id page = holds page 0 (header k id (field_in txn_id page) (sum page) (items_in k page))

unfoldable pub area_right_by : (List ℕ → ℕ) → Kind → List ℕ → Bool
area_right_by sum k s = all_below (λ (p : ℕ). page_right_by sum k (p + 1) (page_at p s)) (pages s)

unfoldable pub store_right_by : (List ℕ → ℕ) → Areas → Bool
store_right_by sum a =
    area_right_by sum data_kind a.«data»
    && area_right_by sum undo_kind a.undo
    && area_right_by sum status_kind a.status
    && leb (highest a.status) last_number
    && all_ended (highest a.status) a.status

unfoldable pub open_by : (List ℕ → ℕ) → Areas → ℕ × Desk
open_by sum a =
    settle (first_of ((bad_length a, 1) ∷ (not (store_right_by sum a), 3) ∷ [])) (0, fresh_desk (highest a.status + 1)) (λ (n : ℕ). (n, no_desk))

-- what the seal of a release before T-03 leaves, and its open
abbrev pub former_sealed : Areas → Areas
former_sealed = sealed_by former_checksum

abbrev pub former_open : Areas → ℕ × Desk
former_open = open_by former_checksum

-- ---- "the two numbers": a page's checksum by the old rule and by the new one

unfoldable pub agree : List ℕ → Bool
agree page = eqb (former_checksum page) (checksum_of page)

-- "agree on every page", of an area and of a store
unfoldable pub area_agrees : List ℕ → Bool
area_agrees s = all_below (λ (p : ℕ). agree (page_at p s)) (pages s)

unfoldable pub store_agrees : Areas → Bool
store_agrees a = area_agrees a.«data» && area_agrees a.undo && area_agrees a.status

-- the register of CRC32C after the 20 bytes before the checksum: page_lsn, txn_id and page_id
abbrev pub register_of : List ℕ → ℕ
register_of page = run filled (part 0 20 page)

pub record Former : Type 0 where
  -- seal and open of today are these with today's checksum: the old rule and the new differ in nothing else
  pub seals : (a : Areas) → sealed_by checksum_of a ≡ sealed a
  pub opens : (a : Areas) → open_by checksum_of a ≡ open_rule a
  -- "a store sealed under the old rule is answered 3, unless the two numbers happen to agree on every page": of every store that the old open
  -- accepts; and where they do agree, the answer is the old one
  pub differing : (a : Areas) → (former_open a).0 ≡ 0 → store_agrees a ≡ false → open_rule a ≡ (3, no_desk)
  pub agreeing : (a : Areas) → (former_open a).0 ≡ 0 → store_agrees a ≡ true → open_rule a ≡ former_open a
  -- they agree on a page exactly where four bytes 0 leave that register as it is, and there are two such registers
  pub left : (page : List ℕ) → length page ≡ page_size → Bytes page
      → agree page ≡ eqb (run (register_of page) (digits 4 0)) (register_of page)
  pub two : (page : List ℕ) → length page ≡ page_size → Bytes page
      → agree page ≡ (eqb (register_of page) 0 || eqb (register_of page) 0xFCA42DAF)
  -- they agree on no status page that is right but for the checksum, so every store of bytes that the old open accepts is answered 3; and so is every
  -- one of allowed lengths that the old seal has sealed, whatever it holds
  pub always : (a : Areas) → Bytes a.status → (former_open a).0 ≡ 0 → open_rule a ≡ (3, no_desk)
  pub sealed_before : (a : Areas) → Bytes a.status → bad_length a ≡ false → open_rule (former_sealed a) ≡ (3, no_desk)
  -- opened by the old release and sealed by the new one, it is what the new open accepts, with the desk that the old one answered
  pub sealed_anew : (a : Areas) → Bytes a.«data» → Bytes a.undo → Bytes a.status → (former_open a).0 ≡ 0
      → ((seal_rule a (former_open a).1).0 ≡ 0) × (open_rule (seal_rule a (former_open a).1).1 ≡ former_open a)
