-- That the definitions give the numbers of document 01's table, by computation. Assumes nothing.
use Prim.Native.Nat.{ℕ, ◌+◌}
use mathlib.Core.Path.{◌≡◌, refl, ap, ◌∙◌}
use mathlib.Core.List.{List}
use Rattle.little.specs.Little.{digits, bytes_of}
use Rattle.kind.specs.declared.Kind.{Kind}
use Rattle.kind.specs.Kind.{pages, data_kind, undo_kind, status_kind}
use Rattle.kind.specs.Areas.{Areas}
use Rattle.desk.specs.declared.Desk.{Desk}
use Rattle.page.specs.Header.{page_at}
use Rattle.whole.specs.Whole.{checksum_of, blank_page, fresh_page}
use Rattle.keep.specs.Whole.{fresh_area}
use Rattle.keep.specs.Keep.{formatted, format_rule}
use Rattle.keep.proofs.Promises.{format_accepted, page_at_fresh_area}
use Rattle.gauge.specs.Table.{data_bytes, undo_bytes, status_bytes, Fresh, Table}

-- a fresh page of each kind, whatever its number
fresh_data : (id : ℕ) → fresh_page data_kind id ≡ data_bytes id (checksum_of (data_bytes id 0))
unfolding fresh_page blank_page bytes_of digits
fresh_data id = refl

fresh_undo : (id : ℕ) → fresh_page undo_kind id ≡ undo_bytes id (checksum_of (undo_bytes id 0))
unfolding fresh_page blank_page bytes_of digits
fresh_undo id = refl

fresh_status : (id : ℕ) → fresh_page status_kind id ≡ status_bytes id (checksum_of (status_bytes id 0))
unfolding fresh_page blank_page bytes_of digits
fresh_status id = refl

-- every page of a fresh area
fresh : (k : Kind) (bytes : ℕ → ℕ → List ℕ) → ((id : ℕ) → fresh_page k id ≡ bytes id (checksum_of (bytes id 0)))
    → (n : ℕ) → Fresh bytes n (fresh_area k n)
fresh k bytes is n p h = page_at_fresh_area k n p h ∙ is (p + 1)

pub table : Table
unfolding formatted
table =
    record {
      formats = formats;
      slots = (refl, refl, refl);
      rows_held = λ d. refl;
      undo_entries = (refl, refl, refl);
      entries_held = λ u. refl;
      numbers = (refl, refl, refl, refl);
    }
  where
    formats : (a : Areas) → (format_rule a).0.0 ≡ 0
        → Fresh data_bytes (pages a.«data») (format_rule a).1.«data»
        × Fresh undo_bytes (pages a.undo) (format_rule a).1.undo
        × Fresh status_bytes (pages a.status) (format_rule a).1.status
    formats a e =
        let is : (format_rule a).1 ≡ formatted a = ap (λ (y : (ℕ × Desk) × Areas). y.1) (format_accepted a e).1 in (
          λ p h. ap (λ (y : Areas). page_at p y.«data») is ∙ fresh data_kind data_bytes fresh_data (pages a.«data») p h,
          λ p h. ap (λ (y : Areas). page_at p y.undo) is ∙ fresh undo_kind undo_bytes fresh_undo (pages a.undo) p h,
          λ p h. ap (λ (y : Areas). page_at p y.status) is ∙ fresh status_kind status_bytes fresh_status (pages a.status) p h,
        )
