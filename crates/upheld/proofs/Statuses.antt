-- The status page keeps its header right but for the checksum, whatever status is put and whatever number is handed out, and says the
-- highest number as it was written; so do areas as format writes them and as seal leaves them. No number gets status 11 by any of it.
-- Assumes nothing.
use mathlib.Core.Path.{◌≡◌, ap, ◌∙◌}
use mathlib.Core.Bool.{Bool, true, false, cond}
use mathlib.Core.List.{List}
use Prim.Native.Nat.{ℕ, zero, suc, ◌+◌, ◌^◌, ◌≤◌, ◌<◌}
use native.Mathlib.Omega.{arith}
use lib.Dec.{eqb}
use lib.ListN.{length}
use Rattle.kind.specs.declared.Kind.{Kind}
use Rattle.kind.specs.Kind.{pages, status_kind}
use Rattle.status.specs.declared.Status.{Status}
use Rattle.status.specs.Status.{put_status}
use Rattle.status.proofs.StatusLaws.{length_put_status, bytes_put_status}
use Rattle.page.specs.Header.{page_at, txn_id, put_field}
use Rattle.page.proofs.Headers.{field_in_put_field, field_in_put_status}
use Rattle.whole.specs.Whole.{checksum_of, header_right, sealed_page}
use Rattle.whole.proofs.Headers.{header_right_put_status}
use Rattle.whole.proofs.Rights.{Fitting, header_right_fresh_page}
use Rattle.keep.specs.Whole.{fresh_area, sealed_area, highest}
use Rattle.keep.proofs.Promises.{Sealable, length_fresh_area, bytes_fresh_area, page_at_fresh_area}
use Rattle.sight.specs.Sight.{standing}
use Rattle.doubt.specs.Doubt.{is_reserved, reserved, NoneReserved}
use Rattle.seen.proofs.Standings.{standing_put, standing_field}
use Rattle.upheld.proofs.Kept.{sealed_standing, fresh_standing}
use Rattle.upheld.proofs.Pages.{sealable_txn_id, sealable_checksum}

-- ---- a status put

pub sealable_status : (n : ℕ) (v : Status) (s : List ℕ) → Sealable status_kind s → Sealable status_kind (put_status n v s)
sealable_status n v s h =
    record {
      bytes = bytes_put_status n v s h.bytes;
      headers = λ p l. header_right_put_status (p + 1) p n v s ∙ h.headers p (omega (arith, length_put_status n v s));
    }

pub sealable_begun : (n : ℕ) (v : Status) (x : ℕ) (s : List ℕ) → Sealable status_kind s → Sealable status_kind (put_field txn_id 0 x (put_status n v s))
sealable_begun n v x s h = sealable_txn_id status_kind 0 x (put_status n v s) (sealable_status n v s h)

-- ---- the highest number handed out

pub highest_status : (n : ℕ) (v : Status) (s : List ℕ) → highest (put_status n v s) ≡ highest s
unfolding highest
highest_status n v s = field_in_put_status txn_id 0 n v s (omega arith)

pub highest_begun : (x : ℕ) (s : List ℕ) → x < 2 ^ 64 → length s ≡ 8192 → highest (put_field txn_id 0 x s) ≡ x
unfolding highest
highest_begun x s fits long = field_in_put_field txn_id 0 x s (omega arith) fits (omega arith)

-- ---- no number is reserved, as long as none is put so

module _ (n : ℕ) (v : Status) (s : List ℕ) (low : 1 ≤ n) (high : n ≤ 32575) (long : length s ≡ 8192) (one : is_reserved v ≡ false) (none : NoneReserved s) where
  pub unreserved_status : NoneReserved (put_status n v s)
  unfolding reserved
  unreserved_status x = standing_put n v s low high long is_reserved x ∙ by (eqb x n)
    where
      by : (b : Bool) → cond b (is_reserved v) (is_reserved (standing x s)) ≡ false
      by true = one
      by false = none x

  pub unreserved_begun : (y : ℕ) → NoneReserved (put_field txn_id 0 y (put_status n v s))
  unfolding reserved
  unreserved_begun y x = ap is_reserved (standing_field txn_id y (put_status n v s) (omega arith) x) ∙ unreserved_status x

pub unreserved_sealed : (s : List ℕ) → NoneReserved s → NoneReserved (sealed_area (pages s) s)
unfolding reserved
unreserved_sealed s none x = ap is_reserved (sealed_standing s x) ∙ none x

pub unreserved_fresh : NoneReserved (fresh_area status_kind 1)
unfolding reserved
unreserved_fresh x = ap is_reserved (fresh_standing x)

-- ---- after seal

sealed_pages : (k : Kind) (n : ℕ) (s : List ℕ) → Sealable k s → Sealable k (sealed_area n s)
unfolding sealed_area sealed_page
sealed_pages k zero s h = h
sealed_pages k (suc n) s h = sealable_checksum k n (checksum_of (page_at n (sealed_area n s))) (sealed_area n s) (sealed_pages k n s h)

pub sealable_sealed : (k : Kind) (s : List ℕ) → Sealable k s → Sealable k (sealed_area (pages s) s)
sealable_sealed k s h = sealed_pages k (pages s) s h

-- ---- after format

pub sealable_fresh : (k : Kind) (n : ℕ) → Fitting k → n < 256 ^ 4 → Sealable k (fresh_area k n)
sealable_fresh k n fit h =
    record {
      bytes = bytes_fresh_area k n;
      headers =
          λ p l.
          let below : p < n = omega (arith, length_fresh_area k n) in
          ap (header_right k (p + 1)) (page_at_fresh_area k n p below) ∙ header_right_fresh_page k (p + 1) fit (omega arith);
    }
