-- What a store into one page of an area has to keep, so that every header stays right but for its checksum; a field that may say
-- anything keeps it. Assumes nothing.
use mathlib.Core.Path.{◌≡◌, refl, sym, ap, subst, ◌∙◌}
use mathlib.Core.Bool.{Bool, true, false}
use mathlib.Core.List.{List}
use Prim.Native.Nat.{ℕ, ◌+◌, ◌≤◌, ◌<◌}
use native.Mathlib.Omega.{arith}
use lib.ListN.{length}
use lib.Dec.{eqb}
use borrow.Author.Tests.{eqb-true, eqb-false}
use Rattle.little.specs.Little.{Bytes}
use Rattle.kind.specs.declared.Kind.{Kind}
use Rattle.kind.specs.Kind.{pages}
use Rattle.page.specs.Header.{page_at, txn_id, checksum, put_field}
use Rattle.page.proofs.Headers.{length_put_field, bytes_put_field, page_at_put_field_other}
use Rattle.whole.specs.Whole.{header_right}
use Rattle.whole.proofs.Headers.{header_right_put_txn_id, header_right_put_checksum}
use Rattle.keep.proofs.Promises.{Sealable}

-- z is s with a store into page q
pub sealable_page : (k : Kind) (q : ℕ) (s z : List ℕ) → length z ≡ length s → Bytes z
    → ((p : ℕ) → (p ≡ q → ⊥) → page_at p z ≡ page_at p s)
    → (q < pages s → header_right k (q + 1) (page_at q s) ≡ true → header_right k (q + 1) (page_at q z) ≡ true)
    → Sealable k s
    → Sealable k z
sealable_page k q s z long own others here h = record { bytes = own; headers = λ p l. by p (omega (arith, long)) (eqb p q) refl }
  where
    by : (p : ℕ) → p < pages s → (b : Bool) → eqb p q ≡ b → header_right k (p + 1) (page_at p z) ≡ true
    by p l true e =
        let same : q ≡ p = sym (eqb-true p q e) in
        subst (λ (n : ℕ). header_right k (n + 1) (page_at n z) ≡ true) same (here (omega arith) (h.headers q (omega arith)))
    by p l false e = ap (header_right k (p + 1)) (others p (eqb-false p q e)) ∙ h.headers p l

-- field f of page q put
module _ (k : Kind) (q v : ℕ) (s : List ℕ) (h : Sealable k s) where
  sealable_field : (f : ℕ × ℕ) → f.0 + f.1 ≤ 8192
      → (q < pages s → header_right k (q + 1) (page_at q (put_field f q v s)) ≡ header_right k (q + 1) (page_at q s))
      → Sealable k (put_field f q v s)
  sealable_field f room free =
      sealable_page k q s (put_field f q v s) (length_put_field f q v s) (bytes_put_field f q v s h.bytes)
      (λ p ne. page_at_put_field_other f q p v s room ne)
      (λ l right. free l ∙ right)
      h

  pub sealable_txn_id : Sealable k (put_field txn_id q v s)
  sealable_txn_id = sealable_field txn_id (omega arith) (header_right_put_txn_id k (q + 1) q v s)

  pub sealable_checksum : Sealable k (put_field checksum q v s)
  sealable_checksum = sealable_field checksum (omega arith) (header_right_put_checksum k (q + 1) q v s)
