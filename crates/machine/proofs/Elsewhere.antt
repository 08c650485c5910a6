-- Calls that neither move nor end session S leave the plain table of S: its own writes of its present statement, what others do, and
-- whoever begins. Assumes nothing.
use Prim.Native.Nat.{ℕ, ◌<◌}
use mathlib.Core.Path.{◌≡◌, refl, ap, ◌∙◌}
use mathlib.Core.Bool.{Bool, true, false, ◌&&◌, ◌||◌, cond}
use mathlib.Core.List.{◌∷◌, [], ◌++◌}
use mathlib.Core.Option.{Option, none, some}
use native.Mathlib.Omega.{arith}
use lib.Dec.{eqb, ltb}
use borrow.Author.Tests.{ne_eqb, le-ltb, not-true}
use Rattle.machine.specs.Table.{Body, History, wrote, plain_table, committed_table, when_began, writes_before, statement_of, play, open_in}
use Rattle.machine.proofs.Folds.{statement_else}
use Rattle.machine.specs.Lines.{Call, Verdict, refused, done, told, heard, spares, format, opens, seal, read, begin, next, insert, update, delete, commit, withdraw, sweep}
use Rattle.machine.specs.Machine.{Machine, find}
use Rattle.machine.specs.Runs.{Reach}
use Rattle.machine.proofs.Basics.{true_false}
use Rattle.machine.proofs.Desks.{found_of}
use Rattle.machine.proofs.Opens.{open_is}
use Rattle.machine.proofs.Readings.{reach_both}
use Rattle.machine.proofs.Follows.{Did, DidCall}

-- S's own write of its present statement is not among its earlier ones
module _ (h : History) (n q r s : ℕ) (b : Option Body) where
  wrote_later : plain_table (wrote q r b ∷ h) n s ≡ plain_table h n s
  wrote_later = go (eqb n q)
    where
      go : (c : Bool)
          → play (committed_table (when_began h n)) (cond (c && ltb (statement_of h n) (statement_of h n)) (writes_before (statement_of h n) h n ++ (record { row = r; body = b } ∷ [])) (writes_before (statement_of h n) h n)) s
          ≡ plain_table h n s
      go true = rw (le-ltb (statement_of h n) (statement_of h n) (omega arith))
      go false = refl

-- whoever begins gets a number that no open session has
module _ {m : Machine} {h : History} (x : Reach m h) (n : ℕ) (o : open_in h n ≡ true) where
  begins_other : n < m.next
  begins_other = let (s, f) = found_of n m.desk (find n m.desk) refl (open_is x n ∙ o) in ((reach_both x).0.opened n s f).below

  call_spares : (c : Call) (a : ℕ) (m' : Machine) → DidCall m c a m' → spares n c ≡ true → (r : ℕ) → plain_table (told h c a) n r ≡ plain_table h n r
  call_spares (format d u s) a m' e k r = true_false false k refl
  call_spares opens a m' e k r = refl
  call_spares seal a m' e k r = refl
  call_spares begin a m' e k r =
      let other : eqb n a ≡ false = ne_eqb n a (λ z. omega (arith, z, e.0, begins_other)) in
      rw other (ap (λ (k : ℕ). play (committed_table (when_began h n)) (writes_before k h n) r) (statement_else h a n other))
  call_spares (next s) a m' e k r = rw (not-true (eqb n s) k)
  call_spares (insert s y) a m' e k r = wrote_later h n s a r (some y)
  call_spares (update s q y) a m' e k r = wrote_later h n s q r (some y)
  call_spares (delete s q) a m' e k r = wrote_later h n s q r none
  call_spares (read s q) a m' e k r = refl
  call_spares (commit s) a m' e k r = refl
  call_spares (withdraw s) a m' e k r = refl
  call_spares (sweep q t) a m' e k r = refl

  pub plain_spared : (c : Call) (a : Verdict) (m' : Machine) → Did m c a m' → spares n c ≡ true → (r : ℕ) → plain_table (heard h c a) n r ≡ plain_table h n r
  plain_spared c (refused j) m' e k r = refl
  plain_spared c (done a b y) m' e k r = call_spares c a m' e k r

-- and S stays open
pub open_spared : (h : History) (n : ℕ) (c : Call) (a : Verdict) → spares n c ≡ true → open_in h n ≡ true → open_in (heard h c a) n ≡ true
open_spared h n c (refused k) s o = o
open_spared h n (format d u s) (done a b y) k o = true_false false k refl
open_spared h n opens (done a b y) k o = o
open_spared h n seal (done a b y) k o = o
open_spared h n begin (done a b y) k o = go (eqb n a)
  where
    go : (c : Bool) → (c || open_in h n) ≡ true
    go true = refl
    go false = o
open_spared h n (next s) (done a b y) k o = o
open_spared h n (insert s x) (done a b y) k o = o
open_spared h n (update s q x) (done a b y) k o = o
open_spared h n (delete s q) (done a b y) k o = o
open_spared h n (read s q) (done a b y) k o = o
open_spared h n (commit s) (done a b y) k o = rw k o
open_spared h n (withdraw s) (done a b y) k o = rw k o
open_spared h n (sweep q t) (done a b y) k o = o
