-- Sweep keeps the invariant: what it cuts off lies under a deed that every open session counts, because the mark is at most each open
-- session's number and each of its list members ("01, Writes, withdrawal, sweep"). Assumes nothing.
use Prim.Native.Nat.{ℕ, ◌≤◌, ◌<◌}
use mathlib.Core.Path.{◌≡◌, refl, subst, ◌∙◌}
use mathlib.Core.Bool.{Bool, true, false}
use mathlib.Core.List.{List}
use native.Mathlib.Omega.{arith}
use lib.Dec.{eqb}
use borrow.Author.Tests.{eqb-true, ltb-true}
use Rattle.ground.proofs.Ranges.{and_true_left, and_true_right}
use Rattle.machine.specs.Table.{History, put, member}
use Rattle.machine.specs.Machine.{Version, Session, Status, Machine, is_committed, sees, counts, mark, dead, cut, swept, since, sweep, effect}
use Rattle.machine.proofs.Basics.{true_false}
use Rattle.machine.proofs.Desks.{Found, mark_found, sees_on}
use Rattle.machine.proofs.Chains.{deeds, Linked}
use Rattle.machine.proofs.Cuts.{CutOf, cut_of, linked_cut, view_cutof, closed_cutof, all_cutof, top_cutof}
use Rattle.machine.proofs.Folds.{own}
use Rattle.machine.proofs.Invariant.{settled, glimpse, Row, Inv, since_else}

dead_facts : (st : ℕ → Status) (k : ℕ) (v : Version) → dead st k v ≡ true → (is_committed (st v.expire) ≡ true) × (v.expire < k)
dead_facts st k v e = (and_true_left _ _ e, ltb-true v.expire k (and_true_right (is_committed (st v.expire)) _ e))

-- what is committed and below the mark is seen by every open session
pub below_mark : (st : ℕ → Status) (desk : List Session) (a n : ℕ) (s : Session) → Found n desk s → (x : ℕ) → (x ≡ 0 → ⊥)
    → is_committed (st x) ≡ true → x < mark a desk → sees st s x ≡ true
below_mark st desk a n s f x z d l = let q = mark_found n desk a s f in
    sees_on st s x z (omega (arith, q.0)) (go (member x s.list) refl) d
  where
    go : (b : Bool) → member x s.list ≡ b → member x s.list ≡ false
    go true e = absurd (omega (arith, (mark_found n desk a s f).1 x e))
    go false e = e

-- committed, not 0 and below the mark
abbrev pub Old : Machine → ℕ → Type 0
Old m x = (x ≡ 0 → ⊥) × (is_committed (m.status x) ≡ true) × (x < mark m.next m.desk)

pub cut_row : (m : Machine) (h : History) → Inv m h → (r : ℕ) → CutOf (Old m) (deeds (m.rows r)) (deeds (swept m r))
cut_row m h i r = cut_of (Old m) (dead m.status (mark m.next m.desk)) sure (m.rows r) (i.linked r)
  where
    sure : (v : Version) → dead m.status (mark m.next m.desk) v ≡ true → (v.expire ≡ 0 → ⊥) × Old m v.expire
    sure v e =
        let (d, l) = dead_facts m.status (mark m.next m.desk) v e in
        let z : v.expire ≡ 0 → ⊥ = λ q. omega (arith, i.dones v.expire d) in
        (z, (z, d, l))

pub inv_sweep : (m : Machine) (h : History) → Inv m h → (r : ℕ) → Inv (effect m (sweep r)) h
inv_sweep m h i r = record {
  first = i.first;
  dones = i.dones;
  opened = λ n s f. let o = i.opened n s f in record {
    positive = o.positive;
    below = o.below;
    working = o.working;
    in_step =
        o.in_step;
  };
  apart = i.apart;
  linked = λ q. linked' q (eqb q r) refl;
  row = λ q. row' q (eqb q r) refl;
}
  where
    d : Version → Bool
    d = dead m.status (mark m.next m.desk)

    vs : List Version
    vs = m.rows r

    c : CutOf (Old m) (deeds vs) (deeds (cut d vs))
    c = cut_row m h i r

    seen_old : (n : ℕ) (s : Session) → Found n m.desk s → (x : ℕ) → Old m x → sees m.status s x ≡ true
    seen_old n s f x g = below_mark m.status m.desk m.next n s f x g.0 g.1 g.2

    not_old : (n : ℕ) (s : Session) → Found n m.desk s → Old m n → ⊥
    not_old n s f g = true_false _ g.1 (rw (i.opened n s f).working refl)

    linked' : (q : ℕ) (t : Bool) → eqb q r ≡ t → Linked (put m.rows r (cut d vs) q)
    linked' q true e = rw e (linked_cut d vs (i.linked r))
    linked' q false e = rw e (i.linked q)

    swept_row_lem : Row m.status m.desk m.next h r (deeds (cut d vs))
    swept_row_lem = let R = i.row r in record {
      bounded = all_cutof (Old m) (λ e. e.who < m.next) (deeds vs) (deeds (cut d vs)) c R.bounded;
      timely = λ n s f. all_cutof (Old m) (λ e. e.who ≡ n → e.cmd ≤ s.statement) (deeds vs) (deeds (cut d vs)) c (R.timely n s f);
      seen = λ n s f. view_cutof (Old m) (glimpse m.status s) (λ x _ g. seen_old n s f x g) (deeds vs) (deeds (cut d vs)) c
          ∙ R.seen n s f;
      told_all = view_cutof (Old m) (settled m.status) (λ x _ g. g.1) (deeds vs) (deeds (cut d vs)) c ∙ R.told_all;
      closed = λ n s f k. closed_cutof (Old m) (counts m.status s k) (deeds vs) (deeds (cut d vs)) c (R.closed n s f k);
      closed_all = closed_cutof (Old m) (settled m.status) (deeds vs) (deeds (cut d vs)) c R.closed_all;
      mine = λ n s f k. top_cutof (Old m) (since n k) (λ x y g. since_else n k x y (λ q. not_old n s f (subst (Old m) q g))) n
          (not_old n s f) (own h n r k) (deeds vs) (deeds (cut d vs)) c (R.mine n s f k);
    }

    row' : (q : ℕ) (t : Bool) → eqb q r ≡ t → Row m.status m.desk m.next h q (deeds (put m.rows r (cut d vs) q))
    row' q true e = rw (e, eqb-true q r e) swept_row_lem
    row' q false e = rw e (let R = i.row q in record {
      bounded = R.bounded;
      timely = R.timely;
      seen = R.seen;
      told_all =
          R.told_all;
      closed = R.closed;
      closed_all = R.closed_all;
      mine = R.mine;
    })
