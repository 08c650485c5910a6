-- The words of the theorems mean what specs/Observers.antt says: those that need no theorem. Assumes nothing.
use Prim.Native.Nat.{ℕ, suc, ◌≤◌}
use mathlib.Core.Path.{◌≡◌, refl, ap, ap₂, ◌∙◌}
use mathlib.Core.Logic.{◌⊎◌, inl, inr}
use mathlib.Core.Bool.{Bool, true, false, not, ◌&&◌, cond, and-false}
use mathlib.Core.Option.{none, some}
use mathlib.Core.List.{List, [], ◌∷◌, ◌++◌}
use native.Mathlib.Omega.{arith}
use borrow.Author.Tests.{eqb-true, eq-eqb, ne_eqb, lt-ltb}
use Rattle.kind.specs.Kind.{rows}
use Rattle.records.specs.Slot.{slot_at, body_at}
use Rattle.machine.specs.Table.{Body}
use Rattle.machine.specs.Lines.{Call, format, opens, seal, begin, next, insert, update, delete, read, commit, withdraw, sweep, is_done, is_format, is_update}
use Rattle.machine.specs.Observers.{SomeFormat}
use Rattle.machine.proofs.About.{only_formats, only_updates}
use Rattle.history.specs.World.{World, says, after, after_all}
use Rattle.history.specs.Asked.{Run, start, end, no_format, Standing, is_empty, updates_from, updates}
use Rattle.history.specs.Observers.{EveryRun, EveryProper, EveryAllProper, EveryNoFormat, EveryAllSpare, EveryWithdrawal, EveryAnswer, EmptyByCreate, StandingOfSlot, NoUpdates, Further, UpdateAdds, NothingElseAdds}

-- ---- runs

pub every_run : EveryRun
every_run w d u s e cs p = (record { before = w; «data» = d; undo = u; status = s; formatted = e; calls = cs; proper = p }, refl, refl, refl, refl)

pub every_proper : EveryProper
every_proper (format d u s) i u' = tt
every_proper opens i u = tt
every_proper seal i u = tt
every_proper begin i u = tt
every_proper (next x) i u = tt
every_proper (insert x y) i u = i x y refl
every_proper (update x q y) i u = u x q y refl
every_proper (delete x q) i u = tt
every_proper (read x q) i u = tt
every_proper (commit x) i u = tt
every_proper (withdraw x) i u = tt
every_proper (sweep first quota) i u = tt

pub every_all_proper : EveryAllProper
every_all_proper = (tt, λ c cs p ps. (p, ps))

-- a format among them is told, and nothing else is
format_told : (d u s : List ℕ) (cs : List Call) → no_format (format d u s ∷ cs) ≡ false
format_told d u s cs = refl

pub every_no_format : EveryNoFormat
every_no_format = (refl, format_told, λ c cs. go c cs (only_formats c))
  where
    go : (c : Call) (cs : List Call) → (is_format c ≡ false) ⊎ SomeFormat c → (no_format (c ∷ cs) ≡ no_format cs) ⊎ SomeFormat c
    go c cs (inl e) = inl (rw e)
    go c cs (inr s) = inr s

pub every_all_spare : EveryAllSpare
every_all_spare n = (refl, λ c cs e. rw e)

pub every_withdrawal : EveryWithdrawal
every_withdrawal x n r first c p accepted writes cs ps unformatted withdrawn = (
  record {
    first = first;
    write = c;
    proper = p;
    accepted = accepted;
    writes = writes;
    calls = cs;
    all_proper = ps;
    unformatted = unformatted;
    withdrawn = withdrawn;
  },
  refl,
)

-- ---- readings

pub every_answer : EveryAnswer
every_answer a = ((λ e. e), λ b e. e)

-- ---- rows

pub empty_by_create : EmptyByCreate
empty_by_create w r = (eqb-true (slot_at r w.held.«data»).create 0, eq-eqb (slot_at r w.held.«data»).create 0)

pub standing_of_slot : StandingOfSlot
standing_of_slot w r inside used = (
  here,
  ap₂ (λ (a b : Bool). cond (a && not b) (some here) none) (lt-ltb r (rows d) inside) (ne_eqb (slot_at r d).create 0 used),
  refl,
  refl,
  refl,
  refl,
)
  where
    d : List ℕ
    d = w.held.«data»

    here : Standing
    here = record { body = body_at r d; creator = (slot_at r d).create; creating = (slot_at r d).cmd; expirer = (slot_at r d).expire }

-- ---- the count of updates

-- an empty row has none
one_emptied : (w : World) (r k : ℕ) (c : Call) → is_empty (after w c) r ≡ true → updates_from w r k (c ∷ []) ≡ 0
one_emptied w r k c e = rw e

pub no_updates : NoUpdates
no_updates x r (inl e) = ap (updates_from (start x) r 0) e
no_updates x r (inr e) = all_emptied x.calls (start x) 0 (λ z. refl) (eq-eqb (slot_at r (end x).held.«data»).create 0 e)
  where
    all_emptied : (cs : List Call) (w : World) (k : ℕ) → (is_empty w r ≡ true → k ≡ 0) → is_empty (after_all w cs) r ≡ true → updates_from w r k cs ≡ 0
    all_emptied [] w k z e = z e
    all_emptied (c ∷ cs) w k z e = all_emptied cs (after w c) (updates_from w r k (c ∷ [])) (one_emptied w r k c) e

-- the last call on top of the others
from_append : (cs : List Call) (w : World) (r k : ℕ) (c : Call)
    → updates_from w r k (cs ++ (c ∷ [])) ≡ updates_from (after_all w cs) r (updates_from w r k cs) (c ∷ [])
from_append [] w r k c = refl
from_append (d ∷ cs) w r k c = from_append cs (after w d) r (updates_from w r k (d ∷ [])) c

further_is : (x y : Run) (c : Call) → Further x c y → (r : ℕ) → updates y r ≡ updates_from (end x) r (updates x r) (c ∷ [])
further_is x y c f r = ap₂ (λ (w : World) (cs : List Call). updates_from w r 0 cs) f.0 f.1 ∙ from_append x.calls (start x) r 0 c

-- an accepted update adds 1, another call nothing
one_added : (w : World) (r k : ℕ) (c : Call) → is_empty (after w c) r ≡ false → is_done (says w c) ≡ true → is_update r c ≡ true
    → updates_from w r k (c ∷ []) ≡ suc k
one_added w r k c e d u = rw (e, d, u)

one_else : (w : World) (r k : ℕ) (c : Call) → (is_done (says w c) && is_update r c) ≡ false → updates_from w r k (c ∷ []) ≤ k
one_else w r k c e = go (is_empty (after w c) r) refl
  where
    go : (b : Bool) → is_empty (after w c) r ≡ b → updates_from w r k (c ∷ []) ≤ k
    go true f = omega (arith, one_emptied w r k c f)
    go false f = rw (f, e) (omega arith)

pub update_adds : UpdateAdds
update_adds x y n r b f d used =
    further_is x y (update n r b) f r
    ∙ one_added (end x) r (updates x r) (update n r b) (ne_eqb (slot_at r (after (end x) (update n r b)).held.«data»).create 0 occupied) d (eq-eqb r r refl)
  where
    last : (cs : List Call) (w : World) (c : Call) → after_all w (cs ++ (c ∷ [])) ≡ after (after_all w cs) c
    last [] w c = refl
    last (d ∷ cs) w c = last cs (after w d) c

    left : end y ≡ after (end x) (update n r b)
    left = ap₂ after_all f.0 f.1 ∙ last x.calls (start x) (update n r b)

    occupied : (slot_at r (after (end x) (update n r b)).held.«data»).create ≡ 0 → ⊥
    occupied e = used (ap (λ (w : World). (slot_at r w.held.«data»).create) left ∙ e)

pub nothing_else_adds : NothingElseAdds
nothing_else_adds x y c f r = go (is_done (says (end x) c)) refl (only_updates r c)
  where
    else : (is_done (says (end x) c) && is_update r c) ≡ false → updates y r ≤ updates x r
    else e = omega (arith, further_is x y c f r, one_else (end x) r (updates x r) c e)

    go : (d : Bool) → is_done (says (end x) c) ≡ d → (is_update r c ≡ false) ⊎ ((n : ℕ) × (b : Body) × (c ≡ update n r b))
        → (updates y r ≤ updates x r) ⊎ ((is_done (says (end x) c) ≡ true) × ((n : ℕ) × (b : Body) × (c ≡ update n r b)))
    go false e u = inl (else (ap (λ (t : Bool). t && is_update r c) e))
    go true e (inl u) = inl (else (ap (λ (t : Bool). is_done (says (end x) c) && t) u ∙ and-false (is_done (says (end x) c))))
    go true e (inr u) = inr (e, u)
