-- One step along a chain ("01, Sessions and sight"): the entries passed, what an entry carries, and where a pointer leads. Assumes
-- nothing.
use mathlib.Core.Path.{◌≡◌, refl, sym, ap, subst, ◌∙◌}
use mathlib.Core.Logic.{◌⊎◌, inl, inr}
use mathlib.Core.Bool.{Bool, true, false, not, ◌||◌, cond, or-true, true≢false}
use mathlib.Core.List.{List, ◌∷◌}
use Prim.Native.Nat.{ℕ, ◌+◌, ◌≤◌, ◌<◌}
use native.Mathlib.Omega.{arith}
use lib.ListN.{length}
use lib.Dec.{eqb}
use borrow.Author.Tests.{eqb-true, eqb-false, eq-eqb, ne_eqb}
use Rattle.little.specs.Little.{part}
use Rattle.kind.specs.Kind.{pages, entries}
use Rattle.pointer.specs.declared.Lead.{Lead}
use Rattle.pointer.specs.declared.Lead.TheVariants.{Nowhere as Nothing, Entry as ToEntry, Astray}
use Rattle.pointer.specs.Pointer.{lead_of, place_led}
use Rattle.pointer.proofs.PointerLaws.{lead_of_zero, lead_of_nowhere, lead_of_inside, place_led_lead_of}
use Rattle.records.specs.declared.entry.Entry.{Entry}
use Rattle.records.specs.Entry.{entry_of, entry_place, entry_at}
use Rattle.records.proofs.Entries.{entry_inside, entry_at_read}
use Rattle.chain.specs.declared.Link.TheVariants.{End, Break, To}
use Rattle.chain.specs.Chain.{among, unfit, link_at, link_of}

-- ---- entries passed

pub among_cases : (q e : ℕ) (ps : List ℕ) → among q (e ∷ ps) ≡ true → (q ≡ e) ⊎ (among q ps ≡ true)
unfolding among
among_cases q e ps = by (eqb q e) refl
  where
    by : (t : Bool) → eqb q e ≡ t → t || among q ps ≡ true → (q ≡ e) ⊎ (among q ps ≡ true)
    by true k h = inl (eqb-true q e k)
    by false k h = inr h

pub among_first : (e : ℕ) (ps : List ℕ) → among e (e ∷ ps) ≡ true
unfolding among
among_first e ps = rw (eq-eqb e e refl)

pub among_later : (q e : ℕ) (ps : List ℕ) → among q ps ≡ true → among q (e ∷ ps) ≡ true
unfolding among
among_later q e ps h = rw h (or-true (eqb q e))

-- what is none of those passed is another than each of them
pub among_apart : (q e : ℕ) (ps : List ℕ) → among q ps ≡ false → among e ps ≡ true → q ≡ e → ⊥
among_apart q e ps out passed same = true≢false (sym passed ∙ ap (λ (x : ℕ). among x ps) (sym same) ∙ out)

-- ---- what an entry carries

-- "a free entry"
pub unfit_free : (t : ℕ) (m : Entry) → m.writer ≡ 0 → unfit t m ≡ true
unfolding unfit
unfit_free t m h = rw (eq-eqb m.writer 0 h)

-- "one of another row"
pub unfit_other : (t : ℕ) (m : Entry) → (m.row ≡ t → ⊥) → unfit t m ≡ true
unfolding unfit
unfit_other t m ne = rw (ne_eqb m.row t ne, or-true (eqb m.writer 0))

-- it carries a version of row r
pub record Carries (r : ℕ) (m : Entry) : Type 0 where
  pub used : m.writer ≡ 0 → ⊥
  pub row : m.row ≡ r
  pub some : m.copy.create ≡ 0 → ⊥

pub carries_unfit : (r : ℕ) (m : Entry) → Carries r m → unfit r m ≡ false
unfolding unfit
carries_unfit r m c = rw (ne_eqb m.writer 0 c.used, eq-eqb m.row r c.row, ne_eqb m.copy.create 0 c.some)

unfit_carries : (r : ℕ) (m : Entry) → unfit r m ≡ false → Carries r m
unfolding unfit
unfit_carries r m = by (eqb m.writer 0) (eqb m.row r) (eqb m.copy.create 0) refl refl refl
  where
    by : (a b c : Bool) → eqb m.writer 0 ≡ a → eqb m.row r ≡ b → eqb m.copy.create 0 ≡ c → (a || not b || c) ≡ false → Carries r m
    by true b c x y z h = absurd (true≢false h)
    by false false c x y z h = absurd (true≢false h)
    by false true true x y z h = absurd (true≢false h)
    by false true false x y z h =
        record { used = eqb-false m.writer 0 x; row = eqb-true m.row r y; some = eqb-false m.copy.create 0 z }

-- ---- one step, as the code takes it: `lead` is where it found the pointer to lead, and `at` the byte that the pointer says

-- an entry is read where the pointer says
module _ {lead : Lead} {at : ℕ} (u : List ℕ) (ptr e : ℕ) (is : lead ≡ lead_of (pages u) ptr) (to : lead ≡ ToEntry e) (place : at ≡ place_led ptr) where
  place_entry : at ≡ entry_place e
  place_entry = place ∙ place_led_lead_of (pages u) ptr e (sym is ∙ to)

  pub link_room : at + 80 ≤ length u
  link_room = omega (arith, place_entry, entry_inside e u (lead_of_inside (pages u) ptr e (sym is ∙ to)))

  pub link_read : {m : Entry} → m ≡ entry_of (part at 80 u) → m ≡ entry_at e u
  link_read = entry_at_read e u place_entry

module _ {lead : Lead} (u : List ℕ) (r ptr : ℕ) (is : lead ≡ lead_of (pages u) ptr) where
  pub link_end : lead ≡ Nothing → End ≡ link_of u r ptr
  unfolding link_of
  link_end h = ap (link_at u r) (sym h ∙ is)

  pub link_astray : lead ≡ Astray → Break ≡ link_of u r ptr
  unfolding link_of
  link_astray h = ap (link_at u r) (sym h ∙ is)

  module _ {m : Entry} (e : ℕ) (to : lead ≡ ToEntry e) (stands : m ≡ entry_at e u) where
    entry_link : link_of u r ptr ≡ cond (unfit r m) Break (To e m)
    unfolding link_of
    entry_link = rw stands (ap (link_at u r) (sym is ∙ to))

    pub link_to : unfit r m ≡ false → To e m ≡ link_of u r ptr
    link_to h = rw (entry_link, h)

  -- where m was read at that byte, by the tests of the code
  module _ {at e : ℕ} {m : Entry} (to : lead ≡ ToEntry e) (place : at ≡ place_led ptr) (read : m ≡ entry_of (part at 80 u)) where
    abbrev fails : Bool
    fails = eqb m.writer 0 || not (eqb m.row r) || eqb m.copy.create 0

    pub read_unfit : fails ≡ true → Break ≡ link_of u r ptr
    unfolding unfit
    read_unfit h = rw (entry_link e to (link_read u ptr e is to place read), h)

    pub read_to : fails ≡ false → To e m ≡ link_of u r ptr
    unfolding unfit
    read_to h = link_to e to (link_read u ptr e is to place read) h

-- ---- what a link says

-- what a pointer leads to is an entry of the area, the one that stands there, and carries a version of the row
pub record Real (u : List ℕ) (r ptr e : ℕ) (m : Entry) : Type 0 where
  pub leads : lead_of (pages u) ptr ≡ ToEntry e
  pub inside : e < entries u
  pub stands : m ≡ entry_at e u
  pub carries : Carries r m

pub link_real : (u : List ℕ) (r ptr e : ℕ) (m : Entry) → link_of u r ptr ≡ To e m → Real u r ptr e m
unfolding link_of
link_real u r ptr e m h = by (lead_of (pages u) ptr) refl h
  where
    fit : (q : ℕ) (b : Bool) → lead_of (pages u) ptr ≡ ToEntry q → unfit r (entry_at q u) ≡ b → cond b Break (To q (entry_at q u)) ≡ To e m
        → Real u r ptr e m
    fit q true l g k = let z : ◌≡◌ {A = ℕ} 0 1 = cc in absurd (omega arith)
    fit q false l g k =
        let same : q ≡ e = cc in
        let copied : entry_at q u ≡ m = cc in
        record {
          leads = l ∙ ap ToEntry same;
          inside = omega (arith, lead_of_inside (pages u) ptr q l);
          stands = sym copied ∙ ap (λ (x : ℕ). entry_at x u) same;
          carries = subst (Carries r) copied (unfit_carries r (entry_at q u) g);
        }

    by : (l : Lead) → lead_of (pages u) ptr ≡ l → link_at u r l ≡ To e m → Real u r ptr e m
    by Nothing l k = let z : ◌≡◌ {A = ℕ} 0 1 = cc in absurd (omega arith)
    by Astray l k = let z : ◌≡◌ {A = ℕ} 0 1 = cc in absurd (omega arith)
    by (ToEntry q) l k = fit q (unfit r (entry_at q u)) l refl k

-- "0 means none", and nothing else does
pub link_zero : (u : List ℕ) (r : ℕ) → link_of u r 0 ≡ End
unfolding link_of
link_zero u r = ap (link_at u r) (lead_of_zero (pages u))

pub link_none : (u : List ℕ) (r ptr : ℕ) → link_of u r ptr ≡ End → ptr ≡ 0
unfolding link_of
link_none u r ptr h = lead_of_nowhere (pages u) ptr (by (lead_of (pages u) ptr) h)
  where
    fit : (q : ℕ) (b : Bool) → cond b Break (To q (entry_at q u)) ≡ End → ToEntry q ≡ Nothing
    fit q true k = let z : ◌≡◌ {A = ℕ} 0 1 = cc in absurd (omega arith)
    fit q false k = let z : ◌≡◌ {A = ℕ} 0 1 = cc in absurd (omega arith)

    by : (l : Lead) → link_at u r l ≡ End → l ≡ Nothing
    by Nothing k = refl
    by Astray k = let z : ◌≡◌ {A = ℕ} 0 1 = cc in absurd (omega arith)
    by (ToEntry q) k = fit q (unfit r (entry_at q u)) k
