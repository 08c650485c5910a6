-- Writes that are confined to some records of an area ("01, The page"): every other record keeps its bytes, a page keeps every byte or has a
-- record that changed, and is then touched. One such write after another is one again, if no record is written twice. For withdraw and the
-- sweep, which write row by row. Assumes nothing.
use mathlib.Core.Path.{◌≡◌, refl, sym, subst, ◌∙◌}
use mathlib.Core.Logic.{◌⊎◌, inl, inr}
use mathlib.Core.Bool.{Bool, true, false}
use mathlib.Core.List.{List}
use Prim.Native.Nat.{ℕ, ◌/◌}
use lib.Dec.{eqb}
use borrow.Author.Tests.{eqb-true, eqb-false}
use Rattle.kind.specs.declared.Kind.{Kind}
use Rattle.page.specs.Header.{page_at}
use Rattle.traces.specs.Traces.{record_in, Traced, TouchedAt}
use Rattle.page.proofs.Touches.{record_at_page}
use Rattle.traces.proofs.Pages.{Held, Marks}

-- page p has a record that changed, and is touched
pub record Changed (k : Kind) (R : List ℕ → List ℕ → Type 0) (p : ℕ) (s s' : List ℕ) : Type 0 where
  pub number : ℕ
  pub here : number / k.count ≡ p
  pub differs : record_in k number s' ≡ record_in k number s → ⊥
  pub touched : R (page_at p s) (page_at p s')

-- record t keeps its bytes, or is one of W and changed as H says
abbrev Became : Kind → (List ℕ → List ℕ → Type 0) → (ℕ → Type 0) → ℕ → List ℕ → List ℕ → Type 0
Became k H W t s s' = (record_in k t s' ≡ record_in k t s) ⊎ (W t × H (record_in k t s) (record_in k t s'))

-- what changed are records of W, each as H says
pub record Confined (k : Kind) (R H : List ℕ → List ℕ → Type 0) (W : ℕ → Type 0) (s s' : List ℕ) : Type 0 where
  pub records : (t : ℕ) → Became k H W t s s'
  pub pages : (p : ℕ) → (page_at p s' ≡ page_at p s) ⊎ Changed k R p s s'

module _ {k : Kind} {R H : List ℕ → List ℕ → Type 0} where
  -- nothing is written
  pub confined_refl : (W : ℕ → Type 0) (s : List ℕ) → Confined k R H W s s
  confined_refl W s = record { records = λ t. inl refl; pages = λ p. inl refl }

  -- one record is written, and changes
  pub confined_one : (W : ℕ → Type 0) {r : ℕ} {s s' : List ℕ} → TouchedAt k R r s s' → (record_in k r s' ≡ record_in k r s → ⊥) → W r
      → H (record_in k r s) (record_in k r s')
      → Confined k R H W s s'
  confined_one W {r} {s} {s'} at differs own how =
      record { records = λ t. record_by t (eqb t r) refl; pages = λ p. page_by p (eqb p (r / k.count)) refl }
    where
      record_by : (t : ℕ) (b : Bool) → eqb t r ≡ b → Became k H W t s s'
      record_by t true e = inr (subst (λ (q : ℕ). W q × H (record_in k q s) (record_in k q s')) (sym (eqb-true t r e)) (own, how))
      record_by t false e = inl (at.records t (eqb-false t r e))

      page_by : (p : ℕ) (b : Bool) → eqb p (r / k.count) ≡ b → (page_at p s' ≡ page_at p s) ⊎ Changed k R p s s'
      page_by p true e =
          let same : r / k.count ≡ p = sym (eqb-true p (r / k.count) e) in
          inr (record { number = r; here = same; differs = differs; touched = subst (λ (q : ℕ). R (page_at q s) (page_at q s')) same at.here })
      page_by p false e = inl (at.pages p (eqb-false p (r / k.count) e))

  -- confined to more
  pub confined_more : (W X : ℕ → Type 0) {s s' : List ℕ} → ((t : ℕ) → W t → X t) → Confined k R H W s s' → Confined k R H X s s'
  confined_more W X {s} {s'} more c = record { records = λ t. by t (c.records t); pages = c.pages }
    where
      by : (t : ℕ) → Became k H W t s s' → Became k H X t s s'
      by t (inl same) = inl same
      by t (inr w) = inr (more t w.0, w.1)

  -- one after the other, to records of W and then to others
  module _ {mark : ℕ → List ℕ → List ℕ} (m : Marks k R mark) (W X : ℕ → Type 0) {s y z : List ℕ} (apart : (t : ℕ) → W t → X t → ⊥)
      (f : Confined k R H W s y) (g : Confined k R H X y z)
    where
      confined_records : (t : ℕ) → Became k H W t s y → Became k H X t y z → Became k H (λ (q : ℕ). W q ⊎ X q) t s z
      confined_records t (inl a) (inl b) = inl (b ∙ a)
      confined_records t (inr w) (inl b) = inr (inl w.0, subst (H (record_in k t s)) (sym b) w.1)
      confined_records t (inl a) (inr v) = inr (inr v.0, subst (λ (x : List ℕ). H x (record_in k t z)) a v.1)
      confined_records t (inr w) (inr v) = absurd (apart t w.0 v.0)

      -- what changed first stays changed
      first_differs : (t : ℕ) → (record_in k t y ≡ record_in k t s → ⊥) → Became k H W t s y → Became k H X t y z → record_in k t z ≡ record_in k t s → ⊥
      first_differs t differs (inl a) b e = differs a
      first_differs t differs (inr w) (inl b) e = differs (sym b ∙ e)
      first_differs t differs (inr w) (inr v) e = apart t w.0 v.0

      -- what changes then was as at first
      then_differs : (t : ℕ) → (record_in k t z ≡ record_in k t y → ⊥) → Became k H W t s y → Became k H X t y z → record_in k t z ≡ record_in k t s → ⊥
      then_differs t differs a (inl b) e = differs b
      then_differs t differs (inl a) (inr v) e = differs (e ∙ sym a)
      then_differs t differs (inr w) (inr v) e = apart t w.0 v.0

      confined_pages : (p : ℕ) → (page_at p y ≡ page_at p s) ⊎ Changed k R p s y → (page_at p z ≡ page_at p y) ⊎ Changed k R p y z
          → (page_at p z ≡ page_at p s) ⊎ Changed k R p s z
      confined_pages p (inl a) (inl b) = inl (b ∙ a)
      confined_pages p (inr c) (inl b) =
          inr (record {
            number = c.number;
            here = c.here;
            differs = first_differs c.number c.differs (f.records c.number) (g.records c.number);
            touched = subst (R (page_at p s)) (sym b) c.touched;
          })
      confined_pages p (inl a) (inr c) =
          inr (record {
            number = c.number;
            here = c.here;
            differs = then_differs c.number c.differs (f.records c.number) (g.records c.number);
            touched = subst (λ (x : List ℕ). R x (page_at p z)) a c.touched;
          })
      confined_pages p (inr c) (inr e) =
          inr (record {
            number = e.number;
            here = e.here;
            differs = then_differs e.number e.differs (f.records e.number) (g.records e.number);
            touched = m.again c.touched e.touched;
          })

      pub confined_trans : Confined k R H (λ (t : ℕ). W t ⊎ X t) s z
      confined_trans =
          record { records = λ t. confined_records t (f.records t) (g.records t); pages = λ p. confined_pages p (f.pages p) (g.pages p) }

  -- ---- what that says of an area

  -- a record that is none of W
  pub confined_keeps : {W : ℕ → Type 0} {s s' : List ℕ} → Confined k R H W s s' → (t : ℕ) → (W t → ⊥) → record_in k t s' ≡ record_in k t s
  confined_keeps {W} {s} {s'} c t none = by (c.records t)
    where
      by : Became k H W t s s' → record_in k t s' ≡ record_in k t s
      by (inl same) = same
      by (inr w) = absurd (none w.0)

  -- and any record
  pub confined_becomes : {W : ℕ → Type 0} {s s' : List ℕ} → Confined k R H W s s' → (t : ℕ)
      → (record_in k t s' ≡ record_in k t s) ⊎ H (record_in k t s) (record_in k t s')
  confined_becomes {W} {s} {s'} c t = by (c.records t)
    where
      by : Became k H W t s s' → (record_in k t s' ≡ record_in k t s) ⊎ H (record_in k t s) (record_in k t s')
      by (inl same) = inl same
      by (inr w) = inr w.1

  -- and the pages
  pub confined_traced : Held k → {W : ℕ → Type 0} {s s' : List ℕ} → Confined k R H W s s' → Traced k R s s'
  confined_traced held {W} {s} {s'} c =
      record {
        pages = λ p. either p (c.pages p);
        changed = λ p differs. some p differs (c.pages p);
        unwritten = λ p all. none p all (c.pages p);
        written =
            λ t differs. some (t / k.count) (λ same. differs (record_at_page held.lie t s s' same)) (c.pages (t / k.count));
      }
    where
      either : (p : ℕ) → (page_at p s' ≡ page_at p s) ⊎ Changed k R p s s' → (page_at p s' ≡ page_at p s) ⊎ R (page_at p s) (page_at p s')
      either p (inl same) = inl same
      either p (inr h) = inr h.touched

      none : (p : ℕ) → ((t : ℕ) → t / k.count ≡ p → record_in k t s' ≡ record_in k t s) → (page_at p s' ≡ page_at p s) ⊎ Changed k R p s s'
          → page_at p s' ≡ page_at p s
      none p all (inl same) = same
      none p all (inr h) = absurd (h.differs (all h.number h.here))

      some : (p : ℕ) → (page_at p s' ≡ page_at p s → ⊥) → (page_at p s' ≡ page_at p s) ⊎ Changed k R p s s' → R (page_at p s) (page_at p s')
      some p differs (inl same) = absurd (differs same)
      some p differs (inr h) = h.touched
