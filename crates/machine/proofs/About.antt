-- The words of the theorems mean what specs/Observers.antt says. Assumes nothing.
use Prim.Native.Nat.{ℕ}
use mathlib.Core.Path.{◌≡◌, refl, ap, ap₂, sym}
use mathlib.Core.Logic.{◌⊎◌, inl, inr}
use mathlib.Core.Bool.{Bool, true, false, not, ◌&&◌}
use mathlib.Core.Option.{Option}
use mathlib.Core.List.{[], ◌∷◌, ◌++◌}
use native.Mathlib.Omega.{arith}
use lib.Dec.{eqb}
use borrow.Author.Tests.{eqb-true, eqb-false, eq-eqb}
use Rattle.ground.proofs.Ranges.{and_true_left, and_true_right}
use Rattle.machine.specs.Table.{Body, Event, History, began, moved, wrote, committed, withdrew, has_written}
use Rattle.machine.specs.Lines.{format, opens, seal, begin, next, insert, update, delete, read, commit, withdraw, sweep}
use Rattle.machine.specs.Observers.{SomeFormat, SparesAllElse, SparesNoneOfFour, OnlyFormats, OnlyUpdates, AllWrites, AnswersAsTheySay, OnlyWritten}
use Rattle.machine.proofs.Basics.{true_false}

-- ---- calls

pub spares_none_of_four : SparesNoneOfFour
spares_none_of_four n d u s = let own : eqb n n ≡ true = eq-eqb n n refl in (refl, ap not own, ap not own, ap not own)

pub spares_all_else : SparesAllElse
spares_all_else n (format d u s) = inr (inl (d, u, s, refl))
spares_all_else n opens = inl refl
spares_all_else n seal = inl refl
spares_all_else n begin = inl refl
spares_all_else n (next x) = go (eqb n x) refl
  where
    go : (b : Bool) → eqb n x ≡ b → (not b ≡ true) ⊎ (SomeFormat (next x) ⊎ ((next x ≡ next n) ⊎ ((next x ≡ commit n) ⊎ (next x ≡ withdraw n))))
    go true e = inr (inr (inl (ap next (sym (eqb-true n x e)))))
    go false e = inl refl
spares_all_else n (insert x y) = inl refl
spares_all_else n (update x q y) = inl refl
spares_all_else n (delete x q) = inl refl
spares_all_else n (read x q) = inl refl
spares_all_else n (commit x) = go (eqb n x) refl
  where
    go : (b : Bool) → eqb n x ≡ b → (not b ≡ true) ⊎ (SomeFormat (commit x) ⊎ ((commit x ≡ next n) ⊎ ((commit x ≡ commit n) ⊎ (commit x ≡ withdraw n))))
    go true e = inr (inr (inr (inl (ap commit (sym (eqb-true n x e))))))
    go false e = inl refl
spares_all_else n (withdraw x) = go (eqb n x) refl
  where
    go : (b : Bool) → eqb n x ≡ b → (not b ≡ true) ⊎ (SomeFormat (withdraw x) ⊎ ((withdraw x ≡ next n) ⊎ ((withdraw x ≡ commit n) ⊎ (withdraw x ≡ withdraw n))))
    go true e = inr (inr (inr (inr (ap withdraw (sym (eqb-true n x e))))))
    go false e = inl refl
spares_all_else n (sweep q k) = inl refl

pub only_formats : OnlyFormats
only_formats (format d u s) = inr (d, u, s, refl)
only_formats opens = inl refl
only_formats seal = inl refl
only_formats begin = inl refl
only_formats (next x) = inl refl
only_formats (insert x y) = inl refl
only_formats (update x q y) = inl refl
only_formats (delete x q) = inl refl
only_formats (read x q) = inl refl
only_formats (commit x) = inl refl
only_formats (withdraw x) = inl refl
only_formats (sweep q k) = inl refl

pub only_updates : OnlyUpdates
only_updates r (format d u s) = inl refl
only_updates r opens = inl refl
only_updates r seal = inl refl
only_updates r begin = inl refl
only_updates r (next x) = inl refl
only_updates r (insert x y) = inl refl
only_updates r (update x q y) = go (eqb r q) refl
  where
    go : (b : Bool) → eqb r q ≡ b → (b ≡ false) ⊎ ((n : ℕ) × (z : Body) × (update x q y ≡ update n r z))
    go true e = inr (x, y, ap (λ (i : ℕ). update x i y) (sym (eqb-true r q e)))
    go false e = inl refl
only_updates r (delete x q) = inl refl
only_updates r (read x q) = inl refl
only_updates r (commit x) = inl refl
only_updates r (withdraw x) = inl refl
only_updates r (sweep q k) = inl refl

pub all_writes : AllWrites
all_writes n r a b =
    let own : (eqb n n && eqb r r) ≡ true = ap₂ ◌&&◌ (eq-eqb n n refl) (eq-eqb r r refl) in
    (own, own, own)

-- ---- answers

pub answers_as_they_say : AnswersAsTheySay
answers_as_they_say n a b y = (refl, refl, refl)

-- ---- histories

-- what a write since n began is made of
abbrev Written : History → ℕ → ℕ → Type 0
Written h n r =
    (later : History) × (b : Option Body) × (before : History) × (h ≡ later ++ (wrote n r b ∷ before)) × ((k l : History) → later ≡ k ++ (began n ∷ l) → ⊥)

-- one more event that is no begin of n
further : (e : Event) (h : History) (n r : ℕ) → (e ≡ began n → ⊥) → Written h n r → Written (e ∷ h) n r
further e h n r other (later, b, before, is, none) = (e ∷ later, b, before, ap (λ (t : History). e ∷ t) is, behind)
  where
    behind : (k l : History) → e ∷ later ≡ k ++ (began n ∷ l) → ⊥
    behind [] l q = other (let z : e ≡ began n = cc in z)
    behind (x ∷ k) l q = none k l (let z : later ≡ k ++ (began n ∷ l) = cc in z)

moved_began : (m n : ℕ) → moved m ≡ began n → ⊥
moved_began m n e = let z : ◌≡◌ {A = ℕ} 0 1 = cc in absurd (omega arith)

wrote_began : (m q n : ℕ) (b : Option Body) → wrote m q b ≡ began n → ⊥
wrote_began m q n b e = let z : ◌≡◌ {A = ℕ} 0 1 = cc in absurd (omega arith)

committed_began : (m n : ℕ) → committed m ≡ began n → ⊥
committed_began m n e = let z : ◌≡◌ {A = ℕ} 0 1 = cc in absurd (omega arith)

withdrew_began : (m n : ℕ) → withdrew m ≡ began n → ⊥
withdrew_began m n e = let z : ◌≡◌ {A = ℕ} 0 1 = cc in absurd (omega arith)

pub only_written : OnlyWritten
only_written [] n r e = true_false false e refl
only_written (began m ∷ h) n r e = go (eqb n m) refl (only_written h n r)
  where
    go : (b : Bool) → eqb n m ≡ b → (has_written h n r ≡ true → Written h n r) → Written (began m ∷ h) n r
    go true f ih = true_false false (rw f at e) refl
    go false f ih = further (began m) h n r (λ q. eqb-false n m f (let z : m ≡ n = cc in sym z)) (ih (rw f at e))
only_written (moved m ∷ h) n r e = further (moved m) h n r (moved_began m n) (only_written h n r e)
only_written (wrote m q b ∷ h) n r e = go (eqb n m && eqb r q) refl (only_written h n r)
  where
    here : (eqb n m && eqb r q) ≡ true → wrote m q b ∷ h ≡ wrote n r b ∷ h
    here f =
        ap₂ (λ (i j : ℕ). wrote i j b ∷ h) (sym (eqb-true n m (and_true_left (eqb n m) (eqb r q) f)))
        (sym (eqb-true r q (and_true_right (eqb n m) (eqb r q) f)))

    nothing : (k l : History) → [] ≡ k ++ (began n ∷ l) → ⊥
    nothing [] l z = let y : ◌≡◌ {A = ℕ} 0 1 = cc in absurd (omega arith)
    nothing (x ∷ k) l z = let y : ◌≡◌ {A = ℕ} 0 1 = cc in absurd (omega arith)

    go : (t : Bool) → (eqb n m && eqb r q) ≡ t → (has_written h n r ≡ true → Written h n r) → Written (wrote m q b ∷ h) n r
    go true f ih = ([], b, h, here f, nothing)
    go false f ih = further (wrote m q b) h n r (wrote_began m q n b) (ih (rw f at e))
only_written (committed m ∷ h) n r e = further (committed m) h n r (committed_began m n) (only_written h n r e)
only_written (withdrew m ∷ h) n r e = further (withdrew m) h n r (withdrew_began m n) (only_written h n r e)
