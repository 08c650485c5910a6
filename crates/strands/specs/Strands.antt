-- The words in which it is said what freeing does to chains ("01, Sessions and sight", "01, Writes, withdrawal, sweep"). Assumes nothing.
use Rattle.std.specs.Prelude.{ℕ, zero, suc, ◌+◌, ◌≤◌, ◌<◌, ◌≡◌, ◌⊎◌, Bool, true, false, cond, List, [], ◌∷◌, length}
use Rattle.little.specs.Little.{Bytes}
use Rattle.kind.specs.Kind.{pages, rows}
use Rattle.kind.specs.Areas.{Both}
use Rattle.records.specs.declared.slot.Slot.{Slot}
use Rattle.records.specs.declared.entry.Entry.{Entry}
use Rattle.records.specs.Slot.{slot_at, body_at}
use Rattle.records.specs.Entry.{entry_at, copy_body_at}
use Rattle.chain.specs.declared.Place.{Place}
use Rattle.chain.specs.declared.Place.TheVariants.{Nowhere, Data, Undo}
use Rattle.chain.specs.declared.Link.TheVariants.{End, To}
use Rattle.chain.specs.Chain.{Version, among, link_of, chain_of}

-- u' is u with entry e freed, and every other entry as it was
pub record Frees (e : ℕ) (u u' : List ℕ) : Type 0 where
  pub size : pages u' ≡ pages u
  pub free : (entry_at e u').writer ≡ 0
  pub others : (t : ℕ) → (t ≡ e → ⊥) → entry_at t u' ≡ entry_at t u
  pub bodies : (t : ℕ) → (t ≡ e → ⊥) → copy_body_at t u' ≡ copy_body_at t u

-- u' differs from u in entries of row r alone, and they are free in u' or still row r's
pub record OfRow (r : ℕ) (u u' : List ℕ) : Type 0 where
  pub size : pages u' ≡ pages u
  pub entries : (e : ℕ) → (entry_at e u' ≡ entry_at e u) ⊎ (((entry_at e u).row ≡ r) × (((entry_at e u').writer ≡ 0) ⊎ ((entry_at e u').row ≡ r)))

-- ---- where the versions of a chain lie

-- the number of a place, of an entry where it is one
abbrev pub place_number : Place → ℕ
place_number (Undo e) = e
place_number (Data r) = r
place_number Nowhere = 0

abbrev pub entry_in : Version → ℕ
entry_in x = place_number x.place

-- ptr leads row r to the entry in which version x lies, and it is none of ps
pub record Step (u : List ℕ) (r : ℕ) (ps : List ℕ) (ptr : ℕ) (x : Version) : Type 0 where
  pub entry : Entry
  pub to : link_of u r ptr ≡ To (entry_in x) entry
  pub fresh : among (entry_in x) ps ≡ false
  pub is : x ≡ record { place = Undo (entry_in x); slot = entry.copy }

-- from ptr on, each version leads to the next, no two lie in the same entry and none in one of ps; where w, the last one ends the chain
abbrev pub Strand : List ℕ → ℕ → Bool → List ℕ → ℕ → List Version → Type 0
Strand u r w ps ptr [] = w ≡ true → link_of u r ptr ≡ End
Strand u r w ps ptr (x ∷ xs) = Step u r ps ptr x × Strand u r w (entry_in x ∷ ps) x.slot.undo_ptr xs

-- in u' no entry is in use that was free in u, and those in use have the bodies that they had
pub record Copies (u u' : List ℕ) : Type 0 where
  pub free : (e : ℕ) → (entry_at e u).writer ≡ 0 → (entry_at e u').writer ≡ 0
  pub bodies : (e : ℕ) → ((entry_at e u').writer ≡ 0) ⊎ (copy_body_at e u' ≡ copy_body_at e u)

-- u' differs from u in entries of row r alone, and in none of those passed
pub record Keeps (r : ℕ) (ps : List ℕ) (u u' : List ℕ) : Type 0 where
  pub of_row : OfRow r u u'
  pub copies : Copies u u'
  pub passed : (t : ℕ) → among t ps ≡ true → entry_at t u' ≡ entry_at t u

-- z is as long as s, and bytes where s is
pub record Shaped (s z : List ℕ) : Type 0 where
  pub long : length z ≡ length s
  pub bytes : Bytes s → Bytes z

-- what withdrawing from row r, or sweeping it, keeps: other rows, the bodies of the copies that stay, and the shape of the areas
pub record Treated (r : ℕ) (d u d' u' : List ℕ) : Type 0 where
  pub of_row : OfRow r u u'
  pub copies : Copies u u'
  pub slots : (t : ℕ) → (t ≡ r → ⊥) → slot_at t d' ≡ slot_at t d
  pub bodies : (t : ℕ) → (t ≡ r → ⊥) → body_at t d' ≡ body_at t d
  pub «data» : Shaped d d'
  pub undo : Shaped u u'

-- r is a row of the data area, and both areas are bytes
pub record RowIn (r : ℕ) (d u : List ℕ) : Type 0 where
  pub row : r < rows d
  pub «data» : Bytes d
  pub undo : Bytes u

-- the same of all rows below n
pub record RowsIn (n : ℕ) (p : Both) : Type 0 where
  pub few : n ≤ rows p.«data»
  pub «data» : Bytes p.«data»
  pub undo : Bytes p.undo

-- row t is in p' as it was in p
pub record Same (t : ℕ) (p p' : Both) : Type 0 where
  pub chains : chain_of p'.«data» p'.undo t ≡ chain_of p.«data» p.undo t
  pub slots : slot_at t p'.«data» ≡ slot_at t p.«data»
  pub bodies : body_at t p'.«data» ≡ body_at t p.«data»

-- f treats row r, and g the n rows from r on, one after the other
pub record Turns (f : ℕ → Both → Both) (g : ℕ → ℕ → Both → Both) : Type 0 where
  pub none : (r : ℕ) (p : Both) → g r zero p ≡ p
  pub next : (r n : ℕ) (p : Both) → g r (suc n) p ≡ g (r + 1) n (f r p)
  pub treats : (r : ℕ) (p : Both) → RowIn r p.«data» p.undo → Treated r p.«data» p.undo (f r p).«data» (f r p).undo

-- ---- what becomes of the versions of a chain

-- those in front of the first of which p holds, and those from the first on of which it does not
unfoldable pub front : (Slot → Bool) → List Version → List Version
front p [] = []
front p (x ∷ xs) = cond (p x.slot) [] (x ∷ front p xs)

unfoldable pub rest : (Slot → Bool) → List Version → List Version
rest p [] = []
rest p (x ∷ xs) = cond (p x.slot) (rest p xs) (x ∷ xs)

-- a version with other metadata
abbrev pub having : (Slot → Slot) → Version → Version
having f x = record { place = x.place; slot = f x.slot }

-- the last version with other metadata; the first one at place p with other metadata
unfoldable pub on_last : (Slot → Slot) → List Version → List Version
on_last f [] = []
on_last f (x ∷ []) = having f x ∷ []
on_last f (x ∷ y ∷ ys) = x ∷ on_last f (y ∷ ys)

unfoldable pub on_first : Place → (Slot → Slot) → List Version → List Version
on_first p f [] = []
on_first p f (x ∷ xs) = record { place = p; slot = f x.slot } ∷ xs
