-- Runs of sessions, place by place: where two agree, what is found in one, and how the machine's changes go through it. Assumes
-- nothing.
use Prim.Native.Nat.{ℕ, zero, suc, ◌+◌, ◌*◌, ◌≤◌, ◌<◌}
use mathlib.Core.Path.{◌≡◌, refl, ap, ap₂, sym, ◌∙◌}
use mathlib.Core.Bool.{Bool, true, false, cond}
use mathlib.Core.Option.{none}
use mathlib.Core.List.{List, [], ◌∷◌, ◌++◌}
use native.Mathlib.Numerals.{add-one}
use native.Mathlib.Omega.{arith}
use lib.Dec.{eqb}
use lib.ListN.{get_or, length, take, drop, length-drop}
use lib.Seq.{get_or-take, get_or-drop, ext_get_or, length-take-le, drop-cons}
use Rattle.desk.specs.declared.Desk.{Desk}
use Rattle.machine.specs.Machine.{Session, find, move, close, onward, numbers as numbers_of}
use Rattle.seen.specs.Seen.{session_at, sessions_from}

-- i stands among the n places from k on
abbrev pub Within : ℕ → ℕ → ℕ → Type 0
Within k n i = (k ≤ i) × (i < k + n)

-- two desks that agree, the second w places later
pub from_agree : (d e : Desk) (w n k j : ℕ) → j ≡ k + w → ((i : ℕ) → Within k n i → session_at d i ≡ session_at e (i + w))
    → sessions_from d k n ≡ sessions_from e j n
from_agree d e w zero k j q same = refl
from_agree d e w (suc n) k j q same =
    ap₂ ◌∷◌ (same k (omega arith, omega arith) ∙ ap (session_at e) (sym q))
    (from_agree d e w n (k + 1) (j + 1) (omega arith) (λ i h. same i (omega (arith, h.0), omega (arith, h.1))))

-- parts of two lists, with the same members
part_agree : (l m : List ℕ) (a b w : ℕ) → a + w ≤ length l → b + w ≤ length m → ((i : ℕ) → i < w → get_or l (a + i) 0 ≡ get_or m (b + i) 0)
    → take w (drop a l) ≡ take w (drop b m)
part_agree l m a b w h g same = ext_get_or 0 (take w (drop a l)) (take w (drop b m)) (full l a h ∙ sym (full m b g)) each
  where
    full : (l : List ℕ) (a : ℕ) → a + w ≤ length l → length (take w (drop a l)) ≡ w
    full l a h = length-take-le w (drop a l) (omega (arith, length-drop a l))

    at : (l : List ℕ) (a i : ℕ) → i < w → get_or (take w (drop a l)) i 0 ≡ get_or l (a + i) 0
    at l a i q = get_or-take w (drop a l) i 0 q ∙ get_or-drop a l i 0

    each : (i : ℕ) → i < length (take w (drop a l)) → get_or (take w (drop a l)) i 0 ≡ get_or (take w (drop b m)) i 0
    each i q = let r : i < w = omega (arith, full l a h) in at l a i r ∙ same i r ∙ sym (at m b i r)

-- places of two desks that agree
pub session_agree : (d e : Desk) (i j : ℕ) → i < 16 → j < 16 → length d.lists ≡ 240 → length e.lists ≡ 240
    → get_or d.numbers i 0 ≡ get_or e.numbers j 0
    → get_or d.statements i 0 ≡ get_or e.statements j 0
    → ((m : ℕ) → m < 15 → get_or d.lists (i * 15 + m) 0 ≡ get_or e.lists (j * 15 + m) 0)
    → session_at d i ≡ session_at e j
session_agree d e i j h g l m n t same = rw (n, t, part_agree d.lists e.lists (i * 15) (j * 15) 15 (omega arith) (omega arith) same)

module _ (d : Desk) where
  -- a run of a places, and b more
  pub from_split : (a b m k j : ℕ) → m ≡ a + b → j ≡ k + a → sessions_from d k m ≡ sessions_from d k a ++ sessions_from d j b
  from_split zero b m k j e q = ap₂ (sessions_from d) jk mb
    where
      jk : k ≡ j
      jk = omega arith

      mb : m ≡ b
      mb = omega arith
  from_split (suc a) b zero k j e q = absurd (omega arith)
  from_split (suc a) b (suc m) k j e q =
      ap (λ (l : List Session). session_at d k ∷ l) (from_split a b m (k + 1) j (omega arith) (omega arith))

  module _ (x : ℕ) where
    -- number x stands at none of the places
    abbrev pub Absent : ℕ → ℕ → Type 0
    Absent k n = (i : ℕ) → Within k n i → eqb x (get_or d.numbers i 0) ≡ false

    absent_next : (n k : ℕ) → Absent k (suc n) → Absent (k + 1) n
    absent_next n k f i h = f i (omega (arith, h.0), omega (arith, h.1))

    pub find_none : (n k : ℕ) → Absent k n → find x (sessions_from d k n) ≡ none
    find_none zero k f = refl
    find_none (suc n) k f = rw (f k (omega arith, omega arith)) (find_none n (k + 1) (absent_next n k f))

    pub close_none : (n k : ℕ) → Absent k n → close x (sessions_from d k n) ≡ sessions_from d k n
    close_none zero k f = refl
    close_none (suc n) k f =
        rw (f k (omega arith, omega arith)) (ap (λ (l : List Session). session_at d k ∷ l) (close_none n (k + 1) (absent_next n k f)))

    -- x is then found behind the run
    pub find_later : (l : List Session) (n k : ℕ) → Absent k n → find x (sessions_from d k n ++ l) ≡ find x l
    find_later l zero k f = refl
    find_later l (suc n) k f = rw (f k (omega arith, omega arith)) (find_later l n (k + 1) (absent_next n k f))

pub close_append : (x : ℕ) (a b : List Session) → close x (a ++ b) ≡ close x a ++ close x b
close_append x [] b = refl
close_append x (s ∷ a) b = by (eqb x s.number) (close_append x a b)
  where
    by : (t : Bool) → close x (a ++ b) ≡ close x a ++ close x b
        → cond t (close x (a ++ b)) (s ∷ close x (a ++ b)) ≡ cond t (close x a) (s ∷ close x a) ++ close x b
    by true ih = ih
    by false ih = ap (λ (l : List Session). s ∷ l) ih

-- the numbers of a run
pub from_numbers : (d : Desk) (n k : ℕ) → k + n ≤ length d.numbers → numbers_of (sessions_from d k n) ≡ take n (drop k d.numbers)
from_numbers d zero k h = refl
from_numbers d (suc n) k h =
    ap (λ (l : List ℕ). get_or d.numbers k 0 ∷ l)
    (from_numbers d n (k + 1) (omega arith) ∙ ap (λ (j : ℕ). take n (drop j d.numbers)) (add-one k))
    ∙ ap (take (suc n)) (sym (drop-cons d.numbers k 0 (omega arith)))

-- next statement, place by place
pub from_move : (d e : Desk) (x n k : ℕ)
    → ((i : ℕ) → Within k n i → cond (eqb x (get_or d.numbers i 0)) (onward (session_at d i)) (session_at d i) ≡ session_at e i)
    → move x (sessions_from d k n) ≡ sessions_from e k n
from_move d e x zero k same = refl
from_move d e x (suc n) k same =
    ap₂ ◌∷◌ (same k (omega arith, omega arith)) (from_move d e x n (k + 1) (λ i h. same i (omega (arith, h.0), omega (arith, h.1))))
