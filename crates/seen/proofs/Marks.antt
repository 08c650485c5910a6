-- The mark of a sound desk is the machine's: the least of the next number, the open sessions' numbers and their lists' members.
-- Assumes nothing.
use Prim.Native.Nat.{ℕ, zero, suc, ◌+◌, ◌*◌, ◌/◌, ◌%◌, ◌≤◌, ◌<◌}
use mathlib.Core.Path.{◌≡◌, refl, ap, ap₂, sym, ◌∙◌}
use mathlib.Core.Bool.{Bool, true, false, not, ◌&&◌, cond}
use mathlib.Core.Logic.{⊎_elim}
use mathlib.Core.List.{List, [], ◌∷◌, ◌++◌}
use native.Mathlib.Omega.{arith}
use lib.Dec.{eqb, ltb}
use lib.ListN.{get_or, take, drop, take-append-drop, get_or-eq_default}
use lib.Seq.{get_or-drop, drop-drop, take_all}
use borrow.Author.Tests.{eqb-true, eqb-false, ltb-true, ltb-false}
use Rattle.ground.proofs.Ranges.{lt_or_le}
use Rattle.columns.specs.Columns.{smallest, mark_of}
use Rattle.places.specs.Open.{open_count}
use Rattle.places.specs.Places.{ascending}
use Rattle.desk.specs.declared.Desk.{Desk}
use Rattle.desk.specs.Sound.{sound}
use Rattle.desk.specs.Turns.{mark}
use Rattle.sessions.proofs.Ascents.{ascending_rising}
use Rattle.sessions.proofs.Changes.{Long, open_unused}
use Rattle.sessions.proofs.Lists.{sound_list}
use Rattle.machine.specs.Machine.{Session, least, numbers as numbers_of, mark as mark_among}
use Rattle.seen.specs.Seen.{used, sessions_from, open_sessions}
use Rattle.seen.proofs.Counts.{open_at_most, used_first, used_numbers}

-- ---- the least does not depend on the order

-- the smaller of the two
abbrev lower : ℕ → ℕ → ℕ
lower x a = cond (ltb x a) x a

lower_le : (x a : ℕ) → (lower x a ≤ x) × (lower x a ≤ a)
lower_le x a = by (ltb x a) refl
  where
    by : (t : Bool) → ltb x a ≡ t → (cond t x a ≤ x) × (cond t x a ≤ a)
    by true e = (omega arith, omega (arith, ltb-true x a e))
    by false e = (omega (arith, ltb-false x a e), omega arith)

lower_above : (z x a : ℕ) → z ≤ x → z ≤ a → z ≤ lower x a
lower_above z x a h l = by (ltb x a)
  where
    by : (t : Bool) → z ≤ cond t x a
    by true = h
    by false = l

lower_swap : (x y a : ℕ) → lower x (lower y a) ≡ lower y (lower x a)
lower_swap x y a = omega (arith, half x y, half y x)
  where
    half : (x y : ℕ) → lower x (lower y a) ≤ lower y (lower x a)
    half x y =
        let p = lower_le x (lower y a) in
        let q = lower_le y a in
        lower_above (lower x (lower y a)) y (lower x a) (omega (arith, p.1, q.0))
        (lower_above (lower x (lower y a)) x a p.0 (omega (arith, p.1, q.1)))

least_lower : (l : List ℕ) (x a : ℕ) → least (lower x a) l ≡ lower x (least a l)
least_lower [] x a = refl
least_lower (y ∷ l) x a = ap (λ (n : ℕ). least n l) (lower_swap y x a) ∙ least_lower l x (lower y a)

least_swap : (l m : List ℕ) (a : ℕ) → least (least a l) m ≡ least (least a m) l
least_swap [] m a = refl
least_swap (x ∷ l) m a = least_swap l m (lower x a) ∙ ap (λ (n : ℕ). least n l) (least_lower m x a)

least_append : (l m : List ℕ) (a : ℕ) → least a (l ++ m) ≡ least (least a l) m
least_append [] m a = refl
least_append (x ∷ l) m a = least_append l m (lower x a)

-- the smallest is the least of the used places
smallest_least : (l : List ℕ) (m : ℕ) → smallest m l ≡ least m (used l)
unfolding smallest
smallest_least [] m = refl
smallest_least (x ∷ l) m = by (eqb x 0) (smallest_least l x) (smallest_least l m)
  where
    lowest : (u : Bool) → smallest x l ≡ least x (used l) → smallest m l ≡ least m (used l)
        → cond u (smallest x l) (smallest m l) ≡ least (cond u x m) (used l)
    lowest true e f = e
    lowest false e f = f

    by : (t : Bool) → smallest x l ≡ least x (used l) → smallest m l ≡ least m (used l)
        → cond (not t && ltb x m) (smallest x l) (smallest m l) ≡ least m (cond t (used l) (x ∷ used l))
    by true e f = f
    by false e f = lowest (ltb x m) e f

-- ---- the machine's mark, by its parts

-- the members of all lists
abbrev members : List Session → List ℕ
members [] = []
members (s ∷ l) = s.list ++ members l

mark_parts : (l : List Session) (a : ℕ) → mark_among a l ≡ least (least a (numbers_of l)) (members l)
mark_parts [] a = refl
mark_parts (s ∷ l) a =
    mark_parts l (least (lower s.number a) s.list)
    ∙ ap (λ (n : ℕ). least n (members l)) (least_swap s.list (numbers_of l) (lower s.number a))
    ∙ sym (least_append s.list (members l) (least (lower s.number a) (numbers_of l)))

used_append : (l m : List ℕ) → used (l ++ m) ≡ used l ++ used m
used_append [] m = refl
used_append (x ∷ l) m = by (eqb x 0) (used_append l m)
  where
    by : (t : Bool) → used (l ++ m) ≡ used l ++ used m
        → cond t (used (l ++ m)) (x ∷ used (l ++ m)) ≡ cond t (used l) (x ∷ used l) ++ used m
    by true ih = ih
    by false ih = ap (λ (k : List ℕ). x ∷ k) ih

-- ---- the desk's mark

module _ (d : Desk) (s : sound d ≡ true) (long : Long d) where
  -- an unused place lists nobody
  unused_lists : (i : ℕ) → open_count d.numbers * 15 ≤ i → get_or d.lists i 0 ≡ 0
  unused_lists i h = ⊎_elim within (λ (q : 240 ≤ i). get_or-eq_default d.lists 0 (omega (arith, long.lists))) (lt_or_le i 240)
    where
      k : ℕ
      k = i / 15

      there : ℕ
      there = get_or d.lists (k * 15 + i % 15) 0

      within : i < 240 → get_or d.lists i 0 ≡ 0
      within q = ap (λ (n : ℕ). get_or d.lists n 0) split ∙ by (eqb there 0) refl
        where
          split : i ≡ k * 15 + i % 15
          split = omega arith

          none : ascending 0 d.lists (k * 15) 15 ≡ true
          none = rw (open_unused d s k (omega arith) (omega arith)) at (sound_list d s k (omega arith))

          by : (t : Bool) → eqb there 0 ≡ t → there ≡ 0
          by true e = eqb-true there 0 e
          by false e =
              let rising = ascending_rising 0 d.lists (k * 15) (λ (j : ℕ). get_or d.lists (k * 15 + j) 0) (λ j. refl) 15 none in
              absurd (omega (arith, (rising (i % 15) (omega arith) (eqb-false there 0 e)).below))

  used_lists : (n k : ℕ) → k + n ≡ open_count d.numbers → used (drop (k * 15) d.lists) ≡ members (sessions_from d k n)
  used_lists zero k e = used_first (drop (k * 15) d.lists) 0 (λ i h. absurd (omega arith)) unused
    where
      unused : (i : ℕ) → 0 ≤ i → get_or (drop (k * 15) d.lists) i 0 ≡ 0
      unused i h = get_or-drop (k * 15) d.lists i 0 ∙ unused_lists (k * 15 + i) (omega arith)
  used_lists (suc n) k e =
      ap used (sym (take-append-drop 15 (drop (k * 15) d.lists)))
      ∙ used_append (take 15 (drop (k * 15) d.lists)) (drop 15 (drop (k * 15) d.lists))
      ∙ ap (λ (l : List ℕ). used (take 15 (drop (k * 15) d.lists)) ++ l)
      (ap used (drop-drop 15 (k * 15) d.lists ∙ ap (λ (i : ℕ). drop i d.lists) next) ∙ used_lists n (k + 1) (omega arith))
    where
      next : k * 15 + 15 ≡ (k + 1) * 15
      next = omega arith

  pub mark_is : mark d ≡ mark_among d.next (open_sessions d)
  unfolding mark mark_of
  mark_is =
      smallest_least d.lists (smallest d.next d.numbers)
      ∙ ap₂ least
      (smallest_least d.numbers d.next
      ∙ ap (least d.next) (ap used (sym (take_all 16 d.numbers (omega (arith, long.numbers))))
      ∙ used_numbers d s long 16 (open_at_most d.numbers) (omega arith)))
      (used_lists (open_count d.numbers) 0 (omega arith))
      ∙ sym (mark_parts (open_sessions d) d.next)
