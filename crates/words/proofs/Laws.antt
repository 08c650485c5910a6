-- The desk's words: how many they are, that they give the desk back, and that no other words say the same desk. Assumes nothing.
use mathlib.Core.Path.{◌≡◌, refl, sym, ap, ◌∙◌}
use mathlib.Core.List.{List, [], ◌∷◌, ◌++◌}
use Prim.Native.Nat.{ℕ, zero, suc, ◌+◌, ◌*◌, ◌≤◌, ◌<◌}
use native.Mathlib.Omega.{arith}
use lib.ListN.{length, get_or, set, take, drop, length-drop}
use lib.Seq.{take-add, take_all, take-take, drop-drop, drop-cons, get_or-take, get_or-drop, get_or-set_other, drop-set-add, drop-set-lt, take-set-le, take-set-lt}
use lib.Dec.{eqb}
use Rattle.columns.specs.Limits.{sessions, members, places, spoiled_mark}
use Rattle.desk.specs.declared.Desk.{Desk}
use Rattle.desk.specs.Turns.{view_at, spoiled_at, spoiled}
use Rattle.words.specs.Words.{numbers_at, statements_at, marks_at, lists_at, all_words, desk_of, desk_in, words_of}
use Rattle.words.proofs.Copies.{desk_said, columns_long, numbers_back, statements_back, marks_back, lists_back}

module _ (d : Desk) (n16 : length d.numbers ≡ sessions) (s16 : length d.statements ≡ sessions) (m16 : length d.marks ≡ sessions) (l240 : length d.lists ≡ places) where
  pub words_long : length (words_of d) ≡ all_words
  unfolding words_of
  words_long = columns_long d.next d.numbers d.statements d.marks d.lists n16 s16 m16 l240

  -- the words that a desk is written as say that desk
  pub desk_back : desk_in (words_of d) ≡ d
  unfolding desk_in words_of
  desk_back =
      let ns = sym (numbers_back d.next d.numbers d.statements d.marks d.lists n16 s16 m16 l240) in
      let ss = sym (statements_back d.next d.numbers d.statements d.marks d.lists n16 s16 m16 l240) in
      let ms = sym (marks_back d.next d.numbers d.statements d.marks d.lists n16 s16 m16 l240) in
      let ls = sym (lists_back d.next d.numbers d.statements d.marks d.lists n16 s16 m16 l240) in
      sym (desk_said (words_of d) d.numbers d.statements d.marks d.lists ns ss ms ls)

-- the words of the desk that words say are those words
pub words_back : (w : List ℕ) → length w ≡ all_words → words_of (desk_in w) ≡ w
unfolding desk_in words_of
words_back w long = ap (λ (l : List ℕ). get_or w 0 0 ∷ l) (behind_next w (omega (arith, length-drop numbers_at w))) ∙ sym (drop-cons w 0 0 (omega arith))
  where
    -- a column of n places behind one of m, as one part
    joined : (m n at : ℕ) (v : List ℕ) → take m (drop at v) ++ take n (drop (at + m) v) ≡ take (m + n) (drop at v)
    joined m n at v = ap (λ (l : List ℕ). take m (drop at v) ++ take n l) (sym (drop-drop m at v)) ∙ sym (take-add m n (drop at v))

    behind_next : (v : List ℕ) → length (drop numbers_at v) ≤ sessions + sessions + sessions + places
        → take sessions (drop numbers_at v) ++ take sessions (drop statements_at v) ++ take sessions (drop marks_at v) ++ take places (drop lists_at v) ≡ drop numbers_at v
    behind_next v all =
        ap (λ (l : List ℕ). l ++ take sessions (drop marks_at v) ++ take places (drop lists_at v)) (joined sessions sessions numbers_at v)
        ∙ ap (λ (l : List ℕ). l ++ take places (drop lists_at v)) (joined (sessions + sessions) sessions numbers_at v)
        ∙ joined (sessions + sessions + sessions) places numbers_at v
        ∙ take_all (sessions + sessions + sessions + places) (drop numbers_at v) all

-- so no second words say the same desk
pub words_once : (w v : List ℕ) → length w ≡ all_words → length v ≡ all_words → desk_in w ≡ desk_in v → w ≡ v
words_once w v lw lv e = sym (words_back w lw) ∙ ap words_of e ∙ words_back v lv

-- ---- what is asked of words

-- place k of the column that begins at `at`
column_at : (at : ℕ) (w : List ℕ) (k : ℕ) → k < sessions → get_or w (at + k) 0 ≡ get_or (take sessions (drop at w)) k 0
column_at at w k h = sym (get_or-take sessions (drop at w) k 0 h ∙ get_or-drop at w k 0)

-- a session's statement
pub statement_at : (w : List ℕ) (k : ℕ) → k < sessions → get_or w (statements_at + k) 0 ≡ get_or (desk_in w).statements k 0
unfolding desk_in
statement_at w k h = column_at statements_at w k h

-- whether a session is spoiled
pub spoiled_at_lem : (w : List ℕ) (k : ℕ) → k < sessions → eqb (get_or w (marks_at + k) 0) spoiled_mark ≡ spoiled_at k (desk_in w)
unfolding desk_in spoiled_at
spoiled_at_lem w k h = ap (λ (n : ℕ). eqb n spoiled_mark) (column_at marks_at w k h)

-- a part of a part
cut_cut : (a n m : ℕ) (l : List ℕ) → a + m ≤ n → take m (drop a (take n l)) ≡ take m (drop a l)
cut_cut zero n m l h = take-take m n l (omega arith)
cut_cut (suc a) zero m l h = absurd (omega arith)
cut_cut (suc a) (suc n) m [] h = refl
cut_cut (suc a) (suc n) m (x ∷ l) h = cut_cut a n m l (omega arith)

-- a session's list, of all its places
pub list_at : (w : List ℕ) (k : ℕ) → k < sessions → take members (drop (lists_at + k * members) w) ≡ (view_at k (desk_in w)).list
unfolding desk_in view_at
list_at w k h =
    ap (take members) (sym (drop-drop (k * members) lists_at w)) ∙ sym (cut_cut (k * members) places members (drop lists_at w) (omega arith))

-- ---- a mark set

-- the words with the mark of place k set say the desk with that session spoiled, and nothing else
pub spoil_said : (w : List ℕ) (k : ℕ) → k < sessions → desk_in (set w (marks_at + k) spoiled_mark) ≡ spoiled k (desk_in w)
unfolding desk_in spoiled
spoil_said w k h = λ i. desk_of (next i) (numbers i) (statements i) (marks i) (lists i)
  where
    v : List ℕ
    v = set w (marks_at + k) spoiled_mark

    -- a column that ends before the marks
    before : (at m : ℕ) → at + m ≡ marks_at + k → sessions ≤ m → take sessions (drop at v) ≡ take sessions (drop at w)
    before at m e l =
        ap (λ (n : ℕ). take sessions (drop at (set w n spoiled_mark))) (sym e)
        ∙ ap (take sessions) (drop-set-add at w m spoiled_mark)
        ∙ take-set-le sessions (drop at w) m spoiled_mark l

    next : get_or v 0 0 ≡ get_or w 0 0
    next = get_or-set_other w (marks_at + k) 0 spoiled_mark 0 (λ e. omega arith)

    numbers : take sessions (drop numbers_at v) ≡ take sessions (drop numbers_at w)
    numbers = before numbers_at (sessions + sessions + k) (omega arith) (omega arith)

    statements : take sessions (drop statements_at v) ≡ take sessions (drop statements_at w)
    statements = before statements_at (sessions + k) (omega arith) (omega arith)

    marks : take sessions (drop marks_at v) ≡ set (take sessions (drop marks_at w)) k spoiled_mark
    marks = ap (take sessions) (drop-set-add marks_at w k spoiled_mark) ∙ take-set-lt sessions (drop marks_at w) k spoiled_mark h

    lists : take places (drop lists_at v) ≡ take places (drop lists_at w)
    lists = ap (take places) (drop-set-lt lists_at w (marks_at + k) spoiled_mark (omega arith))
