-- A column copied into words, all turns of the loop done; the desk that words say; and columns stored one behind the other. Assumes
-- nothing.
use mathlib.Core.Path.{◌≡◌, refl, sym, ap, ap₂, ◌∙◌}
use mathlib.Core.List.{List, [], ◌∷◌, ◌++◌, append-nil, append_assoc}
use Prim.Native.Nat.{ℕ, ◌+◌, ◌≤◌}
use native.Mathlib.Omega.{arith}
use lib.ListN.{length, get_or, set, take, drop, length-append, length-drop}
use lib.ListN.{drop_of_length-le}
use lib.Seq.{sets, paste, take_all, sets-eq, take_at, drop_at, drop-append-add, set_split}
use Rattle.columns.specs.Limits.{sessions, places}
use Rattle.columns.proofs.Columns.{paste_sets}
use Rattle.desk.specs.declared.Desk.{Desk}
use Rattle.words.specs.Words.{numbers_at, statements_at, marks_at, lists_at, all_words, desk_of, desk_in}

-- ---- a column of n places written into words, from `at` on, all turns of the loop done

pub pasted : (n : ℕ) (words : List ℕ) (at : ℕ) (column : List ℕ) (i : ℕ) (l : List ℕ)
    → length column ≡ n
    → at + n ≤ length words
    → i ≤ n
    → n ≤ i
    → l ≡ paste words at column i
    → l ≡ sets words at column
pasted n words at column i l long fits h past e =
    e
    ∙ paste_sets words at column i (omega arith) (omega arith)
    ∙ ap (λ (s : List ℕ). sets words at s) (take_all i column (omega arith))

-- ---- the desk that words say

pub desk_said : (w : List ℕ) (ns ss ms ls : List ℕ)
    → ns ≡ take sessions (drop numbers_at w)
    → ss ≡ take sessions (drop statements_at w)
    → ms ≡ take sessions (drop marks_at w)
    → ls ≡ take places (drop lists_at w)
    → ◌≡◌ {A = Desk} (desk_of (get_or w 0 0) ns ss ms ls) (desk_in w)
unfolding desk_in
desk_said w ns ss ms ls n s m l = λ i. desk_of (get_or w 0 0) (n i) (s i) (m i) (l i)

-- ---- columns one behind the other

-- a column stored behind what is done
sets_behind : (done rest vs : List ℕ) (at n : ℕ)
    → length done ≡ at
    → length vs ≡ n
    → n ≤ length rest
    → sets (done ++ rest) at vs ≡ done ++ vs ++ drop n rest
sets_behind done rest vs at n here long fits =
    let inside : at + length vs ≤ length (done ++ rest) = omega (arith, length-append done rest) in
    let behind : at + length vs ≡ length done + n = omega arith in
    sets-eq vs (done ++ rest) at inside
    ∙ ap₂ (λ (a b : List ℕ). a ++ vs ++ b)
    (take_at done rest at here)
    (ap (λ (k : ℕ). drop k (done ++ rest)) behind ∙ drop-append-add done rest n)

module _ (x : ℕ) (ns ss ms ls : List ℕ) (n16 : length ns ≡ sessions) (s16 : length ss ≡ sessions) (m16 : length ms ≡ sessions) (l240 : length ls ≡ places) where
  pub columns_long : length (x ∷ (ns ++ ss ++ ms ++ ls)) ≡ all_words
  columns_long = omega (arith, length-append (ns ++ ss ++ ms) ls, length-append (ns ++ ss) ms, length-append ns ss)

  -- next and the four columns, stored in words
  pub columns_stored : (w : List ℕ) → length w ≡ all_words
      → sets (sets (sets (sets (set w 0 x) numbers_at ns) statements_at ss) marks_at ms) lists_at ls ≡ x ∷ (ns ++ ss ++ ms ++ ls)
  columns_stored w long = first ∙ second ∙ third ∙ fourth ∙ last
    where
      -- what is left behind next, behind the numbers, the statements and the marks
      rest : List ℕ
      rest = drop numbers_at w

      rest_2 : List ℕ
      rest_2 = drop sessions rest

      rest_3 : List ℕ
      rest_3 = drop sessions rest_2

      rest_4 : List ℕ
      rest_4 = drop sessions rest_3

      long_1 : length rest ≡ 288
      long_1 = omega (arith, length-drop numbers_at w)

      long_2 : length rest_2 ≡ 272
      long_2 = omega (arith, length-drop sessions rest, long_1)

      long_3 : length rest_3 ≡ 256
      long_3 = omega (arith, length-drop sessions rest_2, long_2)

      long_4 : length rest_4 ≡ 240
      long_4 = omega (arith, length-drop sessions rest_3, long_3)

      first : sets (sets (sets (sets (set w 0 x) numbers_at ns) statements_at ss) marks_at ms) lists_at ls
          ≡ sets (sets (sets ((x ∷ []) ++ ns ++ rest_2) statements_at ss) marks_at ms) lists_at ls
      first =
          ap (λ (l : List ℕ). sets (sets (sets l statements_at ss) marks_at ms) lists_at ls)
          (ap (λ (l : List ℕ). sets l numbers_at ns) (set_split w 0 x (omega arith))
          ∙ sets_behind (x ∷ []) rest ns numbers_at sessions refl n16 (omega (arith, long_1)))

      second : sets (sets (sets ((x ∷ []) ++ ns ++ rest_2) statements_at ss) marks_at ms) lists_at ls
          ≡ sets (sets ((x ∷ []) ++ ns ++ ss ++ rest_3) marks_at ms) lists_at ls
      second =
          ap (λ (l : List ℕ). sets (sets l marks_at ms) lists_at ls)
          (sets_behind ((x ∷ []) ++ ns) rest_2 ss statements_at sessions (omega arith) s16 (omega (arith, long_2)))

      third : sets (sets ((x ∷ []) ++ ns ++ ss ++ rest_3) marks_at ms) lists_at ls ≡ sets ((x ∷ []) ++ ns ++ ss ++ ms ++ rest_4) lists_at ls
      third =
          ap (λ (l : List ℕ). sets l lists_at ls)
          (sets_behind ((x ∷ []) ++ ns ++ ss) rest_3 ms marks_at sessions (omega (arith, length-append ns ss)) m16 (omega (arith, long_3)))

      fourth : sets ((x ∷ []) ++ ns ++ ss ++ ms ++ rest_4) lists_at ls ≡ (x ∷ []) ++ ns ++ ss ++ ms ++ ls ++ drop places rest_4
      fourth =
          sets_behind ((x ∷ []) ++ ns ++ ss ++ ms) rest_4 ls lists_at places (omega (arith, length-append (ns ++ ss) ms, length-append ns ss)) l240 (omega (arith, long_4))

      last : (x ∷ []) ++ ns ++ ss ++ ms ++ ls ++ drop places rest_4 ≡ x ∷ (ns ++ ss ++ ms ++ ls)
      last =
          ap (λ (l : List ℕ). (x ∷ []) ++ ns ++ ss ++ ms ++ ls ++ l) (drop_of_length-le rest_4 {i = places} (omega (arith, long_4)))
          ∙ append-nil ((x ∷ []) ++ ns ++ ss ++ ms ++ ls)

  -- and each of them read back
  pub numbers_back : take sessions (drop numbers_at (x ∷ (ns ++ ss ++ ms ++ ls))) ≡ ns
  numbers_back =
      ap (take sessions) (append_assoc (ns ++ ss) ms ls ∙ append_assoc ns ss (ms ++ ls)) ∙ take_at ns (ss ++ (ms ++ ls)) sessions n16

  pub statements_back : take sessions (drop statements_at (x ∷ (ns ++ ss ++ ms ++ ls))) ≡ ss
  statements_back =
      ap (λ (l : List ℕ). take sessions (drop statements_at (x ∷ l))) (append_assoc (ns ++ ss) ms ls ∙ append_assoc ns ss (ms ++ ls))
      ∙ ap (take sessions) (drop_at (x ∷ ns) (ss ++ (ms ++ ls)) statements_at (omega arith))
      ∙ take_at ss (ms ++ ls) sessions s16

  pub marks_back : take sessions (drop marks_at (x ∷ (ns ++ ss ++ ms ++ ls))) ≡ ms
  marks_back =
      ap (λ (l : List ℕ). take sessions (drop marks_at (x ∷ l))) (append_assoc (ns ++ ss) ms ls)
      ∙ ap (take sessions) (drop_at (x ∷ (ns ++ ss)) (ms ++ ls) marks_at (omega (arith, length-append ns ss)))
      ∙ take_at ms ls sessions m16

  pub lists_back : take places (drop lists_at (x ∷ (ns ++ ss ++ ms ++ ls))) ≡ ls
  lists_back =
      ap (take places)
      (drop_at (x ∷ (ns ++ ss ++ ms)) ls lists_at (omega (arith, length-append (ns ++ ss) ms, length-append ns ss)) ∙ sym (append-nil ls))
      ∙ take_at ls [] places l240
