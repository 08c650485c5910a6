-- Laws of a text parted by a byte: what stands before the first one, the parts, and a part that lacks it. Assumes nothing.
use mathlib.Core.Path.{◌≡◌, refl, sym, ap, ◌∙◌}
use mathlib.Core.Bool.{Bool, true, false, not, ◌&&◌, cond}
use mathlib.Core.List.{List, [], ◌∷◌, ◌++◌, append_assoc}
use Prim.Native.Nat.{ℕ, suc, ◌+◌, ◌≤◌, ◌<◌}
use native.Mathlib.Omega.{arith}
use lib.ListN.{length, take, drop, drop_of_length-le}
use lib.Seq.{take-length}
use lib.Dec.{eqb, ltb, leb-suc-suc}
use borrow.Author.Tests.{eqb-true, eq-eqb, lt-ltb, le-ltb, ltb-false}
use Rattle.std.specs.Prelude.{Some, None}
use Rattle.std.specs.Option.{unwrap_or}
use Rattle.std.specs.List.{prefix_len, position, position_or_len}
use Rattle.lines.specs.Span.{before, onto, parts, lacks}

-- ---- before

-- no longer than the text, and its first bytes
pub before_length : (b : ℕ) (s : List ℕ) → length (before b s) ≤ length s
unfolding before
before_length b [] = omega arith
before_length b (x ∷ xs) = by (eqb x b) (before_length b xs)
  where
    by : (t : Bool) → length (before b xs) ≤ length xs → length (cond t [] (x ∷ before b xs)) ≤ suc (length xs)
    by true h = omega arith
    by false h = omega arith

pub before_take : (b : ℕ) (s : List ℕ) → before b s ≡ take (length (before b s)) s
unfolding before
before_take b [] = refl
before_take b (x ∷ xs) = by (eqb x b) (before_take b xs)
  where
    by : (t : Bool) → before b xs ≡ take (length (before b xs)) xs
        → cond t [] (x ∷ before b xs) ≡ take (length (cond t [] (x ∷ before b xs))) (x ∷ xs)
    by true e = refl
    by false e = ap (λ (l : List ℕ). x ∷ l) e

-- all of it, where it is as long
pub before_whole : (b : ℕ) (s : List ℕ) → length (before b s) ≡ length s → before b s ≡ s
before_whole b s e = before_take b s ∙ ap (λ (n : ℕ). take n s) e ∙ take-length s

-- the b found stays where it is when more comes behind
pub before_append : (b : ℕ) (s more : List ℕ) → length (before b s) < length s → before b (s ++ more) ≡ before b s
unfolding before
before_append b [] more h = absurd (omega arith)
before_append b (x ∷ xs) more h = by (eqb x b) (before_append b xs more) h
  where
    by : (t : Bool) → (length (before b xs) < length xs → before b (xs ++ more) ≡ before b xs)
        → length (cond t [] (x ∷ before b xs)) < suc (length xs)
        → cond t [] (x ∷ before b (xs ++ more)) ≡ cond t [] (x ∷ before b xs)
    by true e l = refl
    by false e l = ap (λ (r : List ℕ). x ∷ r) (e (omega arith))

-- a text is what stands before the first b, that b, and what is behind it
pub before_split : (b : ℕ) (s : List ℕ) → length (before b s) < length s
    → s ≡ before b s ++ (b ∷ drop (length (before b s) + 1) s)
unfolding before
before_split b [] h = absurd (omega arith)
before_split b (x ∷ xs) h = by (eqb x b) refl (before_split b xs) h
  where
    by : (t : Bool) → eqb x b ≡ t
        → (length (before b xs) < length xs → xs ≡ before b xs ++ (b ∷ drop (length (before b xs) + 1) xs))
        → length (cond t [] (x ∷ before b xs)) < suc (length xs)
        → x ∷ xs ≡ cond t [] (x ∷ before b xs) ++ (b ∷ drop (length (cond t [] (x ∷ before b xs)) + 1) (x ∷ xs))
    by true q e l = ap (λ (y : ℕ). y ∷ xs) (eqb-true x b q)
    by false q e l =
        let more : suc (length (before b xs) + 1) ≡ suc (length (before b xs)) + 1 = omega arith in
        ap (λ (r : List ℕ). x ∷ r) (e (omega arith))
        ∙ ap (λ (n : ℕ). x ∷ (before b xs ++ (b ∷ drop n (x ∷ xs)))) more

-- as long as the front that passes
pub before_front : (b : ℕ) (s : List ℕ) → length (before b s) ≡ prefix_len (λ x. not (eqb x b)) s
unfolding before
before_front b [] = refl
before_front b (x ∷ xs) = by (eqb x b) (before_front b xs)
  where
    by : (t : Bool) → length (before b xs) ≡ prefix_len (λ x. not (eqb x b)) xs
        → length (cond t [] (x ∷ before b xs)) ≡ cond (not t) (1 + prefix_len (λ x. not (eqb x b)) xs) 0
    by true e = refl
    by false e = omega (arith, e)

-- which is where the first b stands, or the text's end
pub before_position : (b : ℕ) (s : List ℕ) → unwrap_or (position (λ x. eqb x b) s) (length s) ≡ length (before b s)
before_position b s = by (ltb (position_or_len (λ x. eqb x b) s) (length s)) refl
  where
    by : (t : Bool) → ltb (position_or_len (λ x. eqb x b) s) (length s) ≡ t
        → unwrap_or (cond t (Some (position_or_len (λ x. eqb x b) s)) None) (length s) ≡ length (before b s)
    by true e = sym (before_front b s)
    by false e = omega (arith, before_front b s, before_length b s, ltb-false (position_or_len (λ x. eqb x b) s) (length s) e)

-- ---- past the end

pub before_end : (b i : ℕ) (s : List ℕ) → length s ≤ i → length (before b (drop i s)) ≡ 0
unfolding before
before_end b i s h = rw (drop_of_length-le s h)

-- ---- parts

-- the first part, and where the text has a b the parts of what is behind it
pub parts_cut : (b : ℕ) (s : List ℕ)
    → parts b s ≡ before b s ∷ cond (ltb (length (before b s)) (length s)) (parts b (drop (length (before b s) + 1) s)) []
unfolding before parts
parts_cut b [] = refl
parts_cut b (x ∷ xs) = by (eqb x b) (parts_cut b xs)
  where
    by : (t : Bool)
        → parts b xs ≡ before b xs ∷ cond (ltb (length (before b xs)) (length xs)) (parts b (drop (length (before b xs) + 1) xs)) []
        → cond t ([] ∷ parts b xs) (onto x (parts b xs))
        ≡ cond t [] (x ∷ before b xs)
        ∷ cond (ltb (length (cond t [] (x ∷ before b xs))) (suc (length xs))) (parts b (drop (length (cond t [] (x ∷ before b xs)) + 1) (x ∷ xs))) []
    by true e = rw (lt-ltb 0 (suc (length xs)) (omega arith))
    by false e =
        let more : suc (length (before b xs) + 1) ≡ suc (length (before b xs)) + 1 = omega arith in
        ap (onto x) e
        ∙ ap (λ (t : Bool). (x ∷ before b xs) ∷ cond t (parts b (drop (length (before b xs) + 1) xs)) []) (sym (leb-suc-suc (suc (length (before b xs))) (length xs)))
        ∙ ap (λ (n : ℕ). (x ∷ before b xs) ∷ cond (ltb (suc (length (before b xs))) (suc (length xs))) (parts b (drop n (x ∷ xs))) []) more

pub parts_ended : (b : ℕ) (s : List ℕ) → length (before b s) < length s
    → parts b s ≡ before b s ∷ parts b (drop (length (before b s) + 1) s)
parts_ended b s h =
    parts_cut b s
    ∙ ap (λ (t : Bool). before b s ∷ cond t (parts b (drop (length (before b s) + 1) s)) []) (lt-ltb (length (before b s)) (length s) h)

pub parts_last : (b : ℕ) (s : List ℕ) → length (before b s) ≡ length s → parts b s ≡ s ∷ []
parts_last b s e =
    parts_cut b s
    ∙ ap (λ (t : Bool). before b s ∷ cond t (parts b (drop (length (before b s) + 1) s)) []) (le-ltb (length (before b s)) (length s) (omega arith))
    ∙ ap (λ (l : List ℕ). l ∷ []) (before_whole b s e)

-- ---- lacks

true_false : (t : Bool) → t ≡ true → t ≡ false → ⊥
true_false t p q = let z : ◌≡◌ {A = ℕ} 0 1 = cc in omega arith

-- the first byte of a text that lacks b, and the others
lacks_head : (b x : ℕ) (w : List ℕ) → lacks b (x ∷ w) ≡ true → eqb x b ≡ false
unfolding lacks
lacks_head b x w h = by (eqb x b) h
  where
    by : (t : Bool) → (not t && lacks b w) ≡ true → t ≡ false
    by true e = absurd (true_false false e refl)
    by false e = refl

lacks_tail : (b x : ℕ) (w : List ℕ) → lacks b (x ∷ w) ≡ true → lacks b w ≡ true
unfolding lacks
lacks_tail b x w h = by (eqb x b) h
  where
    by : (t : Bool) → (not t && lacks b w) ≡ true → lacks b w ≡ true
    by true e = absurd (true_false false e refl)
    by false e = e

-- what stands before the first b lacks it
pub lacks_before : (b : ℕ) (s : List ℕ) → lacks b (before b s) ≡ true
unfolding before lacks
lacks_before b [] = refl
lacks_before b (x ∷ xs) = by (eqb x b) refl (lacks_before b xs)
  where
    by : (t : Bool) → eqb x b ≡ t → lacks b (before b xs) ≡ true → lacks b (cond t [] (x ∷ before b xs)) ≡ true
    by true q e = refl
    by false q e = rw q e

-- a text that lacks b, with b behind it, and alone
pub before_lacks : (b : ℕ) (w rest : List ℕ) → lacks b w ≡ true → before b (w ++ (b ∷ rest)) ≡ w
unfolding before
before_lacks b [] rest h = rw (eq-eqb b b refl)
before_lacks b (x ∷ w) rest h =
    rw (lacks_head b x w h) (ap (λ (l : List ℕ). x ∷ l) (before_lacks b w rest (lacks_tail b x w h)))

pub before_alone : (b : ℕ) (w : List ℕ) → lacks b w ≡ true → before b w ≡ w
unfolding before
before_alone b [] h = refl
before_alone b (x ∷ w) h =
    rw (lacks_head b x w h) (ap (λ (l : List ℕ). x ∷ l) (before_alone b w (lacks_tail b x w h)))

pub parts_joined : (b : ℕ) (w rest : List ℕ) → lacks b w ≡ true → parts b (w ++ (b ∷ rest)) ≡ w ∷ parts b rest
unfolding parts
parts_joined b [] rest h = rw (eq-eqb b b refl)
parts_joined b (x ∷ w) rest h = rw (lacks_head b x w h) (ap (onto x) (parts_joined b w rest (lacks_tail b x w h)))

pub parts_alone : (b : ℕ) (w : List ℕ) → lacks b w ≡ true → parts b w ≡ w ∷ []
unfolding parts
parts_alone b [] h = refl
parts_alone b (x ∷ w) h = rw (lacks_head b x w h) (ap (onto x) (parts_alone b w (lacks_tail b x w h)))

-- ---- parts of a text with more behind it

-- a part that has ended stays
pub parts_ended_append : (b : ℕ) (s more : List ℕ) → length (before b s) < length s
    → parts b (s ++ more) ≡ before b s ∷ parts b (drop (length (before b s) + 1) s ++ more)
parts_ended_append b s more h =
    ap (λ (l : List ℕ). parts b (l ++ more)) (before_split b s h)
    ∙ ap (parts b) (append_assoc (before b s) (b ∷ drop (length (before b s) + 1) s) more)
    ∙ parts_joined b (before b s) (drop (length (before b s) + 1) s ++ more) (lacks_before b s)

-- one that has not is glued onto the first part of what comes
pub parts_glued : (b : ℕ) (s more : List ℕ) → lacks b s ≡ true
    → parts b (s ++ more)
    ≡ (s ++ before b more) ∷ cond (ltb (length (before b more)) (length more)) (parts b (drop (length (before b more) + 1) more)) []
unfolding parts
parts_glued b [] more h = parts_cut b more
parts_glued b (x ∷ w) more h = rw (lacks_head b x w h) (ap (onto x) (parts_glued b w more (lacks_tail b x w h)))
