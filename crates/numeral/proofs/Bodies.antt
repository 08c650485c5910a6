-- Laws of bodies as text: each byte is two hex digits, which say it. Assumes nothing.
use mathlib.Core.Path.{◌≡◌, refl, sym, ap, ap₂, ◌∙◌}
use mathlib.Core.Bool.{Bool, true, false, ◌&&◌, cond, and-false}
use mathlib.Core.List.{List, [], ◌∷◌, ◌++◌, append-nil}
use Prim.Native.Nat.{ℕ, zero, suc, ◌+◌, ◌-◌, ◌*◌, ◌/◌, ◌%◌, ◌≤◌, ◌<◌}
use native.Mathlib.Numerals.{add-one}
use native.Mathlib.Omega.{arith}
use lib.ListN.{length, get_or, take, drop, set, replicate, length-set, drop_of_length-le}
use lib.Seq.{sets, sets-eq, drop-cons, drop-drop}
use lib.Dec.{eqb, ltb}
use borrow.Author.Tests.{ltb-true, ltb-false, lt-ltb, le-ltb, le-leb, lt-leb, eq-eqb, ne_eqb}
use Rattle.std.specs.Prelude.{Option, Some, None}
use Rattle.std.specs.Simd.{first_chunks}
use Rattle.little.specs.Little.{Bytes}
use Rattle.numeral.specs.Numeral.{nibble_of, hex_alone, is_body, pairs, body_in, byte_in, body_said, glyph_of, hex_of}

-- ---- a digit

pub glyph_of_low : (n : ℕ) → n < 10 → glyph_of n ≡ 48 + n
unfolding glyph_of
glyph_of_low n h = rw (lt-ltb n 10 h)

pub glyph_of_high : (n : ℕ) → 10 ≤ n → glyph_of n ≡ 87 + n
unfolding glyph_of
glyph_of_high n h = rw (le-ltb n 10 h)

pub nibble_of_digit : (b : ℕ) → 48 ≤ b → b ≤ 57 → nibble_of b ≡ b - 48
unfolding nibble_of
nibble_of_digit b l h = rw (le-leb 48 b l, le-leb b 57 h)

pub nibble_of_letter : (b : ℕ) → 97 ≤ b → b ≤ 102 → nibble_of b ≡ b - 87
unfolding nibble_of
nibble_of_letter b l h = rw (le-leb 48 b (omega arith), lt-leb b 57 (omega arith), le-leb 97 b l, le-leb b 102 h)

pub nibble_of_below : (b : ℕ) → b < 48 → nibble_of b ≡ 16
unfolding nibble_of
nibble_of_below b h = rw (lt-leb 48 b h, lt-leb 97 b (omega arith))

-- a digit is read back
pub nibble_of_glyph_of : (n : ℕ) → n < 16 → nibble_of (glyph_of n) ≡ n
nibble_of_glyph_of n h = by (ltb n 10) refl
  where
    by : (t : Bool) → ltb n 10 ≡ t → nibble_of (glyph_of n) ≡ n
    by true e =
        let l : n < 10 = ltb-true n 10 e in
        ap nibble_of (glyph_of_low n l) ∙ nibble_of_digit (48 + n) (omega arith) (omega arith) ∙ omega arith
    by false e =
        let l : 10 ≤ n = ltb-false n 10 e in
        ap nibble_of (glyph_of_high n l) ∙ nibble_of_letter (87 + n) (omega arith) (omega arith) ∙ omega arith

-- ---- hex_of

pub length_hex_of : (b : List ℕ) → length (hex_of b) ≡ 2 * length b
unfolding hex_of
length_hex_of [] = refl
length_hex_of (x ∷ b) = omega (arith, length_hex_of b)

pub hex_alone_hex_of : (b : List ℕ) → Bytes b → hex_alone (hex_of b) ≡ true
unfolding hex_of hex_alone
hex_alone_hex_of [] h = refl
hex_alone_hex_of (x ∷ b) h =
    let byte : x < 256 = h.0 in
    rw (nibble_of_glyph_of (x / 16) (omega arith), nibble_of_glyph_of (x % 16) (omega arith), lt-ltb (x / 16) 16 (omega arith), lt-ltb (x % 16) 16 (omega arith))
    (hex_alone_hex_of b h.1)

pub pairs_hex_of : (b : List ℕ) → Bytes b → pairs (hex_of b) ≡ b
unfolding hex_of pairs
pairs_hex_of [] h = refl
pairs_hex_of (x ∷ b) h =
    let byte : x < 256 = h.0 in
    rw (nibble_of_glyph_of (x / 16) (omega arith), nibble_of_glyph_of (x % 16) (omega arith))
    (ap₂ ◌∷◌ (omega arith) (pairs_hex_of b h.1))

-- ---- a body stored byte by byte

drop_next : (s : List ℕ) (i : ℕ) → i < length s → drop i s ≡ get_or s i 0 ∷ drop (i + 1) s
drop_next s i h = rw add-one (drop-cons s i 0 h)

-- the two digits of byte i, and those of the bytes behind it
pub sets_hex_of : {h l : ℕ} (s : List ℕ) (at : ℕ) (body : List ℕ) (i : ℕ) → i < length body
    → h ≡ glyph_of (get_or body i 0 / 16)
    → l ≡ glyph_of (get_or body i 0 % 16)
    → sets (set (set s (at + 2 * i) h) (at + 2 * i + 1) l) (at + 2 * (i + 1)) (hex_of (drop (i + 1) body)) ≡ sets s (at + 2 * i) (hex_of (drop i body))
unfolding hex_of
sets_hex_of {h} {l} s at body i inside e f =
    ap₂ (λ (n m : ℕ). sets (set (set s (at + 2 * i) h) n l) m (hex_of (drop (i + 1) body))) (add-one (at + 2 * i)) behind
    ∙ ap₂ (λ (h l : ℕ). sets s (at + 2 * i) (h ∷ l ∷ hex_of (drop (i + 1) body))) e f
    ∙ ap (λ (r : List ℕ). sets s (at + 2 * i) (hex_of r)) (sym (drop_next body i inside))
  where
    behind : at + 2 * (i + 1) ≡ suc (suc (at + 2 * i))
    behind = omega arith

pub sets_hex_of_end : (s : List ℕ) (at : ℕ) (body : List ℕ) (i : ℕ) → length body ≤ i → sets s at (hex_of (drop i body)) ≡ s
unfolding hex_of
sets_hex_of_end s at body i h = ap (λ (r : List ℕ). sets s at (hex_of r)) (drop_of_length-le body h)

-- ---- a body read byte by byte

-- the two digits of byte i
two_at : (n : ℕ) (s : List ℕ) (i : ℕ) → i < n → get_or (first_chunks 2 n s) i [] ≡ take 2 (drop (2 * i) s)
two_at zero s i h = absurd (omega arith)
two_at (suc n) s zero h = refl
two_at (suc n) s (suc i) h = two_at n (drop 2 s) i (omega arith) ∙ ap (take 2) (drop-drop (2 * i) 2 s ∙ ap (λ (k : ℕ). drop k s) (omega arith))

-- what is known where the bytes before place i are read: the digits from there on say the rest
pub record Reading (s : List ℕ) (digits : List (List ℕ)) (i : ℕ) (bytes : List ℕ) : Type 0 where
  pub long : length s ≡ 64
  pub count : length digits ≡ 32
  pub cut : (k : ℕ) → k < 32 → get_or digits k [] ≡ take 2 (drop (2 * k) s)
  pub room : length bytes ≡ 32
  pub alone : hex_alone (drop (2 * i) s) ≡ hex_alone s
  pub rest : sets bytes i (pairs (drop (2 * i) s)) ≡ pairs s

length_pairs : (n : ℕ) (s : List ℕ) → length s ≡ 2 * n → length (pairs s) ≡ n
unfolding pairs
length_pairs zero [] e = refl
length_pairs zero (h ∷ s) e = absurd (omega arith)
length_pairs (suc n) [] e = absurd (omega arith)
length_pairs (suc n) (h ∷ []) e = absurd (omega arith)
length_pairs (suc n) (h ∷ l ∷ s) e = ap suc (length_pairs n s (omega arith))

-- a list of the same length put over the whole
sets_all : (l x : List ℕ) → length x ≡ length l → sets l 0 x ≡ x
sets_all l x e =
    sets-eq x l 0 (omega arith) ∙ ap (λ (r : List ℕ). x ++ r) (drop_of_length-le l {i = 0 + length x} (omega arith)) ∙ append-nil x

pub reading_start : (s : List ℕ) (digits : List (List ℕ)) → length s ≡ 64
    → digits ≡ first_chunks 2 (length s / 2) s → length digits ≡ length s / 2 → Reading s digits 0 (replicate 32 0)
reading_start s digits e cut count =
    let half : length s / 2 ≡ 32 = omega arith in
    record {
      long = e;
      count = count ∙ half;
      cut = λ k h. ap (λ (d : List (List ℕ)). get_or d k []) cut ∙ two_at (length s / 2) s k (omega arith);
      room = refl;
      alone = refl;
      rest = sets_all (replicate 32 0) (pairs s) (length_pairs 32 s e);
    }

same_some : {m n : ℕ} → Some m ≡ Some n → m ≡ n
same_some e = cc

module _ (s : List ℕ) (digits : List (List ℕ)) (i : ℕ) (bytes : List ℕ) (r : Reading s digits i bytes) (inside : i < length digits) where
  abbrev high : ℕ
  high = nibble_of (get_or s (2 * i) 0)

  abbrev low : ℕ
  low = nibble_of (get_or s (2 * i + 1) 0)

  two : drop (2 * i) s ≡ get_or s (2 * i) 0 ∷ get_or s (2 * i + 1) 0 ∷ drop (2 * (i + 1)) s
  two =
      let behind : 2 * i + 1 + 1 ≡ 2 * (i + 1) = omega arith in
      drop_next s (2 * i) (omega (arith, r.long, r.count))
      ∙ ap (λ (d : List ℕ). get_or s (2 * i) 0 ∷ d)
      (drop_next s (2 * i + 1) (omega (arith, r.long, r.count)) ∙ ap (λ (n : ℕ). get_or s (2 * i + 1) 0 ∷ drop n s) behind)

  abbrev said : Option ℕ
  said = byte_in (get_or (get_or digits i []) 0 0) (get_or (get_or digits i []) 1 0)

  said_is : said ≡ cond (ltb high 16 && ltb low 16) (Some (high * 16 + low)) None
  said_is = ap (λ (d : List ℕ). byte_in (get_or d 0 0) (get_or d 1 0)) (r.cut i (omega (arith, r.count)) ∙ ap (take 2) two)

  alone_two : hex_alone s ≡ (ltb high 16 && (ltb low 16 && hex_alone (drop (2 * (i + 1)) s)))
  unfolding hex_alone
  alone_two = sym r.alone ∙ ap hex_alone two

  pub reading_none : None ≡ said → None ≡ body_said s
  unfolding is_body
  reading_none e = by (ltb high 16) refl (ltb low 16) refl (e ∙ said_is)
    where
      none : hex_alone s ≡ false → None ≡ body_said s
      none f = rw (f, and-false (eqb (length s) 64))

      by : (t : Bool) → ltb high 16 ≡ t → (u : Bool) → ltb low 16 ≡ u → None ≡ cond (t && u) (Some (high * 16 + low)) None → None ≡ body_said s
      by true p true q f = cc
      by true p false q f = none (alone_two ∙ rw (p, q))
      by false p u q f = none (alone_two ∙ rw p)

  pub reading_next : {n : ℕ} → Some n ≡ said → Reading s digits (i + 1) (set bytes i n)
  unfolding pairs
  reading_next {n} e = by (ltb high 16) refl (ltb low 16) refl (e ∙ said_is)
    where
      by : (t : Bool) → ltb high 16 ≡ t → (u : Bool) → ltb low 16 ≡ u → Some n ≡ cond (t && u) (Some (high * 16 + low)) None
          → Reading s digits (i + 1) (set bytes i n)
      by true p true q f = record {
        long = r.long;
        count = r.count;
        cut = r.cut;
        room = simp length-set r.room;
        alone = sym (alone_two ∙ rw (p, q));
        rest =
            ap (λ (k : ℕ). sets (set bytes i n) k (pairs (drop (2 * (i + 1)) s))) (add-one i)
            ∙ ap (λ (b : ℕ). sets bytes i (b ∷ pairs (drop (2 * (i + 1)) s))) (same_some f)
            ∙ ap (λ (d : List ℕ). sets bytes i (pairs d)) (sym two)
            ∙ r.rest;
      }
      by true p false q f = cc
      by false p u q f = cc

pub reading_end : (s : List ℕ) (digits : List (List ℕ)) (i : ℕ) (bytes : List ℕ) → Reading s digits i bytes → length digits ≤ i → Some bytes ≡ body_said s
unfolding is_body body_in hex_alone pairs
reading_end s digits i bytes r h = rw (good, alone) (ap (λ (d : List ℕ). Some (sets bytes i (pairs d))) (sym none) ∙ ap Some r.rest)
  where
    none : drop (2 * i) s ≡ []
    none = drop_of_length-le s {i = 2 * i} (omega (arith, r.long, r.count))

    alone : hex_alone s ≡ true
    alone = sym r.alone ∙ ap hex_alone none

    good : eqb (length s) 64 ≡ true
    good = eq-eqb (length s) 64 r.long

pub short_none : (s : List ℕ) → (length s ≡ 64 → ⊥) → None ≡ body_said s
unfolding is_body
short_none s h = rw (ne_eqb (length s) 64 h)
