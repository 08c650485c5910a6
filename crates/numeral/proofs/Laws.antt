-- What a reader of text may use: a number and a body written are read back, how long they are, and that they have no tab and no newline.
-- Assumes nothing.
use mathlib.Core.Path.{◌≡◌, refl, sym, ap, ◌∙◌}
use mathlib.Core.Bool.{true, ◌&&◌}
use mathlib.Core.List.{List, [], ◌∷◌}
use Prim.Native.Nat.{ℕ, ◌*◌, ◌^◌, ◌≤◌, ◌<◌}
use native.Mathlib.Omega.{arith}
use lib.ListN.{length, get_or}
use lib.Dec.{eqb, leb, ltb}
use borrow.Author.Tests.{ltb-true, leb-true, lt-ltb, eq-eqb, ne_eqb}
use Rattle.little.specs.Little.{Bytes}
use Rattle.std.specs.Prelude.{Some}
use Rattle.numeral.specs.Numeral.{digits_alone, said_from, number_in, spelled, numeral_of, nibble_of, hex_alone, is_body, body_in, hex_of}
use Rattle.lines.specs.Span.{lacks}
use Rattle.std.proofs.lemmas.Bool.{and_parts}
use Rattle.numeral.proofs.Numbers.{number_from, number_from_start, length_spelled, digits_alone_spelled, said_from_spelled, spelled_leads, spelled_long}
use Rattle.numeral.proofs.Bodies.{nibble_of_below, length_hex_of, hex_alone_hex_of, pairs_hex_of}

-- ---- numbers

-- no number is written with more than 20 digits, however large
pub numeral_length : (v : ℕ) → (1 ≤ length (numeral_of v)) × (length (numeral_of v) ≤ 20)
unfolding numeral_of
numeral_length v = length_spelled 19 v

pub numeral_digits : (v : ℕ) → v < 2 ^ 64 → digits_alone (numeral_of v) ≡ true
unfolding numeral_of
numeral_digits v h = digits_alone_spelled 19 v

-- digits that say a number, with no zero in front, are that number
pub number_said : (s : List ℕ) (v : ℕ) → v < 2 ^ 64 → 1 ≤ length s → (2 ≤ length s → get_or s 0 0 ≡ 48 → ⊥)
    → digits_alone s ≡ true → said_from 0 s ≡ v → number_in s ≡ Some v
unfolding number_from
number_said s v h l f d e = sym (number_from_start s l f) ∙ rw (d, e, lt-ltb v (2 ^ 64) h)

-- a number written is read back
pub number_back : (v : ℕ) → v < 2 ^ 64 → number_in (numeral_of v) ≡ Some v
unfolding numeral_of
number_back v h =
    number_said (spelled 19 v) v h (length_spelled 19 v).0
    (λ long e. spelled_leads 19 v below (spelled_long 19 v long) (first (spelled 19 v) e))
    (digits_alone_spelled 19 v)
    (said_from_spelled 19 v below)
  where
    below : v < 10 ^ 20
    below = omega arith

    first : (s : List ℕ) → get_or s 0 0 ≡ 48 → get_or s 0 48 ≡ 48
    first [] e = refl
    first (b ∷ s) e = e

-- ---- bodies

pub hex_length : (b : List ℕ) → length (hex_of b) ≡ 2 * length b
hex_length b = length_hex_of b

pub hex_alone_lem : (b : List ℕ) → Bytes b → hex_alone (hex_of b) ≡ true
hex_alone_lem b h = hex_alone_hex_of b h

-- a body written is read back
pub body_back : (b : List ℕ) → length b ≡ 32 → Bytes b → (is_body (hex_of b) ≡ true) × (body_in (hex_of b) ≡ b)
unfolding is_body body_in
body_back b l h =
    let long : eqb (length (hex_of b)) 64 ≡ true = eq-eqb (length (hex_of b)) 64 (omega (arith, length_hex_of b)) in
    (rw (long, hex_alone_hex_of b h), rw (long, hex_alone_hex_of b h) (pairs_hex_of b h))

-- ---- what a field lacks: every byte below the digits, as a tab and a newline

pub digits_no : (b : ℕ) (s : List ℕ) → b < 48 → digits_alone s ≡ true → lacks b s ≡ true
unfolding digits_alone lacks
digits_no b [] h e = refl
digits_no b (x ∷ s) h e =
    let digit : 48 ≤ x = leb-true 48 x (and_parts (leb 48 x) (leb x 57) (and_parts (leb 48 x && leb x 57) (digits_alone s) e).0).0 in
    rw (ne_eqb x b (λ z. omega arith)) (digits_no b s h (and_parts (leb 48 x && leb x 57) (digits_alone s) e).1)

pub hex_no : (b : ℕ) (s : List ℕ) → b < 48 → hex_alone s ≡ true → lacks b s ≡ true
unfolding hex_alone lacks
hex_no b [] h e = refl
hex_no b (x ∷ s) h e =
    let digit : nibble_of x < 16 = ltb-true (nibble_of x) 16 (and_parts (ltb (nibble_of x) 16) (hex_alone s) e).0 in
    rw (ne_eqb x b (λ z. omega (arith, ap nibble_of z ∙ nibble_of_below b h))) (hex_no b s h (and_parts (ltb (nibble_of x) 16) (hex_alone s) e).1)

pub numeral_no_tab : (v : ℕ) → lacks 9 (numeral_of v) ≡ true
unfolding numeral_of
numeral_no_tab v = digits_no 9 (spelled 19 v) (omega arith) (digits_alone_spelled 19 v)

pub numeral_no_newline : (v : ℕ) → lacks 10 (numeral_of v) ≡ true
unfolding numeral_of
numeral_no_newline v = digits_no 10 (spelled 19 v) (omega arith) (digits_alone_spelled 19 v)

pub hex_no_tab : (b : List ℕ) → Bytes b → lacks 9 (hex_of b) ≡ true
hex_no_tab b h = hex_no 9 (hex_of b) (omega arith) (hex_alone_hex_of b h)

pub hex_no_newline : (b : List ℕ) → Bytes b → lacks 10 (hex_of b) ≡ true
hex_no_newline b h = hex_no 10 (hex_of b) (omega arith) (hex_alone_hex_of b h)
