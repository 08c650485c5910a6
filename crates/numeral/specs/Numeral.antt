-- Numbers and bodies as text ("01, The script and one whole run"). Assumes nothing.
use Rattle.std.specs.Prelude.{ℕ, zero, suc, ◌+◌, ◌-◌, ◌*◌, ◌/◌, ◌%◌, ◌^◌, Bool, true, false, not, ◌&&◌, cond, Option, Some, None, List, [], ◌∷◌, ◌++◌, length, replicate, eqb, leb, ltb}

-- ---- numbers

-- digits alone, "0" to "9"
unfoldable pub digits_alone : List ℕ → Bool
digits_alone [] = true
digits_alone (b ∷ bs) = leb 48 b && leb b 57 && digits_alone bs

-- what a number says with a digit behind it; none where the byte is no digit, or the number then above 2^64 − 1
abbrev pub with_digit : ℕ → ℕ → Option ℕ
with_digit v b = cond (leb 48 b && leb b 57 && ltb (v * 10 + (b - 48)) (2 ^ 64)) (Some (v * 10 + (b - 48))) None

-- what digits say, behind what those before them said
unfoldable pub said_from : ℕ → List ℕ → ℕ
said_from v [] = v
said_from v (b ∷ bs) = said_from (v * 10 + (b - 48)) bs

-- "decimal without leading zeros": the first is no zero, or the only one
abbrev pub leads : ℕ → List ℕ → Bool
leads b [] = true
leads b (c ∷ cs) = not (eqb b 48)

abbrev pub begins : List ℕ → Bool
begins [] = false
begins (b ∷ bs) = leads b bs

-- a field that is a number; "a number above 2^64 − 1" is ill-formed
unfoldable pub number_in : List ℕ → Option ℕ
number_in [] = None
number_in (b ∷ bs) =
    cond (digits_alone (b ∷ bs) && leads b bs && ltb (said_from 0 (b ∷ bs)) (2 ^ 64)) (Some (said_from 0 (b ∷ bs))) None

-- a number as text: of at most 20 digits, the last behind those of a tenth of it
unfoldable pub spelled : ℕ → ℕ → List ℕ
spelled zero v = (48 + v % 10) ∷ []
spelled (suc fuel) v = cond (ltb v 10) ((48 + v) ∷ []) (spelled fuel (v / 10) ++ ((48 + v % 10) ∷ []))

unfoldable pub numeral_of : ℕ → List ℕ
numeral_of v = spelled 19 v

-- ---- bodies

-- what a hex digit says, "lower-case" alone; 16 where it is none
unfoldable pub nibble_of : ℕ → ℕ
nibble_of b = cond (leb 48 b && leb b 57) (b - 48) (cond (leb 97 b && leb b 102) (b - 87) 16)

unfoldable pub hex_alone : List ℕ → Bool
hex_alone [] = true
hex_alone (b ∷ bs) = ltb (nibble_of b) 16 && hex_alone bs

-- "a body is 64 lower-case hex digits"
unfoldable pub is_body : List ℕ → Bool
is_body bs = eqb (length bs) 64 && hex_alone bs

-- the bytes that they say, two digits each; zeros where they are no body
unfoldable pub pairs : List ℕ → List ℕ
pairs [] = []
pairs (h ∷ []) = []
pairs (h ∷ l ∷ bs) = (nibble_of h * 16 + nibble_of l) ∷ pairs bs

unfoldable pub body_in : List ℕ → List ℕ
body_in bs = cond (is_body bs) (pairs bs) (replicate 32 0)

-- a field that is a body
abbrev pub body_said : List ℕ → Option (List ℕ)
body_said bs = cond (is_body bs) (Some (body_in bs)) None

-- the byte that two digits say
abbrev pub byte_in : ℕ → ℕ → Option ℕ
byte_in h l = cond (ltb (nibble_of h) 16 && ltb (nibble_of l) 16) (Some (nibble_of h * 16 + nibble_of l)) None

-- a body as text
unfoldable pub glyph_of : ℕ → ℕ
glyph_of n = cond (ltb n 10) (48 + n) (87 + n)

unfoldable pub hex_of : List ℕ → List ℕ
hex_of [] = []
hex_of (b ∷ bs) = glyph_of (b / 16) ∷ glyph_of (b % 16) ∷ hex_of bs
