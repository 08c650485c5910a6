-- Texts written behind one another, the forms of an answer, and how long an answer is. Assumes nothing.
use mathlib.Core.Path.{◌≡◌, refl, sym, ap, ◌∙◌}
use mathlib.Core.Bool.{Bool, true, false, cond}
use mathlib.Core.List.{List, [], ◌∷◌, ◌++◌, append-nil}
use Prim.Native.Nat.{ℕ, zero, suc, ◌+◌, ◌≤◌}
use native.Mathlib.Omega.{arith}
use lib.ListN.{length, set, length-append}
use lib.Seq.{sets, length-sets}
use lib.Dec.{eqb}
use borrow.Author.Tests.{ne_eqb}
use Rattle.little.proofs.Parts.{sets_append}
use Rattle.numeral.specs.Numeral.{spelled, numeral_of, hex_of}
use Rattle.numeral.proofs.Laws.{numeral_length, hex_length}
use Rattle.reply.specs.Reply.{tabbed, newline, answer_line, Says}

-- ---- Says

-- the buffer keeps its length
pub says_length : {a s t : List ℕ} {at e : ℕ} → Says a at s e t → length t ≡ length s
says_length {a} {s} {t} {at} x = ap length x.leaves ∙ length-sets s at a

-- a text written behind a text is the two written as one
pub says_append : {a b s m t : List ℕ} {at e f : ℕ} → Says a at s e m → Says b e m f t → Says (a ++ b) at s f t
says_append {a} {b} {s} {m} {t} {at} {e} {f} x y = record {
  ends = simp length-append (omega (arith, x.ends, y.ends));
  leaves =
      y.leaves
      ∙ ap (λ (l : List ℕ). sets l e b) x.leaves
      ∙ ap (λ (n : ℕ). sets (sets s at a) n b) x.ends
      ∙ sym (sets_append s at a b);
  within = omega (arith, y.within, says_length x);
}

-- one byte
pub says_byte : (b at : ℕ) (s : List ℕ) → at + 1 ≤ length s → Says (b ∷ []) at s (at + 1) (set s at b)
says_byte b at s h = record { ends = refl; leaves = refl; within = h }

-- the same text in another form
pub says_as : {a b s t : List ℕ} {at e : ℕ} → a ≡ b → Says a at s e t → Says b at s e t
says_as e x = rw e at x

-- ---- tabbed

pub tabbed_one : (f : List ℕ) → tabbed (f ∷ []) ≡ (9 ∷ []) ++ f
unfolding tabbed
tabbed_one f = ap (λ (l : List ℕ). 9 ∷ l) (append-nil f)

pub tabbed_two : (f g : List ℕ) → tabbed (f ∷ g ∷ []) ≡ tabbed (f ∷ []) ++ tabbed (g ∷ [])
unfolding tabbed
tabbed_two f g = ap (λ (l : List ℕ). (9 ∷ l) ++ (9 ∷ g ++ [])) (sym (append-nil f))

pub length_tabbed_one : (f : List ℕ) → length (tabbed (f ∷ [])) ≡ 1 + length f
length_tabbed_one f = ap length (tabbed_one f) ∙ length-append (9 ∷ []) f

pub length_tabbed_two : (f g : List ℕ) → length (tabbed (f ∷ g ∷ [])) ≡ 2 + length f + length g
length_tabbed_two f g =
    ap length (tabbed_two f g) ∙ length-append (tabbed (f ∷ [])) (tabbed (g ∷ [])) ∙ omega (arith, length_tabbed_one f, length_tabbed_one g)

-- a field said ends within its longest, and the buffer keeps its length
pub number_within : {s t : List ℕ} {at e : ℕ} (n : ℕ) → Says (tabbed (numeral_of n ∷ [])) at s e t
    → (e ≤ at + 21) × (length t ≡ length s)
number_within n x = (omega (arith, x.ends, length_tabbed_one (numeral_of n), numeral_length n), says_length x)

pub body_within : {s t : List ℕ} {at e : ℕ} (b : List ℕ) → length b ≤ 32 → Says (tabbed (hex_of b ∷ [])) at s e t
    → (e ≤ at + 65) × (length t ≡ length s)
body_within b h x = (omega (arith, x.ends, length_tabbed_one (hex_of b), hex_length b), says_length x)

-- ---- answer_line

pub numeral_zero : numeral_of 0 ≡ 48 ∷ []
unfolding numeral_of spelled
numeral_zero = refl

-- "the code" alone
pub answer_plain : (code : ℕ) → answer_line code [] ≡ numeral_of code ++ newline
unfolding answer_line tabbed
answer_plain code = ap (λ (l : List ℕ). l ++ newline) (by (eqb code 0))
  where
    by : (t : Bool) → numeral_of code ++ cond t [] [] ≡ numeral_of code
    by true = append-nil (numeral_of code)
    by false = append-nil (numeral_of code)

-- a refusal has no fields
pub answer_refused : (code : ℕ) (fields : List (List ℕ)) → (code ≡ 0 → ⊥) → answer_line code fields ≡ answer_line code []
unfolding answer_line
answer_refused code fields n = rw (ne_eqb code 0 n)

-- "and where it is 0 the fields"
pub answer_fields : (fields : List (List ℕ)) → answer_line 0 fields ≡ ((48 ∷ []) ++ tabbed fields) ++ newline
unfolding answer_line
answer_fields fields = ap (λ (l : List ℕ). (l ++ tabbed fields) ++ newline) numeral_zero

-- a refusal said is the answer, whatever the fields
pub says_refused : {s t : List ℕ} {at e : ℕ} (code : ℕ) (fields : List (List ℕ)) → (code ≡ 0 → ⊥)
    → Says (answer_line code []) at s e t → Says (answer_line code fields) at s e t
says_refused code fields n x = says_as (sym (answer_refused code fields n)) x

-- a zero, the fields and a newline said are the answer
pub says_fields : {s m t : List ℕ} {at e f : ℕ} (code : ℕ) (fields : List (List ℕ)) → code ≡ 0
    → Says ((48 ∷ []) ++ tabbed fields) at s e m → Says newline e m f t → Says (answer_line code fields) at s f t
says_fields code fields z x y = says_as (sym (ap (λ (c : ℕ). answer_line c fields) z ∙ answer_fields fields)) (says_append x y)

-- ---- how long an answer is: at most 88 bytes, whatever its code and its numbers

answer_within : (code : ℕ) (fields : List (List ℕ)) → length (tabbed fields) ≤ 86 → length (answer_line code fields) ≤ 88
answer_within zero fields k = rw answer_fields (simp length-append (omega arith))
answer_within (suc c) fields k =
    rw (answer_refused (suc c) fields (λ e. omega arith), answer_plain) (simp length-append (omega (arith, numeral_length (suc c))))

pub answer_length_plain : (code : ℕ) → length (answer_line code []) ≤ 88
unfolding tabbed
answer_length_plain code = answer_within code [] (omega arith)

pub answer_length_numbered : (code n : ℕ) → length (answer_line code (numeral_of n ∷ [])) ≤ 88
answer_length_numbered code n = answer_within code (numeral_of n ∷ []) (omega (arith, length_tabbed_one (numeral_of n), numeral_length n))

pub answer_length_paired : (code n m : ℕ) → length (answer_line code (numeral_of n ∷ numeral_of m ∷ [])) ≤ 88
answer_length_paired code n m =
    answer_within code (numeral_of n ∷ numeral_of m ∷ [])
    (omega (arith, length_tabbed_two (numeral_of n) (numeral_of m), numeral_length n, numeral_length m))

pub answer_length_bodied : (code n : ℕ) (body : List ℕ) → length body ≤ 32 → length (answer_line code (numeral_of n ∷ hex_of body ∷ [])) ≤ 88
answer_length_bodied code n body j =
    answer_within code (numeral_of n ∷ hex_of body ∷ [])
    (omega (arith, length_tabbed_two (numeral_of n) (hex_of body), numeral_length n, hex_length body))
