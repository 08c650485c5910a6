-- The other way: what a line says is a call that has a line, or that the line is ill-formed. For whoever reads calls. Assumes nothing.
use mathlib.Core.Path.{◌≡◌, refl, ap}
use mathlib.Core.Logic.{◌⊎◌, inl, inr}
use mathlib.Core.Bool.{Bool, true, false, ◌&&◌, cond}
use mathlib.Core.List.{List, [], ◌∷◌}
use Prim.Native.Nat.{ℕ, zero, suc, ◌*◌, ◌^◌, ◌<◌}
use native.Mathlib.Omega.{arith}
use lib.ListN.{length}
use lib.Dec.{eqb, ltb}
use borrow.Author.Tests.{ltb-true, le-ltb, eqb-true}
use Rattle.little.specs.Little.{Bytes}
use Rattle.little.proofs.AllBytes.{bytes_zeros}
use Rattle.std.specs.Prelude.{Option, Some, None}
use Rattle.std.specs.Option.{unwrap_or}
use Rattle.numeral.specs.Numeral.{digits_alone, said_from, leads, number_in, nibble_of, hex_alone, is_body, pairs, body_in}
use Rattle.std.proofs.lemmas.Bool.{and_parts}
use Rattle.line.specs.declared.Verb.{Verb}
use Rattle.line.specs.declared.Verb.TheVariants.{Format, Open, Seal, Begin, Next, Insert, Update, Delete, Read, Commit, Withdraw, Sweep, IllFormed}
use Rattle.line.specs.declared.Command.{Command}
use Rattle.line.specs.Line.{verb_of, numbers_of, bodied, fields, take_number, take_body, no_body, ill, settled, called, named, call_in, command_of, longest, Proper}

-- ---- what a field says

number_below : (f : List ℕ) (n : ℕ) → number_in f ≡ Some n → n < 2 ^ 64
unfolding number_in
number_below [] n e = cc
number_below (b ∷ bs) n e = by (digits_alone (b ∷ bs) && leads b bs && ltb (said_from 0 (b ∷ bs)) (2 ^ 64)) refl e
  where
    by : (t : Bool) → (digits_alone (b ∷ bs) && leads b bs && ltb (said_from 0 (b ∷ bs)) (2 ^ 64)) ≡ t
        → cond t (Some (said_from 0 (b ∷ bs))) None ≡ Some n → n < 2 ^ 64
    by true q e =
        let said : said_from 0 (b ∷ bs) ≡ n = cc in
        omega (arith, ltb-true (said_from 0 (b ∷ bs)) (2 ^ 64) (and_parts (digits_alone (b ∷ bs) && leads b bs) (ltb (said_from 0 (b ∷ bs)) (2 ^ 64)) q).1)
    by false q e = cc

-- what is known of a value that was taken, if it was
abbrev Taken : {A : Type 0} → (A → Type 0) → Option A → Type 0
Taken P None = Unit {0}
Taken P (Some x) = P x

number_fits : (t : Bool) (fs : List (List ℕ)) → Taken (λ n. n < 2 ^ 64) (take_number t fs).0
number_fits false fs = omega arith
number_fits true [] = tt
number_fits true (f ∷ fs) = by (number_in f) refl
  where
    by : (o : Option ℕ) → number_in f ≡ o → Taken (λ n. n < 2 ^ 64) o
    by (Some n) e = number_below f n e
    by None e = tt

-- n bytes of 2 * n hex digits
pairs_bytes : (n : ℕ) (s : List ℕ) → length s ≡ 2 * n → hex_alone s ≡ true → (length (pairs s) ≡ n) × Bytes (pairs s)
unfolding pairs hex_alone
pairs_bytes zero [] l h = (refl, tt)
pairs_bytes zero (a ∷ s) l h = absurd (omega arith)
pairs_bytes (suc n) [] l h = absurd (omega arith)
pairs_bytes (suc n) (a ∷ []) l h = absurd (omega arith)
pairs_bytes (suc n) (a ∷ b ∷ s) l h =
    let rest : ltb (nibble_of b) 16 && hex_alone s ≡ true = (and_parts (ltb (nibble_of a) 16) (ltb (nibble_of b) 16 && hex_alone s) h).1 in
    let high : nibble_of a < 16 = ltb-true (nibble_of a) 16 (and_parts (ltb (nibble_of a) 16) (ltb (nibble_of b) 16 && hex_alone s) h).0 in
    let low : nibble_of b < 16 = ltb-true (nibble_of b) 16 (and_parts (ltb (nibble_of b) 16) (hex_alone s) rest).0 in
    let more = pairs_bytes n s (omega arith) (and_parts (ltb (nibble_of b) 16) (hex_alone s) rest).1 in
    (ap suc more.0, (omega arith, more.1))

body_bytes : (f : List ℕ) → (length (body_in f) ≡ 32) × Bytes (body_in f)
unfolding body_in is_body
body_bytes f = by (eqb (length f) 64 && hex_alone f) refl
  where
    by : (t : Bool) → (eqb (length f) 64 && hex_alone f) ≡ t
        → (length (cond t (pairs f) no_body) ≡ 32) × Bytes (cond t (pairs f) no_body)
    by true q = pairs_bytes 32 f (eqb-true (length f) 64 (and_parts (eqb (length f) 64) (hex_alone f) q).0) (and_parts (eqb (length f) 64) (hex_alone f) q).1
    by false q = (refl, bytes_zeros 32)

body_fits : (t : Bool) (fs : List (List ℕ)) → Taken (λ b. (length b ≡ 32) × Bytes b) (take_body t fs).0
body_fits false fs = (refl, bytes_zeros 32)
body_fits true [] = tt
body_fits true (f ∷ fs) = by (is_body f)
  where
    by : (t : Bool) → Taken (λ b. (length b ≡ 32) × Bytes b) (cond t (Some (body_in f)) None)
    by true = body_bytes f
    by false = tt

-- one that was not wanted is zero
number_unsaid : (t : Bool) (fs : List (List ℕ)) → t ≡ false → Taken (λ n. n ≡ 0) (take_number t fs).0
number_unsaid t fs e = rw e refl

body_unsaid : (t : Bool) (fs : List (List ℕ)) → t ≡ false → Taken (λ b. b ≡ no_body) (take_body t fs).0
body_unsaid t fs e = rw e refl

-- ---- what a line says

known : (v : Verb) → (v ≡ IllFormed) ⊎ (v ≡ IllFormed → ⊥)
known Format = inr (λ e. cc)
known Open = inr (λ e. cc)
known Seal = inr (λ e. cc)
known Begin = inr (λ e. cc)
known Next = inr (λ e. cc)
known Insert = inr (λ e. cc)
known Update = inr (λ e. cc)
known Delete = inr (λ e. cc)
known Read = inr (λ e. cc)
known Commit = inr (λ e. cc)
known Withdraw = inr (λ e. cc)
known Sweep = inr (λ e. cc)
known IllFormed = inl refl

-- ill-formed, or a call that has a line
abbrev Either : Option Command → Type 0
Either o = (unwrap_or o ill ≡ ill) ⊎ Proper (unwrap_or o ill)

-- a name that is none says nothing
ill_called : (fs : List (List ℕ)) → Either (called IllFormed fs)
ill_called [] = inl refl
ill_called (f ∷ fs) = inl refl

module _ (v : Verb) (known : v ≡ IllFormed → ⊥) where
  settled_proper : (a b : Option ℕ) (c : Option (List ℕ)) (fs : List (List ℕ))
      → Taken (λ n. n < 2 ^ 64) a → Taken (λ n. n < 2 ^ 64) b → Taken (λ b. (length b ≡ 32) × Bytes b) c
      → (ltb 0 (numbers_of v) ≡ false → Taken (λ n. n ≡ 0) a) → (ltb 1 (numbers_of v) ≡ false → Taken (λ n. n ≡ 0) b) → (bodied v ≡ false → Taken (λ b. b ≡ no_body) c)
      → Either (settled v a b c fs)
  settled_proper None b c fs af bf cf az bz cz = inl refl
  settled_proper (Some first) None c fs af bf cf az bz cz = inl refl
  settled_proper (Some first) (Some second) None fs af bf cf az bz cz = inl refl
  settled_proper (Some first) (Some second) (Some body) (f ∷ fs) af bf cf az bz cz = inl refl
  settled_proper (Some first) (Some second) (Some body) [] af bf cf az bz cz = inr (record {
    named = known;
    first_fits = af;
    second_fits = bf;
    body_long = cf.0;
    body_bytes = cf.1;
    first_unsaid = λ h. az (le-ltb 0 (numbers_of v) (omega arith));
    second_unsaid = λ h. bz (le-ltb 1 (numbers_of v) (omega arith));
    body_unsaid = cz;
  })

  called_proper : (fs : List (List ℕ)) → Either (called v fs)
  called_proper fs =
      let a = take_number (ltb 0 (numbers_of v)) fs in
      let b = take_number (ltb 1 (numbers_of v)) a.1 in
      let c = take_body (bodied v) b.1 in
      settled_proper a.0 b.0 c.0 c.1 (number_fits _ fs) (number_fits _ a.1) (body_fits _ b.1) (number_unsaid _ fs) (number_unsaid _ a.1) (body_unsaid _ b.1)

pub line_proper : (s : List ℕ) → (command_of s ≡ ill) ⊎ Proper (command_of s)
unfolding call_in command_of
line_proper s = by (ltb longest (length s)) (fields s)
  where
    one : (v : Verb) (fs : List (List ℕ)) → (v ≡ IllFormed) ⊎ (v ≡ IllFormed → ⊥) → Either (called v fs)
    one v fs (inl e) = rw e (ill_called fs)
    one v fs (inr n) = called_proper v n fs

    by : (t : Bool) (fs : List (List ℕ)) → Either (cond t None (named fs))
    by true fs = inl refl
    by false [] = inl refl
    by false (name ∷ fs) = one (verb_of name) fs (known (verb_of name))
