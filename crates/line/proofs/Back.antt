-- A call's line reads back as that call; it is not too long, and has no newline. For whoever prints calls. Assumes nothing.
use mathlib.Core.Path.{◌≡◌, refl, ap, ◌∙◌}
use mathlib.Core.Bool.{Bool, true, false, not, ◌&&◌, cond}
use mathlib.Core.List.{List, [], ◌∷◌, ◌++◌, append-nil, append_assoc}
use Prim.Native.Nat.{ℕ, ◌+◌, ◌^◌, ◌≤◌, ◌<◌}
use native.Mathlib.Omega.{arith}
use lib.ListN.{length, length-append}
use lib.Dec.{eqb, ltb}
use borrow.Author.Tests.{ltb-false, le-ltb}
use Rattle.lines.specs.Span.{parts, lacks}
use Rattle.lines.proofs.Spans.{parts_joined, parts_alone}
use Rattle.std.specs.Prelude.{Some, None}
use Rattle.std.specs.Option.{unwrap_or}
use Rattle.little.specs.Little.{Bytes}
use Rattle.numeral.specs.Numeral.{numeral_of, hex_of}
use Rattle.numeral.proofs.Laws.{number_back, numeral_length, numeral_no_tab, numeral_no_newline, body_back, hex_length, hex_no_tab, hex_no_newline}
use Rattle.line.specs.declared.Verb.{Verb}
use Rattle.line.specs.declared.Verb.TheVariants.{Format, Open, Seal, Begin, Next, Insert, Update, Delete, Read, Commit, Withdraw, Sweep, IllFormed}
use Rattle.line.specs.declared.Command.{Command}
use Rattle.line.specs.Line.{word_of, verb_in, verb_of, numbers_of, bodied, take_number, take_body, no_body, ill, named, call_in, command_of, longest, wanted, line_of, Proper}

-- ---- names

pub verb_back : (v : Verb) → (v ≡ IllFormed → ⊥) → verb_of (word_of v) ≡ v
unfolding word_of verb_in verb_of
verb_back Format h = refl
verb_back Open h = refl
verb_back Seal h = refl
verb_back Begin h = refl
verb_back Next h = refl
verb_back Insert h = refl
verb_back Update h = refl
verb_back Delete h = refl
verb_back Read h = refl
verb_back Commit h = refl
verb_back Withdraw h = refl
verb_back Sweep h = refl
verb_back IllFormed h = absurd (h refl)

word_plain : (v : Verb) → (length (word_of v) ≤ 8) × ((lacks 9 (word_of v) ≡ true) × (lacks 10 (word_of v) ≡ true))
unfolding word_of lacks
word_plain Format = (omega arith, (refl, refl))
word_plain Open = (omega arith, (refl, refl))
word_plain Seal = (omega arith, (refl, refl))
word_plain Begin = (omega arith, (refl, refl))
word_plain Next = (omega arith, (refl, refl))
word_plain Insert = (omega arith, (refl, refl))
word_plain Update = (omega arith, (refl, refl))
word_plain Delete = (omega arith, (refl, refl))
word_plain Read = (omega arith, (refl, refl))
word_plain Commit = (omega arith, (refl, refl))
word_plain Withdraw = (omega arith, (refl, refl))
word_plain Sweep = (omega arith, (refl, refl))
word_plain IllFormed = (omega arith, (refl, refl))

-- ---- fields behind a name

-- a field where it is wanted, as a list
abbrev asked : Bool → List ℕ → List (List ℕ)
asked true f = f ∷ []
asked false f = []

-- the text behind a name and the fields that it has
abbrev Behind : List ℕ → List (List ℕ) → Type 0
Behind rest fs = (w : List ℕ) → lacks 9 w ≡ true → parts 9 (w ++ rest) ≡ w ∷ fs

behind_none : Behind [] []
behind_none w h = ap (parts 9) (append-nil w) ∙ parts_alone 9 w h

behind_more : (t : Bool) (f rest : List ℕ) (fs : List (List ℕ)) → lacks 9 f ≡ true → Behind rest fs → Behind (wanted t f ++ rest) (asked t f ++ fs)
behind_more true f rest fs l b w h = parts_joined 9 w (f ++ rest) h ∙ ap (λ (r : List (List ℕ)). w ∷ r) (b f l)
behind_more false f rest fs l b w h = b w h

-- a number and a body written are taken again, and nothing is left of them
number_taken : (t : Bool) (n : ℕ) (fs : List (List ℕ)) → n < 2 ^ 64 → (t ≡ false → n ≡ 0) → take_number t (asked t (numeral_of n) ++ fs) ≡ (Some n, fs)
number_taken true n fs h z = rw (number_back n h)
number_taken false n fs h z = rw (z refl)

body_taken : (t : Bool) (b : List ℕ) → length b ≡ 32 → Bytes b → (t ≡ false → b ≡ no_body) → take_body t (asked t (hex_of b) ++ []) ≡ (Some b, [])
body_taken true b l h z = rw ((body_back b l h).0, (body_back b l h).1)
body_taken false b l h z = rw (z refl)

-- ---- lines

wanted_length : (t : Bool) (f : List ℕ) → length (wanted t f) ≤ 1 + length f
wanted_length true f = omega arith
wanted_length false f = omega arith

lacks_append : (b : ℕ) (s t : List ℕ) → lacks b s ≡ true → lacks b t ≡ true → lacks b (s ++ t) ≡ true
unfolding lacks
lacks_append b [] t h g = g
lacks_append b (x ∷ s) t h g = by (eqb x b) (lacks_append b s t) h
  where
    by : (u : Bool) → (lacks b s ≡ true → lacks b t ≡ true → lacks b (s ++ t) ≡ true) → (not u && lacks b s) ≡ true → (not u && lacks b (s ++ t)) ≡ true
    by true r e = e
    by false r e = r e g

wanted_lacks : (t : Bool) (f : List ℕ) → lacks 10 f ≡ true → lacks 10 (wanted t f) ≡ true
unfolding lacks
wanted_lacks true f h = h
wanted_lacks false f h = refl

module _ (c : Command) (p : Proper c) where
  abbrev first_said : Bool
  first_said = ltb 0 (numbers_of c.verb)

  abbrev second_said : Bool
  second_said = ltb 1 (numbers_of c.verb)

  -- not too long: a name has at most 8, a number 20, a body 64, and a tab stands before each field
  pub line_length : length (line_of c) ≤ longest
  unfolding line_of longest
  line_length =
      simp length-append
      (omega (
        arith,
        (word_plain c.verb).0,
        wanted_length first_said (numeral_of c.first),
        (numeral_length c.first).1,
        wanted_length second_said (numeral_of c.second),
        (numeral_length c.second).1,
        wanted_length (bodied c.verb) (hex_of c.body),
        hex_length c.body,
        p.body_long,
      ))

  pub line_no_newline : lacks 10 (line_of c) ≡ true
  unfolding line_of
  line_no_newline =
      lacks_append 10 _ _
      (lacks_append 10 _ _
      (lacks_append 10 _ _
      (word_plain c.verb).1.1
      (wanted_lacks first_said _ (numeral_no_newline c.first)))
      (wanted_lacks second_said _ (numeral_no_newline c.second)))
      (wanted_lacks (bodied c.verb) _ (hex_no_newline c.body p.body_bytes))

  -- the fields of its line
  line_parts : parts 9 (line_of c)
      ≡ word_of c.verb
      ∷ (asked first_said (numeral_of c.first) ++ (asked second_said (numeral_of c.second) ++ (asked (bodied c.verb) (hex_of c.body) ++ [])))
  unfolding line_of
  line_parts =
      ap (parts 9) flat
      ∙ behind_more first_said (numeral_of c.first) _ _ (numeral_no_tab c.first)
      (behind_more second_said (numeral_of c.second) _ _ (numeral_no_tab c.second)
      (behind_more (bodied c.verb) (hex_of c.body) [] [] (hex_no_tab c.body p.body_bytes) behind_none))
      (word_of c.verb) (word_plain c.verb).1.0
    where
      flat : line_of c
          ≡ word_of c.verb
          ++ (wanted first_said (numeral_of c.first) ++ (wanted second_said (numeral_of c.second) ++ (wanted (bodied c.verb) (hex_of c.body) ++ [])))
      flat = simp (append_assoc, append-nil)

  pub command_back : command_of (line_of c) ≡ c
  unfolding call_in command_of
  command_back =
      ap (λ (t : Bool). unwrap_or (cond t None (named (parts 9 (line_of c)))) ill) (le-ltb longest (length (line_of c)) line_length)
      ∙ ap (λ (fs : List (List ℕ)). unwrap_or (named fs) ill) line_parts
      ∙ rw (
        verb_back c.verb p.named,
        number_taken first_said c.first (asked second_said (numeral_of c.second) ++ (asked (bodied c.verb) (hex_of c.body) ++ [])) p.first_fits first_zero,
        number_taken second_said c.second (asked (bodied c.verb) (hex_of c.body) ++ []) p.second_fits second_zero,
        body_taken (bodied c.verb) c.body p.body_long p.body_bytes p.body_unsaid,
      )
    where
      first_zero : first_said ≡ false → c.first ≡ 0
      first_zero e = p.first_unsaid (omega (arith, ltb-false 0 (numbers_of c.verb) e))

      second_zero : second_said ≡ false → c.second ≡ 0
      second_zero e = p.second_unsaid (omega (arith, ltb-false 1 (numbers_of c.verb) e))
