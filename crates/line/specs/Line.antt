-- A line of a script and the call that it says, both ways ("01, The script and one whole run"). Assumes nothing.
use denote.Ref.{Bor}
use Rattle.std.specs.Option.{unwrap_or}
use Rattle.std.specs.Str.{bytes_eq}
use Rattle.std.specs.Prelude.{◌≡◌, ℕ, ◌^◌, ◌<◌, Bool, true, false, cond, Option, Some, None, List, [], ◌∷◌, ◌++◌, length, replicate, ltb}
use Rattle.little.specs.Little.{Bytes}
use Rattle.numeral.specs.Numeral.{number_in, numeral_of, body_said, hex_of}
use Rattle.lines.specs.Span.{parts}
use Rattle.line.specs.declared.Verb.{Verb}
use Rattle.line.specs.declared.Verb.TheVariants.{Format, Open, Seal, Begin, Next, Insert, Update, Delete, Read, Commit, Withdraw, Sweep, IllFormed}
use Rattle.line.specs.declared.Command.{Command}

-- ---- names

-- "Calls: format, open, seal, begin, next statement, insert, update, delete, read, commit, withdraw, sweep", as a line writes them
unfoldable pub word_of : Verb → List ℕ
word_of Format = 102 ∷ 111 ∷ 114 ∷ 109 ∷ 97 ∷ 116 ∷ []
word_of Open = 111 ∷ 112 ∷ 101 ∷ 110 ∷ []
word_of Seal = 115 ∷ 101 ∷ 97 ∷ 108 ∷ []
word_of Begin = 98 ∷ 101 ∷ 103 ∷ 105 ∷ 110 ∷ []
word_of Next = 110 ∷ 101 ∷ 120 ∷ 116 ∷ []
word_of Insert = 105 ∷ 110 ∷ 115 ∷ 101 ∷ 114 ∷ 116 ∷ []
word_of Update = 117 ∷ 112 ∷ 100 ∷ 97 ∷ 116 ∷ 101 ∷ []
word_of Delete = 100 ∷ 101 ∷ 108 ∷ 101 ∷ 116 ∷ 101 ∷ []
word_of Read = 114 ∷ 101 ∷ 97 ∷ 100 ∷ []
word_of Commit = 99 ∷ 111 ∷ 109 ∷ 109 ∷ 105 ∷ 116 ∷ []
word_of Withdraw = 119 ∷ 105 ∷ 116 ∷ 104 ∷ 100 ∷ 114 ∷ 97 ∷ 119 ∷ []
word_of Sweep = 115 ∷ 119 ∷ 101 ∷ 101 ∷ 112 ∷ []
word_of IllFormed = []

abbrev pub verbs : List Verb
verbs = Format ∷ Open ∷ Seal ∷ Begin ∷ Next ∷ Insert ∷ Update ∷ Delete ∷ Read ∷ Commit ∷ Withdraw ∷ Sweep ∷ []

unfoldable pub verb_in : List Verb → List ℕ → Verb
verb_in [] name = IllFormed
verb_in (v ∷ vs) name = cond (bytes_eq name (word_of v)) v (verb_in vs name)

unfoldable pub verb_of : List ℕ → Verb
verb_of name = verb_in verbs name

-- ---- the fields behind a name

-- how many numbers: format the pages, sweep the first row and the quota, the rest the session and, of a row call, the row
abbrev pub numbers_of : Verb → ℕ
numbers_of Format = 2
numbers_of Open = 0
numbers_of Seal = 0
numbers_of Begin = 0
numbers_of Next = 1
numbers_of Insert = 1
numbers_of Update = 2
numbers_of Delete = 2
numbers_of Read = 2
numbers_of Commit = 1
numbers_of Withdraw = 1
numbers_of Sweep = 2
numbers_of IllFormed = 0

-- and whether a body
abbrev pub bodied : Verb → Bool
bodied Format = false
bodied Open = false
bodied Seal = false
bodied Begin = false
bodied Next = false
bodied Insert = true
bodied Update = true
bodied Delete = false
bodied Read = false
bodied Commit = false
bodied Withdraw = false
bodied Sweep = false
bodied IllFormed = false

-- ---- a line read

-- "fields parted by one tab"
abbrev pub fields : List ℕ → List (List ℕ)
fields line = parts 9 line

-- the fields of the text behind a tab; none where no tab was left
abbrev pub left : Option (Bor (List ℕ)) → List (List ℕ)
left None = []
left (Some rest) = fields rest.now

-- one field off the front as a number, where one is wanted, else zero; and the fields behind it
abbrev pub take_number : Bool → List (List ℕ) → Option ℕ × List (List ℕ)
take_number false fs = (Some 0, fs)
take_number true [] = (None, [])
take_number true (f ∷ fs) = (number_in f, fs)

-- and as a body
abbrev pub no_body : List ℕ
no_body = replicate 32 0

abbrev pub take_body : Bool → List (List ℕ) → Option (List ℕ) × List (List ℕ)
take_body false fs = (Some no_body, fs)
take_body true [] = (None, [])
take_body true (f ∷ fs) = (body_said f, fs)

abbrev pub command : Verb → ℕ → ℕ → List ℕ → Command
command v a b body = record { verb = v; first = a; second = b; body = body }

abbrev pub ill : Command
ill = command IllFormed 0 0 no_body

-- each field wanted is there, and none is left
abbrev pub settled : Verb → Option ℕ → Option ℕ → Option (List ℕ) → List (List ℕ) → Option Command
settled v None b c fs = None
settled v (Some first) None c fs = None
settled v (Some first) (Some second) None fs = None
settled v (Some first) (Some second) (Some body) [] = Some (command v first second body)
settled v (Some first) (Some second) (Some body) (f ∷ fs) = None

abbrev pub called : Verb → List (List ℕ) → Option Command
called v fs =
    let a = take_number (ltb 0 (numbers_of v)) fs in
    let b = take_number (ltb 1 (numbers_of v)) a.1 in
    let c = take_body (bodied v) b.1 in
    settled v a.0 b.0 c.0 c.1

abbrev pub named : List (List ℕ) → Option Command
named [] = None
named (name ∷ fs) = called (verb_of name) fs

-- "at most 128 bytes before it"
unfoldable pub longest : ℕ
longest = 128

-- the call that a line says, if any
unfoldable pub call_in : List ℕ → Option Command
call_in line = cond (ltb longest (length line)) None (named (fields line))

-- for every line there is a call
unfoldable pub command_of : List ℕ → Command
command_of line = unwrap_or (call_in line) ill

-- ---- a call written

abbrev pub field : List ℕ → List ℕ
field f = 9 ∷ f

abbrev pub wanted : Bool → List ℕ → List ℕ
wanted true f = field f
wanted false f = []

unfoldable pub line_of : Command → List ℕ
line_of c =
    word_of c.verb
    ++ wanted (ltb 0 (numbers_of c.verb)) (numeral_of c.first)
    ++ wanted (ltb 1 (numbers_of c.verb)) (numeral_of c.second)
    ++ wanted (bodied c.verb) (hex_of c.body)

-- what a line can say: a call by its name, two numbers below 2^64, a body of 32 bytes; and what the line does not say is zero
pub record Proper (c : Command) : Type 0 where
  pub named : c.verb ≡ IllFormed → ⊥
  pub first_fits : c.first < 2 ^ 64
  pub second_fits : c.second < 2 ^ 64
  pub body_long : length c.body ≡ 32
  pub body_bytes : Bytes c.body
  pub first_unsaid : numbers_of c.verb < 1 → c.first ≡ 0
  pub second_unsaid : numbers_of c.verb < 2 → c.second ≡ 0
  pub body_unsaid : bodied c.verb ≡ false → c.body ≡ no_body
