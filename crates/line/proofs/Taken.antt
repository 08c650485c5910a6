-- Laws of the fields of a line: the next field, taken where it is wanted, and the call that they say. Assumes nothing.
use mathlib.Core.Path.{◌≡◌, sym, ap, ◌∙◌}
use mathlib.Core.Bool.{Bool, cond}
use mathlib.Core.List.{List, [], ◌∷◌}
use Prim.Native.Nat.{ℕ, ◌+◌, ◌≤◌, ◌<◌}
use native.Mathlib.Omega.{arith}
use lib.ListN.{length, take, drop, length-drop}
use lib.Seq.{take-length, drop-drop}
use lib.Dec.{ltb}
use borrow.Author.Tests.{lt-ltb, le-ltb}
use denote.Ref.{Bor}
use Rattle.std.specs.List.{slice_range}
use Rattle.std.proofs.Common.{⊎_elim}
use Rattle.std.proofs.lemmas.Bool.{false≢true}
use Rattle.std.proofs.lemmas.Slice.{between_to_end}
use mathlib.Core.Logic.{◌⊎◌}
use Rattle.std.specs.Prelude.{Option, Some, None, MatchOption, IsSome}
use Rattle.lines.specs.Span.{before, parts}
use Rattle.lines.proofs.Spans.{before_length, before_take, parts_cut, parts_ended, parts_last}
use Rattle.line.specs.declared.Verb.{Verb}
use Rattle.line.specs.declared.Command.{Command}
use Rattle.line.specs.Line.{verb_of, numbers_of, bodied, fields, left, take_number, take_body, command, settled, called, named, longest, call_in}

-- the call that the fields behind a name say, where n numbers are wanted, and a body where w says so
abbrev pub asked : Verb → ℕ → Bool → List (List ℕ) → Option Command
asked v n w fs =
    let a = take_number (ltb 0 n) fs in
    let b = take_number (ltb 1 n) a.1 in
    let c = take_body w b.1 in
    settled v a.0 b.0 c.0 c.1

-- ---- the next field

pub end_inside : (s : List ℕ) (end : ℕ) → end ≡ 0 + length (before 9 s) → end ≤ length s
end_inside s end e = omega (arith, before_length 9 s)

length_before : (s : List ℕ) (end : ℕ) → end ≡ 0 + length (before 9 s) → length (before 9 s) ≡ end
length_before s end e = omega arith

-- what `get(1..)` answers
abbrev pub Behind : List ℕ → Option (Bor (List ℕ)) → Type 0
Behind back r =
    MatchOption r ((length back < 1) ⊎ (length back < length back))
    (λ x. (1 ≤ length back) × (length back ≤ length back) × (x.now ≡ slice_range back 1 (length back)) × (length x.now + 1 ≡ length back))

-- the first field, and those of the text behind its tab
pub left_next : (s front back : List ℕ) (end : ℕ) (r : Option (Bor (List ℕ))) → end ≡ 0 + length (before 9 s) → front ≡ take end s → back ≡ drop end s
    → Behind back r → fields s ≡ front ∷ left r
left_next s front back end None e f b m =
    let short : length back < 1 = ⊎_elim (λ h. h) (λ h. absurd (omega arith)) m in
    let whole : length (before 9 s) ≡ length s = omega (arith, before_length 9 s, length-drop end s, ap length b) in
    parts_last 9 s whole ∙ ap (λ (l : List ℕ). l ∷ []) (sym (take-length s) ∙ ap (λ (n : ℕ). take n s) (sym whole ∙ length_before s end e) ∙ sym f)
left_next s front back end (Some x) e f b m =
    let more : length (before 9 s) < length s = omega (arith, length-drop end s, ap length b, m.0) in
    let behind : x.now ≡ drop 1 back = m.2 ∙ between_to_end back 1 (length back) (omega arith) in
    parts_ended 9 s more
    ∙ ap (λ (l : List ℕ). l ∷ parts 9 (drop (length (before 9 s) + 1) s)) (before_take 9 s ∙ ap (λ (n : ℕ). take n s) (length_before s end e) ∙ sym f)
    ∙ ap (λ (l : List ℕ). front ∷ parts 9 l)
    (ap (λ (n : ℕ). drop (n + 1) s) (length_before s end e) ∙ sym (drop-drop 1 end s) ∙ ap (drop 1) (sym b) ∙ sym behind)

-- ---- the call

pub call_long : (s : List ℕ) → longest < length s → None ≡ call_in s
unfolding call_in
call_long s h = rw (lt-ltb longest (length s) h)

-- a line that is not too long: its name, and the fields behind it
pub call_named : (s : List ℕ) (r : Option (Bor (List ℕ))) {name : List ℕ} (v : Verb) (n : ℕ) (w : Bool) → length s ≤ longest → fields s ≡ name ∷ left r
    → v ≡ verb_of name → n ≡ numbers_of v → w ≡ bodied v → call_in s ≡ asked v n w (left r)
unfolding call_in
call_named s r v n w h f q e g =
    ap (λ (t : Bool). cond t None (named (fields s))) (le-ltb longest (length s) h)
    ∙ ap named f
    ∙ ap (λ (u : Verb). called u (left r)) (sym q)
    ∙ rw (e, g)

pub call_nameless : (s : List ℕ) → length s ≤ longest → fields s ≡ [] → call_in s ≡ None
unfolding call_in
call_nameless s h f = rw (le-ltb longest (length s) h, f)

-- what the fields behind a name say, where n numbers are wanted, and a body where w says so
module _ (v : Verb) (n : ℕ) (w : Bool) (fs : List (List ℕ)) where
  pub no_first : (t : Bool) → (take_number t fs).0 ≡ None → t ≡ ltb 0 n → asked v n w fs ≡ None
  no_first t e q = rw (sym q, e)

  module _ (t : Bool) (gs : List (List ℕ)) (first : ℕ) (a : take_number t fs ≡ (Some first, gs)) (q : t ≡ ltb 0 n) where
    pub no_second : (take_number (ltb 1 n) gs).0 ≡ None → asked v n w fs ≡ None
    no_second e = rw (sym q, a, e)

    module _ (hs : List (List ℕ)) (second : ℕ) (b : take_number (ltb 1 n) gs ≡ (Some second, hs)) where
      pub no_last : (take_body w hs).0 ≡ None → asked v n w fs ≡ None
      no_last e = rw (sym q, a, b, e)

      module _ (is : List (List ℕ)) (body : List ℕ) (c : take_body w hs ≡ (Some body, is)) where
        pub all_said : asked v n w fs ≡ settled v (Some first) (Some second) (Some body) is
        all_said = rw (sym q, a, b, c)

-- where a field is left, and where none is
pub some_left : (v : Verb) (a b : ℕ) (c : List ℕ) (r : Option (Bor (List ℕ))) → IsSome r → settled v (Some a) (Some b) (Some c) (left r) ≡ None
some_left v a b c None h = absurd (false≢true h)
some_left v a b c (Some x) h = ap (settled v (Some a) (Some b) (Some c)) (parts_cut 9 x.now)

pub none_left : (v : Verb) (a b : ℕ) (c : List ℕ) (r : Option (Bor (List ℕ))) → r ≡ None → settled v (Some a) (Some b) (Some c) (left r) ≡ Some (command v a b c)
none_left v a b c r h = rw h
