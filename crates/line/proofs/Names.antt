-- Laws of names: the call that a name says. Assumes nothing.
use mathlib.Core.Path.{◌≡◌, refl}
use mathlib.Core.Bool.{Bool, true, false, cond}
use mathlib.Core.List.{List, [], ◌∷◌}
use Prim.Native.Nat.{ℕ}
use Rattle.std.specs.Prelude.{Some}
use Rattle.std.specs.Option.{unwrap_or}
use Rattle.std.specs.List.{find}
use Rattle.std.specs.Str.{bytes_eq}
use Rattle.line.specs.declared.Verb.{Verb}
use Rattle.line.specs.declared.Verb.TheVariants.{IllFormed}
use Rattle.line.specs.Line.{word_of, verbs, verb_in, verb_of}

-- the first of some calls that has the name
found_in : (vs : List Verb) (name : List ℕ) → unwrap_or (find (λ v. bytes_eq name (word_of v)) vs) IllFormed ≡ verb_in vs name
unfolding verb_in
found_in [] name = refl
found_in (v ∷ vs) name = by (bytes_eq name (word_of v)) (found_in vs name)
  where
    by : (t : Bool) → unwrap_or (find (λ v. bytes_eq name (word_of v)) vs) IllFormed ≡ verb_in vs name
        → unwrap_or (cond t (Some v) (find (λ v. bytes_eq name (word_of v)) vs)) IllFormed ≡ cond t v (verb_in vs name)
    by true e = refl
    by false e = e

pub verb_found : (name : List ℕ) → unwrap_or (find (λ v. bytes_eq name (word_of v)) verbs) IllFormed ≡ verb_of name
unfolding verb_of
verb_found name = found_in verbs name
