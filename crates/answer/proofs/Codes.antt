-- Two refusals with the same number are the same: what a contract says of the number, it says of the refusal. Assumes nothing.
use mathlib.Core.Path.{◌≡◌, refl, sym, ap, ◌∙◌}
use mathlib.Core.List.{[], ◌∷◌}
use Prim.Native.Nat.{ℕ}
use lib.ListN.{get_or}
use native.Mathlib.Omega.{arith}
use Rattle.std.specs.Prelude.{Result, Ok, Err}
use Rattle.std.specs.Result.{result_unwrap_or, IsErrAnd}
use Rattle.std.proofs.lemmas.Result.{err_from_is_err_and}
use Rattle.ground.specs.Refuse.{kept}
use Rattle.ground.proofs.Refusals.{kept_old}
use Rattle.answer.specs.declared.Refusal.{Refusal}
use Rattle.answer.specs.declared.Refusal.TheVariants.{BadLength, Unsound, BadPages, NotOpen, BadArgument, Broken, NotThere, OwnWrite, InWork, Conflict, NoRoom, TooManyOpen, NumbersUsed, StatementsUsed, StillOpen, IllFormed, InDoubt, Spoiled}
use Rattle.answer.specs.Code.{code_of, number_of, reported}

-- the refusal that a number stands for; 0, which is no refusal, is of no account
abbrev refusal_of : ℕ → Refusal
refusal_of n =
    get_or (BadLength ∷ BadLength ∷ Unsound ∷ BadPages ∷ NotOpen ∷ BadArgument ∷ Broken ∷ NotThere ∷ OwnWrite ∷ InWork ∷ Conflict ∷ NoRoom ∷ TooManyOpen ∷ NumbersUsed ∷ StatementsUsed ∷ StillOpen ∷ IllFormed ∷ InDoubt ∷ Spoiled ∷ []) n BadLength

refusal_of_code_of : (a : Refusal) → refusal_of (code_of a) ≡ a
refusal_of_code_of BadLength = refl
refusal_of_code_of Unsound = refl
refusal_of_code_of BadPages = refl
refusal_of_code_of NotOpen = refl
refusal_of_code_of BadArgument = refl
refusal_of_code_of Broken = refl
refusal_of_code_of NotThere = refl
refusal_of_code_of OwnWrite = refl
refusal_of_code_of InWork = refl
refusal_of_code_of Conflict = refl
refusal_of_code_of NoRoom = refl
refusal_of_code_of TooManyOpen = refl
refusal_of_code_of NumbersUsed = refl
refusal_of_code_of StatementsUsed = refl
refusal_of_code_of StillOpen = refl
refusal_of_code_of IllFormed = refl
refusal_of_code_of InDoubt = refl
refusal_of_code_of Spoiled = refl

pub code_of_injective : (a b : Refusal) → code_of a ≡ code_of b → a ≡ b
code_of_injective a b e = sym (refusal_of_code_of a) ∙ ap refusal_of e ∙ refusal_of_code_of b

-- a refusal has a number: what keeps the new where the number is 0, and else the old, keeps what was answered, and else the old
pub code_of_positive : (r : Refusal) → code_of r ≡ 0 → ⊥
code_of_positive BadLength e = omega arith
code_of_positive Unsound e = omega arith
code_of_positive BadPages e = omega arith
code_of_positive NotOpen e = omega arith
code_of_positive BadArgument e = omega arith
code_of_positive Broken e = omega arith
code_of_positive NotThere e = omega arith
code_of_positive OwnWrite e = omega arith
code_of_positive InWork e = omega arith
code_of_positive Conflict e = omega arith
code_of_positive NoRoom e = omega arith
code_of_positive TooManyOpen e = omega arith
code_of_positive NumbersUsed e = omega arith
code_of_positive StatementsUsed e = omega arith
code_of_positive StillOpen e = omega arith
code_of_positive IllFormed e = omega arith
code_of_positive InDoubt e = omega arith
code_of_positive Spoiled e = omega arith

pub kept_answered : {A : Type 0} (r : Result A Refusal) (none old : A)
    → kept (number_of r) (result_unwrap_or r none) old ≡ result_unwrap_or r old
kept_answered (Ok a) none old = refl
kept_answered (Err n) none old = sym (kept_old (code_of n) none old (code_of_positive n))

-- two answers with the same number are the same, where what they report is
pub answered_once : {A : Type 0} (r r' : Result A Refusal)
    → number_of r ≡ number_of r'
    → ((a a' : A) → r ≡ Ok a → r' ≡ Ok a' → a ≡ a')
    → r ≡ r'
answered_once (Ok a) (Ok a') e same = ap Ok (same a a' refl refl)
answered_once (Ok a) (Err n) e same = absurd (code_of_positive n (sym e))
answered_once (Err m) (Ok a) e same = absurd (code_of_positive m e)
answered_once (Err m) (Err n) e same = ap Err (code_of_injective m n e)

pub done_once : (r r' : Result (Unit {0}) Refusal) → number_of r ≡ number_of r' → r ≡ r'
done_once r r' e = answered_once r r' e (λ a a' is is'. refl)

pub reported_once : (r r' : Result ℕ Refusal) → number_of r ≡ number_of r' → reported r ≡ reported r' → r ≡ r'
reported_once r r' e f = answered_once r r' e (λ a a' is is'. ap reported (sym is) ∙ f ∙ ap reported is')

-- what `?` hands on of a refusal
pub handed_on : {A : Type 0} {e : Refusal} (r : Result A Refusal) → IsErrAnd r (λ (y : Refusal). y ≡ e) → r ≡ Err e
handed_on r given = let found = err_from_is_err_and r given in found.1 ∙ ap Err found.2
