-- Who sees what ("01, Sessions and sight"). Assumes nothing.
use Rattle.std.specs.Prelude.{ℕ, Bool, true, false, not, ◌&&◌, ◌||◌, cond, List, eqb, leb, ltb, get_or, length}
use Rattle.ground.specs.Range.{first_from}
use Rattle.desk.specs.View.{View}
use Rattle.status.specs.declared.Status.{Status}
use Rattle.status.specs.declared.Status.TheVariants.{InWork, Committed, Withdrawn, Reserved}
use Rattle.status.specs.Status.{last_number, status_at}
use Rattle.sight.specs.declared.Stamp.{Stamp}
use Rattle.sight.specs.declared.View.{View as Lent}

-- a view by its parts
abbrev pub view_of : ℕ → ℕ → List ℕ → View
view_of number statement list = record { number = number; statement = statement; list = list }

-- the view that the code is lent
abbrev pub said_view : Lent → View
said_view v = view_of v.number v.statement v.list.now

-- the status of any number, in four ways: "Number 0 and numbers above 32,575 are never committed"
unfoldable pub standing : ℕ → List ℕ → Status
standing x s = cond (leb 1 x && leb x last_number) (status_at x s) InWork

abbrev pub is_committed : Status → Bool
is_committed InWork = false
is_committed Committed = true
is_committed Withdrawn = false
is_committed Reserved = false

-- x has status 01
unfoldable pub committed : ℕ → List ℕ → Bool
committed x s = is_committed (standing x s)

-- x is in S's list, as far as the list reaches: over its 15 places as the desk has it, over the used ones where only these are lent.
-- The unused ones hold 0, which is never seen, so that both say the same (proofs/Fronts.antt)
unfoldable pub listed : ℕ → List ℕ → Bool
listed x list = ltb (first_from (λ (k : ℕ). eqb (get_or list k 0) x) 0 (length list)) (length list)

-- "S sees X when X is not 0, is below S's number, is not in S's list and has status 01"
-- (S by its number and its list, since a statement has no part in this)
unfoldable pub sees : ℕ → List ℕ → List ℕ → ℕ → Bool
sees number list s x = not (eqb x 0) && ltb x number && not (listed x list) && committed x s

-- x is S in an earlier statement than S's present one
unfoldable pub earlier : View → ℕ → ℕ → Bool
earlier v x cmd = eqb x v.number && ltb cmd v.statement

-- x, at statement cmd, "is S in an earlier statement or is seen"
unfoldable pub known : View → List ℕ → ℕ → ℕ → Bool
known v s x cmd = earlier v x cmd || sees v.number v.list s x

-- "A version is there for S when its creator is S in an earlier statement or is seen, and its expirer is neither S in an earlier
-- statement nor seen (expire 0: none)"
unfoldable pub there : View → List ℕ → Stamp → Bool
there v s t =
    known v s t.create t.cmd && (eqb t.expire 0 || not (known v s t.expire t.expire_cmd))
