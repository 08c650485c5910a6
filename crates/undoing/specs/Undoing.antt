-- The rule of withdraw: what it answers, the desk, and what it leaves in the areas ("01, Writes, withdrawal, sweep", "01, When the desk
-- says no"). Written over "S in statement k or later"; a withdrawn session is taken back from its first statement on. Assumes nothing.
use Rattle.std.specs.Prelude.{ℕ, zero, suc, ◌+◌, Bool, not, ◌&&◌, List, [], ◌∷◌}
use Rattle.ground.specs.Refuse.{first_of, settle}
use Rattle.ground.specs.Range.{all_below}
use Rattle.places.specs.Open.{place_in, is_open}
use Rattle.desk.specs.declared.Desk.{Desk}
use Rattle.desk.specs.Desk.{first_statement}
use Rattle.desk.specs.Sound.{sound}
use Rattle.desk.specs.Turns.{closed}
use Rattle.kind.specs.Kind.{rows}
use Rattle.kind.specs.Areas.{Areas, areas, bad_length, Both, both}
use Rattle.status.specs.declared.Status.TheVariants.{Withdrawn as StatusWithdrawn}
use Rattle.status.specs.Status.{put_status}
use Rattle.records.specs.declared.slot.Slot.{Slot}
use Rattle.records.specs.Slot.{slot_at}
use Rattle.chain.specs.Chain.{chain_of}
use Rattle.chain.specs.Walk.{first_in}
use Rattle.seeking.specs.Seeking.{is_broken}
use Rattle.putback.specs.PutBack.{own_made, undone_row}

-- "a break met between a slot created by S and the first version not created by S": in row r
unfoldable pub broken_row : ℕ → ℕ → List ℕ → List ℕ → ℕ → Bool
broken_row n k d u r =
    own_made n k (slot_at r d)
    && is_broken (first_in (λ (m : Slot). not (own_made n k m)) 0 (chain_of d u r).versions (chain_of d u r).whole)

-- and in some row
unfoldable pub some_broken : ℕ → ℕ → List ℕ → List ℕ → Bool
some_broken n k d u = not (all_below (λ (r : ℕ). not (broken_row n k d u r)) (rows d))

-- "for each occupied row": m rows from r on
unfoldable pub undone_from : ℕ → ℕ → ℕ → ℕ → Both → Both
undone_from n k r zero p = p
undone_from n k r (suc m) p = undone_from n k (r + 1) m (undone_row n k r p)

unfoldable pub withdraw_refusal : Areas → Desk → ℕ → ℕ
withdraw_refusal a d x =
    first_of
    ((bad_length a, 1)
    ∷ (not (sound d), 2)
    ∷ (not (is_open x d.numbers), 4)
    ∷ (some_broken x first_statement a.«data» a.undo, 6)
    ∷ [])

-- what S wrote in statement k or later taken back from all rows
unfoldable pub undone : ℕ → ℕ → List ℕ → List ℕ → Both
undone n k d u = undone_from n k 0 (rows d) (both d u)

-- "withdraw sets 10 and closes"
unfoldable pub withdrawn : Areas → ℕ → Areas
withdrawn a x =
    areas
    (undone x first_statement a.«data» a.undo).«data»
    (undone x first_statement a.«data» a.undo).undo
    (put_status x StatusWithdrawn a.status)

unfoldable pub withdraw_rule : Areas → Desk → ℕ → (ℕ × Desk) × Areas
withdraw_rule a d x =
    settle (withdraw_refusal a d x) ((0, closed (place_in x d.numbers) d), withdrawn a x) (λ (n : ℕ). ((n, d), a))
