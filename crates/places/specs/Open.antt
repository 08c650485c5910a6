-- Which sessions are open: how many, and at which place one stands ("01, Sessions and sight"). Assumes nothing.
use Rattle.std.specs.Prelude.{ℕ, Bool, not, ◌&&◌, List, get_or, eqb, ltb}
use Rattle.ground.specs.Range.{first_from, count_below}
use Rattle.columns.specs.Limits.{sessions}

-- how many sessions are open
unfoldable pub open_count : List ℕ → ℕ
open_count numbers = count_below (λ (k : ℕ). not (eqb (get_or numbers k 0) 0)) sessions

-- the place at which number x stands; where it stands nowhere, 16
unfoldable pub place_in : ℕ → List ℕ → ℕ
place_in x numbers = first_from (λ (k : ℕ). eqb (get_or numbers k 0) x) 0 sessions

-- session x is open; 0, which unused places hold, never is
unfoldable pub is_open : ℕ → List ℕ → Bool
is_open x numbers = not (eqb x 0) && ltb (place_in x numbers) sessions
