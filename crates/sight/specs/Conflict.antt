-- What a stamp says to a writer ("01, When the desk says no": "Once 7 is passed, look at the slot") and to the sweep ("01, Writes,
-- withdrawal, sweep"). Over a stamp alone, as sight is. Assumes nothing.
use Rattle.std.specs.Prelude.{ℕ, Bool, ◌&&◌, cond, List, eqb, ltb}
use Rattle.desk.specs.View.{View}
use Rattle.sight.specs.declared.Stamp.{Stamp}
use Rattle.sight.specs.Sight.{committed, sees}

-- of another session: "10 if committed, else 9"
unfoldable pub of_another : List ℕ → ℕ → ℕ
of_another s x = cond (committed x s) 10 9

-- 0 where S may write. "Expirer S: 8. Another expirer: 10 if committed, else 9. No expirer: creator S with cmd not below the
-- statement: 8; creator S earlier, or seen: go on; otherwise 10 if committed, else 9"
unfoldable pub conflict_of : View → List ℕ → Stamp → ℕ
conflict_of v s t =
    cond (eqb t.expire 0)
    (cond (eqb t.create v.number)
    (cond (ltb t.cmd v.statement) 0 8)
    (cond (sees v.number v.list s t.create) 0 (of_another s t.create)))
    (cond (eqb t.expire v.number) 8 (of_another s t.expire))

-- "whose expirer is committed and below the mark": a version that goes
unfoldable pub is_dead : ℕ → List ℕ → Stamp → Bool
is_dead mark s t = committed t.expire s && ltb t.expire mark
