-- A read of a good world answers what the machine's session reads, with as many versions as it looked at. Assumes nothing.
use Prim.Native.Nat.{ℕ, ◌≤◌, ◌<◌}
use mathlib.Core.Path.{◌≡◌, refl, ap, sym, subst, ◌∙◌}
use mathlib.Core.Bool.{true}
use mathlib.Core.Option.{Option, none, some}
use mathlib.Core.List.{List, [], ◌∷◌}
use borrow.Author.Tests.{lt-leb, le-leb}
use Rattle.ground.specs.Refuse.{first_of, settle}
use Rattle.places.specs.Open.{is_open}
use Rattle.desk.specs.View.{View}
use Rattle.kind.specs.Kind.{rows}
use Rattle.chain.specs.declared.Place.{Place}
use Rattle.chain.specs.declared.Place.TheVariants.{Nowhere}
use Rattle.chain.specs.declared.Walk.{Walk}
use Rattle.chain.specs.declared.Walk.TheVariants.{Found, Absent, Broken}
use Rattle.chain.specs.Walk.{walk_rule, body_of}
use Rattle.doubt.proofs.Doubts.{doubts_none}
use Rattle.seeking.specs.Seeking.{no_row, is_broken, breaks, is_absent, misses}
use Rattle.rows.specs.Rows.{view_in, read_refusal, read_rule, seen_by}
use Rattle.machine.specs.Table.{Body}
use Rattle.machine.specs.Lines.{Verdict, refused, done, read as Read}
use Rattle.machine.specs.Machine.{looked_at, knows, reads}
use Rattle.seen.specs.Seen.{row_of}
use Rattle.seen.proofs.Walked.{Says}
use Rattle.seen.proofs.Knowing.{session_of}
use Rattle.seen.proofs.Readers.{walk_is}
use Rattle.history.specs.World.{World, answered, step, says}
use Rattle.history.proofs.Worlds.{seen, Good}
use Rattle.history.proofs.Writes.{view_few}

-- what is read, and the versions looked at, as an answer
abbrev pub Reads : Option Body → ℕ → Verdict → Type 0
Reads none k a = a ≡ refused 7
Reads (some b) k a = a ≡ done k 0 b

module _ (w : World) (g : Good w) (x r : ℕ) where
  abbrev d : List ℕ
  d = w.held.«data»

  abbrev u : List ℕ
  u = w.held.undo

  abbrev s : List ℕ
  s = w.held.status

  abbrev v : View
  v = view_in w.desk x

  -- a rule's answer as the step's
  abbrev said : ℕ × Place × ℕ → Verdict
  said z = answered z.0 z.2 0 (body_of z.1 d u)

  module _ (opened : is_open x w.desk.numbers ≡ true) (inside : r < rows d) where
    -- what a read by an open session answers, by what the walk says
    abbrev outcome : Walk → ℕ × Place × ℕ
    outcome z = settle (first_of ((is_broken z, 6) ∷ (is_absent z, 7) ∷ [])) (seen_by z) (λ (n : ℕ). (n, Nowhere, 0))

    asks : read_refusal w.held w.desk x r ≡ first_of ((breaks d u s v r, 6) ∷ (misses d u s v r, 7) ∷ [])
    unfolding read_refusal no_row
    asks = rw (g.lengths, g.sound, opened, lt-leb (rows d) r inside, doubts_none d u s v r g.stated)

    read_says : (z : Walk) → walk_rule d u s v r ≡ z → says w (Read x r) ≡ said (outcome z)
    unfolding step read_rule breaks misses
    read_says z e =
        ap said (ap (λ (n : ℕ). settle n (seen_by (walk_rule d u s v r)) (λ (n : ℕ). (n, Nowhere, 0))) asks ∙ ap outcome e)

    -- "S reads the first such version"; "how many versions it looked at, the answer included"
    pub read_answers : Reads (reads (seen w) (session_of v) r) (looked_at (knows (seen w) (session_of v)) (row_of d u r)) (says w (Read x r))
    read_answers = go (walk_rule d u s v r) refl (walk_is d u s w.desk v r (view_few w.desk x) inside (g.whole r inside))
      where
        k : ℕ
        k = looked_at (knows (seen w) (session_of v)) (row_of d u r)

        found : (p : Place) (n : ℕ) → reads (seen w) (session_of v) r ≡ some (body_of p d u) → n ≡ k → says w (Read x r) ≡ done n 0 (body_of p d u)
            → Reads (reads (seen w) (session_of v) r) k (says w (Read x r))
        found p n e f a =
            subst (λ (o : Option Body). Reads o k (says w (Read x r))) (sym e) (a ∙ ap (λ (i : ℕ). done i 0 (body_of p d u)) f)

        go : (z : Walk) → walk_rule d u s v r ≡ z → Says d u z (reads (seen w) (session_of v) r) k
            → Reads (reads (seen w) (session_of v) r) k (says w (Read x r))
        go (Found p n) e y = found p n y.0 y.1 (read_says (Found p n) e)
        go Absent e y = subst (λ (o : Option Body). Reads o k (says w (Read x r))) (sym y) (read_says Absent e)
        go Broken e y = absurd y

  -- 5: "row ≥ rows"
  pub read_outside : is_open x w.desk.numbers ≡ true → rows d ≤ r → says w (Read x r) ≡ refused 5
  unfolding step read_rule read_refusal no_row
  read_outside opened out = rw (g.lengths, g.sound, opened, le-leb (rows d) r out)
