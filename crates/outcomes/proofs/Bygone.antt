-- What the sweep removes is there for no open session ("01, Writes, withdrawal, sweep": "the first version whose expirer is committed and
-- below the mark goes"): for every desk and status page, whatever the pages. Assumes nothing.
use mathlib.Core.Path.{◌≡◌, refl, sym, ap, ◌∙◌}
use mathlib.Core.Bool.{Bool, true, false, not}
use mathlib.Core.List.{List}
use Prim.Native.Nat.{ℕ, ◌+◌, ◌*◌, ◌<◌}
use native.Mathlib.Omega.{arith}
use lib.ListN.{get_or, take, drop, length-take}
use lib.Seq.{get_or-take, get_or-drop}
use lib.Dec.{ltb}
use borrow.Author.Tests.{ltb-true}
use Rattle.ground.proofs.Ranges.{and_true_left, and_true_right}
use Rattle.desk.specs.declared.Desk.{Desk}
use Rattle.desk.specs.Turns.{view_at, mark}
use Rattle.sessions.proofs.Changes.{mark_numbers, mark_lists}
use Rattle.sight.specs.declared.Stamp.{Stamp}
use Rattle.sight.specs.Sight.{committed, listed, known, there}
use Rattle.sight.specs.Conflict.{is_dead}
use Rattle.sight.proofs.Sights.{committed_in, listed_at, sees_intro, known_other, there_unknown, there_expired}

module _ (d : Desk) (s : List ℕ) (t : Stamp) (dead : is_dead (mark d) s t ≡ true) where
  -- "committed and below the mark"
  ended : committed t.expire s ≡ true
  unfolding is_dead
  ended = and_true_left (committed t.expire s) (ltb t.expire (mark d)) dead

  below : t.expire < mark d
  unfolding is_dead
  below = ltb-true t.expire (mark d) (and_true_right (committed t.expire s) (ltb t.expire (mark d)) dead)

  some : t.expire ≡ 0 → ⊥
  some e = omega (arith, (committed_in t.expire s ended).0)

  -- the session at place k
  module _ (k : ℕ) (used : get_or d.numbers k 0 ≡ 0 → ⊥) where
    abbrev number : ℕ
    number = get_or d.numbers k 0

    abbrev list : List ℕ
    list = take 15 (drop (k * 15) d.lists)

    -- the mark is at most every member of its list, so the expirer is none of them
    unlisted : listed t.expire list ≡ false
    unlisted = by (listed t.expire list) refl
      where
        by : (b : Bool) → listed t.expire list ≡ b → b ≡ false
        by false e = refl
        by true e =
            let at = listed_at t.expire list e in
            let inside : at.0 < 15 = omega (arith, at.1, length-take 15 (drop (k * 15) d.lists)) in
            let member : get_or d.lists (k * 15 + at.0) 0 ≡ t.expire =
            sym (get_or-drop (k * 15) d.lists at.0 0) ∙ sym (get_or-take 15 (drop (k * 15) d.lists) at.0 0 inside) ∙ at.2
            in
            let low = mark_lists d (k * 15 + at.0) (λ z. some (sym member ∙ z)) in
            absurd (omega (arith, low, member, below))

    -- so the session sees the expirer, and the version isn't there
    expirer_seen : known (view_at k d) s t.expire t.expire_cmd ≡ true
    unfolding view_at
    expirer_seen =
        let low = mark_numbers d k used in
        known_other (view_at k d) s t.expire t.expire_cmd (λ e. omega (arith, low, below))
        ∙ sees_intro number list s t.expire (omega (arith, low, below)) unlisted ended

    pub dead_unseen : there (view_at k d) s t ≡ false
    dead_unseen = by (known (view_at k d) s t.create t.cmd) refl
      where
        by : (b : Bool) → known (view_at k d) s t.create t.cmd ≡ b → there (view_at k d) s t ≡ false
        by false e = there_unknown (view_at k d) s t e
        by true e = there_expired (view_at k d) s t some e ∙ ap not expirer_seen
