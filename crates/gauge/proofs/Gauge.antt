-- The proof of the gauge pieces: most by computation, P9 and P10 for every row of two versions. Assumes nothing.
use mathlib.Core.Path.{◌≡◌, refl, ap, ◌∙◌}
use mathlib.Core.Bool.{Bool, true, false, ◌&&◌, cond, and-false}
use mathlib.Core.List.{List, [], ◌∷◌}
use Prim.Native.Nat.{ℕ}
use lib.ListN.{get_or}
use lib.Dec.{eqb, ltb}
use Rattle.ground.specs.Range.{first_from, all_below}
use Rattle.kind.specs.Areas.{Areas, bad_length, Both, both}
use Rattle.status.specs.declared.Status.TheVariants.{Committed}
use Rattle.status.specs.Status.{status_at}
use Rattle.pointer.specs.Pointer.{pointer_to}
use Rattle.columns.specs.Columns.{smallest, mark_of}
use Rattle.places.specs.Open.{place_in, is_open}
use Rattle.places.specs.Places.{follows, placed, ascending, session_sound}
use Rattle.desk.specs.declared.Desk.{Desk}
use Rattle.desk.specs.Desk.{fresh_desk}
use Rattle.desk.specs.Sound.{sound_columns, sound}
use Rattle.desk.specs.Turns.{moved, mark, is_spoiled, spoiled_at}
use Rattle.sight.specs.declared.Stamp.{Stamp}
use Rattle.sight.specs.Sight.{standing, committed, sees, earlier, known, there}
use Rattle.sight.specs.Conflict.{conflict_of, is_dead}
use Rattle.sight.proofs.Sights.{committed_zero}
use Rattle.chain.specs.Chain.{Version}
use Rattle.chain.specs.Walk.{stamp_of}
use Rattle.freeing.specs.Freeing.{swept_slot}
use Rattle.trimming.specs.Trimming.{dead_in, swept_at, swept_all, cut_at, swept_behind, swept_versions, swept_row, gone_behind, gone_row}
use Rattle.turns.specs.Turns.{next_refusal, next_rule}
use Rattle.gauge.specs.Gauge.{one_open, six, ended_by_five, TwoVersions, Gauge}

-- ---- P11, P12: next statement, where the session is open and not spoiled, by its statement

next_goes : (a : Areas) (d : Desk) (x : ℕ) → bad_length a ≡ false → sound d ≡ true → is_open x d.numbers ≡ true → is_spoiled x d ≡ false
    → eqb (get_or d.statements (place_in x d.numbers) 0) 65535 ≡ false
    → next_rule a d x ≡ (0, moved (place_in x d.numbers) d)
unfolding next_rule next_refusal
next_goes a d x l b o m e = rw (l, b, o, m, e)

next_stays : (a : Areas) (d : Desk) (x : ℕ) → bad_length a ≡ false → sound d ≡ true → is_open x d.numbers ≡ true → is_spoiled x d ≡ false
    → eqb (get_or d.statements (place_in x d.numbers) 0) 65535 ≡ true
    → next_rule a d x ≡ (14, d)
unfolding next_rule next_refusal
next_stays a d x l b o m e = rw (l, b, o, m, e)

-- ---- P9, P10: a version stays whose expirer is not below the mark, and goes whose expirer is below it and committed

unended : (m : ℕ) (s : List ℕ) (t : Stamp) → t.expire ≡ 0 → is_dead m s t ≡ false
unfolding is_dead
unended m s t e = ap (λ (x : ℕ). committed x s && ltb x m) e ∙ ap (λ (b : Bool). b && ltb 0 m) (committed_zero s)

stays : (m : ℕ) (s : List ℕ) (t : Stamp) → ltb t.expire m ≡ false → is_dead m s t ≡ false
unfolding is_dead
stays m s t e = ap (λ (b : Bool). committed t.expire s && b) e ∙ and-false (committed t.expire s)

goes : (m : ℕ) (s : List ℕ) (t : Stamp) → committed t.expire s ≡ true → ltb t.expire m ≡ true → is_dead m s t ≡ true
unfolding is_dead
goes m s t c e = rw (c, e)

five : (s : List ℕ) → status_at 5 s ≡ Committed → committed 5 s ≡ true
unfolding committed standing
five s h = rw h

-- the sweep of a row of two versions, by whether the older one is dead
module _ (m : ℕ) (s : List ℕ) (r : ℕ) (p : Both) (x y : Version) (two : TwoVersions r p x y) where
  abbrev older : Bool → Both
  older b = cond b (cut_at x.place x.slot (both p.«data» (swept_at y.place p.undo))) p

  pub swept_two : (b : Bool) → dead_in m s y.slot ≡ b → (swept_row m s r p ≡ older b) × (gone_row m s r p ≡ cond b 1 0)
  unfolding swept_row swept_versions swept_behind swept_all gone_row gone_behind
  swept_two b e = (
    ap (λ (xs : List Version). swept_versions m s r xs p) two.chain
        ∙ ap (λ (t : Bool). cond t emptied (swept_behind m s x (y ∷ []) p)) (unended m s (stamp_of x.slot) two.unended)
        ∙ ap older e,
    ap (gone_behind m s) two.chain
        ∙ ap (λ (t : Bool). cond t 2 (gone_behind m s (y ∷ []))) (unended m s (stamp_of x.slot) two.unended)
        ∙ ap (λ (t : Bool). cond t 1 0) e,
  )
    where
      emptied : Both
      emptied = both (swept_slot r p.«data») (swept_at y.place p.undo)

pub gauge : Gauge
unfolding pointer_to there known sees earlier conflict_of mark mark_of smallest fresh_desk sound sound_columns ascending placed follows session_sound is_open place_in first_from all_below moved spoiled_at
gauge =
    record {
      p1 = (refl, refl);
      p2 = (refl, refl);
      p3 = refl;
      p4 = refl;
      p5 = λ s. refl;
      p6 = λ s. refl;
      p7 = λ s. refl;
      p8 = λ s. (refl, refl);
      p9 = λ s h. (
        refl,
        λ r p x y two.
            swept_two (mark six) s r p x y two false (ap (is_dead (mark six) s) two.expired ∙ stays (mark six) s ended_by_five refl),
      );
      p10 = λ s h. (
        refl,
        λ r p x y two.
            swept_two (mark (fresh_desk 6)) s r p x y two true
            (ap (is_dead (mark (fresh_desk 6)) s) two.expired ∙ goes (mark (fresh_desk 6)) s ended_by_five (five s h) refl),
      );
      p11 = λ a l. next_goes a (one_open 65534) 1 l refl refl refl refl;
      p12 = λ a l. next_stays a (one_open 65535) 1 l refl refl refl refl;
    }
