-- Whether doubt was met on the way: what the loop has noted after some copies, with what the copies behind say, is what all of them say
-- from the first pointer on; and so what the walk and the loop's note come to is what the rule says ("02, T-05"). Assumes nothing.
use mathlib.Core.Path.{◌≡◌, sym, ap, ap₂, ◌∙◌}
use mathlib.Core.Bool.{Bool, true, false, ◌||◌, or-false, or_assoc}
use mathlib.Core.List.{List}
use Rattle.std.specs.Prelude.{Result, Err}
use Prim.Native.Nat.{ℕ, suc, ◌+◌, ◌-◌, ◌≤◌, ◌<◌}
use native.Mathlib.Omega.{arith}
use Rattle.kind.specs.Kind.{entries}
use Rattle.desk.specs.View.{View}
use Rattle.sight.specs.declared.Stamp.{Stamp}
use Rattle.sight.specs.Sight.{there}
use Rattle.records.specs.declared.slot.Slot.{Slot}
use Rattle.records.specs.declared.entry.Entry.{Entry}
use Rattle.records.specs.Slot.{slot_at}
use Rattle.chain.specs.declared.Place.TheVariants.{Data, Undo}
use Rattle.chain.specs.declared.Link.{Link}
use Rattle.chain.specs.declared.Link.TheVariants.{End, Break, To}
use Rattle.chain.specs.declared.Found.{Found}
use Rattle.chain.specs.declared.Walk.TheVariants.{Found as At, Absent as NoVersion}
use Rattle.chain.specs.Chain.{link_of}
use Rattle.chain.specs.Walk.{stamp_of, there_in, end_of, follow_rule}
use Rattle.chain.proofs.Chains.{run, run_start, run_ended, run_broke, run_out, run_found, run_on}
use Rattle.chain.proofs.Walks.{follow_run, there_found, walk_empty, walk_slot, walk_behind}
use Rattle.doubt.specs.Doubt.{doubtful, doubt_in, doubts_behind, look_by, look_rule}
use Rattle.doubt.proofs.Doubts.{some_on, some_on_end, some_on_out, some_on_on, behind_found, behind_absent, there_doubt, doubts_empty, doubts_at, doubts_behind_lem}
use Rattle.doubt.specs.declared.Missing.{Missing}
use Rattle.doubt.specs.declared.Missing.TheVariants.{Absent, Broken}

module _ (u : List ℕ) (r : ℕ) (q : Slot → Bool) (first : Link) (met : Bool) where
  -- n copies from the first link on were looked at, and `noted` is what was met so far, in the slot or in them; m more are to come
  pub record Noted (n : ℕ) (l : Link) (noted : Bool) : Type 0 where
    tells : (m : ℕ) → noted || some_on u r q m l ≡ met || some_on u r q (n + m) first

  pub noted_start : Noted (1 - 1) first met
  noted_start = record { tells = λ m. (let e : m ≡ 1 - 1 + m = omega arith in ap (λ (k : ℕ). met || some_on u r q k first) e) }

  module _ (n : ℕ) (some : 1 ≤ n) (l : Link) (noted : Bool) (so : Noted (n - 1) l noted) where
    module _ (e : ℕ) (m : Entry) (to : l ≡ To e m) where
      pub noted_on : {t : Bool} → t ≡ q m.copy → Noted (n + 1 - 1) (link_of u r m.copy.undo_ptr) (noted || t)
      noted_on asked = record { tells = on asked }
        where
          on : {t : Bool} → t ≡ q m.copy → (i : ℕ)
              → noted || t || some_on u r q i (link_of u r m.copy.undo_ptr) ≡ met || some_on u r q (n + 1 - 1 + i) first
          on asked i =
              let k : n - 1 + suc i ≡ n + 1 - 1 + i = omega arith in
              ap (λ (t : Bool). noted || t || some_on u r q i (link_of u r m.copy.undo_ptr)) asked
              ∙ or_assoc noted (q m.copy) (some_on u r q i (link_of u r m.copy.undo_ptr))
              ∙ ap (λ (b : Bool). noted || b) (sym (some_on_on u r q i l e m to))
              ∙ so.tells (suc i)
              ∙ ap (λ (j : ℕ). met || some_on u r q j first) k

      noted_found : noted || q m.copy ≡ met || some_on u r q n first
      noted_found =
          let k : n - 1 + 1 ≡ n = omega arith in
          ap (λ (b : Bool). noted || b)
          (sym (or-false (q m.copy)) ∙ ap (λ (b : Bool). q m.copy || b) (sym (some_on_out u r q (link_of u r m.copy.undo_ptr))) ∙ sym (some_on_on u r q 0 l e m to))
          ∙ so.tells 1
          ∙ ap (λ (j : ℕ). met || some_on u r q j first) k

    noted_end : (most : ℕ) → n ≤ suc most → l ≡ End → noted ≡ met || some_on u r q most first
    noted_end most few end =
        let k : n - 1 + (most - (n - 1)) ≡ most = omega arith in
        sym (or-false noted)
        ∙ ap (λ (b : Bool). noted || b) (sym (some_on_end u r q (most - (n - 1))) ∙ ap (some_on u r q (most - (n - 1))) (sym end))
        ∙ so.tells (most - (n - 1))
        ∙ ap (λ (j : ℕ). met || some_on u r q j first) k

-- ---- the loop

module _ (u s : List ℕ) (v : View) (r first : ℕ) (met : Bool) where
  abbrev test : Slot → Bool
  test = doubt_in v.number s

  -- what is to be answered
  abbrev Told : Result Found Missing → Type 0
  Told a = a ≡ look_by (met || doubts_behind u s v r first) (follow_rule u s v r first)

  -- where it stands: from its pointer on the walk that counts answers what it does from the first on (that this is the first version of the
  -- chain is the agreement of chain's Chains), and what was noted, with the copies behind, is what all of them say
  pub record Stands (most looked ptr : ℕ) (noted : Bool) : Type 0 where
    all : most ≡ entries u
    some : 1 ≤ looked
    few : looked ≤ suc most
    walk : run u r (there_in v s) (suc most - looked) looked (link_of u r ptr) ≡ follow_rule u s v r first
    notes : Noted u r test (link_of u r first) met (looked - 1) (link_of u r ptr) noted

  pub stands_first : {most : ℕ} → most ≡ entries u → Stands most 1 first met
  stands_first {most} all =
      record {
        all = all;
        some = omega arith;
        few = omega arith;
        walk = run_start u r (there_in v s) most 1 (link_of u r first) ∙ sym (follow_run u s v r first all);
        notes = noted_start u r test (link_of u r first) met;
      }

  module _ {most looked ptr : ℕ} {noted : Bool} (so : Stands most looked ptr noted) {l : Link} (led : l ≡ link_of u r ptr) where
    -- at a break: it is told whatever was noted
    pub stands_broken : l ≡ Break → Told (Err Broken)
    stands_broken is =
        ap (look_by (met || doubts_behind u s v r first))
        (sym (run_broke u r (there_in v s) looked (link_of u r ptr) (sym led ∙ is) (suc most - looked)) ∙ so.walk)

    -- at the chain's end
    pub stands_ended : {a : Result Found Missing} → l ≡ End → a ≡ look_by noted NoVersion → Told a
    stands_ended end is =
        let walk : NoVersion ≡ follow_rule u s v r first = sym (run_ended u r (there_in v s) looked (link_of u r ptr) (sym led ∙ end) (suc most - looked)) ∙ so.walk in
        is
        ∙ ap₂ look_by
        (noted_end u r test (link_of u r first) met looked so.some (link_of u r ptr) noted so.notes most so.few (sym led ∙ end)
        ∙ ap (λ (i : ℕ). met || some_on u r test i (link_of u r first)) so.all
        ∙ ap (λ (b : Bool). met || b) (behind_absent u s v r first (sym walk)))
        walk

    module _ {e : ℕ} {m : Entry} (to : l ≡ To e m) where
      -- where the count has run out
      pub stands_out : most < looked → Told (Err Broken)
      stands_out h =
          ap (look_by (met || doubts_behind u s v r first))
          (ap end_of (sym to ∙ led) ∙ sym (run_out u r (there_in v s) most looked (link_of u r ptr) h) ∙ so.walk)

      module _ (less : looked ≤ most) {t : Bool} (asked : t ≡ doubt_in v.number s m.copy) {b : Bool} {x : Stamp} (saw : b ≡ there v s x) (stamped : x ≡ stamp_of m.copy) where
        -- at a copy that is there
        pub stands_found : {a : Result Found Missing} (n : ℕ) → n ≡ looked + 1 → b ≡ true → a ≡ look_by (noted || t) (At (Undo e) n) → Told a
        stands_found n told here is =
            let walk : At (Undo e) (looked + 1) ≡ follow_rule u s v r first =
            sym (run_found u r (there_in v s) most looked (link_of u r ptr) e m (sym led ∙ to) less (there_found v s m.copy saw stamped here)) ∙ so.walk in
            is
            ∙ ap (λ (k : ℕ). look_by (noted || t) (At (Undo e) k)) told
            ∙ ap₂ look_by
            (ap (λ (b : Bool). noted || b) asked
            ∙ noted_found u r test (link_of u r first) met looked so.some (link_of u r ptr) noted so.notes e m (sym led ∙ to)
            ∙ ap (λ (b : Bool). met || b) (behind_found u s v r first (Undo e) looked (sym walk)))
            walk

        -- behind one that is not
        pub stands_on : b ≡ false → Stands most (looked + 1) m.copy.undo_ptr (noted || t)
        stands_on gone =
            record {
              all = so.all;
              some = omega arith;
              few = omega arith;
              walk =
                  sym (run_on u r (there_in v s) most looked (link_of u r ptr) e m (sym led ∙ to) less (there_found v s m.copy saw stamped gone)) ∙ so.walk;
              notes = noted_on u r test (link_of u r first) met looked so.some (link_of u r ptr) noted so.notes e m (sym led ∙ to) asked;
            }

-- ---- at the slot, read as m

module _ (d u s : List ℕ) (v : View) (r : ℕ) {m : Slot} (read : m ≡ slot_at r d) where
  pub look_empty : m.create ≡ 0 → Err Absent ≡ look_rule d u s v r
  unfolding look_rule
  look_empty z =
      let e : (slot_at r d).create ≡ 0 = ap (λ (x : Slot). x.create) (sym read) ∙ z in
      sym (ap₂ look_by (doubts_empty d u s v r e) (walk_empty d u s v r e))

  module _ (some : m.create ≡ 0 → ⊥) {b : Bool} {x : Stamp} (saw : b ≡ there v s x) (stamped : x ≡ stamp_of m) where
    occupied : (slot_at r d).create ≡ 0 → ⊥
    occupied z = some (ap (λ (y : Slot). y.create) read ∙ z)

    sighted : {t : Bool} → b ≡ t → there_in v s (slot_at r d) ≡ t
    sighted is = there_found v s (slot_at r d) saw (stamped ∙ ap stamp_of read) is

    -- the slot is the answer: its expirer alone may be in doubt
    pub look_at : {a : Result Found Missing} {t : Bool} → b ≡ true → t ≡ doubtful v.number s m.expire → a ≡ look_by t (At (Data r) 1) → a ≡ look_rule d u s v r
    unfolding look_rule
    look_at is asked e =
        let here = sighted is in
        e
        ∙ ap₂ look_by
        (asked
        ∙ ap (λ (y : Slot). doubtful v.number s y.expire) read
        ∙ sym (there_doubt v s (stamp_of (slot_at r d)) here)
        ∙ sym (doubts_at d u s v r occupied here))
        (sym (walk_slot d u s v r occupied here))

    -- the walk goes on behind it
    pub look_on : {a : Result Found Missing} {t : Bool} → b ≡ false → t ≡ doubt_in v.number s m
        → a ≡ look_by (t || doubts_behind u s v r m.undo_ptr) (follow_rule u s v r m.undo_ptr)
        → a ≡ look_rule d u s v r
    unfolding look_rule
    look_on {a} {t} is asked e =
        let gone = sighted is in
        e
        ∙ ap (λ (c : Bool). look_by (c || doubts_behind u s v r m.undo_ptr) (follow_rule u s v r m.undo_ptr)) asked
        ∙ ap (λ (y : Slot). look_by (doubt_in v.number s y || doubts_behind u s v r y.undo_ptr) (follow_rule u s v r y.undo_ptr)) read
        ∙ ap₂ look_by (sym (doubts_behind_lem d u s v r occupied gone)) (sym (walk_behind d u s v r occupied gone))
