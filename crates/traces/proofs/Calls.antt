-- Accepted sweeps and withdrawals, byte by byte ("01, The page", "01, Writes, withdrawal, sweep"): which slots, entries and pages keep their
-- bytes, and what txn_id and item_count the other pages get. Assumes nothing.
use mathlib.Core.Path.{◌≡◌, refl, sym, ap, subst, ◌∙◌}
use mathlib.Core.Logic.{◌⊎◌, inl, inr}
use mathlib.Core.List.{List, [], ◌∷◌}
use Prim.Native.Nat.{ℕ, ◌+◌, ◌^◌, ◌<◌}
use native.Mathlib.Omega.{arith}
use lib.ListN.{replicate}
use lib.Seq.{sets}
use Rattle.places.specs.Open.{place_in}
use Rattle.desk.specs.declared.Desk.{Desk}
use Rattle.desk.specs.Desk.{first_statement}
use Rattle.desk.specs.Turns.{mark}
use Rattle.kind.specs.Kind.{rows, data_kind, undo_kind}
use Rattle.kind.specs.Areas.{Areas, areas, Both, both}
use Rattle.records.specs.Slot.{slot_of, slot_bytes, slot_at}
use Rattle.records.specs.Entry.{entry_of, entry_bytes, entry_at}
use Rattle.chain.specs.Chain.{chain_of}
use Rattle.strands.specs.Strands.{RowsIn}
use Rattle.putback.specs.PutBack.{undone_row}
use Rattle.trimming.specs.Trimming.{gone_row, swept_row}
use Rattle.admit.proofs.Admissions.{Admits, accepts, admits_from, admits_session}
use Rattle.undoing.specs.Undoing.{some_broken, undone_from, undone, withdraw_refusal, withdrawn, withdraw_rule}
use Rattle.sweeping.specs.Sweeping.{treated, swept_from, sweep_refusal, swept, sweep_rule}
use Rattle.sweeping.proofs.Treats.{swept_turns}
use Rattle.sweeping.proofs.Calls.{treats_inside}
use Rattle.outcomes.proofs.Outcomes.{undone_turns}
use Rattle.traces.specs.Traces.{Touched, Counted, Zeros, SweptBytes, Lent, Spared, HoldsOne, SweepSlots, SweepEntries, SweepOthers, SweepRecords, SweepPages, WithdrawSlots, WithdrawEntries, WithdrawOthers, WithdrawRecords, WithdrawPages}
use Rattle.records.proofs.Stores.{create_cut, writer_cut}
use Rattle.traces.proofs.Pages.{data_held, undo_held, counting, touching}
use Rattle.traces.proofs.Confined.{confined_keeps, confined_becomes, confined_traced}
use Rattle.traces.proofs.Holds.{chain_holds}
use Rattle.traces.proofs.Rows.{one_of, EntryOfOne, TreadsAll, rows_tread}
use Rattle.traces.proofs.Sweeps.{Goes, swept_row_treads}
use Rattle.traces.proofs.Withdraws.{FreedEntry, TakenSlot, Made, Wrote, undone_row_treads}

-- ---- what is emptied and what is freed

-- of bytes y that were x, where what changed is zeros, or is not emptied after all
all_zeros : (n : ℕ) {x y : List ℕ} (said : List ℕ → ℕ) (other : Type 0) → (other → said y ≡ 0 → said x ≡ 0)
    → (y ≡ x) ⊎ (Zeros n y ⊎ other)
    → (said x ≡ 0 → ⊥)
    → said y ≡ 0
    → Zeros n y
all_zeros n said other stays (inl same) was is = absurd (was (ap said (sym same) ∙ is))
all_zeros n said other stays (inr (inl zeros)) was is = zeros
all_zeros n said other stays (inr (inr o)) was is = absurd (was (stays o is))

-- ---- sweep

module _ (a : Areas) (d : Desk) (first quota : ℕ) (lent : Lent a) (ok : sweep_refusal a d first quota ≡ 0) where
  abbrev n : ℕ
  n = treated a.«data» first quota

  abbrev before : Both
  before = both a.«data» a.undo

  abbrev left : Areas
  left = (sweep_rule a d first quota).1

  -- what is done where nothing is refused
  sweep_does : areas (swept a d first quota).«data» (swept a d first quota).undo a.status ≡ (sweep_rule a d first quota).1
  unfolding sweep_rule
  sweep_does = sym (rw ok)

  rows_in : RowsIn (first + n) before
  rows_in = record { few = treats_inside a d first quota ok; «data» = lent.«data»; undo = lent.undo }

  abbrev Swept : Areas → Type 0
  Swept z =
      TreadsAll (Counted data_kind) (Counted undo_kind) (SweptBytes 64 16) (SweptBytes 80 32) (Goes (mark d) a.status) (Goes (mark d) a.status) first n before (both z.«data» z.undo)
      × (z.status ≡ a.status)

  sweep_treads : Swept left
  unfolding swept
  sweep_treads =
      subst Swept sweep_does (
        rows_tread (counting data_kind data_held) (counting undo_kind undo_held) (Goes (mark d) a.status) (Goes (mark d) a.status)
            (swept_row (mark d) a.status)
            (swept_from (mark d) a.status)
            (swept_turns (mark d) a.status)
            (λ r p h. swept_row_treads (mark d) a.status r p.«data» p.undo h)
            n
            first
            before
            rows_in,
        refl,
      )

  -- from a row that is spared nothing goes
  spared : (t : ℕ) → Spared a d first quota t → one_of first n t → (gone_row (mark d) a.status t before ≡ 0 → ⊥) → ⊥
  spared t (inl (inl l)) one goes = omega (arith, l, one.0)
  spared t (inl (inr l)) one goes = omega (arith, l, one.1)
  spared t (inr z) one goes = goes z

  spared_slot : (t : ℕ) → Spared a d first quota t → one_of first n t × Goes (mark d) a.status (slot_at t a.«data») (chain_of a.«data» a.undo t).versions → ⊥
  unfolding gone_row
  spared_slot t s h = spared t s h.0 h.1

  spared_entry : (e : ℕ) → ((t : ℕ) → HoldsOne e (chain_of a.«data» a.undo t).versions → Spared a d first quota t)
      → EntryOfOne (Goes (mark d) a.status) first n before e
      → ⊥
  unfolding gone_row
  spared_entry e s h = spared h.row (s h.row h.holds.1) h.one h.holds.0

  -- an entry that is free holds nothing, and any other a version of its row
  says_spared : (e : ℕ) → ((entry_at e a.undo).writer ≡ 0) ⊎ Spared a d first quota (entry_at e a.undo).row
      → (t : ℕ) → HoldsOne e (chain_of a.«data» a.undo t).versions → Spared a d first quota t
  says_spared e (inl free) t h = absurd ((chain_holds a.«data» a.undo t e h).used free)
  says_spared e (inr s) t h = subst (Spared a d first quota) (chain_holds a.«data» a.undo t e h).row s

pub sweep_slots : SweepSlots
sweep_slots a d first quota lent ok t s =
    confined_keeps (sweep_treads a d first quota lent ok).0.«data» t (spared_slot a d first quota lent ok t s)

pub sweep_entries : SweepEntries
sweep_entries a d first quota lent ok e s =
    confined_keeps (sweep_treads a d first quota lent ok).0.undo e (spared_entry a d first quota lent ok e s)

pub sweep_others : SweepOthers
sweep_others a d first quota lent ok e s = sweep_entries a d first quota lent ok e (says_spared a d first quota lent ok e s)

pub sweep_records : SweepRecords
unfolding slot_at entry_at
sweep_records a d first quota lent ok =
    let k = (sweep_treads a d first quota lent ok).0 in
    let left : Areas = (sweep_rule a d first quota).1 in (
      confined_becomes k.«data»,
      confined_becomes k.undo,
      record {
        emptied = λ t. all_zeros 64 (λ (y : List ℕ). (slot_of y).create) (slot_bytes t left.«data» ≡ sets (slot_bytes t a.«data») 16 (replicate 8 0))
            (λ cut z. sym (create_cut (slot_bytes t a.«data»)) ∙ ap (λ (y : List ℕ). (slot_of y).create) (sym cut) ∙ z)
            (confined_becomes k.«data» t);
        freed = λ e. all_zeros 80 (λ (y : List ℕ). (entry_of y).writer) (entry_bytes e left.undo ≡ sets (entry_bytes e a.undo) 32 (replicate 8 0))
            (λ cut z. sym (writer_cut (entry_bytes e a.undo)) ∙ ap (λ (y : List ℕ). (entry_of y).writer) (sym cut) ∙ z)
            (confined_becomes k.undo e);
      },
    )

pub sweep_pages : SweepPages
sweep_pages a d first quota lent ok =
    let k = sweep_treads a d first quota lent ok in
    (confined_traced data_held k.0.«data», confined_traced undo_held k.0.undo, k.1)

-- ---- withdraw

module _ (a : Areas) (d : Desk) (x : ℕ) (lent : Lent a) (ok : withdraw_refusal a d x ≡ 0) where
  abbrev before' : Both
  before' = both a.«data» a.undo

  abbrev left' : Areas
  left' = (withdraw_rule a d x).1

  withdraw_does : withdrawn a x ≡ (withdraw_rule a d x).1
  unfolding withdraw_rule
  withdraw_does = sym (rw ok)

  admitted : Admits a.«data» a.undo a.status d x (place_in x d.numbers)
  unfolding withdraw_refusal
  admitted = (accepts a.«data» a.undo a.status d x ((some_broken x first_statement a.«data» a.undo, 6) ∷ []) ok).0

  number : 0 < x
  number = omega (arith, admits_from a.«data» a.undo a.status d x (place_in x d.numbers) admitted)

  fits : x < 2 ^ 64
  fits = omega (arith, admits_session a.«data» a.undo a.status d x (place_in x d.numbers) admitted)

  abbrev Undone : Areas → Type 0
  Undone z = TreadsAll (Touched data_kind x) (Touched undo_kind x) TakenSlot FreedEntry (Wrote x) (Made x) 0 (rows a.«data») before' (both z.«data» z.undo)

  withdraw_treads : Undone left'
  unfolding withdrawn undone
  withdraw_treads =
      subst Undone withdraw_does
      (rows_tread (touching data_kind data_held x fits) (touching undo_kind undo_held x fits) (Wrote x) (Made x)
      (undone_row x first_statement)
      (undone_from x first_statement)
      (undone_turns x first_statement)
      (λ r p h. undone_row_treads x first_statement fits number r p.«data» p.undo h)
      (rows a.«data»)
      0
      before'
      (record { few = omega arith; «data» = lent.«data»; undo = lent.undo }))

  unwritten : (t : ℕ) → ((slot_at t a.«data»).create ≡ x → ⊥) → ((slot_at t a.«data»).create ≡ 0) ⊎ ((slot_at t a.«data»).expire ≡ x → ⊥)
      → Wrote x (slot_at t a.«data») (chain_of a.«data» a.undo t).versions
      → ⊥
  unwritten t made other (inl own) = made own
  unwritten t made (inl empty) (inr own) = own.0 empty
  unwritten t made (inr ended) (inr own) = ended own.1

  -- an entry that is free holds nothing, and any other a version of its row
  says_other : (e : ℕ) → ((entry_at e a.undo).writer ≡ 0) ⊎ ((slot_at (entry_at e a.undo).row a.«data»).create ≡ x → ⊥)
      → (t : ℕ) → HoldsOne e (chain_of a.«data» a.undo t).versions → (slot_at t a.«data»).create ≡ x → ⊥
  says_other e (inl free) t h own = (chain_holds a.«data» a.undo t e h).used free
  says_other e (inr other) t h own =
      other (ap (λ (r : ℕ). (slot_at r a.«data»).create) (chain_holds a.«data» a.undo t e h).row ∙ own)

pub withdraw_slots : WithdrawSlots
withdraw_slots a d x lent ok t made other =
    confined_keeps (withdraw_treads a d x lent ok).«data» t (λ h. unwritten a d x lent ok t made other h.1)

pub withdraw_entries : WithdrawEntries
withdraw_entries a d x lent ok e none =
    confined_keeps (withdraw_treads a d x lent ok).undo e (λ h. none h.row h.holds.1 h.holds.0)

pub withdraw_others : WithdrawOthers
withdraw_others a d x lent ok e s = withdraw_entries a d x lent ok e (says_other a d x lent ok e s)

pub withdraw_records : WithdrawRecords
unfolding slot_at entry_at
withdraw_records a d x lent ok =
    let k = withdraw_treads a d x lent ok in
    let left : Areas = (withdraw_rule a d x).1 in (
      confined_becomes k.undo,
      record {
        emptied = λ t. all_zeros 64 (λ (y : List ℕ). (slot_of y).create) ((slot_of (slot_bytes t left.«data»)).create ≡ 0 → ⊥)
            (λ stands z. absurd (stands z))
            (confined_becomes k.«data» t);
        freed = λ e. all_zeros 80 (λ (y : List ℕ). (entry_of y).writer) ⊥ (λ none z. absurd none) (freed e (confined_becomes k.undo e));
      },
    )
  where
    freed : (e : ℕ)
        → (entry_bytes e (withdraw_rule a d x).1.undo ≡ entry_bytes e a.undo) ⊎ Zeros 80 (entry_bytes e (withdraw_rule a d x).1.undo)
        → (entry_bytes e (withdraw_rule a d x).1.undo ≡ entry_bytes e a.undo) ⊎ (Zeros 80 (entry_bytes e (withdraw_rule a d x).1.undo) ⊎ ⊥)
    freed e (inl same) = inl same
    freed e (inr zeros) = inr (inl zeros)

pub withdraw_pages : WithdrawPages
withdraw_pages a d x lent ok =
    let k = withdraw_treads a d x lent ok in
    (confined_traced data_held k.«data», confined_traced undo_held k.undo)
