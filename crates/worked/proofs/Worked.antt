-- The rules of the store, computed by the checker on the paper's whole worked run ("01, The script and one whole run", "02, T-07"). The run is cut
-- into pieces, by the law that a text may come in pieces: the check of each stays short, and what is carried from one to the next stands
-- here to be read. Of a sweep and of a withdrawal only row 0 is computed, since the other rows are zeros (`Sweeps`, `Withdrawals`). Assumes
-- nothing.
use Prim.Native.Nat.{ℕ, zero, suc}
use mathlib.Core.Path.{◌≡◌, refl, sym, ap, ◌∙◌}
use mathlib.Core.Bool.{true, false}
use mathlib.Core.List.{List, [], ◌∷◌, ◌++◌, append_assoc}
use lib.ListN.{length, take, drop, replicate}
use lib.Seq.{drop-length}
use Rattle.ground.specs.Range.{all_below, count_below, first_from}
use Rattle.little.specs.Little.{bytes_of, digits, little, part}
use Rattle.kind.specs.Kind.{data_kind, undo_kind, status_kind, length_ok, lengths_ok}
use Rattle.kind.specs.declared.Kind.{Kind}
use Rattle.kind.specs.Areas.{Areas, areas}
use Rattle.kind.specs.Place.{record_at}
use Rattle.status.specs.Status.{bits_in, put_bits_in, put_status, status_at}
use Rattle.pointer.specs.Pointer.{pointer_at, at_entry, lead_of, leads, pointer_to, well_formed}
use Rattle.records.specs.Entry.{entry_fields, clear_entry, copy_body_at, entry_at, entry_of, put_copy, put_entry}
use Rattle.records.specs.Slot.{slot_fields, body_at, clear_slot, put_meta, put_slot, slot_at, slot_of}
use Rattle.page.specs.Count.{counted, in_use, items_in, touched}
use Rattle.page.specs.Header.{header, page_at, put_field}
use Rattle.whole.specs.Whole.{blank_page, checksum_of, fresh_page}
use Rattle.columns.specs.Columns.{mark_of, smallest, without}
use Rattle.places.specs.Open.{is_open, open_count, place_in}
use Rattle.places.specs.Places.{ascending, follows, placed, session_sound}
use Rattle.desk.specs.Desk.{fresh_desk}
use Rattle.desk.specs.declared.Desk.{Desk}
use Rattle.desk.specs.Sound.{sound, sound_columns}
use Rattle.desk.specs.Turns.{begun, closed, mark, spoiled, spoiled_at, view_at}
use Rattle.sight.specs.Conflict.{conflict_of, is_dead, of_another}
use Rattle.sight.specs.Sight.{committed, earlier, known, listed, sees, standing, there}
use Rattle.chain.specs.declared.Place.TheVariants.{Nowhere}
use Rattle.chain.specs.Chain.{among, chain_from, chain_of, unfit}
use Rattle.chain.specs.Walk.{body_of, first_in, walk_rule}
use Rattle.touching.specs.Touching.{with_entry, with_meta, with_slot}
use Rattle.writing.specs.Writing.{deleted, inserted, updated_data, updated_undo}
use Rattle.freeing.specs.Freeing.{cut_copy, cut_slot, swept_entry, swept_slot}
use Rattle.vacant.specs.Vacant.{lowest_empty, lowest_free}
use Rattle.doubt.specs.Doubt.{doubtful, doubts, in_doubt, reserved, some_in, versions_looked_at}
use Rattle.seeking.specs.Seeking.{breaks, misses, no_row, says}
use Rattle.keep.specs.Keep.{format_refusal, format_rule, formatted}
use Rattle.keep.specs.Whole.{fresh_area}
use Rattle.turns.specs.Turns.{begin_refusal, begin_rule, commit_refusal, commit_rule}
use Rattle.putback.specs.PutBack.{own, undone_row}
use Rattle.undoing.specs.Undoing.{broken_row, withdraw_rule}
use Rattle.trimming.specs.Trimming.{swept_all, swept_behind, swept_row, swept_versions}
use Rattle.sweeping.specs.Sweeping.{sweep_rule, treated}
use Rattle.rows.specs.Rows.{delete_refusal, delete_rule, insert_refusal, insert_rule, read_refusal, read_rule, refused_desk, update_refusal, update_rule, updated}
use Rattle.lines.specs.Span.{lacks, parts}
use Rattle.numeral.specs.Numeral.{body_in, digits_alone, glyph_of, hex_alone, hex_of, is_body, nibble_of, number_in, numeral_of, pairs, said_from, spelled}
use Rattle.line.specs.Line.{call_in, command_of, longest as longest-line, verb_in, verb_of, word_of}
use Rattle.reply.specs.Reply.{answer_line, longest as longest-answer, tabbed}
use Rattle.calls.specs.Calls.{Left, left, bare, withdraw_leaves, sweep_leaves}
use Rattle.playing.specs.Playing.{line_of, play_rule}
use Rattle.script.specs.Script.{Carried, carried, is_format, footing, command_in, Portion, portion, output, answers, data_lent, fresh_footing, lent, lined, named, rest_of, rested, run_lines, run_rule, stepped, left_in, line_in, undo_lent}
use Rattle.script.specs.declared.Footing.{Footing}
use Rattle.lines.proofs.Spans.{parts_joined}
use Rattle.line.specs.declared.Command.{Command}
use Rattle.script.proofs.Promises.{answers_next, run_carries}
use Rattle.worked.specs.Worked.{bytes, run, input_of, output_of, start}
use Rattle.worked.proofs.Zeros.{zeros}
use Rattle.worked.proofs.Sweeps.{sweep_one}
use Rattle.worked.proofs.Withdrawals.{withdraw_one}

-- ---- what is carried along

-- the desk, and the one page of data and of undo that the run formats
lent_to : Desk → Footing
lent_to d = record { desk = d; «data» = 8192; undo = 8192; long = false }

-- a header: page 1, with the checksum that format wrote
headed : Kind → ℕ → ℕ → List ℕ
headed k txn items = bytes_of (header k 1 txn (checksum_of (blank_page k 1)) items)

-- row 0 as session 2 wrote it, with its pointer
data_of : ℕ → List ℕ
data_of ptr =
    headed data_kind 2 1
    ++ bytes_of (slot_fields (record { create = 2; expire = 0; undo_ptr = ptr; cmd = 0; expire_cmd = 0 }))
    ++ replicate 32 0xFF
    ++ replicate 24464 0

-- entry 0: what session 1 wrote, expired by session 2
undo_of : List ℕ
undo_of =
    headed undo_kind 2 1
    ++ bytes_of (entry_fields (record { writer = 2; row = 0; copy = record { create = 1; expire = 2; undo_ptr = 0; cmd = 0; expire_cmd = 0 } }))
    ++ replicate 24480 0

-- and freed
undo_free : List ℕ
undo_free = headed undo_kind 2 0 ++ replicate 24528 0

-- 3 is the highest number; the first statuses
status_of : ℕ → List ℕ
status_of b = headed status_kind 3 0 ++ (b ∷ replicate 8143 0)

-- behind `update 2 0 F`: sessions 2 and 3 are open, 2 in the list of 3, and 1 is committed
updated_2 : Carried
updated_2 =
    carried
    (lent_to
    (record {
      next = 4;
      numbers = 2 ∷ 3 ∷ replicate 14 0;
      statements = replicate 16 0;
      marks = replicate 16 0;
      lists = replicate 15 0 ++ (2 ∷ replicate 224 0);
    }))
    (areas (data_of (pointer_at 1 48)) undo_of (status_of 0b00_00_01_00))

-- behind the second `delete 3 0`: 2 is committed, and 3 is spoiled. The first sweep and the refused `commit 3` leave it so
spoiled_3 : Carried
spoiled_3 =
    carried
    (lent_to
    (record {
      next = 4;
      numbers = 3 ∷ replicate 15 0;
      statements = replicate 16 0;
      marks = 1 ∷ replicate 15 0;
      lists = 2 ∷ replicate 239 0;
    }))
    (areas (data_of (pointer_at 1 48)) undo_of (status_of 0b00_01_01_00))

-- behind `withdraw 3`: no session is open, and no row was written
withdrawn_3 : Carried
withdrawn_3 = carried (lent_to (fresh_desk 4)) (areas (data_of (pointer_at 1 48)) undo_of (status_of 0b10_01_01_00))

-- behind the second sweep: the older version is gone, and its entry free
swept_1 : Carried
swept_1 = carried (lent_to (fresh_desk 4)) (areas (data_of 0) undo_free (status_of 0b10_01_01_00))

-- ---- the pieces, computed

-- every definition that they are computed with; of a checksum only that it is the same
unfoldable rules : ℕ
unfolding bytes run input_of output_of start lent_to headed data_of undo_of undo_free status_of updated_2 spoiled_3 withdrawn_3 swept_1 all_below count_below first_from bytes_of digits little part length_ok lengths_ok record_at bits_in put_bits_in put_status status_at at_entry lead_of leads pointer_to well_formed clear_entry copy_body_at entry_at entry_of put_copy put_entry body_at clear_slot put_meta put_slot slot_at slot_of counted in_use items_in touched page_at put_field blank_page fresh_page mark_of smallest without is_open open_count place_in ascending follows placed session_sound fresh_desk sound sound_columns begun closed mark spoiled spoiled_at view_at conflict_of is_dead of_another committed earlier known listed sees standing there among chain_from chain_of unfit body_of first_in walk_rule reserved doubtful in_doubt versions_looked_at some_in doubts with_entry with_meta with_slot deleted inserted updated_data updated_undo cut_copy cut_slot swept_entry swept_slot lowest_empty lowest_free breaks misses no_row says format_refusal format_rule formatted fresh_area begin_refusal begin_rule commit_refusal commit_rule own undone_row broken_row swept_all swept_behind swept_row swept_versions treated delete_refusal delete_rule insert_refusal insert_rule read_refusal read_rule refused_desk update_refusal update_rule updated parts body_in digits_alone glyph_of hex_alone hex_of is_body nibble_of number_in numeral_of pairs said_from spelled command_of longest-line call_in verb_in verb_of word_of answer_line longest-answer tabbed play_rule answers data_lent fresh_footing lent lined named rest_of rested run_lines run_rule stepped left_in undo_lent
rules = 0

-- what is left of the run behind line 7, 12, 13, 14, 15, 16
abbrev after_7 : List (List ℕ × List ℕ)
after_7 = drop 7 run

abbrev after_12 : List (List ℕ × List ℕ)
after_12 = drop 5 after_7

abbrev after_13 : List (List ℕ × List ℕ)
after_13 = drop 1 after_12

abbrev after_14 : List (List ℕ × List ℕ)
after_14 = drop 1 after_13

abbrev after_15 : List (List ℕ × List ℕ)
after_15 = drop 1 after_14

abbrev after_16 : List (List ℕ × List ℕ)
after_16 = drop 1 after_15

-- a piece is run to its end, says its answers and carries that on
abbrev Leads : Carried → List (List ℕ × List ℕ) → Carried → Type 0
Leads k p on = run_rule k (input_of p) false 4096 ≡ portion (output_of p) (length (input_of p)) on

lines_1 : Leads start (take 7 run) updated_2
unfolding rules
lines_1 = refl

lines_8 : Leads updated_2 (take 5 after_7) spoiled_3
unfolding rules
lines_8 = refl

line_14 : Leads spoiled_3 (take 1 after_13) spoiled_3
unfolding rules
line_14 = refl

lines_17 : output swept_1 (input_of after_16) ≡ output_of after_16
unfolding rules
lines_17 = refl

-- ---- the two sweeps, and the withdrawal

-- a line is played: it answers so, and that is carried on
abbrev Plays : Carried → List ℕ × List ℕ → Carried → Type 0
Plays k x on = (line_in k (command_in k x.0) ≡ x.1 ++ (10 ∷ [])) × (stepped k (command_in k x.0) ≡ on)

-- what is carried on behind a call
abbrev behind : Carried → Command → Left → Carried
behind k c l =
    let n = data_lent c k.footing k.lent.«data» in
    let m = undo_lent c k.footing k.lent.undo in
    carried
    (footing l (is_format c.verb) n m k.footing)
    (areas (l.lent.«data» ++ drop n k.lent.«data») (l.lent.undo ++ drop m k.lent.undo) l.lent.status)

stepped_behind : (k : Carried) (c : Command) → stepped k c ≡ behind k c (left_in k c)
unfolding stepped
stepped_behind k c = refl

-- a line is played whose call leaves l
plays : (k on : Carried) (x : List ℕ × List ℕ) (l : Left)
    → left_in k (command_in k x.0) ≡ l
    → line_of (command_in k x.0).verb l ≡ x.1 ++ (10 ∷ [])
    → behind k (command_in k x.0) l ≡ on
    → Plays k x on
plays k on x l is says on-is = (
  ap (line_of (command_in k x.0).verb) is ∙ says,
  stepped_behind k (command_in k x.0) ∙ ap (behind k (command_in k x.0)) is ∙ on-is,
)

-- what the two calls leave, by what their rules say
sweep_leaves_lem : (a after : Areas) (d : Desk) (removed : ℕ) → sweep_rule a d 0 127 ≡ ((0, 127, removed), after)
    → sweep_leaves a d 0 127 ≡ left 0 127 removed Nowhere after d
sweep_leaves_lem a after d removed rule =
    ap (λ (r : (ℕ × ℕ × ℕ) × Areas). left r.0.0 r.0.1 r.0.2 Nowhere r.1 d) rule

withdraw_leaves_lem : (a after : Areas) (d on : Desk) (x : ℕ) → withdraw_rule a d x ≡ ((0, on), after) → withdraw_leaves a d x ≡ bare 0 after on
withdraw_leaves_lem a after d on x rule = ap (λ (r : (ℕ × Desk) × Areas). bare r.0.0 r.1 r.0.1) rule

-- "`sweep 0 127`→`0 127 0`", "`withdraw 3`→`0`", and "`sweep 0 127`→`0 127 1`"
abbrev sweep_none : List ℕ × List ℕ
sweep_none = (bytes "sweep\t0\t127", bytes "0\t127\t0")

abbrev withdraw_3 : List ℕ × List ℕ
withdraw_3 = (bytes "withdraw\t3", bytes "0")

abbrev sweep_some : List ℕ × List ℕ
sweep_some = (bytes "sweep\t0\t127", bytes "0\t127\t1")

-- what is lent of the areas
abbrev page : List ℕ → List ℕ
page s = take 8192 s

line_13 : Plays spoiled_3 sweep_none spoiled_3
unfolding rules zeros
line_13 =
    let d = page (data_of (pointer_at 1 48)) in
    let u = page undo_of in
    let s = status_of 0b00_01_01_00 in
    let desk = spoiled_3.footing.desk in
    plays spoiled_3 spoiled_3 sweep_none (left 0 127 0 Nowhere (areas d u s) desk)
    (sweep_leaves_lem (areas d u s) (areas d u s) desk 0 (sweep_one d u s d u desk 2 2 refl refl refl refl refl refl refl refl refl))
    refl
    refl

line_15 : Plays spoiled_3 withdraw_3 withdrawn_3
unfolding rules zeros
line_15 =
    let d = page (data_of (pointer_at 1 48)) in
    let u = page undo_of in
    let s = status_of 0b00_01_01_00 in
    let s' = status_of 0b10_01_01_00 in
    let desk = spoiled_3.footing.desk in
    plays spoiled_3 withdrawn_3 withdraw_3 (bare 0 (areas d u s') (fresh_desk 4))
    (withdraw_leaves_lem (areas d u s) (areas d u s') desk (fresh_desk 4) 3 (withdraw_one d u s d u desk 3 refl refl refl refl refl refl refl refl))
    refl
    refl

line_16 : Plays withdrawn_3 sweep_some swept_1
unfolding rules zeros
line_16 =
    let d = page (data_of (pointer_at 1 48)) in
    let u = page undo_of in
    let d' = page (data_of 0) in
    let u' = page undo_free in
    let s = status_of 0b10_01_01_00 in
    let desk = withdrawn_3.footing.desk in
    plays withdrawn_3 swept_1 sweep_some (left 0 127 1 Nowhere (areas d' u' s) desk)
    (sweep_leaves_lem (areas d u s) (areas d' u' s) desk 1 (sweep_one d u s d' u' desk 2 1 refl refl refl refl refl refl refl refl refl))
    refl
    refl

-- ---- the whole run

-- a line, and then what is left
then_line : (p : List (List ℕ × List ℕ)) (x : List ℕ × List ℕ) (k on : Carried)
    → p ≡ x ∷ drop 1 p
    → lacks 10 x.0 ≡ true
    → Plays k x on
    → output on (input_of (drop 1 p)) ≡ output_of (drop 1 p)
    → output k (input_of p) ≡ output_of p
unfolding input_of output_of
then_line p x k on is lone plays left =
    ap (λ (q : List (List ℕ × List ℕ)). output k (input_of q)) is
    ∙ ap (answers k) (parts_joined 10 x.0 (input_of (drop 1 p)) lone)
    ∙ answers_next k x.0 10 (input_of (drop 1 p))
    ∙ ap (λ (l : List ℕ). l ++ output (stepped k (command_in k x.0)) (input_of (drop 1 p))) plays.0
    ∙ ap (λ (q : Carried). (x.1 ++ (10 ∷ [])) ++ output q (input_of (drop 1 p))) plays.1
    ∙ ap (λ (l : List ℕ). (x.1 ++ (10 ∷ [])) ++ l) left
    ∙ append_assoc x.1 (10 ∷ []) (output_of (drop 1 p))
    ∙ ap output_of (sym is)

first_13 : (after_12 ≡ sweep_none ∷ drop 1 after_12) × (lacks 10 sweep_none.0 ≡ true)
unfolding bytes run lacks
first_13 = (refl, refl)

first_15 : (after_14 ≡ withdraw_3 ∷ drop 1 after_14) × (lacks 10 withdraw_3.0 ≡ true)
unfolding bytes run lacks
first_15 = (refl, refl)

first_16 : (after_15 ≡ sweep_some ∷ drop 1 after_15) × (lacks 10 sweep_some.0 ≡ true)
unfolding bytes run lacks
first_16 = (refl, refl)

input_cut : (n : ℕ) (p : List (List ℕ × List ℕ)) → input_of (take n p) ++ input_of (drop n p) ≡ input_of p
unfolding input_of
input_cut zero p = refl
input_cut (suc n) [] = refl
input_cut (suc n) (x ∷ p) =
    append_assoc x.0 (10 ∷ input_of (take n p)) (input_of (drop n p)) ∙ ap (λ (l : List ℕ). x.0 ++ (10 ∷ l)) (input_cut n p)

output_cut : (n : ℕ) (p : List (List ℕ × List ℕ)) → output_of (take n p) ++ output_of (drop n p) ≡ output_of p
unfolding output_of
output_cut zero p = refl
output_cut (suc n) [] = refl
output_cut (suc n) (x ∷ p) =
    append_assoc x.1 (10 ∷ output_of (take n p)) (output_of (drop n p)) ∙ ap (λ (l : List ℕ). x.1 ++ (10 ∷ l)) (output_cut n p)

-- a piece, and then what is left
then : (n : ℕ) (p : List (List ℕ × List ℕ)) (k on : Carried) → Leads k (take n p) on → output on (input_of (drop n p)) ≡ output_of (drop n p)
    → output k (input_of p) ≡ output_of p
then n p k on is behind =
    ap (output k) (sym (input_cut n p))
    ∙ run_carries k (input_of (take n p)) (input_of (drop n p)) 4096
    ∙ ap (λ (w : Portion). w.said ++ output w.on (drop w.taken (input_of (take n p)) ++ input_of (drop n p))) is
    ∙ ap (λ (l : List ℕ). output_of (take n p) ++ output on (l ++ input_of (drop n p))) (drop-length (input_of (take n p)))
    ∙ ap (λ (l : List ℕ). output_of (take n p) ++ l) behind
    ∙ output_cut n p

-- "left of the arrow the input, right of it the whole output"
pub worked : output start (input_of run) ≡ output_of run
worked =
    then 7 run start updated_2 lines_1
    (then 5 after_7 updated_2 spoiled_3 lines_8
    (then_line after_12 sweep_none spoiled_3 spoiled_3 first_13.0 first_13.1 line_13
    (then 1 after_13 spoiled_3 spoiled_3 line_14
    (then_line after_14 withdraw_3 spoiled_3 withdrawn_3 first_15.0 first_15.1 line_15
    (then_line after_15 sweep_some withdrawn_3 swept_1 first_16.0 first_16.1 line_16 lines_17)))))
