-- What a station's program may rely on: its calls are a history, and what chirimok_read reports is what the history alone says. Assumes
-- nothing.
use mathlib.Core.Path.{◌≡◌, refl, sym, ap, ap₂, subst, ◌∙◌}
use mathlib.Core.Bool.{Bool, true, ◌&&◌, ◌||◌}
use mathlib.Core.List.{List, [], ◌∷◌}
use Rattle.machine.specs.Table.{plain_table}
use Rattle.machine.specs.Lines.{Call, read, Verdict, is_done, is_format, Line, history_of}
use Rattle.history.specs.World.{World, after_all, lines_of}
use Rattle.history.specs.Asked.{AllProper, Matches}
use Rattle.history.specs.Since.{formats, Since}
use Rattle.history.proofs.Since.{since, since_reading}
use Rattle.stationed.specs.Stationed.{Held, onward, world_of, Worded, onward_all, record_of, history_by, formatted, StationReading}
use Rattle.stationed.proofs.Steps.{call_step}

-- ---- calls one after the other

pub all_worded : (cs : List Call) (h : Held) → Worded h → Worded (onward_all h cs)
all_worded [] h long = long
all_worded (c ∷ cs) h long = all_worded cs (onward h c) (call_step h long c).worded

-- the world behind what is held is the world that the calls lead to
pub world_calls : (cs : List Call) (h : Held) → Worded h → world_of (onward_all h cs) ≡ after_all (world_of h) cs
world_calls [] h long = refl
world_calls (c ∷ cs) h long =
    world_calls cs (onward h c) (call_step h long c).worded ∙ ap (λ (w : World). after_all w cs) (call_step h long c).leaves

-- what a program has in its record is what the calls answer on that world
pub record_lines : (cs : List Call) (h : Held) → Worded h → record_of h cs ≡ lines_of (world_of h) cs
record_lines [] h long = refl
record_lines (c ∷ cs) h long =
    ap₂ (λ (a : Verdict) (ls : List Line). record { call = c; answer = a } ∷ ls) (call_step h long c).tells
    (record_lines cs (onward h c) (call_step h long c).worded ∙ ap (λ (w : World). lines_of w cs) (call_step h long c).leaves)

formatted_formats : (cs : List Call) (h : Held) → Worded h → formatted h cs ≡ formats (world_of h) cs
formatted_formats [] h long = refl
formatted_formats (c ∷ cs) h long =
    ap₂ (λ (a : Verdict) (b : Bool). (is_format c && is_done a) || b) (call_step h long c).tells
    (formatted_formats cs (onward h c) (call_step h long c).worded ∙ ap (λ (w : World). formats w cs) (call_step h long c).leaves)

-- ---- a history

-- calls of which one is an accepted format are a run of history, with the history that the program's record says
pub station_run : (h : Held) → Worded h → (cs : List Call) → AllProper cs → formatted h cs ≡ true
    → Since (world_of (onward_all h cs)) (history_by h cs)
station_run h long cs p e =
    subst (λ (w : World). Since w (history_by h cs)) (sym (world_calls cs h long))
    (subst (λ (ls : List Line). Since (after_all (world_of h) cs) (history_of ls)) (sym (record_lines cs h long))
    (since (world_of h) cs p (sym (formatted_formats cs h long) ∙ e)))

pub station_reading : StationReading
station_reading h long cs p e n o r inside =
    subst (Matches (plain_table (history_by h cs) n r)) (sym (call_step (onward_all h cs) (all_worded cs h long) (read n r)).tells)
    (since_reading (world_of (onward_all h cs)) (history_by h cs) (station_run h long cs p e) n o r inside)
