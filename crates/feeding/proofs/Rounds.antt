-- A reading and its answering, joined: some piece was read behind what was kept, and what both leave stands at the front. Assumes nothing.
use Prim.Native.Nat.{ℕ, suc, ◌+◌, ◌-◌, ◌≤◌}
use native.Mathlib.Omega.{arith}
use mathlib.Core.Path.{◌≡◌, refl, sym, ap, ◌∙◌}
use mathlib.Core.Bool.{Bool, false, not, ◌&&◌, true≢false}
use mathlib.Core.List.{List, [], ◌++◌, append-nil}
use lib.ListN.{length, take, drop, length-drop, take-append-drop}
use lib.Seq.{length-take-le, take-take, take-append_seam, take-append-add, drop-append_seam}
use lib.Dec.{eqb}
use Rattle.std.specs.Prelude.{Option}
use Rattle.kind.specs.Areas.{Areas}
use Rattle.script.specs.declared.Footing.{Footing}
use Rattle.script.specs.Script.{Carried, carried}
use Rattle.feeding.specs.declared.Filled.{Filled}
use Rattle.feeding.specs.declared.Fed.{Fed}
use Rattle.feeding.specs.Feeding.{Behind, Fills, Stand, stand, run_of, after, Serves, is_none, Rounds}
use Rattle.feeding.proofs.Readings.{longer}
use Rattle.feeding.proofs.Served.{after_left, after_short}

-- nothing could be read: nothing is done
pub round_failed : (s : Footing) (a : Areas) (kept : ℕ) (before behind : List ℕ) (room : ℕ) (f : Option Filled) → kept ≤ length before → Fills kept before behind f
    → Rounds (carried s a) kept before room (record { footing = s; kept = kept; more = false }) a behind
unfolding after
round_failed s a kept before behind room f h fills = record {
  piece = [];
  answers = record {
    runs = 0;
    carries = refl;
    keeps = sym (ap length (append-nil (take kept before)) ∙ length-take-le kept before h);
    written = false;
    more = refl;
    all = λ e. absurd (true≢false (sym e));
  };
  keeps = fills.keeps ∙ sym (append-nil (take kept before));
}

-- a part of a front
front_part : (i n : ℕ) (l : List ℕ) → i ≤ length l → drop i (take (i + n) l) ≡ take n (drop i l)
front_part i n l h =
    ap (λ (m : ℕ). drop m (take (m + n) l)) (sym (length-take-le i l h))
    ∙ ap (λ (s : List ℕ). drop (length (take i l)) (take (length (take i l) + n) s)) (sym (take-append-drop i l))
    ∙ ap (drop (length (take i l))) (take-append-add (take i l) (drop i l) n)
    ∙ drop-append_seam (take i l) (take n (drop i l))

-- some text was read, and answered
module _ (k : Carried) (kept : ℕ) (before text : List ℕ) (room : ℕ) (f : Filled) (r : Fed) (left : Areas)
    (long : length text ≡ length before) (same₀ : take kept text ≡ take kept before) (fills : Behind kept before f) (answered : Serves f.last room (stand k (take f.end text)) r left) where
  abbrev read : List ℕ
  read = drop kept (take f.end text)

  ends : length (take f.end text) ≡ f.end
  ends = length-take-le f.end text (omega (arith, long, fills.within))

  text_is : take f.end text ≡ take kept before ++ read
  text_is =
      sym (take-append-drop kept (take f.end text))
      ∙ ap (λ (l : List ℕ). l ++ drop kept (take f.end text)) (take-take kept f.end text fills.begins ∙ same₀)

  last_is : f.last ≡ is_none read
  last_is =
      fills.ends
      ∙ ap (λ (n : ℕ). eqb n kept) more
      ∙ sym (longer kept (f.end - kept))
      ∙ ap (λ (n : ℕ). eqb n 0) (sym (length-drop kept (take f.end text) ∙ ap (λ (n : ℕ). n - kept) ends))
    where
      more : f.end ≡ kept + (f.end - kept)
      more = omega (arith, fills.begins)

  same : (n : ℕ) → after f.last room (stand k (take f.end text)) n ≡ after (is_none read) room (stand k (take kept before ++ read)) n
  same n =
      ap (λ (b : Bool). after b room (stand k (take f.end text)) n) last_is
      ∙ ap (λ (l : List ℕ). after (is_none read) room (stand k l) n) text_is

  answers : Serves (is_none read) room (stand k (take kept before ++ read)) r left
  answers = record {
    runs = answered.runs;
    carries = answered.carries ∙ ap (λ (s : Stand). s.on) (same answered.runs);
    keeps = answered.keeps ∙ ap (λ (s : Stand). length s.left) (same answered.runs);
    written = answered.written;
    more = answered.more ∙ ap (λ (b : Bool). answered.written && not b) last_is;
    all = λ yes. by (answered.all yes);
  }
    where
      by : (n : ℕ) × (answered.runs ≡ suc n) × ((run_of f.last room (after f.last room (stand k (take f.end text)) n)).taken ≡ 0)
          → (n : ℕ) × (answered.runs ≡ suc n) × ((run_of (is_none read) room (after (is_none read) room (stand k (take kept before ++ read)) n)).taken ≡ 0)
      by (n, is, none) = (n, is, ap (λ (s : Stand). (run_of (is_none read) room s).taken) (sym (same n)) ∙ ap (λ (b : Bool). (run_of b room (after f.last room (stand k (take f.end text)) n)).taken) (sym last_is) ∙ none)

  -- no more is kept than there is
  pub kept_within : r.kept ≤ f.end
  kept_within = omega (arith, answered.keeps, after_short f.last room (stand k (take f.end text)) answered.runs, ends)

  pub round_read : (behind : List ℕ)
      → behind ≡ take (f.end - (f.end - r.kept)) (drop (f.end - r.kept) text) ++ drop (f.end - (f.end - r.kept)) text
      → Rounds k kept before room r left behind
  unfolding answers
  round_read behind e = record {
    piece = read;
    answers = answers;
    keeps =
        ap (take r.kept) (e ∙ ap (λ (n : ℕ). take n (drop (f.end - r.kept) text) ++ drop n text) back)
        ∙ ap (λ (n : ℕ). take n (take r.kept (drop (f.end - r.kept) text) ++ drop r.kept text)) (sym full)
        ∙ take-append_seam (take r.kept (drop (f.end - r.kept) text)) (drop r.kept text)
        ∙ sym (front_part (f.end - r.kept) r.kept text (omega (arith, long, fills.within)))
        ∙ ap (λ (n : ℕ). drop (f.end - r.kept) (take n text)) whole
        ∙ ap (λ (n : ℕ). drop n (take f.end text)) rest
        ∙ after_left f.last room (stand k (take f.end text)) answered.runs
        ∙ ap (λ (s : Stand). s.left) (same answered.runs);
  }
    where
      back : f.end - (f.end - r.kept) ≡ r.kept
      back = omega (arith, kept_within)

      whole : f.end - r.kept + r.kept ≡ f.end
      whole = omega (arith, kept_within)

      full : length (take r.kept (drop (f.end - r.kept) text)) ≡ r.kept
      full = length-take-le r.kept (drop (f.end - r.kept) text) (omega (arith, length-drop (f.end - r.kept) text, kept_within, long, fills.within))

      rest : f.end - r.kept ≡ length (take f.end text) - length (after f.last room (stand k (take f.end text)) answered.runs).left
      rest = omega (arith, ends, answered.keeps)
