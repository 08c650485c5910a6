-- One call on the part of the areas that it is lent. Assumes nothing.
use Prim.Native.Nat.{ℕ, ◌+◌, ◌≤◌}
use native.Mathlib.Omega.{arith}
use mathlib.Core.Path.{◌≡◌, refl, sym, ap, ◌∙◌}
use mathlib.Core.Bool.{Bool, true, false, ◌&&◌, cond}
use mathlib.Core.List.{List, ◌++◌}
use lib.ListN.{length, take, drop}
use lib.Seq.{sets, length-take-le}
use lib.Dec.{eqb, leb}
use borrow.Author.Tests.{leb-true}
use Rattle.kind.specs.Areas.{Areas, areas}
use Rattle.line.specs.declared.Command.{Command}
use Rattle.playing.specs.declared.Played.{Played}
use Rattle.calls.specs.Calls.{Left}
use Rattle.playing.specs.Playing.{play_rule, line_of, Plays}
use Rattle.script.specs.declared.Footing.{Footing}
use Rattle.script.specs.Script.{lent, is_format, data_lent, undo_lent, Carried, carried, footing, left_in, stepped, Steps}

-- what is lent lies in the area
pub lent_inside : (r n : ℕ) (s : List ℕ) → r ≡ lent n s → r ≤ length s
unfolding lent
lent_inside r n s e = by (leb n (length s)) refl e
  where
    by : (t : Bool) → leb n (length s) ≡ t → r ≡ cond t n 0 → r ≤ length s
    by true is w = omega (arith, leb-true n (length s) is, w)
    by false is w = omega (arith, w)

pub lent_long : (r n : ℕ) (s : List ℕ) → r ≡ lent n s → r ≡ length (take r s)
lent_long r n s e = sym (length-take-le r s (lent_inside r n s e))

-- what is chosen, by whether the call is a format
pub chosen : (r : ℕ) (b f : Bool) (k h z : ℕ) → r ≡ cond b k h → b ≡ f → k ≡ z → r ≡ cond f z h
chosen r b f k h z e is w = e ∙ ap (λ (t : Bool). cond t k h) is ∙ ap (λ (i : ℕ). cond f i h) w

pub chosen_2 : (r : ℕ) (b f t : Bool) (k h : ℕ) → r ≡ cond (b && t) k h → b ≡ f → r ≡ cond (f && t) k h
chosen_2 r b f t k h e is = e ∙ ap (λ (i : Bool). cond (i && t) k h) is

module _ (s : Footing) (d u st : List ℕ) (c : Command) (n m : ℕ) where
  -- what the call leaves of what is lent
  left_in_lem : n ≡ data_lent c s d → m ≡ undo_lent c s u
      → play_rule (areas (take n d) (take m u) st) s.desk c ≡ left_in (carried s (areas d u st)) c
  unfolding left_in
  left_in_lem e f =
      ap (λ (k : ℕ). play_rule (areas (take k d) (take m u) st) s.desk c) e
      ∙ ap (λ (k : ℕ). play_rule (areas (take (data_lent c s d) d) (take k u) st) s.desk c) f

  -- what is carried on from it
  carry : (l : Left) (p : Played) (d' u' s' : List ℕ) (x y : ℕ)
      → p.desk ≡ l.desk
      → p.code ≡ l.code
      → areas d' u' s' ≡ l.lent
      → x ≡ cond (is_format c.verb && eqb p.code 0) n s.«data»
      → y ≡ cond (is_format c.verb && eqb p.code 0) m s.undo
      → carried (record { desk = p.desk; «data» = x; undo = y; long = false }) (areas (d' ++ drop n d) (u' ++ drop m u) s')
      ≡ carried (footing l (is_format c.verb) n m s) (areas (l.lent.«data» ++ drop n d) (l.lent.undo ++ drop m u) l.lent.status)
  carry l p d' u' s' x y desk code left hx hy =
      let hd : d' ≡ l.lent.«data» = ap (λ (a : Areas). a.«data») left in
      let hu : u' ≡ l.lent.undo = ap (λ (a : Areas). a.undo) left in
      let hs : s' ≡ l.lent.status = ap (λ (a : Areas). a.status) left in
      rw (hx, hy, desk, code, hd, hu, hs) refl

  pub steps : (at : ℕ) (buffer : List ℕ) (p : Played) (d' u' s' behind : List ℕ) (x y : ℕ)
      → n ≡ data_lent c s d
      → m ≡ undo_lent c s u
      → Plays c.verb (play_rule (areas (take n d) (take m u) st) s.desk c) at buffer p (areas d' u' s') behind
      → x ≡ cond (is_format c.verb && eqb p.code 0) n s.«data»
      → y ≡ cond (is_format c.verb && eqb p.code 0) m s.undo
      → Steps (carried s (areas d u st)) c at buffer
      (record { footing = record { desk = p.desk; «data» = x; undo = y; long = false }; end = p.end })
      (areas (d' ++ drop n d) (u' ++ drop m u) s')
      behind
  unfolding stepped
  steps at buffer p d' u' s' behind x y e f plays hx hy =
      record {
        carries =
            carry (left_in (carried s (areas d u st)) c) p d' u' s' x y
            (plays.hands ∙ ap (λ (l : Left). l.desk) is)
            (plays.answers ∙ ap (λ (l : Left). l.code) is)
            (plays.leaves ∙ ap (λ (l : Left). l.lent) is)
            hx
            hy
            ∙ placed;
        ends = plays.ends ∙ ap (λ (l : Left). at + length (line_of c.verb l)) is;
        writes = plays.writes ∙ ap (λ (l : Left). sets buffer at (line_of c.verb l)) is;
        within = plays.within;
      }
    where
      is : play_rule (areas (take n d) (take m u) st) s.desk c ≡ left_in (carried s (areas d u st)) c
      is = left_in_lem e f

      on : ℕ → ℕ → Carried
      on a b =
          let l = left_in (carried s (areas d u st)) c in
          carried (footing l (is_format c.verb) a b s) (areas (l.lent.«data» ++ drop a d) (l.lent.undo ++ drop b u) l.lent.status)

      placed : on n m ≡ on (data_lent c s d) (undo_lent c s u)
      placed = ap (λ (k : ℕ). on k m) e ∙ ap (on (data_lent c s d)) f
