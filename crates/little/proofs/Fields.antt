-- Records, which are fields one behind the other: each field is read back, and stores field by field write the record.
-- Assumes nothing.
use mathlib.Core.Path.{◌≡◌, refl, sym, ap, ap₂, ◌∙◌}
use mathlib.Core.List.{List, [], ◌∷◌, ◌++◌, append_assoc}
use Prim.Native.Nat.{ℕ, zero, suc, ◌+◌, ◌^◌, ◌≤◌, ◌<◌}
use mathlib.Core.Bool.{Bool, true, ◌&&◌}
use native.Mathlib.Nat.{add-zero, add_assoc, le_of_suc-le-suc, not-suc-le-zero}
use native.Mathlib.Omega.{arith}
use lib.ListN.{length, get_or, length-append}
use lib.Seq.{sets}
use lib.Dec.{eqb}
use borrow.Author.Tests.{eq-eqb}
use Rattle.little.specs.Little.{little, digits, part, bytes_of, holds}
use Rattle.little.proofs.Digits.{length_digits, little_digits}
use Rattle.little.proofs.Parts.{part_front, part_skip, part_part, part_all, sets_append, part_sets_below, part_sets_above, little_sets}

-- where field i begins
abbrev pub offset : ℕ → List (ℕ × ℕ) → ℕ
offset zero fs = 0
offset (suc i) [] = 0
offset (suc i) (f ∷ fs) = f.0 + offset i fs

abbrev pub field : ℕ → List (ℕ × ℕ) → ℕ × ℕ
field i fs = get_or fs i (0, 0)

-- how many bytes the fields take
abbrev pub widths : List (ℕ × ℕ) → ℕ
widths [] = 0
widths (f ∷ fs) = f.0 + widths fs

pub length_bytes_of : (fs : List (ℕ × ℕ)) → length (bytes_of fs) ≡ widths fs
unfolding bytes_of
length_bytes_of [] = refl
length_bytes_of (f ∷ fs) = omega (arith, length-append (digits f.0 f.1) (bytes_of fs), length_digits f.0 f.1, length_bytes_of fs)

-- each field is read back
pub little_field : (i : ℕ) (fs : List (ℕ × ℕ)) (rest : List ℕ) → i < length fs → (field i fs).1 < 256 ^ (field i fs).0
    → little (part (offset i fs) (field i fs).0 (bytes_of fs ++ rest)) ≡ (field i fs).1
unfolding bytes_of
little_field i [] rest h b = absurd (not-suc-le-zero h)
little_field zero (f ∷ fs) rest h b =
    ap (λ (l : List ℕ). little (part 0 f.0 l)) (append_assoc (digits f.0 f.1) (bytes_of fs) rest)
    ∙ ap little (part_front (digits f.0 f.1) (bytes_of fs ++ rest) f.0 (length_digits f.0 f.1))
    ∙ little_digits f.0 f.1 b
little_field (suc i) (f ∷ fs) rest h b =
    ap (λ (l : List ℕ). little (part (f.0 + offset i fs) (field i fs).0 l)) (append_assoc (digits f.0 f.1) (bytes_of fs) rest)
    ∙ ap little (part_skip (digits f.0 f.1) (bytes_of fs ++ rest) f.0 (offset i fs) (field i fs).0 (length_digits f.0 f.1))
    ∙ little_field i fs rest (le_of_suc-le-suc h) b

-- the stores that write a record field by field, from offset k of the place at; on fields that are written out it computes to them
abbrev pub writes : List ℕ → ℕ → ℕ → List (ℕ × ℕ) → List ℕ → List ℕ
writes s at k [] rest = sets s (at + k) rest
writes s at k (f ∷ fs) rest = writes (sets s (at + k) (digits f.0 f.1)) at (k + f.0) fs rest

pub writes_sets : (s : List ℕ) (at k : ℕ) (fs : List (ℕ × ℕ)) (rest : List ℕ) → writes s at k fs rest ≡ sets s (at + k) (bytes_of fs ++ rest)
unfolding bytes_of
writes_sets s at k [] rest = refl
writes_sets s at k (f ∷ fs) rest =
    let d : List ℕ = digits f.0 f.1 in
    writes_sets (sets s (at + k) d) at (k + f.0) fs rest
    ∙ ap (λ (n : ℕ). sets (sets s (at + k) d) n (bytes_of fs ++ rest)) (omega (arith, length_digits f.0 f.1))
    ∙ sym (sets_append s (at + k) d (bytes_of fs ++ rest))
    ∙ ap (sets s (at + k)) (sym (append_assoc d (bytes_of fs) rest))

-- each value fits its width
abbrev pub Fit : List (ℕ × ℕ) → Type 0
Fit [] = Unit {0}
Fit (f ∷ fs) = (f.1 < 256 ^ f.0) × Fit fs

-- bytes that are those of the fields hold the fields
pub holds_bytes_of : (s : List ℕ) (at : ℕ) (fs : List (ℕ × ℕ)) → Fit fs → part at (widths fs) s ≡ bytes_of fs → holds s at fs ≡ true
unfolding holds bytes_of
holds_bytes_of s at [] h e = refl
holds_bytes_of s at (f ∷ fs) h e =
    rw (eq-eqb (little (part at f.0 s)) f.1 (ap little front ∙ little_digits f.0 f.1 h.0))
    (holds_bytes_of s (at + f.0) fs h.1 back)
  where
    front : part at f.0 s ≡ digits f.0 f.1
    front =
        ap (λ (n : ℕ). part n f.0 s) (sym (add-zero at))
        ∙ sym (part_part 0 f.0 at (f.0 + widths fs) s (omega arith))
        ∙ ap (part 0 f.0) e
        ∙ part_front (digits f.0 f.1) (bytes_of fs) f.0 (length_digits f.0 f.1)

    back : part (at + f.0) (widths fs) s ≡ bytes_of fs
    back =
        sym (part_part f.0 (widths fs) at (f.0 + widths fs) s (omega arith))
        ∙ ap (part f.0 (widths fs)) e
        ∙ ap (λ (n : ℕ). part n (widths fs) (digits f.0 f.1 ++ bytes_of fs)) (sym (add-zero f.0))
        ∙ part_skip (digits f.0 f.1) (bytes_of fs) f.0 0 (widths fs) (length_digits f.0 f.1)
        ∙ part_all (widths fs) (bytes_of fs) (omega (arith, length_bytes_of fs))

pub bytes_of_append : (fs gs : List (ℕ × ℕ)) → bytes_of (fs ++ gs) ≡ bytes_of fs ++ bytes_of gs
unfolding bytes_of
bytes_of_append [] gs = refl
bytes_of_append (f ∷ fs) gs =
    ap (λ (l : List ℕ). digits f.0 f.1 ++ l) (bytes_of_append fs gs) ∙ sym (append_assoc (digits f.0 f.1) (bytes_of fs) (bytes_of gs))

-- ---- a field stored anew

holds_above : (s : List ℕ) (at : ℕ) (vs : List ℕ) (a : ℕ) (fs : List (ℕ × ℕ)) → at + length vs ≤ a → holds (sets s at vs) a fs ≡ holds s a fs
unfolding holds
holds_above s at vs a [] h = refl
holds_above s at vs a (f ∷ fs) h =
    ap₂ (λ (l : List ℕ) (b : Bool). eqb (little l) f.1 && b)
    (part_sets_above a f.0 s at vs h)
    (holds_above s at vs (a + f.0) fs (omega arith))

-- the fields are held as they were before with what the field then said
pub holds_sets : (s : List ℕ) (at : ℕ) (before : List (ℕ × ℕ)) (w v : ℕ) (after : List (ℕ × ℕ))
    → v < 256 ^ w
    → at + widths before + w ≤ length s
    → holds (sets s (at + widths before) (digits w v)) at (before ++ (w, v) ∷ after)
    ≡ holds s at (before ++ (w, little (part (at + widths before) w s)) ∷ after)
unfolding holds
holds_sets s at [] w v after b h =
    rw add-zero
    (ap₂ ◌&&◌
    (eq-eqb (little (part at w (sets s at (digits w v)))) v (little_sets s at w v b (omega arith))
    ∙ sym (eq-eqb (little (part at w s)) (little (part at w s)) refl))
    (ap (λ (a : ℕ). holds (sets s a (digits w v)) (at + w) after) (add-zero at) ∙ holds_above s at (digits w v) (at + w) after (omega (arith, length_digits w v))))
holds_sets s at (f ∷ fs) w v after b h =
    rw (← add_assoc)
    (ap₂ (λ (l : List ℕ) (b : Bool). eqb (little l) f.1 && b)
    (part_sets_below at f.0 s (at + f.0 + widths fs) (digits w v) (omega arith))
    (ap (λ (a : ℕ). holds (sets s a (digits w v)) (at + f.0) (fs ++ (w, v) ∷ after)) (sym (add_assoc at f.0 (widths fs))) ∙ holds_sets s (at + f.0) fs w v after b (omega arith)))
