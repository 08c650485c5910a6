-- What the lines say of spoiled sessions is what specs/Observers.antt says: an update or a delete of the session answered 10 since it began
-- ("02, T-07"). Assumes nothing.
use Prim.Native.Nat.{ℕ}
use mathlib.Core.Path.{◌≡◌, refl, sym, ap, ◌∙◌}
use mathlib.Core.Logic.{◌⊎◌, inl, inr}
use mathlib.Core.Bool.{Bool, true, false, not, ◌&&◌, ◌||◌, or-true}
use mathlib.Core.List.{List, [], ◌∷◌, ◌++◌}
use native.Mathlib.Omega.{arith}
use lib.Dec.{eqb}
use borrow.Author.Tests.{eqb-true, eq-eqb, not-true}
use Rattle.ground.proofs.Ranges.{and_true_left, and_true_right}
use Rattle.machine.specs.Table.{Body}
use Rattle.machine.specs.Lines.{Call, format, opens, seal, begin, next, insert, update, delete, read, commit, withdraw, sweep, Verdict, refused, done, Line}
use Rattle.machine.proofs.Basics.{true_false}
use Rattle.history.specs.Spoiled.{replaces, is_ten, loses, begins, spoiled_from}
use Rattle.history.specs.Observers.{Replaces, EveryReplaces, NotBegun, TenSince, SpoiledExactly}

-- ---- one line

pub every_replaces : EveryReplaces
every_replaces n c = (is c, told c)
  where
    is : (c : Call) → replaces n c ≡ true → Replaces n c
    is (update s r b) e = inl (r, b, ap (λ (x : ℕ). update x r b) (sym (eqb-true n s e)))
    is (delete s r) e = inr (r, ap (λ (x : ℕ). delete x r) (sym (eqb-true n s e)))
    is (format d u s) e = true_false false e refl
    is opens e = true_false false e refl
    is seal e = true_false false e refl
    is begin e = true_false false e refl
    is (next s) e = true_false false e refl
    is (insert s b) e = true_false false e refl
    is (read s r) e = true_false false e refl
    is (commit s) e = true_false false e refl
    is (withdraw s) e = true_false false e refl
    is (sweep r q) e = true_false false e refl

    told : (c : Call) → Replaces n c → replaces n c ≡ true
    told c (inl (r, b, e)) = ap (replaces n) e ∙ eq-eqb n n refl
    told c (inr (r, e)) = ap (replaces n) e ∙ eq-eqb n n refl

-- an answer 10
ten : (a : Verdict) → is_ten a ≡ true → a ≡ refused 10
ten (refused k) e = ap refused (eqb-true k 10 e)
ten (done a b y) e = true_false false e refl

module _ (n : ℕ) (l : Line) where
  -- what does not begin session n
  unbegun : begins n l ≡ false → (b : ℕ) (y : Body) → l.call ≡ begin → l.answer ≡ done n b y → ⊥
  unbegun e b y c a = true_false (begins n l) (told c a) e
    where
      told : l.call ≡ begin → l.answer ≡ done n b y → begins n l ≡ true
      told c a = rw (c, a) (eq-eqb n n refl)

  -- and the other way
  not_begins : ((b : ℕ) (y : Body) → l.call ≡ begin → l.answer ≡ done n b y → ⊥) → begins n l ≡ false
  not_begins f = by l.call l.answer refl refl
    where
      answer_of : (a : Verdict) → l.call ≡ begin → l.answer ≡ a → begins n (record { call = begin; answer = a }) ≡ false
      answer_of (refused k) c e = refl
      answer_of (done a b y) c e = not_same (eqb n a) refl
        where
          not_same : (t : Bool) → eqb n a ≡ t → t ≡ false
          not_same true same = absurd (f b y c (e ∙ ap (λ (x : ℕ). done x b y) (sym (eqb-true n a same))))
          not_same false same = refl

      by : (c : Call) (a : Verdict) → l.call ≡ c → l.answer ≡ a → begins n (record { call = c; answer = a }) ≡ false
      by begin a c e = answer_of a c e
      by (format d u s) a c e = refl
      by opens a c e = refl
      by seal a c e = refl
      by (next x) a c e = refl
      by (insert x y) a c e = refl
      by (update x q y) a c e = refl
      by (delete x q) a c e = refl
      by (read x q) a c e = refl
      by (commit x) a c e = refl
      by (withdraw x) a c e = refl
      by (sweep first quota) a c e = refl

-- ---- all of them

module _ (n : ℕ) where
  -- the line that says so is one of these, or there was one before them and none of these begins the session
  found : (ls : List Line) (b : Bool) → spoiled_from b n ls ≡ true → ((b ≡ true) × NotBegun n ls) ⊎ TenSince n ls
  found [] b e = inl (e, tt)
  found (l ∷ ls) b e = by (found ls (not (begins n l) && (loses n l || b)) e)
    where
      here : (t : Bool) → loses n l ≡ t → begins n l ≡ false → (t || b) ≡ true → NotBegun n ls → ((b ≡ true) × NotBegun n (l ∷ ls)) ⊎ TenSince n (l ∷ ls)
      here true lost apart or since =
          inr (record {
            front = [];
            line = l;
            back = ls;
            are = refl;
            replacing = (every_replaces n l.call).0 (and_true_right (is_ten l.answer) (replaces n l.call) lost);
            answered = ten l.answer (and_true_left (is_ten l.answer) (replaces n l.call) lost);
            since = since;
          })
      here false lost apart or since = inl (or, (unbegun n l apart, since))

      by : (((not (begins n l) && (loses n l || b)) ≡ true) × NotBegun n ls) ⊎ TenSince n ls → ((b ≡ true) × NotBegun n (l ∷ ls)) ⊎ TenSince n (l ∷ ls)
      by (inl (was, since)) =
          here (loses n l) refl (not-true (begins n l) (and_true_left (not (begins n l)) (loses n l || b) was))
          (and_true_right (not (begins n l)) (loses n l || b) was) since
      by (inr s) =
          inr (record {
            front = l ∷ s.front;
            line = s.line;
            back = s.back;
            are = ap (λ (k : List Line). l ∷ k) s.are;
            replacing = s.replacing;
            answered = s.answered;
            since = s.since;
          })

  -- it stays so until the session begins anew
  stays : (ls : List Line) → NotBegun n ls → spoiled_from true n ls ≡ true
  stays [] since = refl
  stays (l ∷ ls) since =
      ap (λ (t : Bool). spoiled_from (not t && (loses n l || true)) n ls) (not_begins n l since.0)
      ∙ ap (λ (t : Bool). spoiled_from t n ls) (or-true (loses n l))
      ∙ stays ls since.1

  -- a line that says so, whatever was before
  says : (front : List Line) (l : Line) (back : List Line) (b : Bool) → Replaces n l.call → l.answer ≡ refused 10 → NotBegun n back
      → spoiled_from b n (front ++ (l ∷ back)) ≡ true
  says [] l back b mine e since =
      ap (λ (t : Bool). spoiled_from (not t && (loses n l || b)) n back) apart
      ∙ ap (λ (t : Bool). spoiled_from (t || b) n back) lost
      ∙ stays back since
    where
      lost : loses n l ≡ true
      lost = ap (λ (a : Verdict). is_ten a && replaces n l.call) e ∙ (every_replaces n l.call).1 mine

      apart : begins n l ≡ false
      apart = not_begins n l (λ b y c a. (let z : ◌≡◌ {A = ℕ} 0 1 = cc in absurd (omega arith)))
  says (k ∷ front) l back b mine e since = says front l back (not (begins n k) && (loses n k || b)) mine e since

pub spoiled_exactly : SpoiledExactly
spoiled_exactly n ls = (λ e. by (found n ls false e), λ s. ap (λ (k : List Line). spoiled_from false n k) s.are ∙ says n s.front s.line s.back false s.replacing s.answered s.since)
  where
    by : ((false ≡ true) × NotBegun n ls) ⊎ TenSince n ls → TenSince n ls
    by (inl (e, since)) = true_false false e refl
    by (inr s) = s
