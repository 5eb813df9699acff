-- Laws of the scans over marks: one mark more, and the end. Assumes nothing.
use Prim.Native.Nat.{ℕ, zero, suc, ◌+◌, ◌-◌, ◌≤◌, ◌<◌}
use mathlib.Core.Path.{◌≡◌, refl, sym, ap, ap₂, ◌∙◌}
use mathlib.Core.Bool.{Bool, true, false, not, cond}
use mathlib.Core.List.{List, [], ◌∷◌, ◌++◌}
use native.Mathlib.Omega.{arith}
use native.Mathlib.Numerals.{add-one}
use borrow.Author.Tests.{eq-eqb, ne_eqb}
use lib.ListN.{length, get_or, take, drop, set, replicate, length-drop, drop_of_length-le}
use lib.Seq.{drop-cons, take-nil, take_all, take-suc, set_at, append_snoc, length-take-le}
use Rattle.octets.specs.Search.{count, every}
use Rattle.octets.proofs.Bools.{cond_yes, cond_no, and-on, and-off}
use Rattle.octets.proofs.Searching.{every-nil, count_yes, count_no}
use Rattle.limits.specs.Limits.{most_near}
use Rattle.lookup_marks.specs.Marks.{idle, flying, answered, failed, marked, live, twenty_of, is_over, pick, idle_of, flights_of, sent_of, ranks_of}
use Rattle.lookup_marks.specs.declared.Ranks.{Ranks}

-- ---- the ranks of those not failed, from rank i on
pub live_end : (i : ℕ) (ms : List ℕ) → length ms ≤ i → live i (drop i ms) ≡ []
unfolding live
live_end i ms h = rw (drop_of_length-le ms h)

pub live-failed : (ms : List ℕ) (i : ℕ) → i < length ms → get_or ms i 0 ≡ failed → live i (drop i ms) ≡ live (i + 1) (drop (i + 1) ms)
unfolding live
live-failed ms i h e = rw (add-one i, drop-cons ms i 0 h, eq-eqb (get_or ms i 0) failed e)

pub live-other : (ms : List ℕ) (i : ℕ) → i < length ms → (get_or ms i 0 ≡ failed → ⊥) → live i (drop i ms) ≡ i ∷ live (i + 1) (drop (i + 1) ms)
unfolding live
live-other ms i h e = rw (add-one i, drop-cons ms i 0 h, ne_eqb (get_or ms i 0) failed e)

-- of a list's first elements, the first and the others
take_more : (left : ℕ) (x : ℕ) (l : List ℕ) → (left ≡ 0 → ⊥) → take left (x ∷ l) ≡ x ∷ take (left - 1) l
take_more zero x l h = absurd (h refl)
take_more (suc k) x l h = let e : suc k - 1 ≡ k = omega arith in rw e

take_none : (left : ℕ) (l : List ℕ) → left ≡ 0 → take left l ≡ []
take_none left l e = rw e

-- ---- over: the first `left` of those not failed, from rank i on, have answered
unfoldable pub Still : List ℕ → ℕ → ℕ → Bool
Still ms left i = every (marked answered ms) (take left (live i (drop i ms)))

pub still-start : (ms : List ℕ) → Still ms most_near 0 ≡ is_over ms
unfolding Still is_over twenty_of
still-start ms = refl

pub still-none : (ms : List ℕ) (left i : ℕ) → left ≡ 0 → Still ms left i ≡ true
unfolding Still
still-none ms left i e = ap (every (marked answered ms)) (take_none left (live i (drop i ms)) e) ∙ every-nil (marked answered ms)

pub still-end : (ms : List ℕ) (left i : ℕ) → length ms ≤ i → Still ms left i ≡ true
unfolding Still
still-end ms left i h = rw (live_end i ms h) (ap (every (marked answered ms)) (take-nil left) ∙ every-nil (marked answered ms))

module _ (ms : List ℕ) (left i : ℕ) (h : i < length ms) where
  pub still-failed : get_or ms i 0 ≡ failed → Still ms left i ≡ Still ms left (i + 1)
  unfolding Still
  still-failed e = rw (live-failed ms i h e)

  split : (left ≡ 0 → ⊥) → (get_or ms i 0 ≡ failed → ⊥) → take left (live i (drop i ms)) ≡ i ∷ take (left - 1) (live (i + 1) (drop (i + 1) ms))
  split z e = ap (take left) (live-other ms i h e) ∙ take_more left i (live (i + 1) (drop (i + 1) ms)) z

  pub still-answered : (left ≡ 0 → ⊥) → get_or ms i 0 ≡ answered → Still ms left i ≡ Still ms (left - 1) (i + 1)
  unfolding Still every
  still-answered z e =
      ap (every (marked answered ms)) (split z (λ q. bad q))
      ∙ and-on (marked answered ms i) _ (eq-eqb (get_or ms i 0) answered e)
    where
      bad : get_or ms i 0 ≡ failed → ⊥
      bad q = omega arith

  pub still_open : (left ≡ 0 → ⊥) → (get_or ms i 0 ≡ failed → ⊥) → (get_or ms i 0 ≡ answered → ⊥) → Still ms left i ≡ false
  unfolding Still every
  still_open z f e = ap (every (marked answered ms)) (split z f) ∙ and-off (marked answered ms i) _ (ne_eqb (get_or ms i 0) answered e)

-- ---- the nearest idle one of them
unfoldable pub Pick : List ℕ → ℕ → ℕ → ℕ
Pick ms left i = pick (marked idle ms) (length ms) (take left (live i (drop i ms)))

pub pick-start : (ms : List ℕ) → Pick ms most_near 0 ≡ idle_of ms
unfolding Pick idle_of twenty_of
pick-start ms = refl

pub pick-none : (ms : List ℕ) (left i : ℕ) → left ≡ 0 → Pick ms left i ≡ length ms
unfolding Pick pick
pick-none ms left i e = ap (pick (marked idle ms) (length ms)) (take_none left (live i (drop i ms)) e)

pub pick_end : (ms : List ℕ) (left i : ℕ) → length ms ≤ i → Pick ms left i ≡ length ms
unfolding Pick pick
pick_end ms left i h = rw (live_end i ms h) (ap (pick (marked idle ms) (length ms)) (take-nil left))

module _ (ms : List ℕ) (left i : ℕ) (h : i < length ms) where
  pub pick-failed : get_or ms i 0 ≡ failed → Pick ms left i ≡ Pick ms left (i + 1)
  unfolding Pick
  pick-failed e = rw (live-failed ms i h e)

  pub pick-idle : (left ≡ 0 → ⊥) → get_or ms i 0 ≡ idle → Pick ms left i ≡ i
  unfolding Pick pick
  pick-idle z e =
      ap (pick (marked idle ms) (length ms)) (split ms left i h z (λ q. bad q))
      ∙ cond_yes (marked idle ms i) i _ (eq-eqb (get_or ms i 0) idle e)
    where
      bad : get_or ms i 0 ≡ failed → ⊥
      bad q = omega arith

  pub pick_other : (left ≡ 0 → ⊥) → (get_or ms i 0 ≡ idle → ⊥) → (get_or ms i 0 ≡ failed → ⊥) → Pick ms left i ≡ Pick ms (left - 1) (i + 1)
  unfolding Pick pick
  pick_other z e f =
      ap (pick (marked idle ms) (length ms)) (split ms left i h z f)
      ∙ cond_no (marked idle ms i) i _ (ne_eqb (get_or ms i 0) idle e)

-- ---- counts
module _ (m : ℕ) (ms : List ℕ) (i : ℕ) where
  pub mark-end : length ms ≤ i → i ≤ length ms → count i (marked m ms) ≡ count (length ms) (marked m ms)
  mark-end h g = let e : i ≡ length ms = omega arith in rw e

  pub mark-one : get_or ms i 0 ≡ m → count (i + 1) (marked m ms) ≡ count i (marked m ms) + 1
  mark-one e = count_yes (marked m ms) i (eq-eqb (get_or ms i 0) m e)

  pub mark-none : (get_or ms i 0 ≡ m → ⊥) → count (i + 1) (marked m ms) ≡ count i (marked m ms)
  mark-none e = count_no (marked m ms) i (ne_eqb (get_or ms i 0) m e)

pub flights-are : (ms : List ℕ) {r : ℕ} → r ≡ count (length ms) (marked flying ms) → r ≡ flights_of ms
unfolding flights_of
flights-are ms e = e

-- a number passes or it doesn't
both-counts : (p : ℕ → Bool) (n : ℕ) → count n p + count n (λ r. not (p r)) ≡ n
unfolding count
both-counts p zero = refl
both-counts p (suc n) = go (p n) (both-counts p n)
  where
    go : (b : Bool) → count n p + count n (λ r. not (p r)) ≡ n → count n p + cond b 1 0 + (count n (λ r. not (p r)) + cond (not b) 1 0) ≡ suc n
    go true h = omega arith
    go false h = omega arith

pub sent-rest : (ms : List ℕ) {r : ℕ} → r ≡ count (length ms) (marked idle ms) → length ms - r ≡ sent_of ms
unfolding sent_of
sent-rest ms e = omega (arith, both-counts (marked idle ms) (length ms))

abbrev made : List ℕ → ℕ → Ranks
made a m = record { at = a; n = m }

-- ---- the ranks written into an array: the first n of them stand there, and the others are those from rank i on
pub record Filling (ms at : List ℕ) (n i : ℕ) : Type 0 where
  pub within : i ≤ length ms
  pub some : n ≤ most_near
  pub done : n ≤ length (twenty_of ms)
  pub written : at ≡ take n (twenty_of ms) ++ replicate (most_near - n) 0
  pub rest : drop n (twenty_of ms) ≡ take (most_near - n) (live i (drop i ms))

pub fill_start : (ms : List ℕ) → Filling ms (replicate most_near 0) 0 0
unfolding twenty_of
fill_start ms = record { within = omega arith; some = omega arith; done = omega arith; written = refl; rest = refl }

module _ (ms at : List ℕ) (n i : ℕ) (f : Filling ms at n i) where
  pub fill-failed : i < length ms → get_or ms i 0 ≡ failed → Filling ms at n (i + 1)
  fill-failed h e =
      record {
        within = omega arith;
        some = f.some;
        done = f.done;
        written = f.written;
        rest = f.rest ∙ ap (take (most_near - n)) (live-failed ms i h e);
      }

  next : i < length ms → (n ≡ most_near → ⊥) → (get_or ms i 0 ≡ failed → ⊥) → drop n (twenty_of ms) ≡ i ∷ take (most_near - (n + 1)) (live (i + 1) (drop (i + 1) ms))
  next h z e =
      let q : most_near - n - 1 ≡ most_near - (n + 1) = omega arith in
      let w : most_near - n ≡ 0 → ⊥ = λ y. omega (arith, f.some) in
      f.rest ∙ ap (take (most_near - n)) (live-other ms i h e) ∙ take_more (most_near - n) i (live (i + 1) (drop (i + 1) ms)) w ∙ rw q

  pub fill_one : i < length ms → (n ≡ most_near → ⊥) → (get_or ms i 0 ≡ failed → ⊥) → Filling ms (set at n i) (n + 1) (i + 1)
  fill_one h z e = go (next h z e)
    where
      go : drop n (twenty_of ms) ≡ i ∷ take (most_near - (n + 1)) (live (i + 1) (drop (i + 1) ms)) → Filling ms (set at n i) (n + 1) (i + 1)
      go d =
          let k : length (twenty_of ms) - n ≡ suc (length (take (most_near - (n + 1)) (live (i + 1) (drop (i + 1) ms)))) = sym (length-drop n (twenty_of ms)) ∙ ap length d in
          let l : n < length (twenty_of ms) = omega arith in
          let c : get_or (twenty_of ms) n 0 ∷ drop (suc n) (twenty_of ms) ≡ i ∷ take (most_near - (n + 1)) (live (i + 1) (drop (i + 1) ms)) = sym (drop-cons (twenty_of ms) n 0 l) ∙ d in
          let hd : get_or (twenty_of ms) n 0 ≡ i = cc in
          let tl : drop (suc n) (twenty_of ms) ≡ take (most_near - (n + 1)) (live (i + 1) (drop (i + 1) ms)) = cc in
          record {
            within = omega arith;
            some = omega (arith, f.some);
            done = omega arith;
            written = stored l hd;
            rest = rw (add-one n) (rw (add-one n) at tl);
          }
        where
          room : most_near - n ≡ suc (most_near - (n + 1))
          room = omega (arith, f.some)

          stored : n < length (twenty_of ms) → get_or (twenty_of ms) n 0 ≡ i → set at n i ≡ take (n + 1) (twenty_of ms) ++ replicate (most_near - (n + 1)) 0
          stored l hd =
              ap (λ (x : List ℕ). set x n i) (f.written ∙ ap (λ (m : ℕ). take n (twenty_of ms) ++ replicate m 0) room)
              ∙ set_at (take n (twenty_of ms)) 0 (replicate (most_near - (n + 1)) 0) i n (length-take-le n (twenty_of ms) (omega arith))
              ∙ sym (ap (λ (x : List ℕ). x ++ replicate (most_near - (n + 1)) 0) (ap (λ (m : ℕ). take m (twenty_of ms)) (add-one n) ∙ take-suc (twenty_of ms) n 0 l ∙ ap (λ (x : ℕ). take n (twenty_of ms) ++ (x ∷ [])) hd)
              ∙ append_snoc (take n (twenty_of ms)) i (replicate (most_near - (n + 1)) 0))

  whole : drop n (twenty_of ms) ≡ [] → made at n ≡ ranks_of (twenty_of ms)
  whole d =
      let k : length (twenty_of ms) - n ≡ 0 = sym (length-drop n (twenty_of ms)) ∙ ap length d in
      let e : n ≡ length (twenty_of ms) = omega (arith, f.done) in
      let t : take n (twenty_of ms) ≡ twenty_of ms = take_all n (twenty_of ms) (omega arith) in
      let w : at ≡ twenty_of ms ++ replicate (most_near - length (twenty_of ms)) 0 =
      f.written ∙ ap (λ (x : List ℕ). x ++ replicate (most_near - n) 0) t ∙ ap (λ (m : ℕ). twenty_of ms ++ replicate (most_near - m) 0) e in
      ap₂ made w e

  pub fill-full : n ≡ most_near → made at n ≡ ranks_of (twenty_of ms)
  fill-full e = let z : most_near - n ≡ 0 = omega arith in whole (f.rest ∙ take_none (most_near - n) (live i (drop i ms)) z)

  pub fill_end : length ms ≤ i → made at n ≡ ranks_of (twenty_of ms)
  fill_end h = whole (f.rest ∙ ap (take (most_near - n)) (live_end i ms h) ∙ take-nil (most_near - n))
