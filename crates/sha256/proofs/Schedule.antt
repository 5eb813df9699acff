-- The schedule as an array that is filled word by word, and the rounds that run beside it. Assumes nothing.
use Rattle.std.proofs.Common.{◌≡◌, ℕ, zero, suc, ◌+◌, ◌-◌, ◌*◌, ◌%◌, ◌<◌, ◌≤◌, List, [], ◌∷◌, length, get_or, take, drop, set, sym, refl, ap, ◌∙◌, subst, ⊎_elim, add-zero, add_assoc, add-suc, suc-add, eq-or-lt_of_le, zero-add, add-one, arith, length-append, length-set, take_all, get_or-set_other, get_or-take, get_or-set_same, take-take, drop-drop, take-suc-set, le-ltb, lt-ltb}
use native.Mathlib.Nat.{mod-add-mod}
use lib.Seq.{take-append-le, take-nil, drop-nil, get_or_at}
use Rattle.octets.specs.Octets.{part, number}
use Rattle.sha256.specs.declared.State.{State}
use Rattle.sha256.specs.Inner.{Done, Sixteen}
use Rattle.sha256.specs.Sha256.{small_sigma0, small_sigma1, ◌⊞◌, round_constants, word_at, later, extend, schedule, turn, turns, plus, compress}

-- ---- the schedule

length-schedule : (t : ℕ) (b : List ℕ) → length (schedule t b) ≡ t
unfolding schedule extend
length-schedule zero b = refl
length-schedule (suc t) b = simp (length-append, length-schedule t b) (omega arith)

-- its first words are the shorter schedule
schedule-front : (t d : ℕ) (b : List ℕ) → take t (schedule (t + d) b) ≡ schedule t b
unfolding schedule extend
schedule-front t zero b = rw add-zero (take_all t (schedule t b) (omega (arith, length-schedule t b)))
schedule-front t (suc d) b =
    let h : t ≤ length (schedule (t + d) b) = omega (arith, length-schedule (t + d) b) in
    let ih : take t (schedule (t + d) b) ≡ schedule t b = schedule-front t d b in
    rw (add-suc, take-append-le t) ih

-- ---- a store of one more word

later-take : (t : ℕ) (w : List ℕ) → 16 ≤ t → later t (take t w) ≡ later t w
unfolding later
later-take t w h =
    let a : t - 2 < t = omega arith in
    let b : t - 7 < t = omega arith in
    let c : t - 15 < t = omega arith in
    let d : t - 16 < t = omega arith in
    simp get_or-take

-- one of the sixteen words of the block
store-early : (b w : List ℕ) (i v : ℕ) → i < 16 → i < length w → take i w ≡ schedule i b → v ≡ word_at b i
    → take (i + 1) (set w i v) ≡ schedule (i + 1) b
unfolding schedule extend
store-early b w i v h hl e ev = rw (add-one i, take-suc-set w i v hl, lt-ltb i 16 h) (cc)

-- ---- the words of a block that lies in a longer list

drop-take : (k n : ℕ) (l : List ℕ) → drop k (take (k + n) l) ≡ take n (drop k l)
drop-take zero n l = rw zero-add
drop-take (suc k) n [] = simp (take-nil, drop-nil)
drop-take (suc k) n (x ∷ l) = rw suc-add (drop-take k n l)

-- a word of the block at `at`
word_in : (s : List ℕ) (at i : ℕ) → i < 16 → word_at (part s at (at + 64)) i ≡ number (part s (at + 4 * i) (at + 4 * i + 4))
word_in s at i h =
    let a : at + 64 - at ≡ 4 * i + (64 - 4 * i) = omega arith in
    let b : 4 * i + 4 - 4 * i ≡ 4 = omega arith in
    let c : at + 4 * i + 4 - (at + 4 * i) ≡ 4 = omega arith in
    let d : 4 ≤ 64 - 4 * i = omega arith in
    rw (a, b, c, drop-take (4 * i) (64 - 4 * i) (drop at s), drop-drop, take-take 4 (64 - 4 * i) (drop (at + 4 * i) s) d)

pub load-more : (s w : List ℕ) (at i v : ℕ) → i < 16 → i < length w → take i w ≡ schedule i (part s at (at + 64))
    → v ≡ number (part s (at + 4 * i) (at + 4 * i + 4)) → take (i + 1) (set w i v) ≡ schedule (i + 1) (part s at (at + 64))
load-more s w at i v h hl e ev = store-early (part s at (at + 64)) w i v h hl e (ev ∙ sym (word_in s at i h))

-- ---- the whole schedule

-- it starts with each shorter one
front : (t : ℕ) (b : List ℕ) → t ≤ 64 → take t (schedule 64 b) ≡ schedule t b
front t b h = let n : t + (64 - t) ≡ 64 = omega arith in rw n at (schedule-front t (64 - t) b)

-- the last word of a shorter one
last_word : (t : ℕ) (b : List ℕ) → 16 ≤ t → get_or (schedule (suc t) b) t 0 ≡ later t (schedule t b)
unfolding schedule extend
last_word t b h = rw (le-ltb t 16 h) (get_or_at (schedule t b) (later t (schedule t b)) [] 0 t (length-schedule t b))

word-later : (t : ℕ) (b : List ℕ) → 16 ≤ t → t < 64 → get_or (schedule 64 b) t 0 ≡ later t (schedule 64 b)
word-later t b h u =
    let lt : t < suc t = omega arith in
    sym (get_or-take (suc t) (schedule 64 b) t 0 lt)
    ∙ ap (λ (l : List ℕ). get_or l t 0) (front (suc t) b u)
    ∙ last_word t b h
    ∙ ap (later t) (sym (front t b (omega arith)))
    ∙ later-take t (schedule 64 b) h

-- ---- rounds

-- the words of the block are loaded
pub begun : (b w : List ℕ) (s : State) → w ≡ schedule 16 b → Done b s 0 w s
unfolding turns
begun b w s e =
    record {
      size = ap length e ∙ length-schedule 16 b;
      words = λ u g h l. let m : u % 16 ≡ u = omega arith in
          rw m (ap (λ (q : List ℕ). get_or q u 0) (e ∙ sym (front 16 b (omega arith))) ∙ get_or-take 16 (schedule 64 b) u 0 (omega arith));
      state = refl;
    }

-- one more turn, with word t of the schedule
turn_more : (s v r : State) (b : List ℕ) (t x : ℕ) → v ≡ turns t (schedule 64 b) s → x ≡ get_or (schedule 64 b) t 0
    → r ≡ turn (get_or round_constants t 0) x v → r ≡ turns (t + 1) (schedule 64 b) s
unfolding turns
turn_more s v r b t x e ex er = rw (add-one t) (cc)

same_place : (t i j : ℕ) → t % 16 ≡ i → (t + j) % 16 ≡ (i + j) % 16
same_place t i j e = sym (mod-add-mod t 16 j) ∙ ap (λ (n : ℕ). (n + j) % 16) e

-- the number of rounds, written in another way
pub done_at : {b : List ℕ} {s v : State} {w : List ℕ} {t : ℕ} (u : ℕ) → Done b s t w v → t ≡ u → Done b s u w v
done_at {b} {s} {v} {w} u d e = subst (λ (n : ℕ). Done b s n w v) e d

module _ (b : List ℕ) (s v r : State) (w : List ℕ) where
  -- one of the last rounds: the array stays
  stay : (t i : ℕ) → t < 64 → 48 ≤ t → t % 16 ≡ i → r ≡ turn (get_or round_constants t 0) (get_or w i 0) v
      → Done b s t w v → Done b s (t + 1) w r
  stay t i h g e er d =
      record {
        size = d.size;
        words = λ u a z l. d.words u (omega arith) (omega arith) l;
        state = turn_more s v r b t (get_or w i 0) d.state (rw e at (d.words t (omega arith) (omega arith) h)) er;
      }

  -- what the next word is made of
  next_word : (t i x : ℕ) → t < 48 → t % 16 ≡ i → Done b s t w v
      → x ≡ small_sigma1 (get_or w ((i + 14) % 16) 0) ⊞ get_or w ((i + 9) % 16) 0 ⊞ small_sigma0 (get_or w ((i + 1) % 16) 0) ⊞ get_or w i 0
      → x ≡ get_or (schedule 64 b) (t + 16) 0
  unfolding later
  next_word t i x h e d ex =
      let i14 : (t + 14) % 16 ≡ (i + 14) % 16 = same_place t i 14 e in
      let i9 : (t + 9) % 16 ≡ (i + 9) % 16 = same_place t i 9 e in
      let i1 : (t + 1) % 16 ≡ (i + 1) % 16 = same_place t i 1 e in
      let w14 : get_or w ((i + 14) % 16) 0 ≡ get_or (schedule 64 b) (t + 14) 0 = rw i14 at (d.words (t + 14) (omega arith) (omega arith) (omega arith)) in
      let w9 : get_or w ((i + 9) % 16) 0 ≡ get_or (schedule 64 b) (t + 9) 0 = rw i9 at (d.words (t + 9) (omega arith) (omega arith) (omega arith)) in
      let w1 : get_or w ((i + 1) % 16) 0 ≡ get_or (schedule 64 b) (t + 1) 0 = rw i1 at (d.words (t + 1) (omega arith) (omega arith) (omega arith)) in
      let w0 : get_or w i 0 ≡ get_or (schedule 64 b) t 0 = rw e at (d.words t (omega arith) (omega arith) (omega arith)) in
      let e14 : t + 16 - 2 ≡ t + 14 = omega arith in
      let e9 : t + 16 - 7 ≡ t + 9 = omega arith in
      let e1 : t + 16 - 15 ≡ t + 1 = omega arith in
      let e0 : t + 16 - 16 ≡ t = omega arith in
      ex ∙ rw (w14, w9, w1, w0, word-later (t + 16) b (omega arith) (omega arith), e14, e9, e1, e0)

  -- a round, and the next word in the place of its word
  replace : (t i x : ℕ) → t < 48 → t % 16 ≡ i → r ≡ turn (get_or round_constants t 0) (get_or w i 0) v
      → x ≡ small_sigma1 (get_or w ((i + 14) % 16) 0) ⊞ get_or w ((i + 9) % 16) 0 ⊞ small_sigma0 (get_or w ((i + 1) % 16) 0) ⊞ get_or w i 0
      → Done b s t w v → Done b s (t + 1) (set w i x) r
  replace t i x h e er ex d =
      record {
        size = simp length-set d.size;
        words = λ u a z l. ⊎_elim
            (λ (q : u ≡ t + 16). let m : (t + 16) % 16 ≡ i = omega arith in
            rw (q, m) (get_or-set_same w i x 0 (omega (arith, d.size)) ∙ next_word t i x h e d ex))
            (λ (q : u < t + 16). let n : (u % 16 ≡ i → ⊥) = λ p. omega arith in get_or-set_other w i (u % 16) x 0 n ∙ d.words u (omega arith) q l)
            (eq-or-lt_of_le {n = u} {m = t + 16} (omega arith));
        state = turn_more s v r b t (get_or w i 0) d.state (rw e at (d.words t (omega arith) (omega arith) (omega arith))) er;
      }

module _ (b : List ℕ) (s v r : State) (w k : List ℕ) where
  pub advance-law : (t i x : ℕ) → i < 16 → Sixteen t k → r ≡ turn (get_or k (t + i) 0) (get_or w i 0) v
      → x ≡ small_sigma1 (get_or w ((i + 14) % 16) 0) ⊞ get_or w ((i + 9) % 16) 0 ⊞ small_sigma0 (get_or w ((i + 1) % 16) 0) ⊞ get_or w i 0
      → Done b s (t + i) w v → Done b s (t + (i + 1)) (set w i x) r
  advance-law t i x h y er ex d =
      let e : (t + i) % 16 ≡ i = omega (arith, y.room, y.start) in
      done_at (t + (i + 1)) (replace b s v r w (t + i) i x (omega (arith, y.room)) e (rw y.table at er) ex d) (add_assoc t i 1)

  pub last-law : (i : ℕ) → i < 16 → k ≡ round_constants → r ≡ turn (get_or k (48 + i) 0) (get_or w i 0) v
      → Done b s (48 + i) w v → Done b s (48 + (i + 1)) w r
  last-law i h y er d =
      done_at (48 + (i + 1)) (stay b s v r w (48 + i) i (omega arith) (omega arith) (omega arith) (rw y at er) d) (add_assoc 48 i 1)

pub sixteen : {k : List ℕ} (i : ℕ) → i < 3 → k ≡ round_constants → Sixteen (16 * i) k
sixteen i h e = record { room = omega arith; start = omega arith; table = e }

pub sixteen-more : (i : ℕ) → 16 * i + 16 ≡ 16 * (i + 1)
sixteen-more i = omega arith

-- all the rounds on a block, and the sum
pub compress-law : (b : List ℕ) (s r : State) (w : List ℕ) → Done b s 64 w r → plus s r ≡ compress b s
unfolding compress
compress-law b s r w d = ap (plus s) d.state
