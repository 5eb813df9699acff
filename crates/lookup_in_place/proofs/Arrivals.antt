-- Laws of a candidate that comes in: the bytes of those after it move up, and it takes its rank. Assumes nothing.
use Prim.Native.Nat.{ℕ, zero, suc, ◌+◌, ◌-◌, ◌*◌, ◌/◌, ◌%◌, ◌≤◌, ◌<◌}
use mathlib.Core.Path.{◌≡◌, refl, sym, ap, ap₂, ◌∙◌}
use mathlib.Core.Bool.{Bool, true, false, ◌||◌}
use mathlib.Core.List.{List, [], ◌∷◌, ◌++◌, append_assoc}
use native.Mathlib.Omega.{arith}
use lib.Dec.{ltb}
use lib.ListN.{length, get_or, take, drop, set, length-drop, length-set, take-append-drop}
use lib.Seq.{sets, sets-eq, length-sets, get_or-set_same, get_or-set_other, take-append-le, take-take, take-set-le, get_or-take, get_or-drop, drop-append-le, drop_at, drop-drop, drop-set-lt, length-take-le}
use Rattle.std.specs.List.{copy_within}
use Rattle.octets.specs.Octets.{part}
use Rattle.octets.proofs.Bools.{or_l, or_off}
use Rattle.octets.proofs.Parts.{part_length}
use Rattle.octets.proofs.Stores.{take-sets, drop-sets}
use Rattle.octets.specs.Search.{any_in}
use Rattle.octets.proofs.Finding.{one_on, at-end}
use Rattle.lookup.specs.Lookup.{room, padded, with_candidates, turn_away}
use Rattle.limits.specs.Limits.{place_size, most_key}
use Rattle.lookup_candidates.specs.declared.Candidate.{Candidate}
use Rattle.lookup.specs.Value.{Lookup}
use Rattle.flat_lookup.specs.FlatLookup.{key_at, target_at, candidate_size, candidates_at, flat_size, byte_at, bytes_at, candidate_in, candidates_in, lookup_in, candidate_bytes}
use Rattle.flat_lookup.specs.Promises.{SizedCandidate}
use Rattle.flat_lookup.proofs.Writing.{candidate-length}
use Rattle.flat_lookup.proofs.Theorems.{candidate-further, candidates-further, candidate-back}
use Rattle.lookup_in_place.specs.Inner.{joined, Becomes}
use Rattle.lookup_in_place.proofs.Parts.{headed, lookup-split}

-- ---- the loop that looks for a place
module _ {A : Type 0} (p : A → Bool) (n : ℕ) (xs : List A) (i : ℕ) (d : A) (b W : Bool) (hn : n ≤ length xs) (h : i < n) (e : b ≡ p (get_or xs i d))
    (w : any_in p (drop i (take n xs)) ≡ W) where
  any-on : any_in p (drop i (take n xs)) ≡ (p (get_or xs i d) || any_in p (drop (i + 1) (take n xs)))
  unfolding any_in
  any-on = ap (any_in p) (one_on n xs i d h hn)

  pub any-hit : b ≡ true → true ≡ W
  any-hit t = sym (any-on ∙ or_l (p (get_or xs i d)) _ (sym e ∙ t)) ∙ w

  pub any-miss : b ≡ false → any_in p (drop (i + 1) (take n xs)) ≡ W
  any-miss t = sym (any-on ∙ or_off (p (get_or xs i d)) _ (sym e ∙ t)) ∙ w

pub any-end : {A : Type 0} (p : A → Bool) (n : ℕ) (xs : List A) (i : ℕ) (W : Bool) → n ≤ i → any_in p (drop i (take n xs)) ≡ W → false ≡ W
unfolding any_in
any-end p n xs i W h w = sym (ap (any_in p) (at-end n xs i h)) ∙ w

-- ---- the bytes from a up to e move up by a candidate, as a copy within the bytes
pub moved : (m : List ℕ) (a e : ℕ) → a ≤ e → e + candidate_size ≤ length m → copy_within m a e (a + candidate_size) ≡ sets m (a + candidate_size) (part m a e)
moved m a e h l =
    let p : List ℕ = part m a e in
    let lp : length p ≡ e - a = part_length m a e (omega arith) in
    sym (sets-eq p m (a + candidate_size) (omega arith) ∙ ap (λ (k : ℕ). take (a + candidate_size) m ++ p ++ drop (a + candidate_size + k) m) lp)

-- and a candidate is written over the gap
spliced : (m m₁ m₂ b : List ℕ) (a e : ℕ) → a ≤ e → e + candidate_size ≤ length m → length b ≡ candidate_size
    → m₁ ≡ sets m (a + candidate_size) (part m a e) → m₂ ≡ sets m₁ a b → m₂ ≡ take a m ++ (b ++ (part m a e ++ drop (e + candidate_size) m))
spliced m m₁ m₂ b a e h l hb e₁ e₂ =
    let p : List ℕ = part m a e in
    let lp : length p ≡ e - a = part_length m a e (omega arith) in
    let l₁ : length m₁ ≡ length m = ap length e₁ ∙ length-sets m (a + candidate_size) p in
    let past : a + candidate_size + length p ≡ e + candidate_size = omega arith in
    let is₁ : m₁ ≡ take (a + candidate_size) m ++ (p ++ drop (e + candidate_size) m) =
    e₁ ∙ sets-eq p m (a + candidate_size) (omega arith) ∙ append_assoc (take (a + candidate_size) m) p (drop (a + candidate_size + length p) m)
    ∙ ap (λ (k : ℕ). take (a + candidate_size) m ++ (p ++ drop k m)) past in
    let front : take a m₁ ≡ take a m = ap (take a) e₁ ∙ take-sets a m (a + candidate_size) p (omega arith) in
    let ends : a + length b ≡ a + candidate_size = omega arith in
    let back : drop (a + length b) m₁ ≡ p ++ drop (e + candidate_size) m =
    ap₂ (λ (k : ℕ) (x : List ℕ). drop k x) ends is₁
    ∙ drop_at (take (a + candidate_size) m) (p ++ drop (e + candidate_size) m) (a + candidate_size) (length-take-le (a + candidate_size) m (omega arith)) in
    e₂ ∙ sets-eq b m₁ a (omega arith) ∙ append_assoc (take a m₁) b (drop (a + length b) m₁)
    ∙ ap₂ (λ (x y : List ℕ). x ++ (b ++ y)) front back

-- ---- candidates one after another
candidates-append : (j k : ℕ) (x y : List ℕ) → length x ≡ j * candidate_size → candidates_in (j + k) (x ++ y) ≡ candidates_in j x ++ candidates_in k y
unfolding candidates_in
candidates-append zero k [] y h = let z : 0 + k ≡ k = omega arith in ap (λ (n : ℕ). candidates_in n y) z
candidates-append zero k (b ∷ x) y h = absurd (omega arith)
candidates-append (suc j) k x y h =
    let e : suc j + k ≡ suc (j + k) = omega arith in
    ap (λ (n : ℕ). candidates_in n (x ++ y)) e
    ∙ ap₂ (λ (c : Candidate) (cs : List Candidate). c ∷ cs) (candidate-further x y (omega arith))
    (ap (candidates_in (j + k)) (drop-append-le candidate_size x y (omega arith)) ∙ candidates-append j k (drop candidate_size x) y (length-drop candidate_size x ∙ omega arith))

candidates-front : (j n : ℕ) (s : List ℕ) → j ≤ n → candidates_in j s ≡ take j (candidates_in n s)
unfolding candidates_in
candidates-front zero n s h = refl
candidates-front (suc j) zero s h = absurd (omega arith)
candidates-front (suc j) (suc n) s h = ap (λ (cs : List Candidate). candidate_in s ∷ cs) (candidates-front j n (drop candidate_size s) (omega arith))

candidates-back : (j k : ℕ) (s : List ℕ) → candidates_in k (drop (j * candidate_size) s) ≡ drop j (candidates_in (j + k) s)
unfolding candidates_in
candidates-back zero k s = let z : 0 + k ≡ k = omega arith in ap (λ (n : ℕ). candidates_in n s) (sym z)
candidates-back (suc j) k s =
    let e : suc j + k ≡ suc (j + k) = omega arith in
    let f : candidate_size + j * candidate_size ≡ suc j * candidate_size = omega arith in
    ap (λ (n : ℕ). candidates_in k (drop n s)) (sym f) ∙ ap (candidates_in k) (sym (drop-drop (j * candidate_size) candidate_size s))
    ∙ candidates-back j k (drop candidate_size s) ∙ sym (ap (λ (n : ℕ). drop (suc j) (candidates_in n s)) e)

-- those of the bytes with one more among them; it takes the bytes from lo on, and those up to hi move up
module _ (m : List ℕ) (n r : ℕ) (c : Candidate) (l : flat_size ≤ length m) (hr : r ≤ n) (hn : n < room) (hc : SizedCandidate c) where
  abbrev lo : ℕ
  lo = candidates_at + r * candidate_size

  abbrev hi : ℕ
  hi = candidates_at + n * candidate_size

  abbrev s : List ℕ
  s = drop candidates_at m

  abbrev cs : List Candidate
  cs = candidates_in room s

  abbrev before : List ℕ
  before = drop candidates_at (take lo m)

  abbrev grown : List ℕ
  grown = take lo m ++ (candidate_bytes c ++ (part m lo hi ++ drop (hi + candidate_size) m))

  a-within : lo ≤ length m
  a-within = omega arith

  front_long : length before ≡ r * candidate_size
  front_long = length-drop candidates_at (take lo m) ∙ omega (arith, length-take-le lo m a-within)

  part-long : length (part m lo hi) ≡ (n - r) * candidate_size
  part-long = part_length m lo hi (omega arith) ∙ omega arith

  those-before : candidates_in r before ≡ take r cs
  those-before =
      let whole : before ++ drop lo m ≡ s =
      sym (drop-append-le candidates_at (take lo m) (drop lo m) (omega (arith, length-take-le lo m a-within))) ∙ ap (drop candidates_at) (take-append-drop lo m) in
      sym (candidates-further r before (drop lo m) (omega (arith, front_long))) ∙ ap (candidates_in r) whole ∙ candidates-front r room s (omega arith)

  those-after : candidates_in (n - r) (part m lo hi) ≡ drop r (take n cs)
  those-after =
      let k : r + (n - r) ≡ n = omega arith in
      sym (candidates-further (n - r) (part m lo hi) (drop (hi - lo) (drop lo m)) (omega (arith, part-long)))
      ∙ ap (candidates_in (n - r)) (take-append-drop (hi - lo) (drop lo m) ∙ sym (drop-drop (r * candidate_size) candidates_at m))
      ∙ candidates-back r (n - r) s ∙ ap (λ (j : ℕ). drop r (candidates_in j s)) k ∙ ap (drop r) (candidates-front n room s (omega arith))

  those-past : candidates_in (255 - n) (drop (hi + candidate_size) m) ≡ drop (n + 1) cs
  those-past =
      let k : n + 1 + (255 - n) ≡ room = omega arith in
      let j : hi + candidate_size ≡ candidates_at + (n + 1) * candidate_size = omega arith in
      ap (λ (i : ℕ). candidates_in (255 - n) (drop i m)) j ∙ ap (candidates_in (255 - n)) (sym (drop-drop ((n + 1) * candidate_size) candidates_at m))
      ∙ candidates-back (n + 1) (255 - n) s ∙ ap (λ (i : ℕ). drop (n + 1) (candidates_in i s)) k

  grown-candidates : candidates_in room (drop candidates_at grown) ≡ take r cs ++ (c ∷ (drop r (take n cs) ++ drop (n + 1) cs))
  unfolding candidates_in
  grown-candidates =
      let z : List ℕ = part m lo hi ++ drop (hi + candidate_size) m in
      let y : List ℕ = candidate_bytes c ++ z in
      let lc : length (candidate_bytes c) ≡ candidate_size = candidate-length c in
      let k : room ≡ r + suc ((n - r) + (255 - n)) = omega arith in
      let first : candidate_in y ≡ c = candidate-further (candidate_bytes c) z (omega arith) ∙ candidate-back c hc in
      let others : candidates_in ((n - r) + (255 - n)) (drop candidate_size y) ≡ drop r (take n cs) ++ drop (n + 1) cs =
      ap (candidates_in ((n - r) + (255 - n))) (drop_at (candidate_bytes c) z candidate_size lc)
      ∙ candidates-append (n - r) (255 - n) (part m lo hi) (drop (hi + candidate_size) m) part-long
      ∙ ap₂ (λ (x w : List Candidate). x ++ w) those-after those-past in
      ap (candidates_in room) (drop-append-le candidates_at (take lo m) y (omega (arith, length-take-le lo m a-within)))
      ∙ ap (λ (i : ℕ). candidates_in i (before ++ y)) k
      ∙ candidates-append r (suc ((n - r) + (255 - n))) before y front_long
      ∙ ap₂ (λ (x : List Candidate) (w : List Candidate). x ++ w) those-before (ap₂ (λ (x : Candidate) (w : List Candidate). x ∷ w) first others)

  pub grows : (m₁ m₂ : List ℕ) → m₁ ≡ sets m (lo + candidate_size) (part m lo hi) → m₂ ≡ sets m₁ lo (candidate_bytes c)
      → Becomes (with_candidates (lookup_in m) (lookup_in m).count (take r cs ++ (c ∷ (drop r (take n cs) ++ drop (n + 1) cs)))) m m₂
  unfolding headed
  grows m₁ m₂ e₁ e₂ =
      let is : m₂ ≡ grown = spliced m m₁ m₂ (candidate_bytes c) lo hi (omega arith) (omega arith) (candidate-length c) e₁ e₂ in
      let long : length m₂ ≡ length m = ap length e₂ ∙ length-sets m₁ lo (candidate_bytes c) ∙ ap length e₁ ∙ length-sets m (lo + candidate_size) (part m lo hi) in
      let head : take candidates_at m₂ ≡ take candidates_at m =
      ap (take candidates_at) is ∙ take-append-le candidates_at (take lo m) _ (omega (arith, length-take-le lo m a-within)) ∙ take-take candidates_at lo m (omega arith) in
      record {
        holds =
            lookup-split m₂ (omega arith) ∙ ap₂ headed head (ap (λ (x : List ℕ). candidates_in room (drop candidates_at x)) is ∙ grown-candidates)
            ∙ ap (λ (x : Lookup). with_candidates x x.count (take r cs ++ (c ∷ (drop r (take n cs) ++ drop (n + 1) cs)))) (sym (lookup-split m l));
        long = long;
        past = far;
      }
    where
      far : drop flat_size m₂ ≡ drop flat_size m
      far =
          ap (drop flat_size) e₂ ∙ drop-sets flat_size m₁ lo (candidate_bytes c) (omega (arith, candidate-length c))
          ∙ ap (drop flat_size) e₁ ∙ drop-sets flat_size m (lo + candidate_size) (part m lo hi) (omega (arith, part-long))

-- ---- the numbers
-- a lookup whose parts are read one by one
parts_are : (m : List ℕ) (cs : List Candidate) (k t : List ℕ) (n size limit : ℕ) (b : Bool)
    → candidates_in room (drop candidates_at m) ≡ cs → bytes_at most_key m key_at ≡ k → bytes_at place_size m target_at ≡ t → byte_at m 0 + byte_at m 1 * 256 ≡ n
    → byte_at m 2 ≡ size → byte_at m 3 ≡ limit → ltb 0 (byte_at m 4) ≡ b
    → lookup_in m ≡ record { candidates = cs; key = k; target = t; count = n; size = size; limit = limit; turned = b }
parts_are m cs k t n size limit b ec ek et en es el eb = rw (ec, ek, et, en, es, el, eb)

pub counted : (m : List ℕ) (n : ℕ) → flat_size ≤ length m → n < 65536 → Becomes (with_candidates (lookup_in m) n (lookup_in m).candidates) m (set (set m 0 (n % 256)) 1 (n / 256))
counted m n l h =
    let x : ℕ = n % 256 in
    let y : ℕ = n / 256 in
    let m₁ : List ℕ = set m 0 x in
    let m₂ : List ℕ = set m₁ 1 y in
    let long : length m₂ ≡ length m = length-set m₁ 1 y ∙ length-set m 0 x in
    let past : (k : ℕ) → 1 < k → drop k m₂ ≡ drop k m = λ k g. drop-set-lt k m₁ 1 y g ∙ drop-set-lt k m 0 x (omega arith) in
    let later : (j : ℕ) → get_or (drop 2 m₂) j 0 ≡ get_or (drop 2 m) j 0 = λ j. ap (λ (z : List ℕ). get_or z j 0) (past 2 (omega arith)) in
    let zero-byte : byte_at m₂ 0 ≡ x = get_or-set_other m₁ 1 0 y 0 (λ e. none e) ∙ get_or-set_same m 0 x 0 (omega arith) in
    let one_byte : byte_at m₂ 1 ≡ y = get_or-set_same m₁ 1 y 0 (omega (arith, length-set m 0 x)) in
    let number : byte_at m₂ 0 + byte_at m₂ 1 * 256 ≡ n = omega arith in
    record {
      holds =
          parts_are m₂ _ _ _ n _ _ _ (ap (candidates_in room) (past candidates_at (omega arith))) (ap (padded most_key) (past key_at (omega arith))) (ap (padded place_size) (past target_at (omega arith))) number
          (sym (get_or-drop 2 m₂ 0 0) ∙ later 0 ∙ get_or-drop 2 m 0 0)
          (sym (get_or-drop 2 m₂ 1 0) ∙ later 1 ∙ get_or-drop 2 m 1 0)
          (ap (ltb 0) (sym (get_or-drop 2 m₂ 2 0) ∙ later 2 ∙ get_or-drop 2 m 2 0));
      long = long;
      past = past flat_size (omega arith);
    }
  where
    none : ◌≡◌ {A = ℕ} 0 1 → ⊥
    none e = omega arith

pub turned : (m : List ℕ) → flat_size ≤ length m → Becomes (turn_away (lookup_in m)) m (set m 4 1)
turned m l =
    let m₁ : List ℕ = set m 4 1 in
    let past : (k : ℕ) → 4 < k → drop k m₁ ≡ drop k m = λ k g. drop-set-lt k m 4 1 g in
    let early : (j : ℕ) → j < 4 → byte_at m₁ j ≡ byte_at m j = λ j h.
    sym (get_or-take 4 m₁ j 0 h) ∙ ap (λ (z : List ℕ). get_or z j 0) (take-set-le 4 m 4 1 (omega arith)) ∙ get_or-take 4 m j 0 h in
    record {
      holds =
          parts_are m₁ _ _ _ _ _ _ true (ap (candidates_in room) (past candidates_at (omega arith))) (ap (padded most_key) (past key_at (omega arith))) (ap (padded place_size) (past target_at (omega arith)))
          (ap₂ (λ (x y : ℕ). x + y * 256) (early 0 (omega arith)) (early 1 (omega arith))) (early 2 (omega arith)) (early 3 (omega arith))
          (ap (ltb 0) (get_or-set_same m 4 1 0 (omega arith)));
      long = length-set m 4 1;
      past = past flat_size (omega arith);
    }

-- a candidate comes in, and is counted
pub comes-in : (m m₂ m₃ : List ℕ) (n r : ℕ) (c : Candidate)
    → Becomes (with_candidates (lookup_in m) (lookup_in m).count (take r (lookup_in m).candidates ++ (c ∷ (drop r (take n (lookup_in m).candidates) ++ drop (n + 1) (lookup_in m).candidates)))) m m₂
    → Becomes (with_candidates (lookup_in m₂) (n + 1) (lookup_in m₂).candidates) m₂ m₃ → Becomes (joined (lookup_in m) n r c) m m₃
comes-in m m₂ m₃ n r c b d = record {
  holds = d.holds ∙ ap (λ (x : Lookup). with_candidates x (n + 1) x.candidates) b.holds;
  long = d.long ∙ b.long;
  past = d.past ∙ b.past;
}
