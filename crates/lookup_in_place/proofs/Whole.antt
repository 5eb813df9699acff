-- Laws of all of a lookup's bytes: they are written as they were read, one mark set, and what becomes of them by several changes. Assumes nothing.
use Prim.Native.Nat.{ℕ, zero, suc, ◌+◌, ◌-◌, ◌*◌, ◌/◌, ◌%◌, ◌≤◌, ◌<◌}
use mathlib.Core.Path.{◌≡◌, refl, sym, ap, ap₂, ◌∙◌}
use mathlib.Core.Bool.{Bool, cond}
use mathlib.Core.List.{List, [], ◌∷◌, ◌++◌, append_assoc}
use native.Mathlib.Omega.{arith}
use lib.Dec.{ltb}
use lib.ListN.{length, get_or, take, drop, set, length-drop, length-set, length-append, take-append-drop}
use lib.Seq.{sets, sets-eq, take-add, take-set-le, drop-set-lt, drop-set-add, get_or-set_same, get_or-drop, drop-drop, drop-cons, length-take-le}
use Rattle.octets.specs.Octets.{Bytes}
use Rattle.limits.specs.Limits.{most_id, place_size, most_key}
use Rattle.lookup.specs.Lookup.{room, padded, with_mark, mark_at, mark, with_candidates}
use Rattle.lookup_candidates.specs.declared.Candidate.{Candidate}
use Rattle.lookup.specs.Value.{Lookup}
use Rattle.flat_lookup.specs.FlatLookup.{id_at, place_at, key_at, target_at, candidate_size, candidates_at, flat_size, byte_at, bytes_at, candidate_in, candidates_in, lookup_in, candidate_bytes, candidates_bytes, head_bytes, lookup_bytes}
use Rattle.flat_lookup.proofs.Padding.{padded-length, padded-whole}
use Rattle.flat_lookup.proofs.Writing.{head-length, candidates-long}
use Rattle.flat_lookup.proofs.Theorems.{candidate-further}
use Rattle.lookup_in_place.specs.Inner.{Becomes}
use Rattle.lookup_in_place.proofs.Parts.{bytes-are, all_there, headed, lookup-split}

-- a run of stores from the start on
over-front : (x m : List ℕ) (n : ℕ) → length x ≡ n → n ≤ length m → sets m 0 x ≡ x ++ drop n m
over-front x m n e h = let z : 0 + length x ≡ n = omega arith in sets-eq x m 0 (omega arith) ∙ ap (λ (k : ℕ). x ++ drop k m) z

-- ---- what is read is written as it was
again : (n : ℕ) (s : List ℕ) (i : ℕ) → i + n ≤ length s → padded n (bytes_at n s i) ≡ take n (drop i s)
again n s i h = padded-whole n (bytes_at n s i) (padded-length n (drop i s)) ∙ bytes-are n s i h

joined : (s : List ℕ) (i n k : ℕ) → take n (drop i s) ++ take k (drop (i + n) s) ≡ take (n + k) (drop i s)
joined s i n k = sym (take-add n k (drop i s) ∙ ap (λ (t : List ℕ). take n (drop i s) ++ take k t) (drop-drop n i s))

pub candidate-again : (s : List ℕ) → candidate_size ≤ length s → candidate_bytes (candidate_in s) ≡ take candidate_size s
unfolding candidate_bytes
candidate-again s h =
    ap₂ (λ (x y : List ℕ). byte_at s 0 ∷ byte_at s 1 ∷ (x ++ y)) (again most_id s id_at (omega arith)) (again place_size s place_at (omega arith))
    ∙ ap (λ (x : List ℕ). byte_at s 0 ∷ byte_at s 1 ∷ x) (joined s 2 64 32)
    ∙ ap (λ (x : List ℕ). byte_at s 0 ∷ x) (sym (ap (take 97) (drop-cons s 1 0 (omega arith))))
    ∙ sym (ap (take 98) (drop-cons s 0 0 (omega arith)))

pub candidates-again : (n : ℕ) (s : List ℕ) → n * candidate_size ≤ length s → candidates_bytes (candidates_in n s) ≡ take (n * candidate_size) s
unfolding candidates_bytes candidates_in
candidates-again zero s h = refl
candidates-again (suc n) s h =
    let e : suc n * candidate_size ≡ candidate_size + n * candidate_size = omega arith in
    ap₂ (λ (x y : List ℕ). x ++ y) (candidate-again s (omega arith)) (candidates-again n (drop candidate_size s) (omega (arith, length-drop candidate_size s)))
    ∙ sym (ap (λ (k : ℕ). take k s) e ∙ take-add candidate_size (n * candidate_size) s)

low : (a b : ℕ) → a < 256 → (a + b * 256) % 256 ≡ a
low a b h = omega arith

high : (a b : ℕ) → a < 256 → b < 256 → (a + b * 256) / 256 % 256 ≡ b
high a b h g = omega arith

small : (a : ℕ) → a < 256 → a % 256 ≡ a
small a h = omega arith

abbrev pub flagged : List ℕ → ℕ
flagged m = cond (ltb 0 (byte_at m 4)) 1 0

head-again : (m : List ℕ) → flat_size ≤ length m → Bytes m
    → head_bytes (lookup_in m) ≡ take 4 m ++ ((flagged m ∷ 0 ∷ 0 ∷ 0 ∷ []) ++ take 160 (drop 8 m))
unfolding head_bytes
head-again m l b =
    numbers _ _ _ _ (low (byte_at m 0) (byte_at m 1) (b 0)) (high (byte_at m 0) (byte_at m 1) (b 0) (b 1)) (small (byte_at m 2) (b 2)) (small (byte_at m 3) (b 3))
    ∙ ap (λ (x : List ℕ). byte_at m 0 ∷ byte_at m 1 ∷ byte_at m 2 ∷ byte_at m 3 ∷ flagged m ∷ 0 ∷ 0 ∷ 0 ∷ x)
    (ap₂ (λ (x y : List ℕ). x ++ y) (again most_key m key_at (omega arith)) (again place_size m target_at (omega arith)) ∙ joined m 8 128 32)
    ∙ ap (λ (x : List ℕ). x ++ ((flagged m ∷ 0 ∷ 0 ∷ 0 ∷ []) ++ take 160 (drop 8 m))) (sym four)
  where
    numbers : (w x y z : ℕ) {w' x' y' z' : ℕ} → w' ≡ w → x' ≡ x → y' ≡ y → z' ≡ z → {t : List ℕ}
        → ◌≡◌ {A = List ℕ} (w' ∷ x' ∷ y' ∷ z' ∷ t) (w ∷ x ∷ y ∷ z ∷ t)
    numbers w x y z ew ex ey ez = rw (ew, ex, ey, ez)

    four : take 4 m ≡ byte_at m 0 ∷ byte_at m 1 ∷ byte_at m 2 ∷ byte_at m 3 ∷ []
    four =
        ap (take 4) (drop-cons m 0 0 (omega arith))
        ∙ ap (λ (x : List ℕ). byte_at m 0 ∷ take 3 x) (drop-cons m 1 0 (omega arith))
        ∙ ap (λ (x : List ℕ). byte_at m 0 ∷ byte_at m 1 ∷ take 2 x) (drop-cons m 2 0 (omega arith))
        ∙ ap (λ (x : List ℕ). byte_at m 0 ∷ byte_at m 1 ∷ byte_at m 2 ∷ take 1 x) (drop-cons m 3 0 (omega arith))

pub tidied : (m : List ℕ) → flat_size ≤ length m → Bytes m → sets m 4 (flagged m ∷ 0 ∷ 0 ∷ 0 ∷ []) ≡ sets m 0 (lookup_bytes (lookup_in m))
unfolding lookup_bytes
tidied m l b =
    let f : List ℕ = flagged m ∷ 0 ∷ 0 ∷ 0 ∷ [] in
    let body : List ℕ = take 160 (drop 8 m) ++ take (room * candidate_size) (drop candidates_at m) in
    let eb : body ≡ take 25248 (drop 8 m) = joined m 8 160 25088 in
    let cs : candidates_bytes (candidates_in room (drop candidates_at m)) ≡ take (room * candidate_size) (drop candidates_at m) =
    candidates-again room (drop candidates_at m) (omega (arith, length-drop candidates_at m)) in
    let all : head_bytes (lookup_in m) ++ candidates_bytes (lookup_in m).candidates ≡ take 4 m ++ (f ++ take 25248 (drop 8 m)) =
    ap₂ (λ (x y : List ℕ). x ++ y) (head-again m l b) cs
    ∙ append_assoc (take 4 m) (f ++ take 160 (drop 8 m)) (take (room * candidate_size) (drop candidates_at m))
    ∙ ap (λ (x : List ℕ). take 4 m ++ x) (append_assoc f (take 160 (drop 8 m)) (take (room * candidate_size) (drop candidates_at m)) ∙ ap (λ (x : List ℕ). f ++ x) eb) in
    let long : length (take 4 m ++ (f ++ take 25248 (drop 8 m))) ≡ flat_size =
    length-append (take 4 m) (f ++ take 25248 (drop 8 m))
    ∙ omega (arith, length-take-le 4 m (omega arith), length-take-le 25248 (drop 8 m) (omega (arith, length-drop 8 m))) in
    let eight : 4 + length f ≡ 8 = omega arith in
    sets-eq f m 4 (omega arith) ∙ append_assoc (take 4 m) f (drop (4 + length f) m)
    ∙ ap (λ (k : ℕ). take 4 m ++ (f ++ drop k m)) eight
    ∙ ap (λ (x : List ℕ). take 4 m ++ (f ++ x)) (sym (ap (λ (x : List ℕ). take 25248 (drop 8 m) ++ x) (sym (drop-drop 25248 8 m)) ∙ take-append-drop 25248 (drop 8 m)))
    ∙ sym (ap (sets m 0) all ∙ over-front (take 4 m ++ (f ++ take 25248 (drop 8 m))) m flat_size long l
    ∙ append_assoc (take 4 m) (f ++ take 25248 (drop 8 m)) (drop flat_size m))

pub tidied-by : (m m' : List ℕ) (t : Bool) (b : ℕ) → flat_size ≤ length m → Bytes m → t ≡ (lookup_in m).turned → b ≡ cond t 1 0 → m' ≡ sets m 4 (b ∷ 0 ∷ 0 ∷ 0 ∷ [])
    → m' ≡ sets m 0 (lookup_bytes (lookup_in m))
tidied-by m m' t b h g et eb e = e ∙ ap (λ (x : ℕ). sets m 4 (x ∷ 0 ∷ 0 ∷ 0 ∷ [])) (eb ∙ ap (λ (x : Bool). cond x 1 0) et) ∙ tidied m h g

-- ---- a mark is set
front_kept : (s t : List ℕ) → candidate_size ≤ length s → candidate_size ≤ length t → take candidate_size s ≡ take candidate_size t → candidate_in s ≡ candidate_in t
front_kept s t hs ht e = front s hs ∙ ap candidate_in e ∙ sym (front t ht)
  where
    front : (u : List ℕ) → candidate_size ≤ length u → candidate_in u ≡ candidate_in (take candidate_size u)
    front u h = ap candidate_in (sym (take-append-drop candidate_size u)) ∙ candidate-further (take candidate_size u) (drop candidate_size u) (omega (arith, length-take-le candidate_size u h))

first-marked : (s : List ℕ) (v : ℕ) → candidate_size ≤ length s → candidate_in (set s 0 v) ≡ with_mark v (candidate_in s)
first-marked s v h =
    ap₂ (λ (i : List ℕ) (p : List ℕ). record { id = padded most_id i; place = padded place_size p; mark = byte_at (set s 0 v) 0; len = byte_at (set s 0 v) 1 })
    (drop-set-lt 2 s 0 v (omega arith)) (drop-set-lt 66 s 0 v (omega arith))
    ∙ ap₂ (λ (m n : ℕ). record { id = bytes_at most_id s id_at; place = bytes_at place_size s place_at; mark = m; len = n })
    (get_or-set_same s 0 v 0 (omega arith))
    (sym (get_or-drop 1 (set s 0 v) 0 0) ∙ ap (λ (x : List ℕ). get_or x 0 0) (drop-set-lt 1 s 0 v (omega arith)) ∙ get_or-drop 1 s 0 0)

marked-in : (n : ℕ) (s : List ℕ) (i v : ℕ) → n * candidate_size ≤ length s → i < n → candidates_in n (set s (i * candidate_size) v) ≡ mark_at i v (candidates_in n s)
unfolding candidates_in mark_at
marked-in zero s i v h l = elim l [ ]
marked-in (suc n) s zero v h l =
    ap₂ (λ (c : Candidate) (cs : List Candidate). c ∷ cs) (first-marked s v (omega arith)) (ap (candidates_in n) (drop-set-lt candidate_size s 0 v (omega arith)))
marked-in (suc n) s (suc i) v h l =
    let e : suc i * candidate_size ≡ candidate_size + i * candidate_size = omega arith in
    ap (λ (k : ℕ). candidate_in (set s k v) ∷ candidates_in n (drop candidate_size (set s k v))) e
    ∙ ap₂ (λ (c : Candidate) (cs : List Candidate). c ∷ cs)
    (front_kept (set s (candidate_size + i * candidate_size) v) s (omega (arith, length-set s (candidate_size + i * candidate_size) v)) (omega arith) (take-set-le candidate_size s (candidate_size + i * candidate_size) v (omega arith)))
    (ap (candidates_in n) (drop-set-add candidate_size s (i * candidate_size) v)
    ∙ marked-in n (drop candidate_size s) i v (omega (arith, length-drop candidate_size s)) (omega arith))

pub marked : (m : List ℕ) (i v : ℕ) → flat_size ≤ length m → i < room → Becomes (mark i v (lookup_in m)) m (set m (candidates_at + i * candidate_size) v)
unfolding headed
marked m i v l h =
    let k : ℕ = candidates_at + i * candidate_size in
    let n : length (set m k v) ≡ length m = length-set m k v in
    let ec : candidates_in room (drop candidates_at (set m k v)) ≡ mark_at i v (candidates_in room (drop candidates_at m)) =
    ap (candidates_in room) (drop-set-add candidates_at m (i * candidate_size) v) ∙ marked-in room (drop candidates_at m) i v (omega (arith, length-drop candidates_at m)) h in
    record {
      holds =
          lookup-split (set m k v) (omega arith)
          ∙ ap₂ headed (take-set-le candidates_at m k v (omega arith)) ec
          ∙ ap (λ (x : Lookup). with_candidates x x.count (mark_at i v x.candidates)) (sym (lookup-split m l));
      long = n;
      past = drop-set-lt flat_size m k v (omega arith);
    }

-- ---- what became of the bytes is written over what they were
pub written_over : (l : Lookup) (m m' : List ℕ) → length l.candidates ≡ room → flat_size ≤ length m → Becomes l m m' → sets m' 0 (lookup_bytes l) ≡ sets m 0 (lookup_bytes l)
unfolding lookup_bytes
written_over l m m' hl h b =
    let n : length (head_bytes l ++ candidates_bytes l.candidates) ≡ flat_size =
    length-append (head_bytes l) (candidates_bytes l.candidates) ∙ omega (arith, head-length l, candidates-long l.candidates) in
    over-front (head_bytes l ++ candidates_bytes l.candidates) m' flat_size n (omega (arith, b.long))
    ∙ ap (λ (x : List ℕ). (head_bytes l ++ candidates_bytes l.candidates) ++ x) b.past
    ∙ sym (over-front (head_bytes l ++ candidates_bytes l.candidates) m flat_size n h)

pub tidied-over : (l : Lookup) (m m' m'' : List ℕ) → flat_size ≤ length m → Becomes l m m' → m'' ≡ sets m' 0 (lookup_bytes (lookup_in m')) → m'' ≡ sets m 0 (lookup_bytes l)
tidied-over l m m' m'' h b e =
    e ∙ ap (λ (x : Lookup). sets m' 0 (lookup_bytes x)) b.holds
    ∙ written_over l m m' (sym (ap (λ (x : Lookup). length x.candidates) b.holds) ∙ all_there m') h b

pub becomes-nothing : (m : List ℕ) → Becomes (lookup_in m) m m
becomes-nothing m = record { holds = refl; long = refl; past = refl }
