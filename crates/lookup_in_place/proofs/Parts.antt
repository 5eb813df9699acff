-- Laws of the parts of a lookup in its bytes: each number, each place, and the bytes before the candidates. Assumes nothing.
use Prim.Native.Nat.{ℕ, ◌+◌, ◌-◌, ◌*◌, ◌≤◌, ◌<◌}
use mathlib.Core.Path.{◌≡◌, sym, ap, ap₂, ◌∙◌, subst}
use mathlib.Core.Bool.{Bool, false, not, ◌&&◌}
use mathlib.Core.List.{List, ◌++◌}
use native.Mathlib.Omega.{arith}
use lib.Dec.{leb, ltb}
use lib.ListN.{length, get_or, take, drop, set, length-drop, take-append-drop, get_or-append}
use lib.Seq.{get_or-drop, drop-drop, length-take-le}
use Rattle.octets.specs.Octets.{part, same}
use Rattle.octets.proofs.Bools.{both_yes}
use Rattle.octets.proofs.Parts.{part-is}
use Rattle.limits.specs.Limits.{most_id, place_size, most_key}
use Rattle.place.specs.Place.{nearer_to}
use Rattle.lookup_marks.specs.Marks.{flying, failed}
use Rattle.lookup_candidates.specs.Candidates.{mark_of, well_made, flies}
use Rattle.lookup_candidates.proofs.Candidates.{made-mark, made-empty, made-len, flies-no, flies-same}
use Rattle.octets.proofs.Finding.{Mapping, map-one}
use Rattle.lookup.specs.Lookup.{room, padded, nobody}
use Rattle.lookup_candidates.specs.declared.Candidate.{Candidate}
use Rattle.lookup.specs.Value.{Lookup}
use Rattle.flat_lookup.specs.FlatLookup.{place_at, key_at, target_at, candidate_size, candidates_at, flat_size, byte_at, bytes_at, candidates_in, lookup_in, candidate_at}
use Rattle.flat_lookup.proofs.Padding.{padded-front}
use Rattle.flat_lookup.proofs.Reading.{candidates-length, candidate-is}
use Rattle.flat_lookup.proofs.Theorems.{bytes-further}

-- ---- a byte string that stands in the bytes
pub bytes-are : (n : ℕ) (s : List ℕ) (i : ℕ) → i + n ≤ length s → bytes_at n s i ≡ take n (drop i s)
bytes-are n s i h =
    let d : length (drop i s) ≡ length s - i = length-drop i s in
    ap (padded n) (sym (take-append-drop n (drop i s)))
    ∙ padded-front n (take n (drop i s)) (drop n (drop i s)) (length-take-le n (drop i s) (omega arith))

-- ---- a candidate, and its parts
pub mark-read : (m : List ℕ) (i : ℕ) → i < room → get_or m (candidates_at + i * candidate_size) 0 ≡ (candidate_at m i).mark
mark-read m i h =
    let k : ℕ = candidates_at + i * candidate_size in
    let e : k + 0 ≡ k = omega arith in
    sym (ap (λ (c : Candidate). c.mark) (candidate-is m i h) ∙ get_or-drop k m 0 0 ∙ ap (λ (j : ℕ). get_or m j 0) e)

pub len_read : (m : List ℕ) (i : ℕ) → i < room → get_or m (candidates_at + i * candidate_size + 1) 0 ≡ (candidate_at m i).len
len_read m i h =
    let k : ℕ = candidates_at + i * candidate_size in
    sym (ap (λ (c : Candidate). c.len) (candidate-is m i h) ∙ get_or-drop k m 1 0)

pub place_read : (m : List ℕ) (i : ℕ) → flat_size ≤ length m → i < room
    → part m (candidates_at + i * candidate_size + place_at) (candidates_at + i * candidate_size + place_at + place_size) ≡ (candidate_at m i).place
place_read m i l h =
    let k : ℕ = candidates_at + i * candidate_size in
    part-is m (k + place_at) place_size
    ∙ sym (ap (λ (c : Candidate). c.place) (candidate-is m i h)
    ∙ bytes-are place_size (drop k m) place_at (omega (arith, length-drop k m))
    ∙ ap (take place_size) (drop-drop place_at k m))

pub target-read : (m : List ℕ) → flat_size ≤ length m → part m target_at (target_at + place_size) ≡ (lookup_in m).target
target-read m l = part-is m target_at place_size ∙ sym (bytes-are place_size m target_at (omega arith))

-- there are 256 of them
pub all_there : (m : List ℕ) → length (lookup_in m).candidates ≡ 256
all_there m = candidates-length room (drop candidates_at m)

-- one more mark stands in the array
pub mark-filled : (m ys : List ℕ) (i v : ℕ) → i < room → v ≡ (candidate_at m i).mark → Mapping mark_of (lookup_in m).candidates ys i
    → Mapping mark_of (lookup_in m).candidates (set ys i v) (i + 1)
mark-filled m ys i v h e g =
    subst (λ (x : ℕ). Mapping mark_of (lookup_in m).candidates (set ys i x) (i + 1)) (sym e) (map-one mark_of (lookup_in m).candidates ys i nobody (omega (arith, all_there m)) g)

-- ---- tests of a candidate whose numbers were read
module _ (c : Candidate) (k : ℕ) (ek : k ≡ c.mark) where
  pub made-mark-of : failed < k → false ≡ well_made c
  made-mark-of h = made-mark c (omega arith)

  pub made-empty-of : (n : ℕ) → k ≤ failed → n ≡ c.len → n < 1 → false ≡ well_made c
  made-empty-of n h e g = made-empty c (omega arith) (omega arith)

  pub made-len-of : (n : ℕ) → k ≤ failed → n ≡ c.len → 1 ≤ n → leb n most_id ≡ well_made c
  made-len-of n h e g = ap (λ (x : ℕ). leb x most_id) e ∙ made-len c (omega arith) (omega arith)

pub flies-not : (p : List ℕ) (c : Candidate) (k : ℕ) → k ≡ c.mark → (k ≡ flying → ⊥) → false ≡ flies p c
flies-not p c k e h = flies-no p c (λ g. h (e ∙ g))

pub flies-there : (p : List ℕ) (c : Candidate) (k : ℕ) (q : List ℕ) (b : Bool) → k ≡ c.mark → k ≡ flying → q ≡ c.place → b ≡ same q p → b ≡ flies p c
flies-there p c k q b e h eq eb = flies-same p c b (sym e ∙ h) (eb ∙ ap (λ (x : List ℕ). same x p) eq)

pub follows-far : (d c : Candidate) (t t' p q : List ℕ) (b r : Bool) → b ≡ well_made c → not b ≡ false → t' ≡ t → p ≡ d.place → q ≡ c.place → r ≡ nearer_to t' p q
    → r ≡ (well_made c && nearer_to t d.place c.place)
follows-far d c t t' p q b r e h et ep eq er =
    both_yes b (well_made c) (nearer_to t d.place c.place) r e h
    (er ∙ ap (λ (x : List ℕ). nearer_to x p q) et ∙ ap₂ (λ (x y : List ℕ). nearer_to t x y) ep eq)

-- ---- what stands before the candidates, and the candidates
unfoldable pub headed : List ℕ → List Candidate → Lookup
headed s cs =
    record {
      candidates = cs;
      key = bytes_at most_key s key_at;
      target = bytes_at place_size s target_at;
      count = byte_at s 0 + byte_at s 1 * 256;
      size = byte_at s 2;
      limit = byte_at s 3;
      turned = ltb 0 (byte_at s 4);
    }

pub lookup-split : (m : List ℕ) → flat_size ≤ length m → lookup_in m ≡ headed (take candidates_at m) (candidates_in room (drop candidates_at m))
unfolding headed
lookup-split m l =
    let s : List ℕ = take candidates_at m in
    let t : List ℕ = drop candidates_at m in
    let n : length s ≡ candidates_at = length-take-le candidates_at m (omega arith) in
    let e : m ≡ s ++ t = sym (take-append-drop candidates_at m) in
    let byte : (i : ℕ) → i < candidates_at → byte_at m i ≡ byte_at s i = λ i h. ap (λ (x : List ℕ). byte_at x i) e ∙ get_or-append s t 0 i (omega arith) in
    let ek : bytes_at most_key m key_at ≡ bytes_at most_key s key_at = ap (λ (x : List ℕ). bytes_at most_key x key_at) e ∙ bytes-further most_key s t key_at (omega arith) in
    let et : bytes_at place_size m target_at ≡ bytes_at place_size s target_at = ap (λ (x : List ℕ). bytes_at place_size x target_at) e ∙ bytes-further place_size s t target_at (omega arith) in
    together (candidates_in room t) _ _ ek et (byte 0 (omega arith)) (byte 1 (omega arith)) (byte 2 (omega arith)) (byte 3 (omega arith)) (byte 4 (omega arith))
  where
    together : (cs : List Candidate) (k p : List ℕ) {k' p' : List ℕ} → k' ≡ k → p' ≡ p → {a b c d f a' b' c' d' f' : ℕ} → a' ≡ a → b' ≡ b → c' ≡ c → d' ≡ d → f' ≡ f
        → ◌≡◌ {A = Lookup} (record { candidates = cs; key = k'; target = p'; count = a' + b' * 256; size = c'; limit = d'; turned = ltb 0 f' })
        (record { candidates = cs; key = k; target = p; count = a + b * 256; size = c; limit = d; turned = ltb 0 f })
    together cs k p ek et ea eb ec ed ef = rw (ek, et, ea, eb, ec, ed, ef)
