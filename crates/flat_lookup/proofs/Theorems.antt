-- The theorems of specs/Promises.antt. Assumes nothing.
use Prim.Native.Nat.{ℕ, zero, suc, ◌+◌, ◌-◌, ◌*◌, ◌/◌, ◌%◌, ◌≤◌, ◌<◌}
use mathlib.Core.Path.{◌≡◌, refl, sym, ap, ap₂, ◌∙◌}
use mathlib.Core.Bool.{Bool, true, false, cond}
use mathlib.Core.List.{List, [], ◌∷◌, ◌++◌}
use mathlib.Core.Logic.{⊎_elim}
use native.Mathlib.Omega.{arith}
use lib.Dec.{ltb}
use lib.ListN.{length, get_or, take, drop, length-append, length-drop, take-append-drop, get_or-append}
use lib.Seq.{sets-eq, take_all, length-take-le, drop-append-le, drop_at}
use borrow.Author.Tests.{ltb-true, ltb-false}
use Rattle.octets.proofs.Bools.{either}
use Rattle.limits.specs.Limits.{most_id, place_size, most_key}
use Rattle.lookup.specs.Lookup.{room, padded, nobody}
use Rattle.lookup_candidates.specs.declared.Candidate.{Candidate}
use Rattle.lookup.specs.Value.{Lookup}
use Rattle.lookup.proofs.Form.{Formed, formed}
use Rattle.flat_lookup.specs.FlatLookup.{id_at, place_at, candidate_size, key_at, target_at, candidates_at, flat_size, byte_at, bytes_at, candidate_in, candidates_in, lookup_in, candidate_bytes, candidates_bytes, head_bytes, lookup_bytes}
use Rattle.flat_lookup.specs.Promises.{SizedCandidate, Fits, ReadsBack, FormReadsBack, FlatLength, LooksNoFurther, StoredReadsBack}
use Rattle.flat_lookup.proofs.Padding.{padded-length, padded-whole, padded-enough, padded-front}
use Rattle.flat_lookup.proofs.Writing.{candidate-length, candidates-long, head-length}

-- ---- bytes that follow change nothing
pub bytes-further : (n : ℕ) (s t : List ℕ) (i : ℕ) → i + n ≤ length s → bytes_at n (s ++ t) i ≡ bytes_at n s i
bytes-further n s t i h =
    ap (padded n) (drop-append-le i s t (omega arith)) ∙ padded-enough n (drop i s) t (omega (arith, length-drop i s))

pub candidate-further : (s t : List ℕ) → candidate_size ≤ length s → candidate_in (s ++ t) ≡ candidate_in s
candidate-further s t h =
    rw (
      bytes-further most_id s t id_at (omega arith),
      bytes-further place_size s t place_at (omega arith),
      get_or-append s t 0 0 (omega arith),
      get_or-append s t 0 1 (omega arith),
    )

pub candidates-further : (n : ℕ) (s t : List ℕ) → n * candidate_size ≤ length s → candidates_in n (s ++ t) ≡ candidates_in n s
unfolding candidates_in
candidates-further zero s t h = refl
candidates-further (suc n) s t h =
    ap₂ (λ (c : Candidate) (cs : List Candidate). c ∷ cs) (candidate-further s t (omega arith))
    (ap (candidates_in n) (drop-append-le candidate_size s t (omega arith))
    ∙ candidates-further n (drop candidate_size s) t (omega (arith, length-drop candidate_size s)))

further : (s t : List ℕ) → flat_size ≤ length s → lookup_in (s ++ t) ≡ lookup_in s
further s t h =
    rw (
      drop-append-le candidates_at s t (omega arith),
      candidates-further room (drop candidates_at s) t (omega (arith, length-drop candidates_at s)),
      bytes-further most_key s t key_at (omega arith),
      bytes-further place_size s t target_at (omega arith),
      get_or-append s t 0 0 (omega arith),
      get_or-append s t 0 1 (omega arith),
      get_or-append s t 0 2 (omega arith),
      get_or-append s t 0 3 (omega arith),
      get_or-append s t 0 4 (omega arith),
    )

pub looks-no-further : LooksNoFurther
looks-no-further s = ⊎_elim short long (either (ltb (length s) flat_size))
  where
    short : ltb (length s) flat_size ≡ true → lookup_in (take flat_size s) ≡ lookup_in s
    short e = ap lookup_in (take_all flat_size s (omega (arith, ltb-true (length s) flat_size e)))

    long : ltb (length s) flat_size ≡ false → lookup_in (take flat_size s) ≡ lookup_in s
    long e =
        let h : flat_size ≤ length (take flat_size s) = omega (arith, length-take-le flat_size s (ltb-false (length s) flat_size e)) in
        sym (further (take flat_size s) (drop flat_size s) h) ∙ ap lookup_in (take-append-drop flat_size s)

-- ---- candidates
pub candidate-back : (c : Candidate) → SizedCandidate c → candidate_in (candidate_bytes c) ≡ c
unfolding candidate_bytes
candidate-back c h =
    let p : List ℕ = padded most_id c.id in
    let q : List ℕ = padded place_size c.place in
    let ei : padded most_id (p ++ q) ≡ c.id = padded-front most_id p q (padded-length most_id c.id) ∙ padded-whole most_id c.id h.id_long in
    let ep : padded place_size (drop most_id (p ++ q)) ≡ c.place =
    ap (padded place_size) (drop_at p q most_id (padded-length most_id c.id))
    ∙ padded-whole place_size q (padded-length place_size c.place) ∙ padded-whole place_size c.place h.place_long in
    ap₂ (λ (i o : List ℕ). record { id = i; place = o; mark = c.mark; len = c.len }) ei ep

candidates-back : (cs : List Candidate) → ((i : ℕ) → i < length cs → SizedCandidate (get_or cs i nobody)) → candidates_in (length cs) (candidates_bytes cs) ≡ cs
unfolding candidates_in candidates_bytes
candidates-back [] h = refl
candidates-back (c ∷ cs) h =
    let here : candidate_in (candidate_bytes c ++ candidates_bytes cs) ≡ c =
    candidate-further (candidate_bytes c) (candidates_bytes cs) (omega (arith, candidate-length c)) ∙ candidate-back c (h 0 (omega arith)) in
    ap₂ (λ (d : Candidate) (ds : List Candidate). d ∷ ds) here
    (ap (candidates_in (length cs)) (drop_at (candidate_bytes c) (candidates_bytes cs) candidate_size (candidate-length c))
    ∙ candidates-back cs (λ i l. h (suc i) (omega arith)))

-- ---- the numbers, the key and the target
count-back : (n : ℕ) → n < 65536 → n % 256 + n / 256 % 256 * 256 ≡ n
count-back n h = omega arith

low-back : (n : ℕ) → n < 256 → n % 256 ≡ n
low-back n h = omega arith

turned-back : (b : Bool) → ltb 0 (cond b 1 0) ≡ b
turned-back true = refl
turned-back false = refl

key_back : (l : Lookup) → length l.key ≡ most_key → bytes_at most_key (head_bytes l) key_at ≡ l.key
unfolding head_bytes
key_back l h =
    padded-front most_key (padded most_key l.key) (padded place_size l.target) (padded-length most_key l.key) ∙ padded-whole most_key l.key h

target-back : (l : Lookup) → length l.target ≡ place_size → bytes_at place_size (head_bytes l) target_at ≡ l.target
unfolding head_bytes
target-back l h =
    ap (padded place_size) (drop_at (padded most_key l.key) (padded place_size l.target) most_key (padded-length most_key l.key))
    ∙ padded-whole place_size (padded place_size l.target) (padded-length place_size l.target)
    ∙ padded-whole place_size l.target h

-- ---- all of it
pub flat-length : FlatLength
unfolding lookup_bytes
flat-length l h =
    length-append (head_bytes l) (candidates_bytes l.candidates)
    ∙ omega (arith, head-length l, candidates-long l.candidates, h.candidates_long)

numbers-back : (l : Lookup) (t : List ℕ) → Fits l
    → (byte_at (head_bytes l ++ t) 0 + byte_at (head_bytes l ++ t) 1 * 256 ≡ l.count) × (byte_at (head_bytes l ++ t) 2 ≡ l.size) × (byte_at (head_bytes l ++ t) 3 ≡ l.limit)
    × (ltb 0 (byte_at (head_bytes l ++ t) 4) ≡ l.turned)
unfolding head_bytes
numbers-back l t f =
    (count-back l.count f.count_fits, low-back l.size f.size_fits, low-back l.limit f.limit_fits, turned-back l.turned)

pub reads-back : ReadsBack
unfolding lookup_bytes
reads-back l h f =
    let head : List ℕ = head_bytes l in
    let after : List ℕ = candidates_bytes l.candidates in
    let ec : candidates_in room (drop candidates_at (head ++ after)) ≡ l.candidates =
    ap (candidates_in room) (drop_at head after candidates_at (head-length l))
    ∙ ap (λ (n : ℕ). candidates_in n after) (sym h.candidates_long)
    ∙ candidates-back l.candidates (λ i m. h.each i (omega (arith, h.candidates_long))) in
    let ek : bytes_at most_key (head ++ after) key_at ≡ l.key =
    bytes-further most_key head after key_at (omega (arith, head-length l)) ∙ key_back l h.key_long in
    let et : bytes_at place_size (head ++ after) target_at ≡ l.target =
    bytes-further place_size head after target_at (omega (arith, head-length l)) ∙ target-back l h.target_long in
    together l.candidates l.key l.target (head ++ after) ec ek et (numbers-back l after f)
  where
    together : (cs : List Candidate) (k t s : List ℕ) → candidates_in room (drop candidates_at s) ≡ cs → bytes_at most_key s key_at ≡ k → bytes_at place_size s target_at ≡ t
        → (byte_at s 0 + byte_at s 1 * 256 ≡ l.count) × (byte_at s 2 ≡ l.size) × (byte_at s 3 ≡ l.limit) × (ltb 0 (byte_at s 4) ≡ l.turned)
        → lookup_in s ≡ record { candidates = cs; key = k; target = t; count = l.count; size = l.size; limit = l.limit; turned = l.turned }
    together cs k t s ec ek et (en, es, el, eb) = rw (ec, ek, et, en, es, el, eb)

pub form-reads-back : FormReadsBack
form-reads-back l h e =
    let f : Formed l = formed l e in
    reads-back l h record { count_fits = omega (arith, f.fits); size_fits = omega (arith, f.size_high); limit_fits = omega (arith, f.limit_high) }

pub stored-reads-back : StoredReadsBack
stored-reads-back out l room h f =
    let n : length (lookup_bytes l) ≡ flat_size = flat-length l h in
    ap lookup_in (sets-eq (lookup_bytes l) out 0 (omega arith))
    ∙ further (lookup_bytes l) (drop (0 + length (lookup_bytes l)) out) (omega arith)
    ∙ reads-back l h f
