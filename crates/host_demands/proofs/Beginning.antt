-- Memory once cleared is what the theorems ask for. Assumes nothing.
use Prim.Native.Nat.{ℕ, zero, suc, ◌+◌, ◌*◌, ◌≤◌}
use mathlib.Core.Path.{◌≡◌, refl, sym, ap, ◌∙◌, subst}
use mathlib.Core.List.{List, ◌∷◌, ◌++◌}
use native.Mathlib.Omega.{arith}
use lib.ListN.{length, get_or, set, drop, replicate, length-replicate}
use lib.Seq.{sets}
use lib.Dec.{ltb}
use Rattle.limits.specs.Limits.{most_id, place_size, most_key}
use Rattle.stream.specs.declared.Framing.TheVariants.{Shut}
use Rattle.lookup.specs.Value.{Lookup}
use Rattle.lookup.specs.Lookup.{room, padded, nobody, no_lookup}
use Rattle.flat.specs.Flat.{conn_size, framing_at, peer_in, conn_in, framing_in, framing_of, pair_at, with_framing}
use Rattle.flat_lookup.specs.FlatLookup.{id_at, place_at, key_at, target_at, flat_size, candidates_at, candidate_size, candidate_in, candidates_in, lookup_in, candidate_bytes, candidates_bytes, head_bytes, lookup_bytes}
use Rattle.demands.specs.Demands.{Begun}
use Rattle.demands.proofs.Beginning.{beginnings}
use Rattle.host_demands.specs.Calls.{Memory, world_in}
use Rattle.host_demands.specs.Hosted.{Cleared, nothing_yet, Begins}

abbrev zeros : ℕ → List ℕ
zeros n = replicate n 0

-- ---- rows of zeros
zero-at : (n i : ℕ) → get_or (zeros n) i 0 ≡ 0
zero-at zero i = refl
zero-at (suc n) zero = refl
zero-at (suc n) (suc i) = zero-at n i

zero-set : (n i : ℕ) → set (zeros n) i 0 ≡ zeros n
zero-set zero i = refl
zero-set (suc n) zero = refl
zero-set (suc n) (suc i) = ap (λ (x : List ℕ). 0 ∷ x) (zero-set n i)

zeros-in : (k n i : ℕ) → sets (zeros n) i (zeros k) ≡ zeros n
zeros-in zero n i = refl
zeros-in (suc k) n i = ap (λ (x : List ℕ). sets x (suc i) (zeros k)) (zero-set n i) ∙ zeros-in k n (suc i)

-- nothing but zeros
record Blank (l : List ℕ) : Type 0 where
  count : ℕ
  is : l ≡ zeros count

blank : (n : ℕ) → Blank (zeros n)
blank n = record { count = n; is = refl }

blank-in : (l : List ℕ) (n i : ℕ) → Blank l → sets (zeros n) i l ≡ zeros n
blank-in l n i b = ap (sets (zeros n) i) b.is ∙ zeros-in b.count n i

blank-drop : (i n : ℕ) → Blank (drop i (zeros n))
blank-drop zero n = blank n
blank-drop (suc i) zero = blank 0
blank-drop (suc i) (suc n) = blank-drop i n

zeros-on : (a : ℕ) (l : List ℕ) → Blank l → Blank (zeros a ++ l)
zeros-on zero l b = b
zeros-on (suc a) l b = let r : Blank (zeros a ++ l) = zeros-on a l b in record { count = suc r.count; is = ap (λ (x : List ℕ). 0 ∷ x) r.is }

blank-on : (k l : List ℕ) → Blank k → Blank l → Blank (k ++ l)
blank-on k l a b = subst (λ (x : List ℕ). Blank (x ++ l)) (sym a.is) (zeros-on a.count l b)

-- ---- a connection: it is shut, and so written
zero-framing : (n : ℕ) → (conn_in (zeros n)).framing ≡ Shut
unfolding conn_in framing_in framing_of
zero-framing n =
    let b : Blank (drop framing_at (zeros n)) = blank-drop framing_at n in
    ap framing_in b.is
    ∙ ap (λ (x : ℕ). framing_of x (get_or (zeros b.count) 1 0) (get_or (zeros b.count) 2 0) (get_or (zeros b.count) 3 0) (pair_at (zeros b.count) 4) (pair_at (zeros b.count) 6))
    (zero-at b.count 0)

zero-conn : (n : ℕ) → zeros n ≡ with_framing (zeros n) (conn_in (zeros n)).framing
zero-conn n = sym (ap (with_framing (zeros n)) (zero-framing n) ∙ zeros-in 8 n framing_at)

-- ---- a lookup: the empty one
padded-zeros : (n i k : ℕ) → padded n (drop i (zeros k)) ≡ zeros n
padded-zeros n i k = blank-in (drop i (zeros k)) n 0 (blank-drop i k)

zero-candidate : (k : ℕ) → candidate_in (zeros k) ≡ nobody
zero-candidate k =
    λ z. record { id = padded-zeros most_id id_at k z; place = padded-zeros place_size place_at k z; mark = zero-at k 0 z; len = zero-at k 1 z }

zero-candidates : (n k : ℕ) → candidates_in n (zeros k) ≡ replicate n nobody
unfolding candidates_in
zero-candidates zero k = refl
zero-candidates (suc n) k =
    let b : Blank (drop candidate_size (zeros k)) = blank-drop candidate_size k in
    let e : candidates_in n (drop candidate_size (zeros k)) ≡ replicate n nobody = ap (candidates_in n) b.is ∙ zero-candidates n b.count in
    λ z. zero-candidate k z ∷ e z

zero-lookup : (n : ℕ) → lookup_in (zeros n) ≡ no_lookup
zero-lookup n =
    let b : Blank (drop candidates_at (zeros n)) = blank-drop candidates_at n in
    let e : candidates_in room (drop candidates_at (zeros n)) ≡ replicate room nobody = ap (candidates_in room) b.is ∙ zero-candidates room b.count in
    λ z. record {
      candidates = e z;
      key = padded-zeros most_key key_at n z;
      target = padded-zeros place_size target_at n z;
      count = zero-at n 0 z + zero-at n 1 z * 256;
      size = zero-at n 2 z;
      limit = zero-at n 3 z;
      turned = ltb 0 (zero-at n 4 z);
    }

padded-blank : (n k : ℕ) → Blank (padded n (zeros k))
padded-blank n k = record { count = n; is = zeros-in k n 0 }

nobody-blank : Blank (candidate_bytes nobody)
unfolding candidate_bytes
nobody-blank = zeros-on 2 _ (blank-on (padded most_id (zeros most_id)) (padded place_size (zeros 32)) (padded-blank most_id most_id) (padded-blank place_size 32))

none-blank : (n : ℕ) → Blank (candidates_bytes (replicate n nobody))
unfolding candidates_bytes
none-blank zero = blank 0
none-blank (suc n) = blank-on (candidate_bytes nobody) (candidates_bytes (replicate n nobody)) nobody-blank (none-blank n)

head-blank : Blank (head_bytes no_lookup)
unfolding head_bytes
head-blank = zeros-on 8 _ (blank-on (padded most_key (zeros most_key)) (padded place_size (zeros 32)) (padded-blank most_key most_key) (padded-blank place_size 32))

empty-blank : Blank (lookup_bytes no_lookup)
unfolding lookup_bytes
empty-blank = blank-on (head_bytes no_lookup) (candidates_bytes (replicate room nobody)) head-blank (none-blank room)

zero-written : (n : ℕ) → zeros n ≡ sets (zeros n) 0 (lookup_bytes (lookup_in (zeros n)))
zero-written n = sym (ap (λ (l : Lookup). sets (zeros n) 0 (lookup_bytes l)) (zero-lookup n) ∙ blank-in (lookup_bytes no_lookup) n 0 empty-blank)

-- ---- all of memory
pub begun : (m : Memory) → Cleared m → Begun (world_in m nothing_yet)
begun m c =
    record {
      contact_bytes = c.contact_bytes;
      record_bytes = c.record_bytes;
      contacts = c.contacts;
      records = c.records;
      reply = c.reply;
      shut = λ i. ap (λ (x : List ℕ). (conn_in x).framing) (c.conns i) ∙ zero-framing (c.conn_bytes i);
      buffers = c.buffers;
    }

long : (x : List ℕ) (n k : ℕ) → x ≡ zeros n → k ≤ n → k ≤ length x
long x n k e h = subst (λ (y : List ℕ). k ≤ length y) (sym e) (omega (arith, h, length-replicate {A = ℕ} n 0))

pub begins : Begins
begins me m c = (
  record {
    conns = λ i. long (m.conns i) (c.conn_bytes i) conn_size (c.conns i) (c.conn_room i);
    lookups = λ j. long (m.lookups j) (c.lookup_sizes j) flat_size (c.lookups j) (c.lookup_room j);
  },
  record {
    conns = λ i. subst (λ (x : List ℕ). x ≡ with_framing x (conn_in x).framing) (sym (c.conns i)) (zero-conn (c.conn_bytes i));
    lookups = λ j. subst (λ (x : List ℕ). x ≡ sets x 0 (lookup_bytes (lookup_in x))) (sym (c.lookups j)) (zero-written (c.lookup_sizes j));
  },
  beginnings.ready (peer_in me) (world_in m nothing_yet) (begun m c),
)
