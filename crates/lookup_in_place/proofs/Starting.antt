-- Laws of a start: the contacts in some slots as candidates, a lookup written whole, and what a start says and leaves. Assumes nothing.
use Prim.Native.Nat.{ℕ, zero, suc, ◌+◌, ◌-◌, ◌*◌, ◌≤◌, ◌<◌}
use mathlib.Core.Path.{◌≡◌, refl, sym, ap, ap₂, ◌∙◌, subst}
use mathlib.Core.List.{List, [], ◌∷◌, ◌++◌, map}
use native.Mathlib.Nat.{not-suc-le-zero}
use native.Mathlib.Omega.{arith}
use lib.Dec.{ltb}
use lib.ListN.{length, get_or, take, replicate, length-append, length-map, length-replicate, get_or-replicate, get_or-append}
use lib.Seq.{sets, length-sets, length-take-le, get_or-take, get_or-append-add}
use borrow.Author.Tests.{lt-ltb, le-ltb}
use Rattle.octets.proofs.Bools.{cond_yes, cond_no}
use Rattle.limits.specs.Limits.{most_key}
use Rattle.refusal.specs.declared.Refusal.{Refusal}
use Rattle.refusal.specs.declared.Refusal.TheVariants.{OutOfForm}
use Rattle.sha256.specs.Sha256.{sha256}
use Rattle.contacts.specs.Near.{nearest_slots, nearest_of}
use Rattle.contacts.specs.declared.Closest.{Closest}
use Rattle.contacts.proofs.Sorting.{take-filled}
use Rattle.lookup_candidates.specs.declared.Candidate.{Candidate}
use Rattle.lookup.specs.Value.{Lookup, Step}
use Rattle.lookup.specs.Lookup.{room, limit_most, padded, nobody, contact_at, refuses, settled, no_lookup, first_ones, begun}
use Rattle.lookup.proofs.Starting.{nearest-few, near-count}
use Rattle.flat_lookup.specs.FlatLookup.{candidate_size, candidates_at, flat_size, lookup_in, candidate_bytes, head_bytes, lookup_bytes}
use Rattle.flat_lookup.proofs.Writing.{Putting, put_one, put-long, put_all}
use Rattle.lookup_in_place.specs.declared.Outcome.{Outcome}
use Rattle.lookup_in_place.specs.InPlace.{answers, outcome_of, step_in, started_memory, start_memory}
use Rattle.lookup_in_place.specs.Inner.{opened, members_of}
use Rattle.lookup_in_place.proofs.Steps.{short-step}
use Rattle.lookup.proofs.Steps.{settled-lookup}
use Rattle.lookup_in_place.proofs.ReadBack.{reads-back, first-few, begun-storable}
use Rattle.std.specs.Prelude.{Err}

-- ---- contacts as candidates, nobody after them
contact-in : (t is : List ℕ) (i : ℕ) → i < length is → get_or (map (contact_at t) is) i nobody ≡ contact_at t (get_or is i 0)
contact-in t [] i h = absurd (not-suc-le-zero h)
contact-in t (a ∷ is) zero h = refl
contact-in t (a ∷ is) (suc i) h = contact-in t is i (omega arith)

module _ (t at : List ℕ) (n : ℕ) (long : length at ≡ 20) (few : n ≤ 20) where
  taken-long : length (take n at) ≡ n
  taken-long = length-take-le n at (omega arith)

  held-long : length (map (contact_at t) (take n at)) ≡ n
  held-long = length-map (take n at) (contact_at t) ∙ taken-long

  members-long : length (members_of t at n) ≡ room
  members-long = length-append (map (contact_at t) (take n at)) (replicate (room - n) nobody) ∙ omega (arith, held-long, length-replicate (room - n) nobody)

  pub member-held : (i : ℕ) (c : Candidate) → i < n → c ≡ contact_at t (get_or at i 0) → c ≡ get_or (members_of t at n) i nobody
  member-held i c h e =
      e ∙ sym (get_or-append (map (contact_at t) (take n at)) (replicate (room - n) nobody) nobody i (omega (arith, held-long))
      ∙ contact-in t (take n at) i (omega (arith, taken-long)) ∙ ap (contact_at t) (get_or-take n at i 0 h))

  pub member-none : (i : ℕ) (c : Candidate) → n ≤ i → i < room → c ≡ nobody → c ≡ get_or (members_of t at n) i nobody
  member-none i c h l e =
      let k : i ≡ length (map (contact_at t) (take n at)) + (i - n) = omega (arith, held-long) in
      e ∙ sym (ap (λ (j : ℕ). get_or (members_of t at n) j nobody) k
      ∙ get_or-append-add (map (contact_at t) (take n at)) (replicate (room - n) nobody) (i - n) nobody
      ∙ get_or-replicate (room - n) (i - n) nobody nobody (omega arith))

  -- one more of them is stored
  pub member-put : (m₀ m m' : List ℕ) (i : ℕ) (c : Candidate) → i < room → c ≡ get_or (members_of t at n) i nobody
      → m' ≡ sets m (candidates_at + i * candidate_size) (candidate_bytes c) → Putting m₀ (members_of t at n) m i → Putting m₀ (members_of t at n) m' (i + 1)
  member-put m₀ m m' i c h ec e p =
      put_one m₀ (members_of t at n) m i nobody m' members-long h (e ∙ ap (λ (x : Candidate). sets m (candidates_at + i * candidate_size) (candidate_bytes x)) ec) p

  -- all are, after what stands before them, which says nothing of them
  module _ (m x z key target : List ℕ) (size limit i : ℕ) (e : x ≡ sets m 0 (head_bytes (opened key target n size limit []))) (p : Putting x (members_of t at n) z i) where
    headed : x ≡ sets m 0 (head_bytes (opened key target n size limit (members_of t at n)))
    unfolding head_bytes
    headed = e

    pub lookup-long : length z ≡ length m
    lookup-long = put-long m (opened key target n size limit (members_of t at n)) x z i headed p

    pub lookup-put : room ≤ i → z ≡ sets m 0 (lookup_bytes (opened key target n size limit (members_of t at n)))
    lookup-put h = put_all m (opened key target n size limit (members_of t at n)) x z i headed members-long h p

-- ---- a lookup as it starts
pub near-few : (t x : List ℕ) (near : Closest) → near ≡ nearest_of t x → near.n ≤ 20
near-few t x near e = omega (arith, near-count t x near e, nearest-few t x)

opened-begun : (t key target kept : List ℕ) (limit : ℕ) (near : Closest) → target ≡ sha256 key → near ≡ nearest_of t target → kept ≡ padded most_key key
    → opened kept target near.n (length key) limit (members_of t near.at near.n) ≡ begun t key limit
unfolding first_ones nearest_of
opened-begun t key target kept limit near et en ek =
    let is : List ℕ = nearest_slots t target in
    ap (λ (c : Closest). opened kept target c.n (length key) limit (members_of t c.at c.n)) en
    ∙ ap (λ (l : List ℕ). opened kept target (length is) (length key) limit (map (contact_at t) l ++ replicate (room - length is) nobody)) (take-filled is (nearest-few t target))
    ∙ ap (λ (n : ℕ). opened kept target n (length key) limit (map (contact_at t) is ++ replicate (room - n) nobody)) (sym (length-map is (contact_at t)))
    ∙ ap₂ (λ (k x : List ℕ). opened k x (length (first_ones t x)) (length key) limit (first_ones t x ++ replicate (room - length (first_ones t x)) nobody)) ek et

pub begins : (m m' t key target kept : List ℕ) (limit : ℕ) (near : Closest) → flat_size ≤ length m → length key ≤ most_key → limit ≤ limit_most
    → target ≡ sha256 key → near ≡ nearest_of t target → kept ≡ padded most_key key
    → m' ≡ sets m 0 (lookup_bytes (opened kept target near.n (length key) limit (members_of t near.at near.n)))
    → (m' ≡ sets m 0 (lookup_bytes (begun t key limit))) × (lookup_in m' ≡ begun t key limit)
begins m m' t key target kept limit near h k l et en ek e =
    let w : m' ≡ sets m 0 (lookup_bytes (begun t key limit)) = e ∙ ap (λ (x : Lookup). sets m 0 (lookup_bytes x)) (opened-begun t key target kept limit near et en ek) in
    (w, ap lookup_in w ∙ reads-back m (begun t key limit) h (begun-storable t key limit k l))

-- ---- what a start says and leaves
abbrev pub Left : Step → List ℕ → List ℕ → Outcome → Type 0
Left s m m' o = (o ≡ outcome_of (step_in m s)) × (m' ≡ start_memory m s)

pub start-short : (m : List ℕ) (s : Step) (o : Outcome) → length m < flat_size → o ≡ answers (Err OutOfForm) → Left s m m o
start-short m s o h e =
    ((short-step m s o h e).0, sym (cond_yes (ltb (length m) flat_size) m (started_memory m s) (lt-ltb (length m) flat_size h)))

start-long : (m m' : List ℕ) (s : Step) (o : Outcome) → flat_size ≤ length m → o ≡ outcome_of s → m' ≡ started_memory m s → Left s m m' o
start-long m m' s o h e q =
    let no = le-ltb (length m) flat_size h in
    (e ∙ ap outcome_of (sym (cond_no (ltb (length m) flat_size) (refuses (lookup_in m) OutOfForm) s no)), q ∙ sym (cond_no (ltb (length m) flat_size) m (started_memory m s) no))

pub start-refused : (m m' : List ℕ) (s : Step) (r : Refusal) (o : Outcome) → flat_size ≤ length m → refuses no_lookup r ≡ s
    → (o ≡ answers (Err r)) × (m' ≡ sets m 0 (lookup_bytes no_lookup)) → Left s m m' o
start-refused m m' s r o h e q = subst (λ (x : Step). Left x m m' o) e (start-long m m' (refuses no_lookup r) o h q.0 q.1)

pub start-settled : (m m' t key : List ℕ) (limit : ℕ) (s : Step) (o : Outcome) → flat_size ≤ length m → settled (begun t key limit) ≡ s
    → (m' ≡ sets m 0 (lookup_bytes (begun t key limit))) × (lookup_in m' ≡ begun t key limit) → o ≡ outcome_of (settled (lookup_in m')) → Left s m m' o
start-settled m m' t key limit s o h e w q =
    let l : Lookup = begun t key limit in
    subst (λ (x : Step). Left x m m' o) e
    (start-long m m' (settled l) o h (q ∙ ap (λ (x : Lookup). outcome_of (settled x)) w.1) (w.0 ∙ ap (λ (x : Lookup). sets m 0 (lookup_bytes x)) (sym (settled-lookup l))))

-- `settle` may be asked about it
pub begun-settles : (m m' t key : List ℕ) (limit : ℕ) → flat_size ≤ length m → (m' ≡ sets m 0 (lookup_bytes (begun t key limit))) × (lookup_in m' ≡ begun t key limit)
    → (flat_size ≤ length m') × ((lookup_in m').count ≤ 256)
begun-settles m m' t key limit h w =
    let few : length (first_ones t (sha256 key)) ≤ 256 = omega (arith, first-few t (sha256 key)) in
    (omega (arith, ap length w.0, length-sets m 0 (lookup_bytes (begun t key limit))), subst (λ (x : Lookup). x.count ≤ 256) (sym w.1) few)
