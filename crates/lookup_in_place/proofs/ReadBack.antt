-- A lookup whose arrays have their lengths and whose numbers fit is read back from the bytes that it is written to. What a start hands back is such a
-- one. Assumes nothing.
use Prim.Native.Nat.{ℕ, zero, suc, ◌-◌, ◌≤◌, ◌<◌}
use mathlib.Core.Path.{◌≡◌, sym, ◌∙◌, subst}
use mathlib.Core.Bool.{Bool, true, false, cond, not}
use mathlib.Core.List.{List, [], ◌∷◌, ◌++◌, map}
use native.Mathlib.Nat.{not-suc-le-zero}
use native.Mathlib.Omega.{arith}
use lib.Dec.{leb}
use lib.ListN.{length, get_or, replicate, length-append, length-map, length-replicate}
use lib.Seq.{sets}
use borrow.Author.Tests.{leb-true, not-false}
use Rattle.octets.proofs.Bools.{cond_ind, and_r}
use Rattle.limits.specs.Limits.{most_id, place_size, most_key}
use Rattle.sha256.specs.Sha256.{sha256}
use Rattle.sha256.proofs.Laws.{length-sha256}
use Rattle.contacts.specs.Table.{slot, place}
use Rattle.contacts.specs.Contact.{entry_id}
use Rattle.contacts.specs.Near.{nearest_slots}
use Rattle.contacts.specs.Form.{in_form as in_form_table}
use Rattle.lookup_candidates.specs.declared.Candidate.{Candidate}
use Rattle.message.specs.Kinds.{key_fits}
use Rattle.lookup.specs.Lookup.{room, limit_most, nobody, contact_at, id_fits, no_lookup, first_ones, begun, limit_fits, start_of}
use Rattle.lookup.specs.Value.{Lookup, Step}
use Rattle.lookup.proofs.Steps.{settled-lookup}
use Rattle.lookup.proofs.Starting.{nearest-few}
use Rattle.flat_lookup.specs.FlatLookup.{flat_size, lookup_in, lookup_bytes}
use Rattle.flat_lookup.specs.Promises.{SizedCandidate, Sized}
use Rattle.flat_lookup.proofs.Padding.{padded-length}
use Rattle.flat_lookup.proofs.Theorems.{stored-reads-back}
use Rattle.lookup_in_place.specs.InPlace.{started_memory}

-- ---- candidates whose arrays have their lengths
unfoldable pub AllSized : List Candidate → Type 0
AllSized [] = Unit {0}
AllSized (c ∷ cs) = SizedCandidate c × AllSized cs

all-at : (cs : List Candidate) (i : ℕ) → AllSized cs → i < length cs → SizedCandidate (get_or cs i nobody)
unfolding AllSized
all-at [] i h l = absurd (not-suc-le-zero l)
all-at (c ∷ cs) zero h l = h.0
all-at (c ∷ cs) (suc i) h l = all-at cs i h.1 (omega arith)

pub all_append : (cs ds : List Candidate) → AllSized cs → AllSized ds → AllSized (cs ++ ds)
unfolding AllSized
all_append [] ds h g = g
all_append (c ∷ cs) ds h g = (h.0, all_append cs ds h.1 g)

nobody-sized : SizedCandidate nobody
nobody-sized = record { id_long = length-replicate {A = ℕ} most_id 0; place_long = length-replicate {A = ℕ} 32 0 }

all-nobody : (n : ℕ) → AllSized (replicate n nobody)
unfolding AllSized
all-nobody zero = tt
all-nobody (suc n) = (nobody-sized, all-nobody n)

all-contacts : (t : List ℕ) (is : List ℕ) → AllSized (map (contact_at t) is)
unfolding AllSized
all-contacts t [] = tt
all-contacts t (i ∷ is) =
    (record { id_long = padded-length most_id (entry_id (slot t i)); place_long = padded-length 32 (place (slot t i)) }, all-contacts t is)

-- ---- a lookup whose arrays have their lengths, and whose numbers fit too
pub record Shaped (l : Lookup) : Type 0 where
  pub long : length l.candidates ≡ room
  pub key : length l.key ≡ most_key
  pub target : length l.target ≡ place_size
  pub all : AllSized l.candidates

pub record Storable (l : Lookup) : Type 0 where
  pub shape : Shaped l
  pub count : l.count ≤ room
  pub size : l.size ≤ most_key
  pub limit : l.limit ≤ limit_most

pub shaped-sized : (l : Lookup) → Shaped l → Sized l
shaped-sized l a =
    record { candidates_long = a.long; key_long = a.key; target_long = a.target; each = λ i k. all-at l.candidates i a.all (omega (arith, a.long)) }

pub reads-back : (m : List ℕ) (l : Lookup) → flat_size ≤ length m → Storable l → lookup_in (sets m 0 (lookup_bytes l)) ≡ l
reads-back m l n h =
    stored-reads-back m l n (shaped-sized l h.shape)
    (record { count_fits = omega (arith, h.count); size_fits = omega (arith, h.size); limit_fits = omega (arith, h.limit) })

-- ---- a start, refused or not
nothing-storable : Storable no_lookup
nothing-storable =
    record {
      shape = record { long = length-replicate room nobody; key = length-replicate {A = ℕ} most_key 0; target = length-replicate {A = ℕ} 32 0; all = all-nobody room };
      count = omega arith;
      size = omega arith;
      limit = omega arith;
    }

pub first-few : (t x : List ℕ) → length (first_ones t x) ≤ 20
unfolding first_ones
first-few t x = omega (arith, nearest-few t x, length-map (nearest_slots t x) (contact_at t))

pub begun-storable : (t key : List ℕ) (limit : ℕ) → length key ≤ most_key → limit ≤ limit_most → Storable (begun t key limit)
unfolding first_ones
begun-storable t key limit k n =
    let x : List ℕ = sha256 key in
    let cs : List Candidate = first_ones t x in
    let few : length cs ≤ 20 = first-few t x in
    record {
      shape = record {
        long = length-append cs (replicate (room - length cs) nobody) ∙ omega (arith, length-replicate (room - length cs) nobody);
        key = padded-length most_key key;
        target = length-sha256 key;
        all = all_append cs (replicate (room - length cs) nobody) (all-contacts t (nearest_slots t x)) (all-nobody (room - length cs));
      };
      count = omega arith;
      size = k;
      limit = n;
    }

pub start-storable : (t own ours key : List ℕ) (limit : ℕ) → Storable (start_of t own ours key limit).lookup
unfolding start_of key_fits
start-storable t own ours key limit =
    go (not (in_form_table t ours)) _ _ (λ e. nothing-storable)
    (λ e. go (not (key_fits key)) _ _ (λ e. nothing-storable)
    (λ k. go (not (id_fits own)) _ _ (λ e. nothing-storable)
    (λ e. go (not (limit_fits limit)) _ _ (λ e. nothing-storable)
    (λ n. subst Storable (sym (settled-lookup (begun t key limit)))
    (begun-storable t key limit (leb-true (length key) most_key (and_r (leb 1 (length key)) _ (not-false (key_fits key) k)))
    (leb-true limit limit_most (and_r (leb 1 limit) _ (not-false (limit_fits limit) n))))))))
  where
    go : (b : Bool) (x y : Step) → (b ≡ true → Storable x.lookup) → (b ≡ false → Storable y.lookup) → Storable (cond b x y).lookup
    go = cond_ind (λ (s : Step). Storable s.lookup)

pub start-reads : (m t own ours key : List ℕ) (limit : ℕ) → flat_size ≤ length m
    → lookup_in (started_memory m (start_of t own ours key limit)) ≡ (start_of t own ours key limit).lookup
start-reads m t own ours key limit n = reads-back m (start_of t own ours key limit).lookup n (start-storable t own ours key limit)
