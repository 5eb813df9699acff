-- Form is kept by seen, settle, remove and doubt. Assumes nothing.
use Prim.Native.Nat.{ℕ, zero, suc, ◌+◌, ◌<◌, ◌≤◌}
use mathlib.Core.Path.{◌≡◌, refl, sym, ap, ap₂, ◌∙◌, subst}
use mathlib.Core.Logic.{⊎_elim}
use mathlib.Core.Bool.{Bool, true, false, not, ◌&&◌}
use mathlib.Core.List.{List, [], ◌∷◌, ◌++◌}
use native.Mathlib.Nat.{not-suc-le-zero}
use native.Mathlib.Omega.{arith}
use lib.Dec.{ltb, leb, eqb}
use lib.ListN.{length, get_or, take, set, length-set, get_or-append}
use lib.Seq.{sets, length-sets, get_or-append-add, get_or-set_same, take_at, drop_at}
use borrow.Author.Tests.{ltb-true, leb-false}
use Rattle.octets.specs.Octets.{part}
use Rattle.octets.proofs.Bools.{not-both, to-false, eq-or-ne, cond_ind}
use Rattle.octets.proofs.Parts.{part-part}
use Rattle.octets.proofs.Stores.{take-sets, drop-sets, get_d_sets_before}
use Rattle.place.specs.Place.{bucket_of}
use Rattle.contacts.specs.Table.{slot_size, slots_of, slot, put_slot, mark, used, doubt, doubtful, id_size, address_count, address_size, place}
use Rattle.contacts.specs.Form.{in_form}
use Rattle.contact_form.specs.Claims.{Fields}
use Rattle.contact_form.proofs.FormFacts.{form-elim, form-intro}
use Rattle.peer.specs.declared.Peer.{Peer}
use Rattle.peer.proofs.Slot.{bytes-length}
use Rattle.peer.specs.Peers.{peer_of}
use Rattle.peer.proofs.Lists.{size-most, size-least}
use Rattle.peer.proofs.Meaning.{id-length, addrs-length, lens-length, place_is, size_is, count-few, lens-usable}
use Rattle.sightings.specs.declared.Sighting.{Sighting}
use Rattle.sightings.specs.declared.Settled.{Settled}
use Rattle.sightings.specs.Order.{of_bucket, is_at, held_at, free_at, tail_of, with_mark, with_doubt, contact_bytes, free_bytes, with_addresses, renewed, leave, tailed, move_to_tail, move_and_renew, dropped, join_at, join, doubt_at}
use Rattle.sightings.specs.Sightings.{held, newcomer, sighting_of, after_sighting, seen_table, fits, settlement_of, after_settling, settled_table, removal_of, after_removal, removed_table, marking_of, after_marking, marked_table}
use Rattle.sightings_kept.specs.Promises.{Fair}
use Rattle.contact_order.proofs.Slots.{slot-long, slots-put, slot-put, slot-other, put-put}
use Rattle.contact_order.proofs.Tests.{of-used, held-lt, held-ge, held-is, held-not, at-used, at_place, at-make, free-is, tail-le}
use Rattle.contact_order.proofs.Closing.{leave-in}
use Rattle.sightings.proofs.Moves.{tailed-long, free-long}
use Rattle.sightings.proofs.Dropping.{place-mark, mark-mark, drop-slots, drop-freed, drop-free}
use Rattle.sightings.proofs.Doubting.{doubt-byte, doubt-long, place-doubt, mark-doubt, doubt-doubt}
use Rattle.sightings.proofs.Calls.{fits-held, fits-bucket, fits-full, fits-new}
use Rattle.sightings_kept.proofs.Ordered.{Ordered, from-form, to-form, fields-by, mark-byte}
use Rattle.sightings_kept.proofs.Kept.{kept-place, kept-used, drop-form, drop-tail-down, enter-form}
use Rattle.std.specs.Prelude.{Result, ⊤}
use Rattle.refusal.specs.declared.Refusal.{Refusal}

-- ---- the bytes of a run of stores
pub get_d-sets-in : (l : List ℕ) (i : ℕ) (vs : List ℕ) (k : ℕ) → k < length vs → i + length vs ≤ length l → get_or (sets l i vs) (i + k) 0 ≡ get_or vs k 0
get_d-sets-in l i [] k h g = absurd (not-suc-le-zero h)
get_d-sets-in l i (v ∷ vs) zero h g =
    let e : i + 0 ≡ i = omega arith in
    rw e (get_d_sets_before (set l i v) (suc i) vs i (omega arith) ∙ get_or-set_same l i v 0 (omega arith))
get_d-sets-in l i (v ∷ vs) (suc k) h g =
    let e : i + suc k ≡ suc i + k = omega arith in
    rw e (get_d-sets-in (set l i v) (suc i) vs k (omega arith) (omega (arith, length-set l i v)))

-- ---- a peer of an entry point may come in
pub fair-peer : (o id pl addresses : List ℕ) → 1 ≤ length id → length id ≤ 64 → length pl ≡ 32 → bucket_of pl o < 256 → Fair o (peer_of id pl addresses)
fair-peer o id pl addresses least most long other = record {
  id_least = omega (arith, size_is id pl addresses);
  id_most = omega (arith, size_is id pl addresses);
  few = count-few id pl addresses;
  sizes = λ k l. (size-least _ (lens-usable id pl addresses k l), size-most _ (lens-usable id pl addresses k l));
  other = subst (λ (x : List ℕ). bucket_of x o < 256) (sym (place_is id pl addresses)) other;
  lens_long = lens-length id pl addresses;
  place_long = ap length (place_is id pl addresses) ∙ long;
  id_long = id-length id pl addresses;
  addrs_long = addrs-length id pl addresses;
}

-- ---- the bytes of a contact
module _ (o : List ℕ) (p : Peer) (G : Fair o p) (m : ℕ) where
  pub bytes-long : length (contact_bytes m p) ≡ slot_size
  bytes-long = bytes-length m p G.lens_long G.place_long G.id_long G.addrs_long

  pub bytes-mark : mark (contact_bytes m p) ≡ m
  unfolding mark contact_bytes
  bytes-mark = refl

  bytes-lens : (k : ℕ) → k < 4 → get_or (p.lens ++ (p.place ++ (p.id ++ p.addrs))) k 0 ≡ get_or p.lens k 0
  bytes-lens k h = get_or-append p.lens _ 0 k (omega (arith, G.lens_long))

  pub bytes-size : (k : ℕ) → k < 4 → address_size (contact_bytes m p) k ≡ get_or p.lens k 0
  unfolding address_size contact_bytes
  bytes-size k h = get_or-append-add (m ∷ 0 ∷ p.size ∷ p.count ∷ []) (p.lens ++ (p.place ++ (p.id ++ p.addrs))) k 0 ∙ bytes-lens k h

  pub bytes-fields : m ≤ 20 → Fields (contact_bytes m p)
  unfolding contact_bytes mark doubt id_size address_count
  bytes-fields h = record {
    ranked = h;
    doubted = omega arith;
    id_least = G.id_least;
    id_most = G.id_most;
    few = G.few;
    sizes = λ k l.
        let q = bytes-size k (omega (arith, G.few)) in
        let r = G.sizes k l in
        (omega (arith, r.0), omega (arith, r.1));
  }

  -- a contact joins unmarked
  pub bytes-trusted : doubtful (contact_bytes m p) ≡ false
  unfolding doubtful doubt contact_bytes
  bytes-trusted = refl

  pub bytes-place : place (contact_bytes m p) ≡ p.place
  unfolding place contact_bytes
  bytes-place =
      ap (take 32) (drop_at p.lens (p.place ++ (p.id ++ p.addrs)) 4 G.lens_long) ∙ take_at p.place (p.id ++ p.addrs) 32 G.place_long

-- ---- a slot with new addresses
module _ (o : List ℕ) (p : Peer) (G : Fair o p) (s : List ℕ) (h : length s ≡ slot_size) where
  addr-byte : (k : ℕ) → k < 104 → get_or (with_addresses p s) k 0 ≡ get_or (sets s 3 (p.count ∷ p.lens)) k 0
  unfolding with_addresses
  addr-byte k l = get_d_sets_before (sets s 3 (p.count ∷ p.lens)) 104 p.addrs k l

  old : (k : ℕ) → k < 3 → get_or (with_addresses p s) k 0 ≡ get_or s k 0
  old k l = addr-byte k (omega arith) ∙ get_d_sets_before s 3 (p.count ∷ p.lens) k l

  new : (k : ℕ) → k < 5 → get_or (with_addresses p s) (3 + k) 0 ≡ get_or (p.count ∷ p.lens) k 0
  new k l = addr-byte (3 + k) (omega arith) ∙ get_d-sets-in s 3 (p.count ∷ p.lens) k (omega (arith, G.lens_long)) (omega (arith, G.lens_long))

  pub addr-mark : mark (with_addresses p s) ≡ mark s
  unfolding mark
  addr-mark = old 0 (omega arith)

  pub addr-doubt : doubt (with_addresses p s) ≡ doubt s
  unfolding doubt
  addr-doubt = old 1 (omega arith)

  pub addr-place : place (with_addresses p s) ≡ place s
  unfolding place with_addresses
  addr-place =
      sym (part-part (sets (sets s 3 (p.count ∷ p.lens)) 104 p.addrs) 0 104 8 40 (omega arith))
      ∙ ap (λ (x : List ℕ). part x 8 40) (take-sets 104 (sets s 3 (p.count ∷ p.lens)) 104 p.addrs (omega arith))
      ∙ part-part (sets s 3 (p.count ∷ p.lens)) 0 104 8 40 (omega arith)
      ∙ ap (take 32) (drop-sets 8 s 3 (p.count ∷ p.lens) (omega (arith, G.lens_long)))

  pub addr-long : length (with_addresses p s) ≡ slot_size
  unfolding with_addresses
  addr-long = length-sets _ 104 p.addrs ∙ length-sets s 3 (p.count ∷ p.lens) ∙ h

  pub addr-fields : Fields s → Fields (with_addresses p s)
  unfolding mark doubt id_size address_count address_size
  addr-fields f = record {
    ranked = omega (arith, old 0 (omega arith), f.ranked);
    doubted = omega (arith, old 1 (omega arith), f.doubted);
    id_least = omega (arith, old 2 (omega arith), f.id_least);
    id_most = omega (arith, old 2 (omega arith), f.id_most);
    few = omega (arith, new 0 (omega arith), G.few);
    sizes = λ k l. size k (omega (arith, new 0 (omega arith)));
  }
    where
      size : (k : ℕ) → k < p.count → (1 ≤ get_or (with_addresses p s) (4 + k) 0) × (get_or (with_addresses p s) (4 + k) 0 ≤ 128)
      size k l =
          let e : 3 + suc k ≡ 4 + k = omega arith in
          let q : get_or (with_addresses p s) (4 + k) 0 ≡ get_or p.lens k 0 = ap (λ (x : ℕ). get_or (with_addresses p s) x 0) (sym e) ∙ new (suc k) (omega (arith, G.few)) in
          let r = G.sizes k l in
          (omega (arith, r.0), omega (arith, r.1))

-- ---- join
pub join-form : (t o : List ℕ) (p : Peer) → Fair o p → Ordered t o → (i : ℕ) → i < slots_of t → used (slot t i) ≡ false → tail_of t o (bucket_of p.place o) < 20
    → held t p.place ≡ false → Ordered (join_at t o i p) o
unfolding join_at
join-form t o p G F i l z k new =
    let m : ℕ = tail_of t o (bucket_of p.place o) + 1 in
    enter-form t o i l F z (contact_bytes m p) (bytes-long o p G m) (bucket_of p.place o) (ap (λ (x : List ℕ). bucket_of x o) (bytes-place o p G m)) G.other
    (bytes-fields o p G m (omega arith)) (bytes-mark o p G m)
    (λ j lj u e. not-both (is_at p.place (slot t j)) (at-make p.place (slot t j) u (e ∙ bytes-place o p G m)) (held-not t p.place (held-ge t p.place new) j lj))

-- ---- to the tail: out, and in again
module _ (t o : List ℕ) (i : ℕ) (l : i < slots_of t) (F : Ordered t o) (u : used (slot t i) ≡ true) where
  tail-few : tail_of t o (bucket_of (place (slot t i)) o) ≤ 20
  tail-few = tail-le t o (bucket_of (place (slot t i)) o) 20 (λ j lj g. (F.sound j lj (of-used o _ (slot t j) g)).0.ranked)

  again : (s : List ℕ) → length s ≡ slot_size → place s ≡ place (slot t i) → Fields s → mark s ≡ tail_of t o (bucket_of (place (slot t i)) o) → Ordered (put_slot (leave t o i) i s) o
  unfolding dropped
  again s long e f m =
      let ld : i < slots_of (dropped t o i) = subst (λ (n : ℕ). i < n) (sym (drop-slots t o i l)) l in
      let down : tail_of (dropped t o i) o (bucket_of (place (slot t i)) o) + 1 ≡ tail_of t o (bucket_of (place (slot t i)) o) = drop-tail-down t o i l F u in
      subst (λ (x : List ℕ). Ordered x o) (put-put (leave t o i) i free_bytes (leave-in t o i l) free-long s long)
      (enter-form (dropped t o i) o i ld (drop-form t o i l F u) (drop-freed t o i l) s long (bucket_of (place (slot t i)) o) (ap (λ (x : List ℕ). bucket_of x o) e)
      (F.sound i l u).1 f (m ∙ sym down) (λ j lj v q. other j (subst (λ (n : ℕ). j < n) (drop-slots t o i l) lj) v (q ∙ e)))
    where
      other : (j : ℕ) → j < slots_of t → used (slot (dropped t o i) j) ≡ true → place (slot (dropped t o i) j) ≡ place (slot t i) → ⊥
      other j lj v q =
          let ne : j ≡ i → ⊥ = λ z. not-both (used (slot (dropped t o i) j)) v (ap (λ (k : ℕ). used (slot (dropped t o i) k)) z ∙ drop-freed t o i l) in
          ne (F.twins j i lj l (sym (kept-used t o i l F u j lj ne) ∙ v) u (sym (kept-place t o i l F u j lj ne) ∙ q))

  pub tailed-place : place (tailed t o i) ≡ place (slot t i)
  unfolding tailed
  tailed-place = place-doubt 0 (with_mark (tail_of t o (bucket_of (place (slot t i)) o)) (slot t i)) ∙ place-mark _ (slot t i)

  pub tailed-mark : mark (tailed t o i) ≡ tail_of t o (bucket_of (place (slot t i)) o)
  unfolding tailed
  tailed-mark = mark-doubt 0 (with_mark (tail_of t o (bucket_of (place (slot t i)) o)) (slot t i)) ∙ mark-mark _ (slot t i) (slot-long t i l)

  -- it is doubtful no more
  pub tailed-doubt : doubt (tailed t o i) ≡ 0
  unfolding tailed with_mark
  tailed-doubt =
      doubt-doubt 0 (with_mark (tail_of t o (bucket_of (place (slot t i)) o)) (slot t i)) (length-set (slot t i) 0 (tail_of t o (bucket_of (place (slot t i)) o)) ∙ slot-long t i l)

  pub tailed-byte : (k : ℕ) → 2 ≤ k → get_or (tailed t o i) k 0 ≡ get_or (slot t i) k 0
  unfolding tailed
  tailed-byte k a =
      doubt-byte 0 (with_mark (tail_of t o (bucket_of (place (slot t i)) o)) (slot t i)) k (λ e. no e) ∙ mark-byte (tail_of t o (bucket_of (place (slot t i)) o)) (slot t i) k (omega arith)
    where
      no : k ≡ 1 → ⊥
      no e = omega arith

  tailed-fields : Fields (tailed t o i)
  tailed-fields = fields-by (tailed t o i) (slot t i) (λ k a b. tailed-byte k a) (omega (arith, tailed-mark, tail-few)) (omega (arith, tailed-doubt)) (F.sound i l u).0

  pub move-form : Ordered (move_to_tail t o i) o
  unfolding move_to_tail
  move-form = again (tailed t o i) (tailed-long t o i l) tailed-place tailed-fields tailed-mark

  pub renew-form : (p : Peer) → Fair o p → Ordered (move_and_renew t o i p) o
  unfolding move_and_renew renewed
  renew-form p G =
      cond_ind (λ (x : List ℕ). Ordered (put_slot (leave t o i) i x) o) (eqb p.count 0) (tailed t o i) (with_addresses p (tailed t o i))
      (λ e. again (tailed t o i) (tailed-long t o i l) tailed-place tailed-fields tailed-mark)
      (λ e. again (with_addresses p (tailed t o i)) (addr-long o p G (tailed t o i) (tailed-long t o i l)) (addr-place o p G (tailed t o i) (tailed-long t o i l) ∙ tailed-place)
      (addr-fields o p G (tailed t o i) (tailed-long t o i l) tailed-fields) (addr-mark o p G (tailed t o i) (tailed-long t o i l) ∙ tailed-mark))

-- ---- a mark of doubt: every slot keeps its place and its rank
module _ (t : List ℕ) (i : ℕ) (l : i < slots_of t) where
  doubted-long : length (with_doubt 1 (slot t i)) ≡ slot_size
  doubted-long = doubt-long 1 (slot t i) ∙ slot-long t i l

  pub doubt-slots : slots_of (doubt_at t i) ≡ slots_of t
  unfolding doubt_at
  doubt-slots = slots-put t i (with_doubt 1 (slot t i))

  pub doubt-self : slot (doubt_at t i) i ≡ with_doubt 1 (slot t i)
  unfolding doubt_at
  doubt-self = slot-put t i (with_doubt 1 (slot t i)) l doubted-long

  pub doubt-other : (j : ℕ) → (j ≡ i → ⊥) → slot (doubt_at t i) j ≡ slot t j
  unfolding doubt_at
  doubt-other j ne = slot-other t i (with_doubt 1 (slot t i)) l doubted-long j ne

  -- what both sides of the mark have in common, any slot has
  by-slot : (P : List ℕ → List ℕ → Type 0) → ((s : List ℕ) → P s s) → P (with_doubt 1 (slot t i)) (slot t i) → (j : ℕ) → P (slot (doubt_at t i) j) (slot t j)
  by-slot P f g j =
      ⊎_elim (λ e. subst (λ (k : ℕ). P (slot (doubt_at t i) k) (slot t k)) (sym e) (subst (λ (x : List ℕ). P x (slot t i)) (sym doubt-self) g))
      (λ ne. subst (λ (x : List ℕ). P x (slot t j)) (sym (doubt-other j ne)) (f (slot t j))) (eq-or-ne j i)

  pub doubt-places : (j : ℕ) → place (slot (doubt_at t i) j) ≡ place (slot t j)
  doubt-places = by-slot (λ x y. place x ≡ place y) (λ s. refl) (place-doubt 1 (slot t i))

  pub doubt-marks : (j : ℕ) → mark (slot (doubt_at t i) j) ≡ mark (slot t j)
  doubt-marks = by-slot (λ x y. mark x ≡ mark y) (λ s. refl) (mark-doubt 1 (slot t i))

  pub doubt-used : (j : ℕ) → used (slot (doubt_at t i) j) ≡ used (slot t j)
  unfolding used
  doubt-used j = ap (λ (m : ℕ). not (eqb m 0)) (doubt-marks j)

  pub doubt-of : (o : List ℕ) (b j : ℕ) → of_bucket o b (slot (doubt_at t i) j) ≡ of_bucket o b (slot t j)
  unfolding of_bucket
  doubt-of o b j = ap₂ (λ (x : Bool) (y : List ℕ). x && eqb (bucket_of y o) b) (doubt-used j) (doubt-places j)

  doubt-fields : (j : ℕ) → Fields (slot t j) → Fields (slot (doubt_at t i) j)
  doubt-fields =
      by-slot (λ x y. Fields y → Fields x) (λ s f. f)
      (λ f. fields-by (with_doubt 1 (slot t i)) (slot t i) (λ k a b. doubt-byte 1 (slot t i) k (λ e. no k a e)) (omega (arith, mark-doubt 1 (slot t i), f.ranked))
      (omega (arith, doubt-doubt 1 (slot t i) (slot-long t i l))) f)
    where
      no : (k : ℕ) → 2 ≤ k → k ≡ 1 → ⊥
      no k a e = omega arith

  pub doubt-form : (o : List ℕ) → Ordered t o → Ordered (doubt_at t i) o
  doubt-form o F = record {
    sound = λ j lj v.
        let r = F.sound j (down j lj) (sym (doubt-used j) ∙ v) in
        (doubt-fields j r.0, subst (λ (x : List ℕ). bucket_of x o < 256) (sym (doubt-places j)) r.1);
    twins = λ j k lj lk uj uk e.
        F.twins j k (down j lj) (down k lk) (sym (doubt-used j) ∙ uj) (sym (doubt-used k) ∙ uk) (sym (doubt-places j) ∙ e ∙ doubt-places k);
    ties = λ b j k lj lk fj fk e.
        F.ties b j k (down j lj) (down k lk) (sym (doubt-of o b j) ∙ fj) (sym (doubt-of o b k) ∙ fk) (sym (doubt-marks j) ∙ e ∙ doubt-marks k);
    leds = λ b j lj f h.
        let r = F.leds b j (down j lj) (sym (doubt-of o b j) ∙ f) (omega (arith, doubt-marks j)) in
        (r.0, subst (λ (n : ℕ). r.0 < n) (sym doubt-slots) r.1, doubt-of o b r.0 ∙ r.2, omega (arith, doubt-marks j, doubt-marks r.0, r.3));
  }
    where
      down : (j : ℕ) → j < slots_of (doubt_at t i) → j < slots_of t
      down j h = subst (λ (n : ℕ). j < n) doubt-slots h

-- ---- the calls
pub doubted-form : (t o p : List ℕ) → Ordered t o → Ordered (marked_table t p) o
unfolding marked_table marking_of after_marking
doubted-form t o p F =
    cond_ind (λ (r : Result ⊤ Refusal). Ordered (after_marking t p r) o) (held t p) _ _ (λ e. doubt-form t (held_at t p) (held-lt t p e) o F) (λ e. F)

pub remove-form : (t o p : List ℕ) → Ordered t o → Ordered (removed_table t o p) o
unfolding removed_table removal_of after_removal
remove-form t o p F =
    cond_ind (λ (r : Result ⊤ Refusal). Ordered (after_removal t o p r) o) (held t p) _ _ (λ e. gone e) (λ e. still)
  where
    gone : held t p ≡ true → Ordered (dropped t o (held_at t p)) o
    gone e = let l = held-lt t p e in drop-form t o (held_at t p) l F (at-used p _ (held-is t p l))

    still : Ordered t o
    still = F

module _ (t o : List ℕ) (p : Peer) (G : Fair o p) (F : Ordered t o) where
  new-form : held t p.place ≡ false → Ordered (after_sighting t o p (newcomer t o p)) o
  unfolding newcomer after_sighting
  new-form h =
      cond_ind (λ (r : Result Sighting Refusal). Ordered (after_sighting t o p r) o) (leb 20 (tail_of t o (bucket_of p.place o))) _ _ (λ e. F)
      (λ e. cond_ind (λ (r : Result Sighting Refusal). Ordered (after_sighting t o p r) o) (ltb (free_at t) (slots_of t)) _ _
      (λ f. join-form t o p G F (free_at t) (ltb-true _ _ f) (free-is t (ltb-true _ _ f)) (leb-false 20 _ e) h) (λ f. F))

  pub seen-form : Ordered (seen_table t o p) o
  unfolding seen_table sighting_of after_sighting
  seen-form =
      cond_ind (λ (r : Result Sighting Refusal). Ordered (after_sighting t o p r) o) (held t p.place) _ _
      (λ e. let l = held-lt t p.place e in renew-form t o (held_at t p.place) l F (at-used p.place _ (held-is t p.place l)) p G) (λ e. new-form e)

  module _ (head : List ℕ) (y : fits t o head p.place ≡ true) where
    l : held_at t head < slots_of t
    l = fits-held t o head p.place y

    u : used (slot t (held_at t head)) ≡ true
    u = at-used head _ (held-is t head l)

    -- the newcomer isn't held after the head has gone either
    pub still-new : held (dropped t o (held_at t head)) p.place ≡ false
    still-new = to-false (held (dropped t o (held_at t head)) p.place) (λ h. no (held-lt (dropped t o (held_at t head)) p.place h))
      where
        d : List ℕ
        d = dropped t o (held_at t head)

        no : held_at (dropped t o (held_at t head)) p.place < slots_of (dropped t o (held_at t head)) → ⊥
        no lk =
            let k : ℕ = held_at (dropped t o (held_at t head)) p.place in
            let q : is_at p.place (slot (dropped t o (held_at t head)) (held_at (dropped t o (held_at t head)) p.place)) ≡ true = held-is (dropped t o (held_at t head)) p.place lk in
            let v : used (slot (dropped t o (held_at t head)) (held_at (dropped t o (held_at t head)) p.place)) ≡ true = at-used p.place _ q in
            let lj : held_at (dropped t o (held_at t head)) p.place < slots_of t = subst (λ (n : ℕ). held_at (dropped t o (held_at t head)) p.place < n) (drop-slots t o (held_at t head) l) lk in
            let ne : held_at (dropped t o (held_at t head)) p.place ≡ held_at t head → ⊥ =
            λ z. not-both (used (slot (dropped t o (held_at t head)) (held_at (dropped t o (held_at t head)) p.place))) v (ap (λ (x : ℕ). used (slot (dropped t o (held_at t head)) x)) z ∙ drop-freed t o (held_at t head) l) in
            not-both (is_at p.place (slot t (held_at (dropped t o (held_at t head)) p.place)))
            (at-make p.place _ (sym (kept-used t o (held_at t head) l F u _ lj ne) ∙ v) (sym (kept-place t o (held_at t head) l F u _ lj ne) ∙ at_place p.place _ q))
            (held-not t p.place (held-ge t p.place (fits-new t o head p.place y)) _ lj)

    pub swap-room : tail_of (dropped t o (held_at t head)) o (bucket_of p.place o) + 1 ≡ 20
    swap-room =
        let b : bucket_of (place (slot t (held_at t head))) o ≡ bucket_of p.place o =
        ap (λ (x : List ℕ). bucket_of x o) (at_place head _ (held-is t head l)) ∙ sym (fits-bucket t o head p.place y) in
        subst (λ (c : ℕ). tail_of (dropped t o (held_at t head)) o c + 1 ≡ tail_of t o c) b (drop-tail-down t o (held_at t head) l F u) ∙ fits-full t o head p.place y

    swap-form : Ordered (join (dropped t o (held_at t head)) o p) o
    unfolding join
    swap-form =
        join-form (dropped t o (held_at t head)) o p G (drop-form t o (held_at t head) l F u) (free_at (dropped t o (held_at t head))) (drop-free t o (held_at t head) l)
        (free-is (dropped t o (held_at t head)) (drop-free t o (held_at t head) l)) (omega (arith, swap-room)) still-new

  pub settle-form : (head : List ℕ) (answered : Bool) → Ordered (settled_table t o head p answered) o
  unfolding settled_table settlement_of after_settling
  settle-form head answered =
      cond_ind (λ (r : Result Settled Refusal). Ordered (after_settling t o head p r) o) (fits t o head p.place) _ _
      (λ y. cond_ind (λ (r : Result Settled Refusal). Ordered (after_settling t o head p r) o) answered _ _
      (λ a. move-form t o (held_at t head) (fits-held t o head p.place y) F (at-used head _ (held-is t head (fits-held t o head p.place y)))) (λ a. swap-form head y)) (λ y. F)

-- ---- the theorems: form is kept
pub seen-keeps : (t o : List ℕ) (p : Peer) → Fair o p → in_form t o ≡ true → in_form (seen_table t o p) o ≡ true
seen-keeps t o p G y = form-intro (seen_table t o p) o (to-form (seen_table t o p) o (seen-form t o p G (from-form t o (form-elim t o y))))

pub settle-keeps : (t o head : List ℕ) (p : Peer) (answered : Bool) → Fair o p → in_form t o ≡ true → in_form (settled_table t o head p answered) o ≡ true
settle-keeps t o head p answered G y = form-intro (settled_table t o head p answered) o (to-form (settled_table t o head p answered) o (settle-form t o p G (from-form t o (form-elim t o y)) head answered))

pub remove-keeps : (t o p : List ℕ) → in_form t o ≡ true → in_form (removed_table t o p) o ≡ true
remove-keeps t o p y = form-intro (removed_table t o p) o (to-form (removed_table t o p) o (remove-form t o p (from-form t o (form-elim t o y))))

pub doubt-keeps : (t o p : List ℕ) → in_form t o ≡ true → in_form (marked_table t p) o ≡ true
doubt-keeps t o p y = form-intro (marked_table t p) o (to-form (marked_table t p) o (doubted-form t o p (from-form t o (form-elim t o y))))
