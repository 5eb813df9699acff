-- What doubt promises: it marks one contact and changes nothing else; order, probes and room don't depend on it; and whoever is seen or answers a probe is given
-- again. Assumes nothing.
use Prim.Native.Nat.{ℕ, ◌*◌, ◌<◌}
use mathlib.Core.Path.{◌≡◌, refl, sym, ap, ap₂, ◌∙◌, subst}
use mathlib.Core.Logic.{⊎_elim}
use mathlib.Core.Bool.{Bool, true, false, not, ◌&&◌, cond}
use mathlib.Core.List.{List}
use native.Mathlib.Omega.{arith}
use lib.Dec.{ltb, leb, eqb}
use lib.ListN.{drop}
use Rattle.octets.specs.Octets.{Bytes, same}
use Rattle.octets.specs.Search.{first, largest}
use Rattle.octets.proofs.Bools.{and_r, either, eq-or-ne, cond_yes, cond_no}
use Rattle.octets.proofs.Strings.{same-eq}
use Rattle.octets.proofs.Searching.{first-same, largest-same}
use Rattle.place.specs.Place.{place_of, bucket_of}
use Rattle.contact_table.proofs.Cuts.{doubt-yes}
use Rattle.contacts.specs.Table.{slot_size, slots_of, slot, mark, used, doubtful, place, id}
use Rattle.contacts.specs.Form.{in_form}
use Rattle.contacts.specs.Claims.{GivesFirst}
use Rattle.contacts.proofs.Claims as contacts
use Rattle.refusal.specs.declared.Refusal.TheVariants.{NoContactSlot, NoLongerFits}
use Rattle.peer.specs.declared.Peer.{Peer}
use Rattle.sightings.specs.declared.Settled.TheVariants as settle
use Rattle.sightings.specs.declared.Sighting.{Sighting}
use Rattle.sightings.specs.declared.Sighting.TheVariants as seen
use Rattle.sightings.specs.Order.{of_bucket, is_at, is_head, mark_in, held_at, free_at, head_at, tail_of, with_doubt, doubt_at}
use Rattle.sightings.specs.Sightings.{held, newcomer, sighting_of, fits, settlement_of, marking_of, after_marking, marked_table}
use Rattle.contact_order.proofs.Slots.{slot-long, put-outside}
use Rattle.contact_order.proofs.Tests.{held-lt, at-used}
use Rattle.sightings.proofs.Doubting.{doubt-long, doubt-doubt}
use Rattle.sightings_kept.specs.Promises.{AtTail, Hashed, OnlyMarked}
use Rattle.sightings_kept.proofs.Forms.{doubt-slots, doubt-self, doubt-other, doubt-places, doubt-marks, doubt-used, doubt-of}
use Rattle.sightings_kept.proofs.Said.{rest-same, doubt-rest}
use Rattle.std.specs.Prelude.{Ok, Err, Result, ⊤}
use Rattle.refusal.specs.declared.Refusal.{Refusal}

module _ (t : List ℕ) (i : ℕ) (l : i < slots_of t) where
  only-marked : OnlyMarked t i (doubt_at t i)
  only-marked = record {
    slots = doubt-slots t i l;
    marked = ap doubtful (doubt-self t i l) ∙ doubt-yes (with_doubt 1 (slot t i)) (λ z. no (sym (doubt-doubt 1 (slot t i) (slot-long t i l)) ∙ z));
    contact = rest-same (slot (doubt_at t i) i) (slot t i) rest (doubt-used t i l i);
    rank = doubt-marks t i l i;
    bytes = rest;
    others = doubt-other t i l;
    outside = past;
  }
    where
      rest : drop 2 (slot (doubt_at t i) i) ≡ drop 2 (slot t i)
      rest = ap (drop 2) (doubt-self t i l) ∙ doubt-rest 1 (slot t i)

      no : ◌≡◌ {A = ℕ} 1 0 → ⊥
      no z = omega arith

      past : drop (slots_of t * slot_size) (doubt_at t i) ≡ drop (slots_of t * slot_size) t
      past = unfold doubt_at in put-outside t i (with_doubt 1 (slot t i)) l (doubt-long 1 (slot t i) ∙ slot-long t i l)

  -- ---- nobody looks at the mark: who is held, the free slot, the heads and the tails stay
  pub same-held-at : (p : List ℕ) → held_at (doubt_at t i) p ≡ held_at t p
  unfolding held_at is_at
  same-held-at p =
      ap (λ (n : ℕ). first n (λ j. used (slot (doubt_at t i) j) && same (place (slot (doubt_at t i) j)) p)) (doubt-slots t i l)
      ∙ first-same _ _ (slots_of t) (λ j lj. ap₂ (λ (x : Bool) (y : List ℕ). x && same y p) (doubt-used t i l j) (doubt-places t i l j))

  same-free-at : free_at (doubt_at t i) ≡ free_at t
  unfolding free_at
  same-free-at =
      ap (λ (n : ℕ). first n (λ j. not (used (slot (doubt_at t i) j)))) (doubt-slots t i l) ∙ first-same _ _ (slots_of t) (λ j lj. ap not (doubt-used t i l j))

  module _ (o : List ℕ) where
    same-head-at : (b : ℕ) → head_at (doubt_at t i) o b ≡ head_at t o b
    unfolding head_at is_head
    same-head-at b =
        ap (λ (n : ℕ). first n (λ j. eqb (mark (slot (doubt_at t i) j)) 1 && of_bucket o b (slot (doubt_at t i) j))) (doubt-slots t i l)
        ∙ first-same _ _ (slots_of t) (λ j lj. ap₂ (λ (m : ℕ) (x : Bool). eqb m 1 && x) (doubt-marks t i l j) (doubt-of t i l o b j))

    same-tail : (b : ℕ) → tail_of (doubt_at t i) o b ≡ tail_of t o b
    unfolding tail_of mark_in
    same-tail b =
        ap (λ (n : ℕ). largest n (λ j. cond (of_bucket o b (slot (doubt_at t i) j)) (mark (slot (doubt_at t i) j)) 0)) (doubt-slots t i l)
        ∙ largest-same _ _ (slots_of t) (λ j lj. ap₂ (λ (x : Bool) (m : ℕ). cond x m 0) (doubt-of t i l o b j) (doubt-marks t i l j))

    same-held : (p : List ℕ) → held (doubt_at t i) p ≡ held t p
    unfolding held
    same-held p = ap₂ ltb (same-held-at p) (doubt-slots t i l)

    same-newcomer : (p : Peer) → newcomer (doubt_at t i) o p ≡ newcomer t o p
    unfolding newcomer
    same-newcomer p =
        ap₂ (λ (k h : ℕ). cond (leb 20 k) (Ok (seen.Probe h)) (cond (ltb (free_at (doubt_at t i)) (slots_of (doubt_at t i))) ((Ok (seen.Joined (free_at (doubt_at t i))))) (Err NoContactSlot)))
        (same-tail (bucket_of p.place o)) (same-head-at (bucket_of p.place o))
        ∙ ap₂ (λ (f n : ℕ). cond (leb 20 (tail_of t o (bucket_of p.place o))) ((Ok (seen.Probe (head_at t o (bucket_of p.place o))))) (cond (ltb f n) (Ok (seen.Joined f)) (Err NoContactSlot))) same-free-at (doubt-slots t i l)

    same-sighting : (p : Peer) → sighting_of (doubt_at t i) o p ≡ sighting_of t o p
    unfolding sighting_of
    same-sighting p =
        ap₂ (λ (h : Bool) (k : ℕ). cond h (Ok (seen.Moved k)) (newcomer (doubt_at t i) o p)) (same-held p.place) (same-held-at p.place)
        ∙ ap (λ (s : Result Sighting Refusal). cond (held t p.place) (Ok (seen.Moved (held_at t p.place))) s) (same-newcomer p)

    same-fits : (head p : List ℕ) → fits (doubt_at t i) o head p ≡ fits t o head p
    unfolding fits
    same-fits head p =
        ap₂ (λ (h : Bool) (m : ℕ). h && (eqb m 1 && (eqb (bucket_of p o) (bucket_of head o) && (eqb (tail_of (doubt_at t i) o (bucket_of head o)) 20 && not (held (doubt_at t i) p))))) (same-held head)
        (doubt-marks t i l (held_at (doubt_at t i) head) ∙ ap (λ (k : ℕ). mark (slot t k)) (same-held-at head))
        ∙ ap₂ (λ (k : ℕ) (h : Bool). held t head && (eqb (mark (slot t (held_at t head))) 1 && (eqb (bucket_of p o) (bucket_of head o) && (eqb k 20 && not h)))) (same-tail (bucket_of head o)) (same-held p)

-- ---- the theorems
module _ (t p : List ℕ) where
  pub doubt-marks-one : held t p ≡ true → (marking_of t p ≡ Ok tt) × OnlyMarked t (held_at t p) (marked_table t p)
  unfolding marked_table marking_of after_marking
  doubt-marks-one h =
      let e : marking_of t p ≡ (Ok tt) = cond_yes (held t p) _ _ h in
      (e, subst (λ (r : Result ⊤ Refusal). OnlyMarked t (held_at t p) (after_marking t p r)) (sym e) (only-marked t (held_at t p) (held-lt t p h)))

  pub doubt-not-held : held t p ≡ false → (marking_of t p ≡ Err NoLongerFits) × (marked_table t p ≡ t)
  unfolding marked_table marking_of after_marking
  doubt-not-held h = let e : marking_of t p ≡ Err NoLongerFits = cond_no (held t p) _ _ h in (e, ap (after_marking t p) e)

  -- what holds of the table and of any marked one holds after doubt
  either_way : (P : List ℕ → Type 0) → P t → ((i : ℕ) → i < slots_of t → P (doubt_at t i)) → P (marked_table t p)
  unfolding marked_table marking_of after_marking
  either_way P f g =
      ⊎_elim (λ h. subst (λ (r : Result ⊤ Refusal). P (after_marking t p r)) (sym (cond_yes (held t p) _ _ h)) (g (held_at t p) (held-lt t p h)))
      (λ h. subst (λ (r : Result ⊤ Refusal). P (after_marking t p r)) (sym (cond_no (held t p) _ _ h)) f) (either (held t p))

  -- "Bucket order, probes and room ignore the mark": what a sighting comes to, whose head is named, and whether a settling fits
  pub doubt-ignored : (o : List ℕ) (q : Peer) → sighting_of (marked_table t p) o q ≡ sighting_of t o q
  doubt-ignored o q = either_way (λ (u : List ℕ). sighting_of u o q ≡ sighting_of t o q) refl (λ i l. same-sighting t i l o q)

  pub doubt-fits : (o head q : List ℕ) → fits (marked_table t p) o head q ≡ fits t o head q
  doubt-fits o head q = either_way (λ (u : List ℕ). fits u o head q ≡ fits t o head q) refl (λ i l. same-fits t i l o head q)

  pub doubt-settles : (o head : List ℕ) (q : Peer) (answered : Bool) → settlement_of (marked_table t p) o head q answered ≡ settlement_of t o head q answered
  unfolding settlement_of
  doubt-settles o head q answered = ap (λ (f : Bool). cond f (cond answered (Ok settle.Kept) (Ok settle.Swapped)) (Err NoLongerFits)) (doubt-fits o head q.place)

  pub doubt-hashed : Hashed t → Hashed (marked_table t p)
  doubt-hashed h = either_way Hashed h (λ i l. one i l)
    where
      one : (i : ℕ) → i < slots_of t → Hashed (doubt_at t i)
      one i l j lj uj = ⊎_elim here other (eq-or-ne j i)
        where
          m : OnlyMarked t i (doubt_at t i)
          m = only-marked t i l

          lt : j < slots_of t
          lt = subst (λ (n : ℕ). j < n) (doubt-slots t i l) lj

          was : place (slot t j) ≡ place_of (id (slot t j))
          was = h j lt (sym (doubt-used t i l j) ∙ uj)

          here : j ≡ i → place (slot (doubt_at t i) j) ≡ place_of (id (slot (doubt_at t i) j))
          here e = doubt-places t i l j ∙ was ∙ ap place_of (sym (subst (λ (k : ℕ). id (slot (doubt_at t i) k) ≡ id (slot t k)) (sym e) m.contact.same_id))

          other : (j ≡ i → ⊥) → place (slot (doubt_at t i) j) ≡ place_of (id (slot (doubt_at t i) j))
          other n = doubt-places t i l j ∙ was ∙ ap (λ (s : List ℕ). place_of (id s)) (sym (doubt-other t i l j n))

-- whoever was put at a tail is given: one that was seen, one that joined, one that answered a probe
pub tail-given : (t o p : List ℕ) (i : ℕ) → in_form t o ≡ true → Bytes t → AtTail o p i t → GivesFirst t p i
unfolding is_at
tail-given t o p i y ht a =
    subst (λ (x : List ℕ). GivesFirst t x i) (same-eq (place (slot t i)) p (and_r (used (slot t i)) (same (place (slot t i)) p) a.here))
    ((contacts.claims).own t o i ht y a.within (at-used p (slot t i) a.here) a.trusted)
