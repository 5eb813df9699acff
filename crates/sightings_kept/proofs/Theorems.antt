-- What seen, settle and remove promise of a table in form: who moves, who comes, who goes, and that nobody else is touched. Assumes nothing.
use Prim.Native.Nat.{ℕ, zero, suc, ◌+◌, ◌*◌, ◌<◌, ◌≤◌}
use mathlib.Core.Path.{◌≡◌, refl, sym, ap, ap₂, ◌∙◌, subst}
use mathlib.Core.Logic.{◌⊎◌, inl, inr, ⊎_elim}
use mathlib.Core.Bool.{Bool, true, false, not}
use mathlib.Core.List.{List}
use native.Mathlib.Omega.{arith}
use lib.Dec.{ltb, leb, eqb}
use lib.ListN.{length, drop}
use borrow.Author.Tests.{lt-ltb, le-ltb, ltb-true, ltb-false, lt-leb, eqb-true, eqb-false}
use Rattle.octets.proofs.Bools.{not-both, to-false, either, eq-or-ne, cond_yes, cond_no, cond_ind}
use Rattle.place.specs.Place.{bucket_of}
use Rattle.contacts.specs.Table.{slot_size, slots_of, slot, put_slot, mark, used, doubt, doubtful, id_size, place, id, addresses}
use Rattle.contacts.specs.Form.{in_form}
use Rattle.contact_table.proofs.Cuts.{mark-used, used-mark, doubt-no}
use Rattle.contact_form.proofs.FormFacts.{form-elim}
use Rattle.refusal.specs.declared.Refusal.TheVariants.{NoContactSlot}
use Rattle.peer.specs.declared.Peer.{Peer}
use Rattle.peer.specs.Peers.{id_in, addresses_in}
use Rattle.sightings.specs.declared.Sighting.{Sighting}
use Rattle.sightings.specs.declared.Sighting.TheVariants as seen
use Rattle.sightings.specs.declared.Settled.{Settled}
use Rattle.sightings.specs.declared.Settled.TheVariants.{Kept, Swapped}
use Rattle.sightings.specs.Order.{of_bucket, is_at, held_at, free_at, tail_of, contact_bytes, free_bytes, with_addresses, renewed, lowered, each, close_up, leave, tailed, move_to_tail, move_and_renew, dropped, join_at, join}
use Rattle.sightings.specs.Sightings.{held, newcomer, sighting_of, after_sighting, seen_table, fits, settlement_of, after_settling, settled_table, removal_of, after_removal, removed_table}
use Rattle.sightings_kept.specs.Promises.{Fair, SameContact, Others, AtTail, HeldSeen, NewSeen, Freed, HeadKept, HeadGone}
use Rattle.contact_order.proofs.Slots.{slot-long, slots-put, slot-put, slot-other, put-put, put-outside}
use Rattle.contact_order.proofs.Tests.{of-used, of_is, of-make, held-lt, held-is, held-here, at-used, at_place, at-make, free-is, free-lowest, tail-ge, tail-le}
use Rattle.contact_order.proofs.Closing.{lowered_long, each-slots, leave-slots, leave-in}
use Rattle.sightings.proofs.Moves.{tailed-long, free-long}
use Rattle.sightings.proofs.Dropping.{drop-slots, drop-self, drop-other, drop-freed, drop-free}
use Rattle.sightings.proofs.Doubting.{lowered-doubt}
use Rattle.sightings.proofs.Calls.{fits-held, fits-new}
use Rattle.sightings_kept.proofs.Ordered.{Ordered, from-form}
use Rattle.sightings_kept.proofs.Kept.{kept-used, view, drop-tail-down}
use Rattle.sightings_kept.proofs.Forms.{bytes-long, bytes-mark, bytes-place, bytes-trusted, addr-mark, addr-doubt, addr-place, addr-long, tailed-place, tailed-mark, tailed-doubt, tailed-byte}
use Rattle.sightings_kept.proofs.Said.{rest-same, lowered-rest, mark-rest, doubt-rest, bytes-id, bytes-addresses, renewed-addresses, renewed-id, says_none, none_said}
use Rattle.std.specs.Prelude.{Ok, Err, Result, ⊤}
use Rattle.refusal.specs.declared.Refusal.{Refusal}

-- ---- others: one slot written, one slot dropped, and one step after another
same_self : (s v : List ℕ) → s ≡ v → SameContact s v
same_self s v e = record { same_id = ap id e; same_place = ap place e; same_addresses = ap addresses e; same_use = ap used e }

doubtful-by : (s v : List ℕ) → doubt s ≡ doubt v → doubtful s ≡ doubtful v
unfolding doubtful
doubtful-by s v e = ap (λ (d : ℕ). not (eqb d 0)) e

same_of : (o : List ℕ) (b : ℕ) (s v : List ℕ) → SameContact s v → of_bucket o b v ≡ true → of_bucket o b s ≡ true
same_of o b s v e f = of-make o b s (e.same_use ∙ of-used o b v f) (ap (λ (x : List ℕ). bucket_of x o) e.same_place ∙ of_is o b v f)

pub put-others : (t o : List ℕ) (i : ℕ) (s : List ℕ) → i < slots_of t → length s ≡ slot_size → Others t o (put_slot t i s) (λ j. j ≡ i)
put-others t o i s l h = record {
  slots = slots-put t i s;
  contact = λ j lj ne. same_self (slot (put_slot t i s) j) (slot t j) (slot-other t i s l h j ne);
  order = λ b j k lj lk nj nk fj fk. ap₂ (λ (x y : List ℕ). ltb (mark x) (mark y)) (slot-other t i s l h j nj) (slot-other t i s l h k nk);
  doubts = λ j lj ne. ap doubtful (slot-other t i s l h j ne);
  outside = put-outside t i s l h;
}

ltb-same : (a b c d : ℕ) → (a < b → c < d) → (b ≤ a → d ≤ c) → ltb c d ≡ ltb a b
ltb-same a b c d f g = ⊎_elim (λ e. lt-ltb c d (f (ltb-true a b e)) ∙ sym e) (λ e. le-ltb c d (g (ltb-false a b e)) ∙ sym e) (either (ltb a b))

each-outside : (f : List ℕ → List ℕ) (long : (s : List ℕ) → length s ≡ slot_size → length (f s) ≡ slot_size) (t : List ℕ) (n : ℕ) → n ≤ slots_of t
    → drop (slots_of t * slot_size) (each f n t) ≡ drop (slots_of t * slot_size) t
unfolding each
each-outside f long t zero h = refl
each-outside f long t (suc n) h =
    let e : slots_of (each f n t) ≡ slots_of t = each-slots f long t n in
    let ln : n < slots_of (each f n t) = subst (λ (m : ℕ). n < m) (sym e) h in
    ap (λ (m : ℕ). drop (m * slot_size) (put_slot (each f n t) n (f (slot t n)))) (sym e)
    ∙ put-outside (each f n t) n (f (slot t n)) ln (long (slot t n) (slot-long t n h))
    ∙ ap (λ (m : ℕ). drop (m * slot_size) (each f n t)) e ∙ each-outside f long t n (omega arith)

module _ (t o : List ℕ) (i : ℕ) (l : i < slots_of t) (F : Ordered t o) (u : used (slot t i) ≡ true) where
  drop-order : (b j k : ℕ) → j < slots_of t → k < slots_of t → (j ≡ i → ⊥) → (k ≡ i → ⊥) → of_bucket o b (slot t j) ≡ true → of_bucket o b (slot t k) ≡ true
      → ltb (mark (slot (dropped t o i) j)) (mark (slot (dropped t o i) k)) ≡ ltb (mark (slot t j)) (mark (slot t k))
  drop-order b j k lj lk nj nk fj fk =
      ltb-same (mark (slot t j)) (mark (slot t k)) (mark (slot (dropped t o i) j)) (mark (slot (dropped t o i) k))
      (λ x. ⊎_elim (λ v. ⊎_elim (λ w. omega (arith, v.0, w.0)) (λ w. omega (arith, v.0, w.0, v.1 w.1, w.2)) (view t o i l F u k lk nk b fk))
      (λ v. ⊎_elim (λ w. omega (arith, v.0, w.0, w.1 v.1, v.2)) (λ w. omega (arith, v.0, w.0)) (view t o i l F u k lk nk b fk)) (view t o i l F u j lj nj b fj))
      (λ x. ⊎_elim (λ v. ⊎_elim (λ w. omega (arith, v.0, w.0)) (λ w. omega (arith, v.0, w.0, v.1 w.1, w.2)) (view t o i l F u k lk nk b fk))
      (λ v. ⊎_elim (λ w. omega (arith, v.0, w.0, w.1 v.1, v.2)) (λ w. omega (arith, v.0, w.0)) (view t o i l F u k lk nk b fk)) (view t o i l F u j lj nj b fj))

  drop-outside : drop (slots_of t * slot_size) (dropped t o i) ≡ drop (slots_of t * slot_size) t
  unfolding dropped leave close_up
  drop-outside =
      ap (λ (m : ℕ). drop (m * slot_size) (put_slot (leave t o i) i free_bytes)) (sym (leave-slots t o i)) ∙ put-outside (leave t o i) i free_bytes (leave-in t o i l) free-long
      ∙ ap (λ (m : ℕ). drop (m * slot_size) (leave t o i)) (leave-slots t o i) ∙ each-outside (lowered o _ (mark (slot t i))) (lowered_long o _ (mark (slot t i))) t (slots_of t) (omega arith)

  pub drop-others : Others t o (dropped t o i) (λ j. j ≡ i)
  drop-others = record {
    slots = drop-slots t o i l;
    contact = λ j lj ne.
        rest-same (slot (dropped t o i) j) (slot t j) (ap (drop 2) (drop-other t o i l j lj ne) ∙ lowered-rest o _ _ (slot t j)) (kept-used t o i l F u j lj ne);
    order = drop-order;
    doubts = λ j lj ne. doubtful-by (slot (dropped t o i) j) (slot t j) (ap doubt (drop-other t o i l j lj ne) ∙ lowered-doubt o _ _ (slot t j));
    outside = drop-outside;
  }

then : (t o u v : List ℕ) (P Q R : ℕ → Type 0) → ((j : ℕ) → P j → R j) → ((j : ℕ) → Q j → R j) → Others t o u P → Others u o v Q → Others t o v R
then t o u v P Q R p q a b = record {
  slots = b.slots ∙ a.slots;
  contact = λ j lj ne.
      let x = b.contact j (up j lj) (λ w. ne (q j w)) in
      let y = a.contact j lj (λ w. ne (p j w)) in
      record {
        same_id = x.same_id ∙ y.same_id;
        same_place = x.same_place ∙ y.same_place;
        same_addresses = x.same_addresses ∙ y.same_addresses;
        same_use = x.same_use ∙ y.same_use;
      };
  order = λ c j k lj lk nj nk fj fk.
      b.order c j k (up j lj) (up k lk) (λ w. nj (q j w)) (λ w. nk (q k w))
      (same_of o c (slot u j) (slot t j) (a.contact j lj (λ w. nj (p j w))) fj) (same_of o c (slot u k) (slot t k) (a.contact k lk (λ w. nk (p k w))) fk)
      ∙ a.order c j k lj lk (λ w. nj (p j w)) (λ w. nk (p k w)) fj fk;
  doubts = λ j lj ne. b.doubts j (up j lj) (λ w. ne (q j w)) ∙ a.doubts j lj (λ w. ne (p j w));
  outside = ap (λ (n : ℕ). drop (n * slot_size) v) (sym a.slots) ∙ b.outside ∙ ap (λ (n : ℕ). drop (n * slot_size) u) a.slots ∙ a.outside;
}
  where
    up : (j : ℕ) → j < slots_of t → j < slots_of u
    up j h = subst (λ (n : ℕ). j < n) (sym a.slots) h

-- ---- one that enters is at the tail
module _ (t o : List ℕ) (i : ℕ) (l : i < slots_of t) (s : List ℕ) (long : length s ≡ slot_size) (p : List ℕ) (at : place s ≡ p) (tail : mark s ≡ tail_of t o (bucket_of p o) + 1) where
  s-used : used s ≡ true
  s-used = mark-used s (λ e. no e)
    where
      no : mark s ≡ 0 → ⊥
      no e = omega arith

  s-is : slot (put_slot t i s) i ≡ s
  s-is = slot-put t i s l long

  inside : i < slots_of (put_slot t i s)
  inside = subst (λ (n : ℕ). i < n) (sym (slots-put t i s)) l

  most : tail_of (put_slot t i s) o (bucket_of p o) ≤ mark s
  most = tail-le (put_slot t i s) o (bucket_of p o) (mark s) one
    where
      one : (j : ℕ) → j < slots_of (put_slot t i s) → of_bucket o (bucket_of p o) (slot (put_slot t i s) j) ≡ true → mark (slot (put_slot t i s) j) ≤ mark s
      one j lj f =
          ⊎_elim (λ e. subst (λ (k : ℕ). mark (slot (put_slot t i s) k) ≤ mark s) (sym e) (subst (λ (x : List ℕ). mark x ≤ mark s) (sym s-is) (omega arith)))
          (λ ne. let q : slot (put_slot t i s) j ≡ slot t j = slot-other t i s l long j ne in
          subst (λ (x : List ℕ). mark x ≤ mark s) (sym q) (omega (arith, tail-ge t o (bucket_of p o) j (subst (λ (n : ℕ). j < n) (slots-put t i s) lj) (sym (ap (of_bucket o (bucket_of p o)) q) ∙ f))))
          (eq-or-ne j i)

  least : mark (slot (put_slot t i s) i) ≤ tail_of (put_slot t i s) o (bucket_of p o)
  least = tail-ge (put_slot t i s) o (bucket_of p o) i inside (ap (of_bucket o (bucket_of p o)) s-is ∙ of-make o (bucket_of p o) s s-used (ap (λ (x : List ℕ). bucket_of x o) at))

  pub enters : doubtful s ≡ false → AtTail o p i (put_slot t i s)
  enters d = record {
    within = inside;
    here = ap (is_at p) s-is ∙ at-make p s s-used at;
    last = omega (arith, most, least, ap mark s-is);
    trusted = ap doubtful s-is ∙ d;
  }

-- ---- moved: out, and in again at the tail
module _ (t o : List ℕ) (i : ℕ) (l : i < slots_of t) (F : Ordered t o) (u : used (slot t i) ≡ true) (s : List ℕ) (long : length s ≡ slot_size) (e : place s ≡ place (slot t i))
    (m : mark s ≡ tail_of t o (bucket_of (place (slot t i)) o)) where
  again : put_slot (dropped t o i) i s ≡ put_slot (leave t o i) i s
  unfolding dropped
  again = put-put (leave t o i) i free_bytes (leave-in t o i l) free-long s long

  ld : i < slots_of (dropped t o i)
  ld = subst (λ (n : ℕ). i < n) (sym (drop-slots t o i l)) l

  moved-others : Others t o (put_slot (leave t o i) i s) (λ j. j ≡ i)
  moved-others =
      subst (λ (x : List ℕ). Others t o x (λ j. j ≡ i)) again
      (then t o (dropped t o i) (put_slot (dropped t o i) i s) (λ j. j ≡ i) (λ j. j ≡ i) (λ j. j ≡ i) (λ j w. w) (λ j w. w) (drop-others t o i l F u) (put-others (dropped t o i) o i s ld long))

  moved-tail : doubtful s ≡ false → AtTail o (place (slot t i)) i (put_slot (leave t o i) i s)
  moved-tail d =
      subst (λ (x : List ℕ). AtTail o (place (slot t i)) i x) again
      (enters (dropped t o i) o i ld s long (place (slot t i)) e (m ∙ sym (drop-tail-down t o i l F u)) d)

  moved-is : slot (put_slot (leave t o i) i s) i ≡ s
  moved-is = slot-put (leave t o i) i s (leave-in t o i l) long

-- ---- the theorems
-- "Equal places are one contact"
pub one-contact : (t o : List ℕ) → in_form t o ≡ true → (i j : ℕ) → i < slots_of t → j < slots_of t → used (slot t i) ≡ true → used (slot t j) ≡ true
    → place (slot t i) ≡ place (slot t j) → i ≡ j
one-contact t o y = (from-form t o (form-elim t o y)).twins

-- "a peer already held is never 13 or 14", whatever the bytes
pub held-never-refused : (t o : List ℕ) (p : Peer) → held t p.place ≡ true → sighting_of t o p ≡ Ok (seen.Moved (held_at t p.place))
unfolding sighting_of
held-never-refused t o p h = cond_yes (held t p.place) _ _ h

-- a refused sighting changes nothing
pub full-changes-nothing : (t o : List ℕ) (p : Peer) (h : ℕ) → sighting_of t o p ≡ Ok (seen.Probe h) → seen_table t o p ≡ t
unfolding seen_table after_sighting
full-changes-nothing t o p h e = ap (after_sighting t o p) e

pub no-slot-changes-nothing : (t o : List ℕ) (p : Peer) → sighting_of t o p ≡ Err NoContactSlot → seen_table t o p ≡ t
unfolding seen_table after_sighting
no-slot-changes-nothing t o p e = ap (after_sighting t o p) e

-- a settling that no longer fits changes nothing
pub stale-same : (t o head : List ℕ) (p : Peer) (answered : Bool) → fits t o head p.place ≡ false → settled_table t o head p answered ≡ t
unfolding settled_table settlement_of after_settling
stale-same t o head p answered f = ap (after_settling t o head p) (cond_no (fits t o head p.place) _ _ f)

pub not-held-same : (t o p : List ℕ) → held t p ≡ false → removed_table t o p ≡ t
unfolding removed_table removal_of after_removal
not-held-same t o p h = ap (after_removal t o p) (cond_no (held t p) _ _ h)

pub joins : (t o : List ℕ) (p : Peer) → Fair o p → free_at t < slots_of t → NewSeen t o p.place (id_in p) (addresses_in p) (free_at t) (join t o p)
unfolding join join_at
joins t o p G l =
    let m : ℕ = tail_of t o (bucket_of p.place o) + 1 in
    let is : slot (put_slot t (free_at t) (contact_bytes m p)) (free_at t) ≡ contact_bytes m p = slot-put t (free_at t) (contact_bytes m p) l (bytes-long o p G m) in
    record {
      others = put-others t o (free_at t) (contact_bytes m p) l (bytes-long o p G m);
      tail = enters t o (free_at t) l (contact_bytes m p) (bytes-long o p G m) p.place (bytes-place o p G m) (bytes-mark o p G m) (bytes-trusted o p G m);
      same_id = ap id is ∙ bytes-id o p G m;
      same_addresses = ap addresses is ∙ bytes-addresses o p G m;
      was_free = free-is t l;
      lowest = free-lowest t;
    }

-- a used slot with its bucket's last mark, and doubtful no more, says the same of its contact
module _ (t o : List ℕ) (i : ℕ) (l : i < slots_of t) (F : Ordered t o) (u : used (slot t i) ≡ true) where
  tailed-rest : drop 2 (tailed t o i) ≡ drop 2 (slot t i)
  unfolding tailed
  tailed-rest = doubt-rest 0 _ ∙ mark-rest _ (slot t i)

  tailed-trusted : doubtful (tailed t o i) ≡ false
  tailed-trusted = doubt-no (tailed t o i) (tailed-doubt t o i l F u)

  tailed-used : used (tailed t o i) ≡ used (slot t i)
  tailed-used = mark-used (tailed t o i) (λ z. no z (tail-ge t o (bucket_of (place (slot t i)) o) i l (of-make o _ (slot t i) u refl))) ∙ sym u
    where
      no : mark (tailed t o i) ≡ 0 → mark (slot t i) ≤ tail_of t o (bucket_of (place (slot t i)) o) → ⊥
      no z a = omega (arith, tailed-mark t o i l F u, used-mark (slot t i) u)

  tailed-same : SameContact (tailed t o i) (slot t i)
  tailed-same = rest-same (tailed t o i) (slot t i) tailed-rest tailed-used

  tailed-few : id_size (tailed t o i) ≤ 64
  unfolding id_size
  tailed-few = omega (arith, tailed-byte t o i l F u 2 (omega arith), (F.sound i l u).0.id_most)

  module _ (p : Peer) (G : Fair o p) (at : place (slot t i) ≡ p.place) where
    renew-seen : HeldSeen t o p.place (addresses_in p) i (move_and_renew t o i p)
    unfolding move_and_renew renewed
    renew-seen =
        cond_ind (λ (x : List ℕ). HeldSeen t o p.place (addresses_in p) i (put_slot (leave t o i) i x)) (eqb p.count 0) (tailed t o i) (with_addresses p (tailed t o i))
        (λ e. stay (eqb-true p.count 0 e)) (λ e. new (eqb-false p.count 0 e))
      where
        long : length (tailed t o i) ≡ slot_size
        long = tailed-long t o i l

        stay : p.count ≡ 0 → HeldSeen t o p.place (addresses_in p) i (put_slot (leave t o i) i (tailed t o i))
        stay z =
            let is = moved-is t o i l F u (tailed t o i) long (tailed-place t o i l F u) (tailed-mark t o i l F u) in
            record {
              others = moved-others t o i l F u (tailed t o i) long (tailed-place t o i l F u) (tailed-mark t o i l F u);
              tail = subst (λ (x : List ℕ). AtTail o x i (put_slot (leave t o i) i (tailed t o i))) at (moved-tail t o i l F u (tailed t o i) long (tailed-place t o i l F u) (tailed-mark t o i l F u) tailed-trusted);
              same_id = ap id is ∙ tailed-same.same_id;
              old_addresses = λ _. ap addresses is ∙ tailed-same.same_addresses;
              new_addresses = λ n. absurd (n (says_none p z));
            }

        new : (p.count ≡ 0 → ⊥) → HeldSeen t o p.place (addresses_in p) i (put_slot (leave t o i) i (with_addresses p (tailed t o i)))
        new n =
            let w : List ℕ = with_addresses p (tailed t o i) in
            let lw : length (with_addresses p (tailed t o i)) ≡ slot_size = addr-long o p G (tailed t o i) long in
            let pw : place (with_addresses p (tailed t o i)) ≡ place (slot t i) = addr-place o p G (tailed t o i) long ∙ tailed-place t o i l F u in
            let mw : mark (with_addresses p (tailed t o i)) ≡ tail_of t o (bucket_of (place (slot t i)) o) = addr-mark o p G (tailed t o i) long ∙ tailed-mark t o i l F u in
            let is = moved-is t o i l F u w lw pw mw in
            record {
              others = moved-others t o i l F u w lw pw mw;
              tail = subst (λ (x : List ℕ). AtTail o x i (put_slot (leave t o i) i (with_addresses p (tailed t o i)))) at (moved-tail t o i l F u w lw pw mw (doubt-no w (addr-doubt o p G (tailed t o i) long ∙ tailed-doubt t o i l F u)));
              same_id = ap id is ∙ renewed-id o p G (tailed t o i) long tailed-few ∙ tailed-same.same_id;
              old_addresses = λ e. absurd (n (none_said p e));
              new_addresses = λ _. ap addresses is ∙ renewed-addresses o p G (tailed t o i) long;
            }

-- ---- seen
module _ (t o : List ℕ) (p : Peer) (G : Fair o p) where
  pub seen-held : in_form t o ≡ true → held t p.place ≡ true → HeldSeen t o p.place (addresses_in p) (held_at t p.place) (seen_table t o p)
  unfolding seen_table after_sighting
  seen-held y h =
      let l = held-lt t p.place h in
      let a = held-is t p.place l in
      subst (λ (r : Result Sighting Refusal). HeldSeen t o p.place (addresses_in p) (held_at t p.place) (after_sighting t o p r)) (sym (held-never-refused t o p h))
      (renew-seen t o (held_at t p.place) l (from-form t o (form-elim t o y)) (at-used p.place _ a) p G (at_place p.place _ a))

  new-answer : held t p.place ≡ false → tail_of t o (bucket_of p.place o) < 20 → free_at t < slots_of t → sighting_of t o p ≡ Ok (seen.Joined (free_at t))
  unfolding sighting_of newcomer
  new-answer h k l =
      cond_no (held t p.place) _ _ h ∙ cond_no (leb 20 (tail_of t o (bucket_of p.place o))) _ _ (lt-leb 20 (tail_of t o (bucket_of p.place o)) k)
      ∙ cond_yes (ltb (free_at t) (slots_of t)) _ _ (lt-ltb (free_at t) (slots_of t) l)

  pub seen-new : held t p.place ≡ false → tail_of t o (bucket_of p.place o) < 20 → free_at t < slots_of t
      → (sighting_of t o p ≡ Ok (seen.Joined (free_at t))) × NewSeen t o p.place (id_in p) (addresses_in p) (free_at t) (seen_table t o p)
  unfolding seen_table after_sighting join
  seen-new h k l =
      (new-answer h k l, subst (λ (r : Result Sighting Refusal). NewSeen t o p.place (id_in p) (addresses_in p) (free_at t) (after_sighting t o p r)) (sym (new-answer h k l)) (joins t o p G l))

-- ---- remove
module _ (t o : List ℕ) (F : Ordered t o) (p : List ℕ) (l : held_at t p < slots_of t) where
  a : is_at p (slot t (held_at t p)) ≡ true
  a = held-is t p l

  u : used (slot t (held_at t p)) ≡ true
  u = at-used p _ a

  -- whoever is held after it is somebody else
  after-drop : (k : ℕ) → k < slots_of t → is_at p (slot (dropped t o (held_at t p)) k) ≡ true → ⊥
  after-drop k lk q =
      let v : used (slot (dropped t o (held_at t p)) k) ≡ true = at-used p _ q in
      let ne : k ≡ held_at t p → ⊥ = λ z. not-both (used (slot (dropped t o (held_at t p)) k)) v (ap (λ (x : ℕ). used (slot (dropped t o (held_at t p)) x)) z ∙ drop-freed t o (held_at t p) l) in
      let c = (drop-others t o (held_at t p) l F u).contact k lk ne in
      ne (F.twins k (held_at t p) lk l (sym c.same_use ∙ v) u (sym c.same_place ∙ at_place p _ q ∙ sym (at_place p _ a)))

  pub dropped-gone : held (dropped t o (held_at t p)) p ≡ false
  dropped-gone = to-false (held (dropped t o (held_at t p)) p) (λ h.
      let lk = held-lt (dropped t o (held_at t p)) p h in
      after-drop (held_at (dropped t o (held_at t p)) p) (subst (λ (n : ℕ). held_at (dropped t o (held_at t p)) p < n) (drop-slots t o (held_at t p) l) lk) (held-is (dropped t o (held_at t p)) p lk))

  pub frees : Freed t o p (held_at t p) (dropped t o (held_at t p))
  frees = record {
    others = drop-others t o (held_at t p) l F u;
    cleared = drop-self t o (held_at t p) l;
    gone = dropped-gone;
    room = drop-free t o (held_at t p) l;
  }

pub remove-frees : (t o p : List ℕ) → in_form t o ≡ true → held t p ≡ true → (removal_of t p ≡ Ok tt) × Freed t o p (held_at t p) (removed_table t o p)
unfolding removed_table removal_of after_removal
remove-frees t o p y h =
    let e : removal_of t p ≡ (Ok tt) = cond_yes (held t p) _ _ h in
    (e, subst (λ (r : Result ⊤ Refusal). Freed t o p (held_at t p) (after_removal t o p r)) (sym e) (frees t o (from-form t o (form-elim t o y)) p (held-lt t p h)))

-- ---- settle
module _ (t o head : List ℕ) (p : Peer) (y : in_form t o ≡ true) (f : fits t o head p.place ≡ true) where
  G : Ordered t o
  G = from-form t o (form-elim t o y)

  lh : held_at t head < slots_of t
  lh = fits-held t o head p.place f

  uh : used (slot t (held_at t head)) ≡ true
  uh = at-used head _ (held-is t head lh)

  ph : place (slot t (held_at t head)) ≡ head
  ph = at_place head _ (held-is t head lh)

  -- the head answered
  head-kept : HeadKept t o head (move_to_tail t o (held_at t head))
  unfolding move_to_tail
  head-kept =
      let i : ℕ = held_at t head in
      let long = tailed-long t o (held_at t head) lh in
      let pl = tailed-place t o (held_at t head) lh G uh in
      let mk = tailed-mark t o (held_at t head) lh G uh in
      let is : slot (put_slot (leave t o (held_at t head)) (held_at t head) (tailed t o (held_at t head))) (held_at t head) ≡ tailed t o (held_at t head) = moved-is t o (held_at t head) lh G uh (tailed t o (held_at t head)) long pl mk in
      record {
        others = moved-others t o (held_at t head) lh G uh (tailed t o (held_at t head)) long pl mk;
        tail = subst (λ (x : List ℕ). AtTail o x (held_at t head) (put_slot (leave t o (held_at t head)) (held_at t head) (tailed t o (held_at t head)))) ph (moved-tail t o (held_at t head) lh G uh (tailed t o (held_at t head)) long pl mk (tailed-trusted t o (held_at t head) lh G uh));
        same_head = subst (λ (x : List ℕ). SameContact x (slot t (held_at t head))) (sym is) (tailed-same t o (held_at t head) lh G uh);
      }

  pub settle-answered : (settlement_of t o head p true ≡ Ok Kept) × HeadKept t o head (settled_table t o head p true)
  unfolding settled_table settlement_of after_settling
  settle-answered =
      let e : settlement_of t o head p true ≡ (Ok Kept) = cond_yes (fits t o head p.place) _ _ f in
      (e, subst (λ (r : Result Settled Refusal). HeadKept t o head (after_settling t o head p r)) (sym e) head-kept)

  module _ (H : Fair o p) where
    joined : NewSeen (dropped t o (held_at t head)) o p.place (id_in p) (addresses_in p) (free_at (dropped t o (held_at t head))) (join (dropped t o (held_at t head)) o p)
    joined = joins (dropped t o (held_at t head)) o p H (drop-free t o (held_at t head) lh)

    -- the newcomer has another place than the head
    differ : p.place ≡ head → ⊥
    differ e = not-both (held t p.place) (ap (held t) e ∙ held-here t head (held_at t head) lh (held-is t head lh)) (fits-new t o head p.place f)

    -- the head was silent
    head-gone : HeadGone t o head p.place (id_in p) (addresses_in p) (join (dropped t o (held_at t head)) o p)
    head-gone = record {
      others =
          then t o (dropped t o (held_at t head)) (join (dropped t o (held_at t head)) o p) (λ j. j ≡ held_at t head) (λ j. j ≡ free_at (dropped t o (held_at t head)))
          (λ j. (j ≡ held_at t head) ⊎ (j ≡ free_at (dropped t o (held_at t head)))) (λ j w. inl w) (λ j w. inr w) (drop-others t o (held_at t head) lh G uh) joined.others;
      newcomer = joined;
      gone = to-false (held (join (dropped t o (held_at t head)) o p) head) (λ h. none (held-lt (join (dropped t o (held_at t head)) o p) head h));
    }
      where
        none : held_at (join (dropped t o (held_at t head)) o p) head < slots_of (join (dropped t o (held_at t head)) o p) → ⊥
        none lk =
            let q = held-is (join (dropped t o (held_at t head)) o p) head lk in
            let ld : held_at (join (dropped t o (held_at t head)) o p) head < slots_of (dropped t o (held_at t head)) = subst (λ (n : ℕ). held_at (join (dropped t o (held_at t head)) o p) head < n) joined.others.slots lk in
            ⊎_elim (λ e. differ (sym (at_place p.place _ joined.tail.here) ∙ ap (λ (x : ℕ). place (slot (join (dropped t o (held_at t head)) o p) x)) (sym e) ∙ at_place head _ q))
            (λ ne.
            let c = joined.others.contact (held_at (join (dropped t o (held_at t head)) o p) head) ld ne in
            after-drop t o G head lh (held_at (join (dropped t o (held_at t head)) o p) head) (subst (λ (n : ℕ). held_at (join (dropped t o (held_at t head)) o p) head < n) (drop-slots t o (held_at t head) lh) ld)
            (at-make head _ (sym c.same_use ∙ at-used head _ q) (sym c.same_place ∙ at_place head _ q)))
            (eq-or-ne (held_at (join (dropped t o (held_at t head)) o p) head) (free_at (dropped t o (held_at t head))))

    pub settle-silent : (settlement_of t o head p false ≡ Ok Swapped) × HeadGone t o head p.place (id_in p) (addresses_in p) (settled_table t o head p false)
    unfolding settled_table settlement_of after_settling
    settle-silent =
        let e : settlement_of t o head p false ≡ (Ok Swapped) = cond_yes (fits t o head p.place) _ _ f in
        (e, subst (λ (r : Result Settled Refusal). HeadGone t o head p.place (id_in p) (addresses_in p) (after_settling t o head p r)) (sym e) head-gone)

-- "Evicting a head that answered" can't be: where it answered, every contact of the table is still there
pub answered-never-evicted : (t o head : List ℕ) (p : Peer) → in_form t o ≡ true → (j : ℕ) → j < slots_of t → SameContact (slot (settled_table t o head p true) j) (slot t j)
answered-never-evicted t o head p y j lj = ⊎_elim (λ f. fit f) (λ f. stale f) (either (fits t o head p.place))
  where
    stale : fits t o head p.place ≡ false → SameContact (slot (settled_table t o head p true) j) (slot t j)
    stale f = same_self _ _ (ap (λ (x : List ℕ). slot x j) (stale-same t o head p true f))

    fit : fits t o head p.place ≡ true → SameContact (slot (settled_table t o head p true) j) (slot t j)
    fit f =
        let k = (settle-answered t o head p y f).1 in
        ⊎_elim (λ e. subst (λ (x : ℕ). SameContact (slot (settled_table t o head p true) x) (slot t x)) (sym e) k.same_head) (λ ne. k.others.contact j lj ne) (eq-or-ne j (held_at t head))
