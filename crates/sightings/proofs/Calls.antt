-- The outcomes of the calls, as the code finds them out. Assumes nothing.
use Prim.Native.Nat.{ℕ, ◌+◌, ◌<◌, ◌≤◌}
use mathlib.Core.Path.{◌≡◌, refl, sym, ap, ◌∙◌, subst}
use mathlib.Core.Logic.{⊎_elim}
use mathlib.Core.Bool.{Bool, true, false, not, ◌&&◌, cond}
use mathlib.Core.List.{List}
use native.Mathlib.Omega.{arith}
use lib.Dec.{ltb, leb, eqb}
use borrow.Author.Tests.{le-leb, lt-leb, lt-ltb, le-ltb, ltb-true, ltb-false, eq-eqb, ne_eqb, eqb-true, not-true}
use Rattle.octets.proofs.Bools.{and_l, and_r, and-on, and-off, either, cond_yes, cond_no}
use Rattle.place.specs.Place.{bucket_of}
use Rattle.contacts.specs.Table.{slots_of, slot, put_slot, mark}
use Rattle.refusal.specs.declared.Refusal.TheVariants.{NoContactSlot, NoLongerFits}
use Rattle.peer.specs.declared.Peer.{Peer}
use Rattle.peer.specs.Peers.{tidied}
use Rattle.sightings.specs.declared.Sighting.{Sighting}
use Rattle.sightings.specs.declared.Sighting.TheVariants as seen
use Rattle.sightings.specs.declared.Settled.{Settled}
use Rattle.sightings.specs.declared.Settled.TheVariants as settle
use Rattle.contact_order.specs.Order.{held_at, free_at, head_at, tail_of, held}
use Rattle.sightings.specs.Order.{contact_bytes, move_to_tail, move_and_renew, dropped, join, doubt_at}
use Rattle.sightings.specs.Sightings.{newcomer, sighting_of, after_sighting, seen_table, fits, settlement_of, after_settling, settled_table, removal_of, after_removal, removed_table, marking_of, after_marking, marked_table}
use Rattle.sightings.proofs.Moves.{join-at-done}
use Rattle.sightings.proofs.Dropping.{drop-free, drop-tail}
use Rattle.std.specs.Prelude.{Ok, Err, Result, ⊤}
use Rattle.refusal.specs.declared.Refusal.{Refusal}

-- ---- held
module _ (t p : List ℕ) (n i : ℕ) (q : n ≡ slots_of t) (e : i ≡ held_at t p) where
  pub held-yes : i < n → held t p ≡ true
  unfolding held
  held-yes l = lt-ltb (held_at t p) (slots_of t) (omega arith)

  pub held-no : n ≤ i → held t p ≡ false
  unfolding held
  held-no l = le-ltb (held_at t p) (slots_of t) (omega arith)

  pub held-not : leb n i ≡ not (held t p)
  held-not =
      ⊎_elim (λ h. lt-leb n i (ltb-true i n h) ∙ sym (ap not (held-yes (ltb-true i n h)))) (λ h. le-leb n i (ltb-false i n h) ∙ sym (ap not (held-no (ltb-false i n h))))
      (either (ltb i n))

-- ---- a peer that isn't held is seen
module _ (t o : List ℕ) (p : Peer) (b k : ℕ) (e : b ≡ bucket_of p.place o) (g : k ≡ tail_of t o b) where
  tail-is : tail_of t o (bucket_of p.place o) ≡ k
  tail-is = sym (g ∙ ap (tail_of t o) e)

  -- an answer, and what it does
  abbrev pub New : Result Sighting Refusal → List ℕ → Type 0
  New r u = (r ≡ newcomer t o p) × (u ≡ after_sighting t o p r)

  pub new-full : (h : ℕ) → 20 ≤ k → h ≡ head_at t o b → New (Ok (seen.Probe h)) t
  unfolding newcomer after_sighting
  new-full h l f = (
    sym (cond_yes (leb 20 (tail_of t o (bucket_of p.place o))) _ _ (le-leb 20 (tail_of t o (bucket_of p.place o)) (omega (arith, tail-is)))
        ∙ ap (λ (x : ℕ). (Ok (seen.Probe x))) (sym (f ∙ ap (head_at t o) e))),
    refl,
  )

  room : k < 20 → newcomer t o p ≡ cond (ltb (free_at t) (slots_of t)) (Ok (seen.Joined (free_at t))) (Err NoContactSlot)
  unfolding newcomer
  room l = cond_no (leb 20 (tail_of t o (bucket_of p.place o))) _ _ (lt-leb 20 (tail_of t o (bucket_of p.place o)) (omega (arith, tail-is)))

  module _ (n i : ℕ) (l : k < 20) (q : n ≡ slots_of t) (f : i ≡ free_at t) where
    pub new_none : n ≤ i → New (Err NoContactSlot) t
    unfolding after_sighting
    new_none h = (sym (room l ∙ cond_no (ltb (free_at t) (slots_of t)) _ _ (le-ltb (free_at t) (slots_of t) (omega arith))), refl)

    pub new_in : i < n → i < slots_of t
    new_in h = omega arith

    pub new-joined : (u : List ℕ) → i < n → u ≡ put_slot t i (contact_bytes (k + 1) p) → New (Ok (seen.Joined i)) u
    unfolding after_sighting
    new-joined u h w = (
      sym (room l ∙ cond_yes (ltb (free_at t) (slots_of t)) _ _ (lt-ltb (free_at t) (slots_of t) (omega arith)) ∙ ap (λ (x : ℕ). (Ok (seen.Joined x))) (sym f)),
      join-at-done t o p b k i u e g w,
    )

-- ---- any peer is seen
module _ (t o : List ℕ) (p : Peer) (n i : ℕ) (q : n ≡ slots_of t) (e : i ≡ held_at t p.place) where
  abbrev pub Seen : Result Sighting Refusal → List ℕ → Type 0
  Seen r u = (r ≡ sighting_of t o p) × (u ≡ seen_table t o p)

  done : (r : Result Sighting Refusal) (u : List ℕ) → r ≡ sighting_of t o p → u ≡ after_sighting t o p r → Seen r u
  unfolding seen_table
  done r u f g = (f, g ∙ ap (after_sighting t o p) f)

  pub seen-in : i < n → i < slots_of t
  seen-in l = omega arith

  pub seen-held : (u : List ℕ) → i < n → u ≡ move_and_renew t o i p → Seen (Ok (seen.Moved i)) u
  unfolding sighting_of after_sighting
  seen-held u l h =
      done (Ok (seen.Moved i)) u (sym (cond_yes (held t p.place) _ _ (held-yes t p.place n i q e l) ∙ ap (λ (x : ℕ). (Ok (seen.Moved x))) (sym e))) h

  pub seen-fresh : (r : Result Sighting Refusal) (u : List ℕ) → n ≤ i → (r ≡ newcomer t o p) × (u ≡ after_sighting t o p r) → Seen r u
  unfolding sighting_of
  seen-fresh r u l h = done r u (h.0 ∙ sym (cond_no (held t p.place) _ _ (held-no t p.place n i q e l))) h.1

-- as the code does it: q is p tidied
pub seen-tidied : (t o : List ℕ) (p q : Peer) (r : Result Sighting Refusal) (u : List ℕ) → q ≡ tidied p → (r ≡ sighting_of t o q) × (u ≡ seen_table t o q)
    → (r ≡ sighting_of t o (tidied p)) × (u ≡ seen_table t o (tidied p))
seen-tidied t o p q r u w e = (e.0 ∙ ap (sighting_of t o) w, e.1 ∙ ap (seen_table t o) w)

-- ---- settling fits, test by test
module _ (t o head p : List ℕ) (n h : ℕ) (q : n ≡ slots_of t) (e : h ≡ held_at t head) where
  pub fits-gone : n ≤ h → false ≡ fits t o head p
  unfolding fits
  fits-gone l = sym (and-off (held t head) _ (held-no t head n h q e l))

  module _ (l : h < n) where
    pub fits_in : h < slots_of t
    fits_in = omega arith

    module _ (m : ℕ) (f : m ≡ mark (slot t h)) where
      mark-is : mark (slot t (held_at t head)) ≡ m
      mark-is = ap (λ (x : ℕ). mark (slot t x)) (sym e) ∙ sym f

      there : held t head ≡ true
      there = held-yes t head n h q e l

      pub fits-behind : (m ≡ 1 → ⊥) → false ≡ fits t o head p
      unfolding fits
      fits-behind z = sym (and-on (held t head) _ there ∙ and-off (eqb (mark (slot t (held_at t head))) 1) _ (ne_eqb _ 1 (λ w. z (sym mark-is ∙ w))))

      module _ (one : m ≡ 1) (b r : ℕ) (g : b ≡ bucket_of head o) (k : r ≡ bucket_of p o) where
        first_of : eqb (mark (slot t (held_at t head))) 1 ≡ true
        first_of = eq-eqb _ 1 (mark-is ∙ one)

        pub fits-far : (r ≡ b → ⊥) → false ≡ fits t o head p
        unfolding fits
        fits-far z =
            sym (and-on (held t head) _ there ∙ and-on (eqb (mark (slot t (held_at t head))) 1) _ first_of
            ∙ and-off (eqb (bucket_of p o) (bucket_of head o)) _ (ne_eqb _ _ (λ w. z (k ∙ w ∙ sym g))))

        module _ (near : r ≡ b) (w : ℕ) (v : w ≡ tail_of t o b) where
          together : eqb (bucket_of p o) (bucket_of head o) ≡ true
          together = eq-eqb _ _ (sym k ∙ near ∙ g)

          tail-is-w : tail_of t o (bucket_of head o) ≡ w
          tail-is-w = ap (tail_of t o) (sym g) ∙ sym v

          pub fits-room : (w ≡ 20 → ⊥) → false ≡ fits t o head p
          unfolding fits
          fits-room z =
              sym (and-on (held t head) _ there ∙ and-on (eqb (mark (slot t (held_at t head))) 1) _ first_of ∙ and-on (eqb (bucket_of p o) (bucket_of head o)) _ together
              ∙ and-off (eqb (tail_of t o (bucket_of head o)) 20) _ (ne_eqb _ 20 (λ x. z (sym tail-is-w ∙ x))))

          pub fits_last : w ≡ 20 → (j : ℕ) → j ≡ held_at t p → leb n j ≡ fits t o head p
          unfolding fits
          fits_last z j y =
              held-not t p n j q y
              ∙ sym (and-on (held t head) _ there ∙ and-on (eqb (mark (slot t (held_at t head))) 1) _ first_of ∙ and-on (eqb (bucket_of p o) (bucket_of head o)) _ together
              ∙ and-on (eqb (tail_of t o (bucket_of head o)) 20) _ (eq-eqb _ 20 (tail-is-w ∙ z)))

-- what the test shows
module _ (t o head p : List ℕ) (y : fits t o head p ≡ true) where
  pub fits-held : held_at t head < slots_of t
  unfolding fits held
  fits-held = ltb-true (held_at t head) (slots_of t) (and_l _ _ y)

  rest-one : (eqb (mark (slot t (held_at t head))) 1 && (eqb (bucket_of p o) (bucket_of head o) && (eqb (tail_of t o (bucket_of head o)) 20 && not (held t p)))) ≡ true
  unfolding fits
  rest-one = and_r (held t head) _ y

  rest-two : (eqb (bucket_of p o) (bucket_of head o) && (eqb (tail_of t o (bucket_of head o)) 20 && not (held t p))) ≡ true
  rest-two = and_r (eqb (mark (slot t (held_at t head))) 1) _ rest-one

  rest-three : (eqb (tail_of t o (bucket_of head o)) 20 && not (held t p)) ≡ true
  rest-three = and_r (eqb (bucket_of p o) (bucket_of head o)) _ rest-two

  pub fits_head : mark (slot t (held_at t head)) ≡ 1
  fits_head = eqb-true _ 1 (and_l _ _ rest-one)

  pub fits-bucket : bucket_of p o ≡ bucket_of head o
  fits-bucket = eqb-true _ _ (and_l _ _ rest-two)

  pub fits-full : tail_of t o (bucket_of p o) ≡ 20
  fits-full = ap (tail_of t o) fits-bucket ∙ eqb-true _ 20 (and_l _ _ rest-three)

  pub fits-new : held t p ≡ false
  fits-new = not-true _ (and_r (eqb (tail_of t o (bucket_of head o)) 20) _ rest-three)

-- ---- settle
module _ (t o head : List ℕ) (p : Peer) (answered : Bool) where
  abbrev pub Settles : Result Settled Refusal → List ℕ → Type 0
  Settles r u = (r ≡ settlement_of t o head p answered) × (u ≡ settled_table t o head p answered)

  settled : (r : Result Settled Refusal) (u : List ℕ) → r ≡ settlement_of t o head p answered → u ≡ after_settling t o head p r → Settles r u
  unfolding settled_table
  settled r u f g = (f, g ∙ ap (after_settling t o head p) f)

  pub settle-stale : fits t o head p.place ≡ false → Settles (Err NoLongerFits) t
  unfolding settlement_of after_settling
  settle-stale e = settled (Err NoLongerFits) t (sym (cond_no (fits t o head p.place) _ _ e)) refl

  module _ (y : fits t o head p.place ≡ true) (i : ℕ) (e : i ≡ held_at t head) where
    pub settle-in : i < slots_of t
    settle-in = omega (arith, fits-held t o head p.place y)

    pub settle-kept : (u : List ℕ) → answered ≡ true → u ≡ move_to_tail t o i → Settles (Ok settle.Kept) u
    unfolding settlement_of after_settling
    settle-kept u a g =
        settled (Ok settle.Kept) u (sym (cond_yes (fits t o head p.place) _ _ y ∙ cond_yes answered _ _ a)) (g ∙ ap (move_to_tail t o) e)

    module _ (u : List ℕ) (g : u ≡ dropped t o i) where
      pub settle-free : free_at u < slots_of u
      settle-free = subst (λ (x : List ℕ). free_at x < slots_of x) (sym g) (drop-free t o i settle-in)

      pub settle-low : tail_of u o (bucket_of p.place o) < 255
      settle-low =
          subst (λ (x : List ℕ). tail_of x o (bucket_of p.place o) < 255) (sym g)
          (omega (arith, drop-tail t o i settle-in (bucket_of p.place o), fits-full t o head p.place y))

      pub settle-swapped : (v : List ℕ) → answered ≡ false → v ≡ join u o p → Settles (Ok settle.Swapped) v
      unfolding settlement_of after_settling
      settle-swapped v a w =
          settled (Ok settle.Swapped) v (sym (cond_yes (fits t o head p.place) _ _ y ∙ cond_no answered _ _ a)) (w ∙ ap (λ (x : List ℕ). join x o p) (g ∙ ap (dropped t o) e))

-- ---- doubt
module _ (t p : List ℕ) (n i : ℕ) (q : n ≡ slots_of t) (e : i ≡ held_at t p) where
  abbrev pub Doubts : Result ⊤ Refusal → List ℕ → Type 0
  Doubts r u = (r ≡ marking_of t p) × (u ≡ marked_table t p)

  doubts : (r : Result ⊤ Refusal) (u : List ℕ) → r ≡ marking_of t p → u ≡ after_marking t p r → Doubts r u
  unfolding marked_table
  doubts r u f g = (f, g ∙ ap (after_marking t p) f)

  pub doubt-in : i < n → i < slots_of t
  doubt-in l = omega arith

  pub doubt-held : (u : List ℕ) → i < n → u ≡ doubt_at t i → Doubts (Ok tt) u
  unfolding marking_of after_marking
  doubt-held u l g = doubts (Ok tt) u (sym (cond_yes (held t p) _ _ (held-yes t p n i q e l))) (g ∙ ap (doubt_at t) e)

  pub doubt-none : n ≤ i → Doubts (Err NoLongerFits) t
  unfolding marking_of after_marking
  doubt-none l = doubts (Err NoLongerFits) t (sym (cond_no (held t p) _ _ (held-no t p n i q e l))) refl

-- ---- remove
module _ (t o p : List ℕ) (n i : ℕ) (q : n ≡ slots_of t) (e : i ≡ held_at t p) where
  abbrev pub Removes : Result ⊤ Refusal → List ℕ → Type 0
  Removes r u = (r ≡ removal_of t p) × (u ≡ removed_table t o p)

  removes : (r : Result ⊤ Refusal) (u : List ℕ) → r ≡ removal_of t p → u ≡ after_removal t o p r → Removes r u
  unfolding removed_table
  removes r u f g = (f, g ∙ ap (after_removal t o p) f)

  pub remove-in : i < n → i < slots_of t
  remove-in l = omega arith

  pub remove-held : (u : List ℕ) → i < n → u ≡ dropped t o i → Removes (Ok tt) u
  unfolding removal_of after_removal
  remove-held u l g = removes (Ok tt) u (sym (cond_yes (held t p) _ _ (held-yes t p n i q e l))) (g ∙ ap (dropped t o) e)

  pub remove-none : n ≤ i → Removes (Err NoLongerFits) t
  unfolding removal_of after_removal
  remove-none l = removes (Err NoLongerFits) t (sym (cond_no (held t p) _ _ (held-no t p n i q e l))) refl
