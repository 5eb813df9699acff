-- Entries of closerPeers: a contact in a slot and a peer by value. Each is within the limits, whatever the bytes. Assumes nothing.
use Prim.Native.Nat.{ℕ, zero, suc, ◌-◌, ◌≤◌, min}
use mathlib.Core.Path.{◌≡◌, refl, sym, ap, ap₂, subst, ◌∙◌}
use mathlib.Core.Logic.{⊎_elim}
use mathlib.Core.Bool.{true, false}
use mathlib.Core.List.{List, [], ◌∷◌}
use native.Mathlib.Omega.{arith}
use lib.ListN.{length, get_or, take, length-take}
use lib.Seq.{take_all}
use lib.Dec.{ltb}
use borrow.Author.Tests.{ltb-true, ltb-false, le-ltb}
use Rattle.octets.specs.Octets.{part}
use Rattle.octets.proofs.Bools.{either}
use Rattle.limits.specs.Limits.{most_id, most_address}
use Rattle.contacts.specs.Contact.{entry_id, entry_address, entry_count, entry_addresses_to, entry_addresses}
use Rattle.contact_form.proofs.EntryFacts.{entry-id-most, entry-address-most, entry-count-most}
use Rattle.peer.specs.declared.Peer as peers
use Rattle.peer.specs.Peers.{id_in, address_in, addresses_to, addresses_in, usable_in, tidied}
use Rattle.peer.proofs.Tidy.{address-most, tidied-id, tidied-size, tidied-few, tidied-says, tidied-most}
use Rattle.wire.specs.Items.{Put}
use Rattle.wire_put.proofs.Putting.{put_is}
use Rattle.message.specs.Message.{Peer}
use Rattle.pieces.specs.Writable.{peer_fits, peer_piece, peer_with}
use Rattle.pieces.specs.Inner.{nth_over}
use Rattle.pieces.proofs.Pieces.{over_none, over-some, fits-by-connection, peer-piece}
use Rattle.pieces.proofs.Sizes.{entry-most}
use Rattle.entries.specs.Entries.{contact_entry, peer_entry}
use Rattle.pieces.specs.Sizes.{most_peer_field}

-- ---- a peer of parts within the limits
not-over : (k n : ℕ) (a : List ℕ) → length a ≤ most_address → nth_over k n a ≡ false
not-over k n a h =
    ⊎_elim
    (λ t. sym (over-some k n a (ltb-true k n t)) ∙ le-ltb most_address (length a) h)
    (λ t. sym (over_none k n a (ltb-false k n t)))
    (either (ltb k n))

with-fits : (id : List ℕ) (n : ℕ) (a b c d : List ℕ) → length id ≤ most_id → length a ≤ most_address → length b ≤ most_address → length c ≤ most_address → length d ≤ most_address
    → peer_fits (peer_with id n a b c d 0) ≡ true
with-fits id n a b c d h ha hb hc hd =
    sym (fits-by-connection id n a b c d 0 h (not-over 0 n a ha) (not-over 1 n b hb) (not-over 2 n c hc) (not-over 3 n d hd))

pub piece-most : (p : Peer) → peer_fits p ≡ true → length (peer_piece 8 p) ≤ most_peer_field
piece-most p e = rw (peer-piece 8 p e) (entry-most 8 p (omega arith) e)

-- ---- a contact
module _ (s : List ℕ) where
  first-four : (n : ℕ) → n ≤ 4 → take n (entry_address s 0 ∷ entry_address s 1 ∷ entry_address s 2 ∷ entry_address s 3 ∷ []) ≡ entry_addresses_to s n
  unfolding entry_addresses_to
  first-four zero h = refl
  first-four (suc zero) h = refl
  first-four (suc (suc zero)) h = refl
  first-four (suc (suc (suc zero))) h = refl
  first-four (suc (suc (suc (suc zero)))) h = refl
  first-four (suc (suc (suc (suc (suc n))))) h = absurd (omega arith)

  pub contact-is : peer_with (entry_id s) (entry_count s) (entry_address s 0) (entry_address s 1) (entry_address s 2) (entry_address s 3) 0 ≡ contact_entry s
  unfolding peer_with contact_entry entry_addresses
  contact-is = rw (first-four (entry_count s) (entry-count-most s))

  pub contact-fits : peer_fits (contact_entry s) ≡ true
  contact-fits =
      subst (λ (p : Peer). peer_fits p ≡ true) contact-is
      (with-fits (entry_id s) (entry_count s) (entry_address s 0) (entry_address s 1) (entry_address s 2) (entry_address s 3)
      (entry-id-most s) (entry-address-most s 0) (entry-address-most s 1) (entry-address-most s 2) (entry-address-most s 3))

module _ (s id : List ℕ) (n : ℕ) (a b c d : List ℕ) (ei : id ≡ entry_id s) (en : n ≡ entry_count s) (ea : a ≡ entry_address s 0) (eb : b ≡ entry_address s 1) (ec : c ≡ entry_address s 2) (ed : d ≡ entry_address s 3) where
  parts_are : peer_with id n a b c d 0 ≡ contact_entry s
  parts_are = rw (ei, en, ea, eb, ec, ed) (contact-is s)

  pub contact-size : (r : ℕ) → r ≡ length (peer_piece 8 (peer_with id n a b c d 0)) → (r ≡ length (peer_piece 8 (contact_entry s))) × (r ≤ most_peer_field)
  contact-size r e =
      let q : r ≡ length (peer_piece 8 (contact_entry s)) = e ∙ ap (λ (p : Peer). length (peer_piece 8 p)) parts_are in
      (q, omega (arith, piece-most (contact_entry s) (contact-fits s)))

  pub contact-put : (buf : List ℕ) (at : ℕ) (buf₁ : List ℕ) (r : ℕ) → Put buf at (peer_piece 8 (peer_with id n a b c d 0)) buf₁ r → Put buf at (peer_piece 8 (contact_entry s)) buf₁ r
  contact-put buf at buf₁ r p = put_is buf at _ _ buf₁ r (ap (peer_piece 8) parts_are) p

-- ---- a peer by value, of which q is the tidied one
module _ (p q : peers.Peer) (e : q ≡ tidied p) where
  few : q.count ≤ 4
  few = subst (λ (x : peers.Peer). x.count ≤ 4) (sym e) (tidied-few p)

  four-rooms : (n : ℕ) → n ≤ 4 → take n (address_in q 0 ∷ address_in q 1 ∷ address_in q 2 ∷ address_in q 3 ∷ []) ≡ addresses_to q n
  unfolding addresses_to
  four-rooms zero h = refl
  four-rooms (suc zero) h = refl
  four-rooms (suc (suc zero)) h = refl
  four-rooms (suc (suc (suc zero))) h = refl
  four-rooms (suc (suc (suc (suc zero)))) h = refl
  four-rooms (suc (suc (suc (suc (suc n))))) h = absurd (omega arith)

  four-said : take q.count (address_in q 0 ∷ address_in q 1 ∷ address_in q 2 ∷ address_in q 3 ∷ []) ≡ usable_in p
  unfolding addresses_in
  four-said = four-rooms q.count few ∙ ap addresses_in e ∙ tidied-says p

  same_id : id_in q ≡ id_in p
  unfolding id_in
  same_id = ap₂ (λ (s : List ℕ) (n : ℕ). part s 0 n) (ap (λ (x : peers.Peer). x.id) e ∙ tidied-id p) (ap (λ (x : peers.Peer). x.size) e ∙ tidied-size p)

  own_is : peer_with (id_in q) q.count (address_in q 0) (address_in q 1) (address_in q 2) (address_in q 3) 0 ≡ peer_entry p
  unfolding peer_with peer_entry
  own_is = rw (four-said, same_id)

  pub lens-most : (k : ℕ) → get_or q.lens k 0 ≤ 128
  lens-most k = subst (λ (x : peers.Peer). get_or x.lens k 0 ≤ 128) (sym e) (tidied-most p k)

  in-room : (k : ℕ) → length (address_in q k) ≤ most_address
  in-room k = omega (arith, address-most q k, lens-most k)

  -- the id's room has 64 bytes
  module _ (long : length p.id ≡ 64) where
    pub id-long : length q.id ≡ 64
    id-long = ap (λ (x : peers.Peer). length x.id) e ∙ ap length (tidied-id p) ∙ long

    id-front : id_in q ≡ take q.size q.id
    unfolding id_in
    id-front = let z : q.size - 0 ≡ q.size = omega arith in ap (λ (n : ℕ). take n q.id) z

    id-most : length (id_in q) ≤ most_id
    id-most = rw id-front (omega (arith, id-long, length-take q.size q.id))

    pub own-fits : peer_fits (peer_entry p) ≡ true
    own-fits =
        subst (λ (x : Peer). peer_fits x ≡ true) own_is
        (with-fits (id_in q) q.count (address_in q 0) (address_in q 1) (address_in q 2) (address_in q 3) id-most (in-room 0) (in-room 1) (in-room 2) (in-room 3))

    pub id-cut : (n : ℕ) → n ≡ min q.size 64 → take n q.id ≡ id_in q
    id-cut n w =
        ⊎_elim
        (λ t. let l = ltb-true q.size 64 t in let z : n ≡ q.size = omega arith in ap (λ (m : ℕ). take m q.id) z ∙ sym id-front)
        (λ t. let l = ltb-false q.size 64 t in
        take_all n q.id (omega (arith, id-long)) ∙ sym (take_all q.size q.id (omega (arith, id-long))) ∙ sym id-front)
        (either (ltb q.size 64))

    module _ (id : List ℕ) (n : ℕ) (a b c d : List ℕ) (ei : id ≡ id_in q) (en : n ≡ q.count) (ea : a ≡ address_in q 0) (eb : b ≡ address_in q 1) (ec : c ≡ address_in q 2) (ed : d ≡ address_in q 3) where
      own-parts : peer_with id n a b c d 0 ≡ peer_entry p
      own-parts = rw (ei, en, ea, eb, ec, ed) own_is

      pub own-size : (r : ℕ) → r ≡ length (peer_piece 8 (peer_with id n a b c d 0)) → (r ≡ length (peer_piece 8 (peer_entry p))) × (r ≤ most_peer_field) × (peer_fits (peer_entry p) ≡ true)
      own-size r w =
          let z : r ≡ length (peer_piece 8 (peer_entry p)) = w ∙ ap (λ (x : Peer). length (peer_piece 8 x)) own-parts in
          (z, omega (arith, piece-most (peer_entry p) own-fits), own-fits)

      pub own_put : (buf : List ℕ) (at : ℕ) (buf₁ : List ℕ) (r : ℕ) → Put buf at (peer_piece 8 (peer_with id n a b c d 0)) buf₁ r → Put buf at (peer_piece 8 (peer_entry p)) buf₁ r
      own_put buf at buf₁ r w = put_is buf at _ _ buf₁ r (ap (peer_piece 8) own-parts) w

-- for any peer whose room for the id has 64 bytes
pub entry-fits : (p : peers.Peer) → length p.id ≡ 64 → peer_fits (peer_entry p) ≡ true
entry-fits p long = own-fits p (tidied p) refl long
