-- What the core leaves reads and writes back: the contacts read from it are, laid out again, the same bytes. A contact has each of its slot's bytes. Assumes nothing.
use Prim.Native.Nat.{ℕ, zero, suc, ◌+◌, ◌-◌, ◌*◌, ◌≤◌}
use mathlib.Core.Path.{◌≡◌, refl, sym, ap, ap₂, ◌∙◌}
use mathlib.Core.Bool.{Bool}
use mathlib.Core.List.{List, [], ◌∷◌, ◌++◌, append-nil}
use native.Mathlib.Omega.{arith}
use lib.ListN.{length, get_or, take, drop, replicate, length-drop}
use lib.Seq.{take-add, take_all}
use Rattle.octets.proofs.Bools.{cond_ind}
use Rattle.octets.proofs.Parts.{part-is, part_join, part-whole, part-size}
use Rattle.octets.specs.Octets.{part}
use Rattle.place.specs.Place.{place_of, bucket_of}
use Rattle.peer.specs.declared.Peer.{Peer}
use Rattle.peer.specs.Addresses.{padded}
use Rattle.peer.specs.Peers.{peer_of}
use Rattle.contacts.specs.Table.{slot_size, slot}
use Rattle.sightings.specs.Order.{held_at, free_at, tail_of, with_doubt, contact_bytes, free_bytes, renewed, leave, tailed, move_to_tail, move_and_renew, dropped, join_at, join, doubt_at}
use Rattle.contact_order.proofs.Slots.{length-put}
use Rattle.contact_order.proofs.Closing.{leave-length}
use Rattle.flat.specs.Flat.{field, peer_in}
use Rattle.node.specs.Box.{own_fits}
use Rattle.sightings.specs.declared.Sighting.{Sighting}
use Rattle.sightings.specs.declared.Sighting.TheVariants as seen
use Rattle.sightings.specs.declared.Settled.{Settled}
use Rattle.sightings.specs.declared.Settled.TheVariants as settle
use Rattle.sightings.specs.Sightings.{after_sighting, after_settling, after_removal, after_marking}
use Rattle.contact_calls.specs.Calls.{seen_call, seen_call_table, settle_call, settle_call_table, remove_call, remove_call_table, doubt_call, doubt_call_table}
use Rattle.host_calls.specs.Hosts.{seen_after, settle_after, remove_after, doubt_after}
use Rattle.contact_slots.specs.declared.Contact.{Contact}
use Rattle.contact_slots.specs.Slots.{slot_bytes, contact_in, table_bytes, contacts_in}
use Rattle.contact_slots.specs.Promises.{AllWhole, InStep}
use Rattle.contact_slots.proofs.Rows.{table_more}
use Rattle.contact_slots.proofs.Back.{size_back}
use Rattle.std.specs.Prelude.{Ok, Err, Result, ⊤}
use Rattle.refusal.specs.declared.Refusal.{Refusal}

-- ---- no call changes a table's length
abbrev Same : List ℕ → List ℕ → Type 0
Same t u = length u ≡ length t

module _ (t : List ℕ) where
  module _ (o : List ℕ) (i : ℕ) where
    move_same : Same t (move_to_tail t o i)
    unfolding move_to_tail
    move_same = length-put (leave t o i) i (tailed t o i) ∙ leave-length t o i

    renew-same : (p : Peer) → Same t (move_and_renew t o i p)
    unfolding move_and_renew
    renew-same p = length-put (leave t o i) i (renewed p (tailed t o i)) ∙ leave-length t o i

    dropped-same : Same t (dropped t o i)
    unfolding dropped
    dropped-same = length-put (leave t o i) i free_bytes ∙ leave-length t o i

  doubt-same-at : (i : ℕ) → Same t (doubt_at t i)
  unfolding doubt_at
  doubt-same-at i = length-put t i (with_doubt 1 (slot t i))

  join-same : (u o : List ℕ) (i : ℕ) (p : Peer) → Same t u → Same t (join_at u o i p)
  unfolding join_at
  join-same u o i p h = length-put u i (contact_bytes (tail_of u o (bucket_of p.place o) + 1) p) ∙ h

  -- ---- the calls
  module _ (o : List ℕ) (p : Peer) where
    seen-after : (a : Result Sighting Refusal) → Same t (after_sighting t o p a)
    unfolding after_sighting
    seen-after (Ok (seen.Moved i)) = renew-same o i p
    seen-after (Ok (seen.Joined i)) = join-same t o i p refl
    seen-after (Ok (seen.Probe h)) = refl
    seen-after (Err r) = refl

    settle-after : (head : List ℕ) (a : Result Settled Refusal) → Same t (after_settling t o head p a)
    unfolding after_settling join
    settle-after head (Ok settle.Kept) = move_same o (held_at t head)
    settle-after head (Ok settle.Swapped) = join-same (dropped t o (held_at t head)) o (free_at (dropped t o (held_at t head))) p (dropped-same o (held_at t head))
    settle-after head (Err r) = refl

  remove-after : (o h : List ℕ) (a : Result ⊤ Refusal) → Same t (after_removal t o h a)
  unfolding after_removal
  remove-after o h (Ok tt) = dropped-same o (held_at t h)
  remove-after o h (Err r) = refl

  doubt-after : (h : List ℕ) (a : Result ⊤ Refusal) → Same t (after_marking t h a)
  unfolding after_marking
  doubt-after h (Ok tt) = doubt-same-at (held_at t h)
  doubt-after h (Err r) = refl

  seen_same : (me : Peer) (id : List ℕ) (client : Bool) (addresses : List ℕ) → Same t (seen_after me t id client addresses)
  unfolding seen_after seen_call_table
  seen_same me id client addresses =
      cond_ind (Same t) (own_fits me) (after_sighting t me.place (peer_of id (place_of id) addresses) (seen_call t me.place id client addresses)) t
      (λ h. seen-after me.place (peer_of id (place_of id) addresses) (seen_call t me.place id client addresses)) (λ h. refl)

  settle-same : (me : Peer) (head id : List ℕ) (client : Bool) (addresses : List ℕ) (answered : Bool) → Same t (settle_after me t head id client addresses answered)
  unfolding settle_after settle_call_table
  settle-same me head id client addresses answered =
      cond_ind (Same t) (own_fits me) (after_settling t me.place (place_of head) (peer_of id (place_of id) addresses) (settle_call t me.place head id client addresses answered)) t
      (λ h. settle-after me.place (peer_of id (place_of id) addresses) (place_of head) (settle_call t me.place head id client addresses answered)) (λ h. refl)

  remove-same : (me : Peer) (id : List ℕ) → Same t (remove_after me t id)
  unfolding remove_after remove_call_table
  remove-same me id =
      cond_ind (Same t) (own_fits me) (after_removal t me.place (place_of id) (remove_call t me.place id)) t
      (λ h. remove-after me.place (place_of id) (remove_call t me.place id)) (λ h. refl)

  doubt-same : (me : Peer) (id : List ℕ) → Same t (doubt_after me t id)
  unfolding doubt_after doubt_call_table
  doubt-same me id =
      cond_ind (Same t) (own_fits me) (after_marking t (place_of id) (doubt_call t me.place id)) t (λ h. doubt-after (place_of id) (doubt_call t me.place id)) (λ h. refl)

-- ---- a slot is written as it was read
head-is : (x : List ℕ) → 4 ≤ length x → ◌≡◌ {A = List ℕ} (get_or x 0 0 ∷ get_or x 1 0 ∷ get_or x 2 0 ∷ get_or x 3 0 ∷ []) (part x 0 4)
head-is [] h = absurd (omega arith)
head-is (a ∷ []) h = absurd (omega arith)
head-is (a ∷ b ∷ []) h = absurd (omega arith)
head-is (a ∷ b ∷ d ∷ []) h = absurd (omega arith)
head-is (a ∷ b ∷ d ∷ f ∷ x) h = refl

field_is : (a n : ℕ) (x : List ℕ) → a + n ≤ length x → field a n x ≡ part x a (a + n)
unfolding field padded
field_is a n x h =
    let z : n - length (drop a x) ≡ 0 = omega (arith, length-drop a x) in
    ap (λ (k : ℕ). take n (drop a x) ++ replicate k 0) z ∙ append-nil (take n (drop a x)) ∙ sym (part-is x a n)

slot-back : (x : List ℕ) → length x ≡ slot_size → slot_bytes (contact_in x) ≡ x
unfolding slot_bytes contact_in contact_bytes with_doubt peer_in
slot-back x h =
    ap₂ (λ (a b : List ℕ). a ++ b) (head-is x (omega arith))
    (ap₂ (λ (a b : List ℕ). a ++ b) (field_is 4 4 x (omega arith))
    (ap₂ (λ (a b : List ℕ). a ++ b) (field_is 8 32 x (omega arith))
    (ap₂ (λ (a b : List ℕ). a ++ b) (field_is 40 64 x (omega arith)) (field_is 104 512 x (omega arith)) ∙ part_join x 40 104 slot_size (omega arith) (omega arith))
    ∙ part_join x 8 40 slot_size (omega arith) (omega arith))
    ∙ part_join x 4 8 slot_size (omega arith) (omega arith))
    ∙ part_join x 0 4 slot_size (omega arith) (omega arith) ∙ part-whole x slot_size (omega arith)

some-again : (n i : ℕ) (s : List ℕ) → length s ≡ n * slot_size → i ≤ n → table_bytes (contacts_in i s) ≡ take (i * slot_size) s
unfolding contacts_in table_bytes slot
some-again n zero s h l = refl
some-again n (suc i) s h l =
    let long : length (slot s i) ≡ slot_size = part-size s (i * slot_size) slot_size (omega arith) in
    let next : suc i * slot_size ≡ i * slot_size + slot_size = omega arith in
    table_more (contacts_in i s) (contact_in (slot s i))
    ∙ ap₂ (λ (a b : List ℕ). a ++ b) (some-again n i s h (omega arith)) (slot-back (slot s i) long ∙ part-is s (i * slot_size) slot_size)
    ∙ sym (take-add (i * slot_size) slot_size s) ∙ ap (λ (k : ℕ). take k s) (sym next)

again : (n : ℕ) (s : List ℕ) → length s ≡ n * slot_size → table_bytes (contacts_in n s) ≡ s
again n s h = some-again n n s h (omega arith) ∙ take_all (n * slot_size) s (omega arith)

-- ---- the table of whole contacts
kept : (t : List Contact) (u : List ℕ) → AllWhole t → Same (table_bytes t) u → table_bytes (contacts_in (length t) u) ≡ u
kept t u w h = again (length t) u (h ∙ size_back t w)

pub in_step : InStep
in_step = record {
  seen = λ me t id client addresses w. kept t _ w (seen_same (table_bytes t) me id client addresses);
  settle = λ me t head id client addresses answered w. kept t _ w (settle-same (table_bytes t) me head id client addresses answered);
  remove = λ me t id w. kept t _ w (remove-same (table_bytes t) me id);
  doubt = λ me t id w. kept t _ w (doubt-same (table_bytes t) me id);
}
