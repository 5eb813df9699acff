-- What a slot says of its contact: unchanged where only its marks change, and a peer's own words where it was written from one. Assumes nothing.
use Prim.Native.Nat.{ℕ, zero, suc, ◌+◌, ◌*◌, ◌-◌, ◌<◌, ◌≤◌}
use mathlib.Core.Path.{◌≡◌, refl, sym, ap, ap₂, ◌∙◌, subst}
use mathlib.Core.Logic.{⊎_elim}
use mathlib.Core.List.{List, [], ◌∷◌, ◌++◌, append_assoc}
use native.Mathlib.Omega.{arith}
use lib.ListN.{length, get_or, take, drop, length-append, length-drop}
use lib.Seq.{sets, sets-eq, drop-drop, drop_at, get_or-drop, drop-set-lt, take-append-le, drop-append-le, length-sets, length-take-le}
use Rattle.octets.specs.Octets.{part}
use Rattle.octets.proofs.Parts.{part-is, part-part}
use Rattle.octets.proofs.Stores.{take-sets, drop-sets, get_d_sets_before}
use Rattle.contacts.specs.Table.{slot_size, mark, used, id_size, address_count, address_size, place, id, address, addresses_to, addresses}
use Rattle.peer.specs.declared.Peer.{Peer}
use Rattle.peer.specs.Peers.{id_in, address_in, addresses_in}
use Rattle.peer.specs.Peers as peers
use Rattle.sightings.specs.Order.{with_mark, with_doubt, contact_bytes, with_addresses, lowered}
use Rattle.sightings_kept.specs.Promises.{Fair, SameContact}
use Rattle.contact_order.proofs.Closing.{lowered_is}
use Rattle.sightings_kept.proofs.Forms.{bytes-size, get_d-sets-in}

-- ---- slots that differ at most in their two marks
module _ (s v : List ℕ) (e : drop 2 s ≡ drop 2 v) where
  at : (k : ℕ) → get_or s (2 + k) 0 ≡ get_or v (2 + k) 0
  at k = sym (get_or-drop 2 s k 0) ∙ ap (λ (l : List ℕ). get_or l k 0) e ∙ get_or-drop 2 v k 0

  from : (k : ℕ) → drop (2 + k) s ≡ drop (2 + k) v
  from k = sym (drop-drop k 2 s) ∙ ap (drop k) e ∙ drop-drop k 2 v

  size_same : (k : ℕ) → address_size s k ≡ address_size v k
  unfolding address_size
  size_same k = let q : 2 + (2 + k) ≡ 4 + k = omega arith in subst (λ (n : ℕ). get_or s n 0 ≡ get_or v n 0) q (at (2 + k))

  address_same : (k : ℕ) → address s k ≡ address v k
  unfolding address
  address_same k =
      let q : 2 + (102 + k * 128) ≡ 104 + k * 128 = omega arith in
      ap₂ (λ (n : ℕ) (l : List ℕ). take (104 + k * 128 + n - (104 + k * 128)) l) (size_same k) (subst (λ (n : ℕ). drop n s ≡ drop n v) q (from (102 + k * 128)))

  some_same : (n : ℕ) → addresses_to s n ≡ addresses_to v n
  unfolding addresses_to
  some_same zero = refl
  some_same (suc n) = ap₂ (λ (l : List (List ℕ)) (a : List ℕ). l ++ (a ∷ [])) (some_same n) (address_same n)

  pub rest-same : used s ≡ used v → SameContact s v
  unfolding id place id_size addresses address_count
  rest-same u = record {
    same_id = ap₂ (λ (n : ℕ) (l : List ℕ). take (40 + n - 40) l) (at 0) (from 38);
    same_place = ap (take 32) (from 6);
    same_addresses = some_same (get_or s 3 0) ∙ ap (addresses_to v) (at 1);
    same_use = u;
  }

pub mark-rest : (m : ℕ) (s : List ℕ) → drop 2 (with_mark m s) ≡ drop 2 s
unfolding with_mark
mark-rest m s = drop-set-lt 2 s 0 m (omega arith)

pub doubt-rest : (d : ℕ) (s : List ℕ) → drop 2 (with_doubt d s) ≡ drop 2 s
unfolding with_doubt
doubt-rest d s = drop-set-lt 2 s 1 d (omega arith)

pub lowered-rest : (o : List ℕ) (c m : ℕ) (s : List ℕ) → drop 2 (lowered o c m s) ≡ drop 2 s
lowered-rest o c m s = ⊎_elim (λ e. ap (drop 2) e) (λ e. ap (drop 2) e ∙ mark-rest (mark s - 1) s) (lowered_is o c m s)

-- ---- the first n addresses of a slot and of a peer, if they agree one by one
agree : (s : List ℕ) (p : Peer) (n : ℕ) → ((k : ℕ) → k < n → address s k ≡ address_in p k) → addresses_to s n ≡ peers.addresses_to p n
unfolding addresses_to peers.addresses_to
agree s p zero h = refl
agree s p (suc n) h = ap₂ (λ (l : List (List ℕ)) (a : List ℕ). l ++ (a ∷ [])) (agree s p n (λ k l. h k (omega arith))) (h n (omega arith))

-- ---- a peer says as many addresses as it counts, so it says none where it counts none
some-long : (p : Peer) (n : ℕ) → length (peers.addresses_to p n) ≡ n
unfolding peers.addresses_to
some-long p zero = refl
some-long p (suc n) = omega (arith, length-append (peers.addresses_to p n) (address_in p n ∷ []), some-long p n)

pub says_none : (p : Peer) → p.count ≡ 0 → addresses_in p ≡ []
unfolding addresses_in peers.addresses_to
says_none p z = ap (peers.addresses_to p) z

pub none_said : (p : Peer) → addresses_in p ≡ [] → p.count ≡ 0
unfolding addresses_in
none_said p e = sym (some-long p p.count) ∙ ap length e

-- ---- a slot that a peer was written to
module _ (o : List ℕ) (p : Peer) (G : Fair o p) (m : ℕ) where
  abbrev front : List ℕ
  front = (m ∷ 0 ∷ p.size ∷ p.count ∷ []) ++ (p.lens ++ p.place)

  split : contact_bytes m p ≡ front ++ (p.id ++ p.addrs)
  unfolding contact_bytes
  split = let e = append_assoc p.lens p.place (p.id ++ p.addrs) in ap (λ (l : List ℕ). m ∷ 0 ∷ p.size ∷ p.count ∷ l) (sym e)

  front_long : length front ≡ 40
  front_long = omega (arith, length-append p.lens p.place, G.lens_long, G.place_long)

  from-id : drop 40 (contact_bytes m p) ≡ p.id ++ p.addrs
  from-id = ap (drop 40) split ∙ drop_at front (p.id ++ p.addrs) 40 front_long

  from-addrs : drop 104 (contact_bytes m p) ≡ p.addrs
  from-addrs = sym (drop-drop 64 40 (contact_bytes m p)) ∙ ap (drop 64) from-id ∙ drop_at p.id p.addrs 64 G.id_long

  pub bytes-id : id (contact_bytes m p) ≡ id_in p
  unfolding id id_in id_size contact_bytes
  bytes-id =
      let e : 40 + p.size - 40 ≡ p.size = omega arith in
      let z : p.size - 0 ≡ p.size = omega arith in
      ap₂ take e from-id ∙ take-append-le p.size p.id p.addrs (omega (arith, G.id_most, G.id_long)) ∙ ap (λ (n : ℕ). take n p.id) (sym z)

  one : (k : ℕ) → k < p.count → address (contact_bytes m p) k ≡ address_in p k
  unfolding address address_in
  one k l =
      part-is (contact_bytes m p) (104 + k * 128) (address_size (contact_bytes m p) k)
      ∙ ap₂ take (bytes-size o p G m k (omega (arith, G.few))) (sym (drop-drop (k * 128) 104 (contact_bytes m p)) ∙ ap (drop (k * 128)) from-addrs)
      ∙ sym (part-is p.addrs (k * 128) (get_or p.lens k 0))

  pub bytes-addresses : addresses (contact_bytes m p) ≡ addresses_in p
  unfolding addresses addresses_in address_count contact_bytes
  bytes-addresses = agree (contact_bytes m p) p p.count one

-- ---- a slot that took a peer's addresses
module _ (o : List ℕ) (p : Peer) (G : Fair o p) (s : List ℕ) (h : length s ≡ slot_size) where
  abbrev head : List ℕ
  head = sets s 3 (p.count ∷ p.lens)

  head-long : length head ≡ slot_size
  head-long = length-sets s 3 (p.count ∷ p.lens) ∙ h

  new-addrs : drop 104 (with_addresses p s) ≡ p.addrs ++ drop slot_size head
  unfolding with_addresses
  new-addrs =
      let e : 104 + length p.addrs ≡ slot_size = omega (arith, G.addrs_long) in
      ap (drop 104) (sets-eq p.addrs head 104 (omega (arith, head-long, G.addrs_long)) ∙ append_assoc (take 104 head) p.addrs (drop (104 + length p.addrs) head))
      ∙ drop_at (take 104 head) (p.addrs ++ drop (104 + length p.addrs) head) 104 (length-take-le 104 head (omega (arith, head-long)))
      ∙ ap (λ (n : ℕ). p.addrs ++ drop n head) e

  new-byte : (k : ℕ) → k < 5 → get_or (with_addresses p s) (3 + k) 0 ≡ get_or (p.count ∷ p.lens) k 0
  unfolding with_addresses
  new-byte k l =
      get_d_sets_before head 104 p.addrs (3 + k) (omega arith) ∙ get_d-sets-in s 3 (p.count ∷ p.lens) k (omega (arith, G.lens_long)) (omega (arith, G.lens_long))

  new-size : (k : ℕ) → k < 4 → address_size (with_addresses p s) k ≡ get_or p.lens k 0
  unfolding address_size
  new-size k l = let e : 3 + suc k ≡ 4 + k = omega arith in ap (λ (x : ℕ). get_or (with_addresses p s) x 0) (sym e) ∙ new-byte (suc k) (omega arith)

  -- within the 512 bytes of addresses
  inner : (k n : ℕ) → k * 128 + n ≤ 512 → take n (drop (k * 128) (p.addrs ++ drop slot_size head)) ≡ take n (drop (k * 128) p.addrs)
  inner k n l =
      ap (take n) (drop-append-le (k * 128) p.addrs (drop slot_size head) (omega (arith, G.addrs_long)))
      ∙ take-append-le n (drop (k * 128) p.addrs) (drop slot_size head) (room (length-drop (k * 128) p.addrs))
    where
      room : length (drop (k * 128) p.addrs) ≡ length p.addrs - k * 128 → n ≤ length (drop (k * 128) p.addrs)
      room e = omega (arith, G.addrs_long)

  taken : (k : ℕ) → k < p.count → address (with_addresses p s) k ≡ address_in p k
  unfolding address address_in
  taken k l =
      part-is (with_addresses p s) (104 + k * 128) (address_size (with_addresses p s) k)
      ∙ ap₂ take (new-size k (omega (arith, G.few))) (sym (drop-drop (k * 128) 104 (with_addresses p s)) ∙ ap (drop (k * 128)) new-addrs)
      ∙ inner k (get_or p.lens k 0) (omega (arith, (G.sizes k l).1, G.few)) ∙ sym (part-is p.addrs (k * 128) (get_or p.lens k 0))

  pub renewed-addresses : addresses (with_addresses p s) ≡ addresses_in p
  unfolding addresses addresses_in address_count
  renewed-addresses = ap (addresses_to (with_addresses p s)) (new-byte 0 (omega arith)) ∙ agree (with_addresses p s) p p.count taken

  -- its id stays: it stands between the two runs of stores
  same_size : id_size (with_addresses p s) ≡ id_size s
  unfolding id_size with_addresses
  same_size = get_d_sets_before head 104 p.addrs 2 (omega arith) ∙ get_d_sets_before s 3 (p.count ∷ p.lens) 2 (omega arith)

  between : (n : ℕ) → n ≤ 64 → take n (drop 40 (with_addresses p s)) ≡ take n (drop 40 s)
  unfolding with_addresses
  between n l =
      sym (part-is (sets head 104 p.addrs) 40 n) ∙ sym (front-part (sets head 104 p.addrs))
      ∙ ap (λ (x : List ℕ). part x 40 (40 + n)) (take-sets 104 head 104 p.addrs (omega arith)) ∙ front-part head
      ∙ part-is head 40 n ∙ ap (take n) (drop-sets 40 s 3 (p.count ∷ p.lens) (omega (arith, G.lens_long)))
    where
      front-part : (x : List ℕ) → part (part x 0 104) 40 (40 + n) ≡ part x 40 (40 + n)
      front-part x = let z : 0 + (40 + n) ≡ 40 + n = omega arith in part-part x 0 104 40 (40 + n) (omega arith) ∙ ap (part x 40) z

  pub renewed-id : id_size s ≤ 64 → id (with_addresses p s) ≡ id s
  unfolding id
  renewed-id l =
      ap (λ (n : ℕ). part (with_addresses p s) 40 (40 + n)) same_size ∙ part-is (with_addresses p s) 40 (id_size s) ∙ between (id_size s) l ∙ sym (part-is s 40 (id_size s))
