-- What stands in a peer: the id and the addresses that it was made of, and the lengths of its arrays. Assumes nothing.
use Prim.Native.Nat.{ℕ, zero, suc, ◌+◌, ◌*◌, ◌<◌, ◌≤◌, min}
use mathlib.Core.Path.{◌≡◌, refl, sym, ap, ap₂, subst, ◌∙◌}
use mathlib.Core.Logic.{⊎_elim}
use mathlib.Core.Bool.{true, false, not, ◌||◌}
use mathlib.Core.List.{List, [], ◌∷◌, ◌++◌}
use native.Mathlib.Omega.{arith}
use lib.Dec.{leb}
use borrow.Author.Tests.{le-leb, lt-leb, leb-true}
use Rattle.octets.specs.Octets.{part, same}
use Rattle.octets.specs.Search.{every}
use Rattle.octets.proofs.Bools.{and_l, and_r, and-on, and-off, or_l, or_r, or_off, not-both, either}
use Rattle.octets.proofs.Strings.{same-yes}
use Rattle.place.specs.Place.{place_of}
use lib.ListN.{length, get_or, take}
use lib.Seq.{take-suc, take_all}
use Rattle.peer.specs.declared.Peer.{Peer}
use Rattle.peer.specs.Addresses.{usable_size, kept_of, padded, rooms, sizes}
use Rattle.peer.specs.Peers.{id_fits, bad_peer, peer_of, id_in, address_in, addresses_to, addresses_in}
use Rattle.peer.proofs.Rooms.{Short, length-padded, length-rooms, length-sizes, padded-front, room-part, size_in, sizes-most}
use Rattle.peer.proofs.Lists.{is_usable, kept-usable, kept-few, every-at, usable-short}

-- ---- an id of 1 to 64 bytes, as the code finds it out
pub fits-none : (id : List ℕ) → length id ≡ 0 → false ≡ id_fits id
unfolding id_fits
fits-none id e = sym (and-off (leb 1 (length id)) _ (lt-leb 1 (length id) (omega arith)))

pub fits-some : (id : List ℕ) → (length id ≡ 0 → ⊥) → leb (length id) 64 ≡ id_fits id
unfolding id_fits
fits-some id e = sym (and-on (leb 1 (length id)) _ (le-leb 1 (length id) (omega arith)))

pub fits-least : (id : List ℕ) → id_fits id ≡ true → 1 ≤ length id
unfolding id_fits
fits-least id h = leb-true 1 (length id) (and_l (leb 1 (length id)) _ h)

pub fits-most : (id : List ℕ) → id_fits id ≡ true → length id ≤ 64
unfolding id_fits
fits-most id h = leb-true (length id) 64 (and_r (leb 1 (length id)) _ h)

-- a peer that isn't bad
pub not-bad-id : (ours id : List ℕ) → bad_peer ours id ≡ false → id_fits id ≡ true
unfolding bad_peer
not-bad-id ours id h = ⊎_elim (λ e. e) (λ e. absurd (not-both (not (id_fits id) || same (place_of id) ours) (or_l (not (id_fits id)) _ (ap not e)) h)) (either (id_fits id))

pub not-bad-place : (ours id : List ℕ) → bad_peer ours id ≡ false → place_of id ≡ ours → ⊥
unfolding bad_peer
not-bad-place ours id h e = not-both (not (id_fits id) || same (place_of id) ours) (or_r (not (id_fits id)) _ (same-yes (place_of id) ours e)) h

-- as the code finds it out: by the id first, then by the place
pub bad-by-id : (ours id : List ℕ) → id_fits id ≡ false → bad_peer ours id ≡ true
unfolding bad_peer
bad-by-id ours id h = or_l (not (id_fits id)) _ (ap not h)

pub bad-by-place : (ours id : List ℕ) → id_fits id ≡ true → bad_peer ours id ≡ same (place_of id) ours
unfolding bad_peer
bad-by-place ours id h = or_off (not (id_fits id)) _ (ap not h)

-- how the arrays are made, in the shape that the code leaves them
pub made : (id place addresses name addrs lens : List ℕ) (size count : ℕ)
    → name ≡ padded 64 id → addrs ≡ rooms 4 (kept_of addresses) → lens ≡ sizes 4 (kept_of addresses) → size ≡ min (length id) 64 → count ≡ length (kept_of addresses)
    → ◌≡◌ {A = Peer} (record { addrs = addrs; id = name; place = place; lens = lens; size = size; count = count }) (peer_of id place addresses)
unfolding peer_of
made id place addresses name addrs lens size count a b c d e = rw (a, b, c, d, e)

-- ---- a peer whose rooms hold up to four addresses that fit
pub record Laid (p : Peer) (l : List (List ℕ)) : Type 0 where
  pub held : p.addrs ≡ rooms 4 l
  pub sized : p.lens ≡ sizes 4 l
  pub many : p.count ≡ length l
  pub few : length l ≤ 4
  pub short : Short l

module _ (p : Peer) (l : List (List ℕ)) (h : Laid p l) where
  pub laid-size : every is_usable l ≡ true → (k : ℕ) → k < p.count → usable_size (get_or p.lens k 0) ≡ true
  laid-size g k i =
      ap (λ (s : List ℕ). usable_size (get_or s k 0)) h.sized
      ∙ ap usable_size (size_in 4 l k (omega (arith, h.many)) (omega (arith, h.many, h.few))) ∙ every-at l k g (omega (arith, h.many))

  pub laid-most : (k : ℕ) → get_or p.lens k 0 ≤ 128
  laid-most k = subst (λ (s : List ℕ). get_or s k 0 ≤ 128) (sym h.sized) (sizes-most 4 l h.short k)

  one-said : (k : ℕ) → k < length l → address_in p k ≡ get_or l k []
  unfolding address_in
  one-said k i =
      ap₂ (λ (x z : List ℕ). part x (k * 128) (k * 128 + get_or z k 0)) h.held h.sized
      ∙ room-part 4 l k i (omega (arith, h.few)) (h.short k)

  some-said : (n : ℕ) → n ≤ length l → addresses_to p n ≡ take n l
  unfolding addresses_to
  some-said zero i = refl
  some-said (suc n) i = ap₂ (λ (x : List (List ℕ)) (a : List ℕ). x ++ (a ∷ [])) (some-said n (omega arith)) (one-said n i) ∙ sym (take-suc l n [] i)

  pub laid-says : addresses_in p ≡ l
  unfolding addresses_in
  laid-says = ap (addresses_to p) h.many ∙ some-said (length l) (omega arith) ∙ take_all (length l) l (omega arith)

module _ (id place addresses : List ℕ) where
  p : Peer
  p = peer_of id place addresses

  pub id-length : length (peer_of id place addresses).id ≡ 64
  unfolding peer_of
  id-length = length-padded 64 id

  pub addrs-length : length (peer_of id place addresses).addrs ≡ 512
  unfolding peer_of
  addrs-length = length-rooms 4 (kept_of addresses)

  pub lens-length : length (peer_of id place addresses).lens ≡ 4
  unfolding peer_of
  lens-length = length-sizes 4 (kept_of addresses)

  pub place_is : (peer_of id place addresses).place ≡ place
  unfolding peer_of
  place_is = refl

  pub size_is : (peer_of id place addresses).size ≡ min (length id) 64
  unfolding peer_of
  size_is = refl

  pub count-is : (peer_of id place addresses).count ≡ length (kept_of addresses)
  unfolding peer_of
  count-is = refl

  pub count-few : (peer_of id place addresses).count ≤ 4
  count-few = omega (arith, count-is, kept-few addresses)

  laid : Laid (peer_of id place addresses) (kept_of addresses)
  unfolding peer_of
  laid = record { held = refl; sized = refl; many = refl; few = kept-few addresses; short = usable-short (kept_of addresses) (kept-usable addresses) }

  pub lens-usable : (k : ℕ) → k < (peer_of id place addresses).count → usable_size (get_or (peer_of id place addresses).lens k 0) ≡ true
  lens-usable = laid-size (peer_of id place addresses) (kept_of addresses) laid (kept-usable addresses)

  -- the id, cut to 64 bytes; the whole of it where it is no longer than that
  pub id-said : id_in (peer_of id place addresses) ≡ take 64 id
  unfolding id_in peer_of
  id-said = padded-front 64 id

  pub id-whole : length id ≤ 64 → id_in (peer_of id place addresses) ≡ id
  id-whole h = id-said ∙ take_all 64 id h

  -- the addresses: the first four usable ones
  pub addresses-said : addresses_in (peer_of id place addresses) ≡ kept_of addresses
  addresses-said = laid-says (peer_of id place addresses) (kept_of addresses) laid
