-- The usable addresses of a peer that is handed in: the loop that keeps them, and what the tidied peer says. Assumes nothing.
use Prim.Native.Nat.{ℕ, zero, suc, ◌+◌, ◌*◌, ◌-◌, ◌<◌, ◌≤◌, min}
use mathlib.Core.Path.{◌≡◌, refl, sym, ap, ap₂, subst, ◌∙◌}
use mathlib.Core.Logic.{⊎_elim}
use mathlib.Core.Bool.{true, false, cond}
use mathlib.Core.List.{List, [], ◌∷◌, ◌++◌, append-nil}
use native.Mathlib.Omega.{arith}
use lib.ListN.{length, get_or, drop, set, length-take, length-append, replicate}
use lib.Seq.{sets}
use Rattle.octets.specs.Octets.{part}
use Rattle.octets.specs.Search.{every}
use Rattle.octets.proofs.Bools.{either, cond_yes, cond_no}
use Rattle.octets.proofs.Parts.{part-is, part-size}
use Rattle.octets.proofs.Searching.{every-nil, every-cons, every-head, every-tail}
use Rattle.peer.specs.declared.Peer.{Peer}
use Rattle.peer.specs.Addresses.{usable_size, kept_of, rooms, sizes}
use Rattle.peer.specs.Peers.{peer_of, address_in, addresses_to, addresses_in, usable_to, usable_in, tidied}
use Rattle.peer.proofs.Rooms.{Short, short_none, short-more, length-rooms, length-sizes, rooms-none, sizes-none, rooms-more, sizes-more}
use Rattle.peer.proofs.Lists.{is_usable, size-most}
use Rattle.peer.proofs.Meaning.{Laid, laid-says, laid-size, laid-most, count-few, lens-usable, addresses-said}

-- ---- one room more
module _ (p : Peer) where
  pub usable-more : (n : ℕ) → usable_size (get_or p.lens n 0) ≡ true → usable_to p (suc n) ≡ usable_to p n ++ (address_in p n ∷ [])
  unfolding usable_to
  usable-more n h = ap (λ (l : List (List ℕ)). usable_to p n ++ l) (cond_yes (usable_size (get_or p.lens n 0)) (address_in p n ∷ []) [] h)

  pub usable_same : (n : ℕ) → usable_size (get_or p.lens n 0) ≡ false → usable_to p (suc n) ≡ usable_to p n
  unfolding usable_to
  usable_same n h = ap (λ (l : List (List ℕ)). usable_to p n ++ l) (cond_no (usable_size (get_or p.lens n 0)) (address_in p n ∷ []) [] h) ∙ append-nil (usable_to p n)

  -- there are at most as many as rooms
  pub usable-few : (n : ℕ) → length (usable_to p n) ≤ n
  usable-few zero = unfold usable_to in omega arith
  usable-few (suc n) =
      ⊎_elim
      (λ h. omega (arith, ap length (usable-more n h), length-append (usable_to p n) (address_in p n ∷ []), usable-few n))
      (λ h. omega (arith, ap length (usable_same n h), usable-few n))
      (either (usable_size (get_or p.lens n 0)))

  pub in-few : length (usable_in p) ≤ 4
  unfolding usable_in
  in-few = omega (arith, usable-few (min p.count 4))

  -- each fits into its room
  pub address-most : (k : ℕ) → length (address_in p k) ≤ get_or p.lens k 0
  unfolding address_in
  address-most k = rw (part-is p.addrs (k * 128) (get_or p.lens k 0)) (omega (arith, length-take (get_or p.lens k 0) (drop (k * 128) p.addrs)))

  to-short : (n : ℕ) → Short (usable_to p n)
  to-short zero = unfold usable_to in short_none
  to-short (suc n) =
      ⊎_elim
      (λ h. subst Short (sym (usable-more n h)) (short-more (usable_to p n) (address_in p n) (to-short n) (omega (arith, address-most n, size-most (get_or p.lens n 0) h))))
      (λ h. subst Short (sym (usable_same n h)) (to-short n))
      (either (usable_size (get_or p.lens n 0)))

  pub in-short : Short (usable_in p)
  unfolding usable_in
  in-short = to-short (min p.count 4)

  -- where all are usable, they are the addresses
  all-usable : (n : ℕ) → ((k : ℕ) → k < n → usable_size (get_or p.lens k 0) ≡ true) → usable_to p n ≡ addresses_to p n
  unfolding addresses_to
  all-usable zero h = unfold usable_to in refl
  all-usable (suc n) h = usable-more n (h n (omega arith)) ∙ ap (λ (l : List (List ℕ)). l ++ (address_in p n ∷ [])) (all-usable n (λ k l. h k (omega arith)))

  pub tidy-already : p.count ≤ 4 → ((k : ℕ) → k < p.count → usable_size (get_or p.lens k 0) ≡ true) → usable_in p ≡ addresses_in p
  unfolding usable_in addresses_in
  tidy-already f h = let e : min p.count 4 ≡ p.count = omega arith in ap (usable_to p) e ∙ all-usable p.count h

  -- ---- a peer whose rooms have 512 bytes
  module _ (long : length p.addrs ≡ 512) where
    pub address-size : (k : ℕ) → k < 4 → usable_size (get_or p.lens k 0) ≡ true → length (address_in p k) ≡ get_or p.lens k 0
    unfolding address_in
    address-size k l h = part-size p.addrs (k * 128) (get_or p.lens k 0) (omega (arith, size-most (get_or p.lens k 0) h))

    every_more : (l : List (List ℕ)) (a : List ℕ) → every is_usable l ≡ true → usable_size (length a) ≡ true → every is_usable (l ++ (a ∷ [])) ≡ true
    every_more [] a h g = every-cons is_usable a [] g (every-nil is_usable)
    every_more (x ∷ l) a h g = every-cons is_usable x (l ++ (a ∷ [])) (every-head is_usable x l h) (every_more l a (every-tail is_usable x l h) g)

    to-usable : (n : ℕ) → n ≤ 4 → every is_usable (usable_to p n) ≡ true
    to-usable zero h = unfold usable_to in every-nil is_usable
    to-usable (suc n) h =
        ⊎_elim
        (λ g. ap (every is_usable) (usable-more n g) ∙ every_more (usable_to p n) (address_in p n) (to-usable n (omega arith)) (ap usable_size (address-size n h g) ∙ g))
        (λ g. ap (every is_usable) (usable_same n g) ∙ to-usable n (omega arith))
        (either (usable_size (get_or p.lens n 0)))

    pub in-usable : every is_usable (usable_in p) ≡ true
    unfolding usable_in
    in-usable = to-usable (min p.count 4) (omega arith)

-- ---- the loop: what is kept of the first k rooms
pub record Kept (p : Peer) (addrs lens : List ℕ) (count k : ℕ) : Type 0 where
  pub within : k ≤ min p.count 4
  pub many : count ≡ length (usable_to p k)
  pub held : addrs ≡ rooms 4 (usable_to p k)
  pub sized : lens ≡ sizes 4 (usable_to p k)

pub kept-none : (p : Peer) (addrs lens : List ℕ) → addrs ≡ replicate 512 0 → lens ≡ replicate 4 0 → Kept p addrs lens 0 0
unfolding usable_to
kept-none p addrs lens e g = record { within = omega arith; many = refl; held = e ∙ sym rooms-none; sized = g ∙ sym sizes-none }

module _ (p : Peer) (addrs lens : List ℕ) (count k : ℕ) (s : Kept p addrs lens count k) where
  pub kept-most : count ≤ k
  kept-most = omega (arith, s.many, usable-few p k)

  pub rooms_same : (before : List ℕ) → before ≡ replicate 512 0 → length addrs ≡ length before
  rooms_same before e = ap length s.held ∙ length-rooms 4 (usable_to p k) ∙ sym (ap length e)

  pub sizes-four : length lens ≡ 4
  sizes-four = ap length s.sized ∙ length-sizes 4 (usable_to p k)

  pub sizes-same : (before : List ℕ) → before ≡ replicate 4 0 → length lens ≡ length before
  sizes-same before e = sizes-four ∙ sym (ap length e)

  pub kept-all : (all : ℕ) → all ≡ min p.count 4 → all ≤ k → (count ≡ length (usable_in p)) × (addrs ≡ rooms 4 (usable_in p)) × (lens ≡ sizes 4 (usable_in p))
  unfolding usable_in
  kept-all all q h =
      let e : k ≡ min p.count 4 = omega (arith, s.within) in
      (s.many ∙ ap (λ (n : ℕ). length (usable_to p n)) e, s.held ∙ ap (λ (n : ℕ). rooms 4 (usable_to p n)) e, s.sized ∙ ap (λ (n : ℕ). sizes 4 (usable_to p n)) e)

  module _ (all : ℕ) (q : all ≡ min p.count 4) (l : k < all) where
    pub kept-skip : usable_size (get_or p.lens k 0) ≡ false → Kept p addrs lens count (k + 1)
    kept-skip u =
        let e : k + 1 ≡ suc k = omega arith in
        let w = ap (usable_to p) e ∙ usable_same p k u in
        record {
          within = omega arith;
          many = s.many ∙ ap length (sym w);
          held = s.held ∙ ap (rooms 4) (sym w);
          sized = s.sized ∙ ap (sizes 4) (sym w);
        }

    pub kept_more : length p.addrs ≡ 512 → usable_size (get_or p.lens k 0) ≡ true → (addrs' : List ℕ)
        → addrs' ≡ sets addrs (count * 128) (part p.addrs (k * 128) (k * 128 + get_or p.lens k 0))
        → Kept p addrs' (set lens count (get_or p.lens k 0)) (count + 1) (k + 1)
    unfolding address_in
    kept_more long u addrs' g =
        let e : k + 1 ≡ suc k = omega arith in
        let w = ap (usable_to p) e ∙ usable-more p k u in
        let z = address-size p long k (omega arith) u in
        let f : length (usable_to p k) < 4 = omega (arith, usable-few p k) in
        record {
          within = omega arith;
          many = sym (ap length w ∙ length-append (usable_to p k) (address_in p k ∷ []) ∙ ap (λ (n : ℕ). n + 1) (sym s.many));
          held =
              g ∙ ap₂ (λ (x : List ℕ) (n : ℕ). sets x (n * 128) (address_in p k)) s.held s.many
              ∙ sym (ap (rooms 4) w ∙ rooms-more 4 (usable_to p k) (address_in p k) f (omega (arith, z, size-most (get_or p.lens k 0) u)));
          sized =
              ap₂ (λ (x : List ℕ) (n : ℕ). set x n (get_or p.lens k 0)) s.sized s.many ∙ ap (set (sizes 4 (usable_to p k)) (length (usable_to p k))) (sym z)
              ∙ sym (ap (sizes 4) w ∙ sizes-more 4 (usable_to p k) (address_in p k) f);
        }

-- ---- the tidied peer
pub tidy-made : (p : Peer) (addrs lens : List ℕ) (count : ℕ) → (count ≡ length (usable_in p)) × (addrs ≡ rooms 4 (usable_in p)) × (lens ≡ sizes 4 (usable_in p))
    → ◌≡◌ {A = Peer} (record { addrs = addrs; id = p.id; place = p.place; lens = lens; size = p.size; count = count }) (tidied p)
unfolding tidied
tidy-made p addrs lens count e = rw (e.0, e.1, e.2)

module _ (p : Peer) where
  pub tidied-place : (tidied p).place ≡ p.place
  unfolding tidied
  tidied-place = refl

  pub tidied-id : (tidied p).id ≡ p.id
  unfolding tidied
  tidied-id = refl

  pub tidied-size : (tidied p).size ≡ p.size
  unfolding tidied
  tidied-size = refl

  pub tidied-addrs : length (tidied p).addrs ≡ 512
  unfolding tidied
  tidied-addrs = length-rooms 4 (usable_in p)

  pub tidied-lens : length (tidied p).lens ≡ 4
  unfolding tidied
  tidied-lens = length-sizes 4 (usable_in p)

  pub tidied-few : (tidied p).count ≤ 4
  unfolding tidied
  tidied-few = in-few p

  laid : Laid (tidied p) (usable_in p)
  unfolding tidied
  laid = record { held = refl; sized = refl; many = refl; few = in-few p; short = in-short p }

  pub tidied-says : addresses_in (tidied p) ≡ usable_in p
  tidied-says = laid-says (tidied p) (usable_in p) laid

  pub tidied-most : (k : ℕ) → get_or (tidied p).lens k 0 ≤ 128
  tidied-most = laid-most (tidied p) (usable_in p) laid

  pub tidied-usable : length p.addrs ≡ 512 → (k : ℕ) → k < (tidied p).count → usable_size (get_or (tidied p).lens k 0) ≡ true
  tidied-usable long = laid-size (tidied p) (usable_in p) laid (in-usable p long)

-- a peer that is made of an id and a list of addresses is its own
module _ (id place addresses : List ℕ) where
  pub made-usable : usable_in (peer_of id place addresses) ≡ kept_of addresses
  made-usable = tidy-already (peer_of id place addresses) (count-few id place addresses) (lens-usable id place addresses) ∙ addresses-said id place addresses

  pub made_tidy : tidied (peer_of id place addresses) ≡ peer_of id place addresses
  unfolding tidied
  made_tidy = rw made-usable (unfold peer_of in refl)
