-- Lists that are read entry after entry. Assumes nothing.
use Prim.Native.Nat.{ℕ, zero, suc, ◌+◌, ◌-◌, ◌*◌, ◌≤◌, ◌<◌}
use mathlib.Core.Path.{◌≡◌, refl, sym, ap, ◌∙◌}
use mathlib.Core.List.{List, [], ◌∷◌}
use mathlib.Core.Bool.{Bool, true, false}
use native.Mathlib.Omega.{arith}
use lib.ListN.{length, get_or, drop, length-drop}
use lib.Seq.{drop-drop, take_all}
use lib.Dec.{leb}
use borrow.Author.Tests.{le-leb, lt-leb, leb-true, leb-false}
use Rattle.octets.specs.Octets.{part}
use Rattle.peer.specs.Addresses.{two, entries_from, entries, address_size, address_at, addresses_of}
use Rattle.writer.specs.Writer.{peer_size, peer_at, peers_of}
use Rattle.writer.specs.Inner.{count_of}

module _ {A : Type 0} (size : List ℕ → ℕ) (make : List ℕ → A) (pos : (s : List ℕ) → 0 < size s) where
  from_end : (k : ℕ) (s : List ℕ) → length s < size s → entries_from size make k s ≡ []
  unfolding entries_from
  from_end zero s h = refl
  from_end (suc k) s h = rw (lt-leb (size s) (length s) h)

  from_on : (k : ℕ) (s : List ℕ) → size s ≤ length s → entries_from size make (suc k) s ≡ make s ∷ entries_from size make k (drop (size s) s)
  unfolding entries_from
  from_on k s h = rw (le-leb (size s) (length s) h)

  -- however much fuel there is beyond the length, the entries are the same
  fuel-free : (k j : ℕ) (s : List ℕ) → length s ≤ k → length s ≤ j → entries_from size make k s ≡ entries_from size make j s
  fuel-free zero j s h l = let e : length s < size s = omega (arith, pos s) in from_end zero s e ∙ sym (from_end j s e)
  fuel-free (suc k) zero s h l = let e : length s < size s = omega (arith, pos s) in from_end (suc k) s e ∙ sym (from_end zero s e)
  fuel-free (suc k) (suc j) s h l = go (fuel-free k j (drop (size s) s)) (leb (size s) (length s)) refl
    where
      go : (length (drop (size s) s) ≤ k → length (drop (size s) s) ≤ j → entries_from size make k (drop (size s) s) ≡ entries_from size make j (drop (size s) s))
          → (t : Bool) → leb (size s) (length s) ≡ t → entries_from size make (suc k) s ≡ entries_from size make (suc j) s
      go ih true e =
          let p = leb-true (size s) (length s) e in
          from_on k s p ∙ rw (ih (omega (arith, length-drop (size s) s, pos s)) (omega (arith, length-drop (size s) s, pos s))) (sym (from_on j s p))
      go ih false e = let p = leb-false (size s) (length s) e in from_end (suc k) s p ∙ sym (from_end (suc j) s p)

  pub entries-end : (s : List ℕ) → length s < size s → entries size make s ≡ []
  unfolding entries
  entries-end s h = from_end (length s) s h

  pub entries-on : (s : List ℕ) → size s ≤ length s → entries size make s ≡ make s ∷ entries size make (drop (size s) s)
  unfolding entries
  entries-on s h =
      fuel-free (length s) (suc (length s)) s (omega arith) (omega arith) ∙ from_on (length s) s h
      ∙ rw (fuel-free (length s) (length (drop (size s) s)) (drop (size s) s) (omega (arith, length-drop (size s) s)) (omega arith))

-- ---- addresses
address-pos : (s : List ℕ) → 0 < address_size s
unfolding address_size
address-pos s = omega arith

pub addresses-end : (s : List ℕ) → length s < address_size s → addresses_of s ≡ []
unfolding addresses_of
addresses-end s h = entries-end address_size address_at address-pos s h

pub addresses-on : (s : List ℕ) → address_size s ≤ length s → addresses_of s ≡ address_at s ∷ addresses_of (drop (address_size s) s)
unfolding addresses_of
addresses-on s h = entries-on address_size address_at address-pos s h

-- the rest of a string from a place on, as the code writes it
pub rest-is : (s : List ℕ) (at : ℕ) → part s at (length s) ≡ drop at s
rest-is s at = take_all (length s - at) (drop at s) (omega (arith, length-drop at s))

-- the loop that counts
pub record Counted (list : List ℕ) (n at : ℕ) : Type 0 where
  pub few : n ≤ 5
  pub within : at ≤ length list
  pub sum : n + length (addresses_of (drop at list)) ≡ length (addresses_of list)

pub counted_start : (list : List ℕ) → Counted list 0 0
counted_start list = record { few = omega arith; within = omega arith; sum = omega arith }

module _ (list : List ℕ) (n at : ℕ) (g : Counted list n at) where
  pub counted-on : n < 5 → (size : ℕ) → size ≡ address_size (part list at (length list)) → size ≤ length list - at → Counted list (n + 1) (at + size)
  counted-on l size e₀ h₀ =
      let e : size ≡ address_size (drop at list) = e₀ ∙ ap address_size (rest-is list at) in
      let h : size ≤ length (drop at list) = omega (arith, length-drop at list) in
      let q = ap length (addresses-on (drop at list) (omega (arith, e))) in
      let r : drop (address_size (drop at list)) (drop at list) ≡ drop (at + size) list = rw (← e) (drop-drop size at list) in
      let z : length (addresses_of (drop (address_size (drop at list)) (drop at list))) ≡ length (addresses_of (drop (at + size) list)) = ap (λ (x : List ℕ). length (addresses_of x)) r in
      record { few = omega arith; within = omega (arith, length-drop at list); sum = omega (arith, g.sum) }

  pub counted-end : n < 5 → (size : ℕ) → size ≡ address_size (part list at (length list)) → length list - at < size → n ≡ count_of (addresses_of list)
  unfolding count_of
  counted-end l size e₀ h₀ =
      let h : length (drop at list) < address_size (drop at list) = omega (arith, length-drop at list, e₀ ∙ ap address_size (rest-is list at)) in
      let q = ap length (addresses-end (drop at list) h) in
      let e : n ≡ length (addresses_of list) = omega (arith, g.sum) in
      let f : length (addresses_of list) ≤ 4 = omega arith in
      rw (le-leb (length (addresses_of list)) 4 f) e

  pub counted-full : 5 ≤ n → n ≡ count_of (addresses_of list)
  unfolding count_of
  counted-full l =
      let f : 4 < length (addresses_of list) = omega (arith, g.sum) in
      rw (lt-leb (length (addresses_of list)) 4 f) (omega (arith, g.few))

-- ---- the loop that looks for the address of place k
pub record Seeking (list : List ℕ) (k i at : ℕ) : Type 0 where
  pub few : i ≤ k
  pub within : at ≤ length list
  pub same : get_or (addresses_of (drop at list)) (k - i) [] ≡ get_or (addresses_of list) k []

pub seeking : (list : List ℕ) (k : ℕ) → Seeking list k 0 0
seeking list k = let e : k - 0 ≡ k = omega arith in record { few = omega arith; within = omega arith; same = rw e }

module _ (list : List ℕ) (k i at : ℕ) (g : Seeking list k i at) where
  pub seek-on : i < k → (size : ℕ) → size ≡ address_size (part list at (length list)) → size ≤ length list - at → Seeking list k (i + 1) (at + size)
  seek-on l size e₀ h₀ =
      let e : size ≡ address_size (drop at list) = e₀ ∙ ap address_size (rest-is list at) in
      let h : size ≤ length (drop at list) = omega (arith, length-drop at list) in
      let r : drop (address_size (drop at list)) (drop at list) ≡ drop (at + size) list = rw (← e) (drop-drop size at list) in
      let d : k - i ≡ suc (k - (i + 1)) = omega arith in
      record {
        few = omega arith;
        within = omega (arith, length-drop at list);
        same = sym (rw (d, addresses-on (drop at list) (omega (arith, e)), r)) ∙ g.same;
      }

  pub seek-end : (size : ℕ) → size ≡ address_size (part list at (length list)) → length list - at < size → ◌≡◌ {A = List ℕ} [] (get_or (addresses_of list) k [])
  seek-end size e h =
      let l : length (drop at list) < address_size (drop at list) = omega (arith, length-drop at list, e ∙ ap address_size (rest-is list at)) in
      rw (← g.same, addresses-end (drop at list) l)

  pub seek_found : k ≤ i → (r : List ℕ) → r ≡ get_or (addresses_of (part list at (length list))) 0 [] → r ≡ get_or (addresses_of list) k []
  seek_found h r e = let d : k - i ≡ 0 = omega (arith, g.few) in e ∙ ap (λ (x : List ℕ). get_or (addresses_of x) 0 []) (rest-is list at) ∙ (rw d at g.same)

pub first-none : (list : List ℕ) (size : ℕ) → size ≡ address_size list → length list < size → ◌≡◌ {A = List ℕ} [] (get_or (addresses_of list) 0 [])
first-none list size e h = rw (addresses-end list (omega (arith, e)))

pub first-is : (list : List ℕ) (size : ℕ) → size ≡ address_size list → size ≤ length list → part list 2 size ≡ get_or (addresses_of list) 0 []
unfolding address_at
first-is list size e h = rw (addresses-on list (omega (arith, e)), e)

-- ---- peers
peer-pos : (s : List ℕ) → 0 < peer_size s
unfolding peer_size
peer-pos s = omega arith

pub peers-end : (s : List ℕ) → length s < peer_size s → peers_of s ≡ []
unfolding peers_of
peers-end s h = entries-end peer_size peer_at peer-pos s h

pub peers-on : (s : List ℕ) → peer_size s ≤ length s → peers_of s ≡ peer_at s ∷ peers_of (drop (peer_size s) s)
unfolding peers_of
peers-on s h = entries-on peer_size peer_at peer-pos s h

pub peers-next : (s : List ℕ) (at size : ℕ) → size ≡ peer_size (part s at (length s)) → size ≤ length s - at
    → peers_of (drop at s) ≡ peer_at (part s at (length s)) ∷ peers_of (drop (at + size) s)
peers-next s at size e₀ h =
    let e : size ≡ peer_size (drop at s) = e₀ ∙ ap peer_size (rest-is s at) in
    let r : drop (peer_size (drop at s)) (drop at s) ≡ drop (at + size) s = rw (← e) (drop-drop size at s) in
    peers-on (drop at s) (omega (arith, e, length-drop at s)) ∙ rw (r, rest-is s at)

pub peers-last : (s : List ℕ) (at size : ℕ) → size ≡ peer_size (part s at (length s)) → length s - at < size → peers_of (drop at s) ≡ []
peers-last s at size e h = peers-end (drop at s) (omega (arith, length-drop at s, e ∙ ap peer_size (rest-is s at)))

-- ---- numbers of two bytes
pub two_is : (s : List ℕ) (at x y : ℕ) → x ≡ get_or s at 0 → y ≡ get_or s (at + 1) 0 → x + y * 256 ≡ two s at
unfolding two
two_is s at x y p q = omega (arith, p, q)

pub address_is : (s : List ℕ) (x : ℕ) → x ≡ two s 0 → 2 + x ≡ address_size s
unfolding address_size
address_is s x e = omega (arith, e)

pub peer-is : (s : List ℕ) (i l : ℕ) → i ≡ two s 0 → l ≡ two s (3 + i) → 5 + i + l ≡ peer_size s
unfolding peer_size
peer-is s i l e q = rw (← e) (omega (arith, q))

pub address-two : (s : List ℕ) → 2 ≤ address_size s
unfolding address_size
address-two s = omega arith

pub peer-five : (s : List ℕ) → 5 + two s 0 ≤ peer_size s
unfolding peer_size
peer-five s = omega arith
