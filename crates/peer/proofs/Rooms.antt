-- Laws of `padded`, `rooms` and `sizes`: one address more is a store, and each stands where it was stored. Assumes nothing.
use Prim.Native.Nat.{ℕ, zero, suc, ◌+◌, ◌*◌, ◌-◌, ◌<◌, ◌≤◌, min}
use mathlib.Core.Path.{◌≡◌, refl, sym, ap, ◌∙◌}
use mathlib.Core.List.{List, [], ◌∷◌, ◌++◌, append_assoc}
use native.Mathlib.Nat.{not-suc-le-zero}
use native.Mathlib.Omega.{arith}
use lib.ListN.{length, get_or, take, drop, set, replicate, length-take, length-append, length-replicate}
use lib.Seq.{sets, take-nil, take_all, take-append_seam, drop-append-add}
use Rattle.octets.specs.Octets.{part}
use Rattle.octets.proofs.Parts.{part-is}
use Rattle.peer.specs.Addresses.{padded, rooms, sizes}
use Rattle.octets.proofs.Stores.{sets-append-add, sets-append-left, sets-cons}

-- ---- padded
pub padded-none : (n : ℕ) → padded n [] ≡ replicate n 0
unfolding padded
padded-none n = let e : n - 0 ≡ n = omega arith in rw (take-nil n, e)

pub length-padded : (n : ℕ) (s : List ℕ) → length (padded n s) ≡ n
unfolding padded
length-padded n s = omega (arith, length-append (take n s) (replicate (n - length s) 0), length-take n s, length-replicate {A = ℕ} (n - length s) 0)

padded-more : (n b : ℕ) (s : List ℕ) → padded (suc n) (b ∷ s) ≡ b ∷ padded n s
unfolding padded
padded-more n b s = let e : suc n - suc (length s) ≡ n - length s = omega arith in rw e

-- what a copy into zeros leaves
pub sets-zeros : (n : ℕ) (s : List ℕ) → sets (replicate n 0) 0 s ≡ padded n s
unfolding padded
sets-zeros n [] = sym (padded-none n)
sets-zeros zero (b ∷ s) = let e : 0 - suc (length s) ≡ 0 = omega arith in rw e (nothing s 1)
  where
    nothing : (s : List ℕ) (k : ℕ) → sets [] k s ≡ []
    nothing [] k = refl
    nothing (x ∷ s) k = nothing s (suc k)
sets-zeros (suc n) (b ∷ s) = sets-cons b (replicate n 0) 0 s ∙ ap (λ (l : List ℕ). b ∷ l) (sets-zeros n s) ∙ sym (padded-more n b s)

pub padded-part : (n : ℕ) (s rest : List ℕ) → length s ≤ n → take (length s) (padded n s ++ rest) ≡ s
unfolding padded
padded-part n s rest h =
    ap (λ (l : List ℕ). take (length s) ((l ++ replicate (n - length s) 0) ++ rest)) (take_all n s h)
    ∙ ap (take (length s)) (append_assoc s (replicate (n - length s) 0) rest) ∙ take-append_seam s (replicate (n - length s) 0 ++ rest)

-- an id: what is held is its first n bytes
pub padded-front : (n : ℕ) (s : List ℕ) → part (padded n s) 0 (min (length s) n) ≡ take n s
unfolding padded
padded-front n s =
    let e : min (length s) n - 0 ≡ length (take n s) = omega (arith, length-take n s) in
    rw e (take-append_seam (take n s) (replicate (n - length s) 0))

-- ---- rooms and sizes
pub length-rooms : (n : ℕ) (l : List (List ℕ)) → length (rooms n l) ≡ n * 128
unfolding rooms
length-rooms zero l = refl
length-rooms (suc n) [] = omega (arith, length-append (padded 128 []) (rooms n []), length-padded 128 [], length-rooms n [])
length-rooms (suc n) (a ∷ l) = omega (arith, length-append (padded 128 a) (rooms n l), length-padded 128 a, length-rooms n l)

pub length-sizes : (n : ℕ) (l : List (List ℕ)) → length (sizes n l) ≡ n
unfolding sizes
length-sizes zero l = refl
length-sizes (suc n) [] = ap suc (length-sizes n [])
length-sizes (suc n) (a ∷ l) = ap suc (length-sizes n l)

pub rooms-none : rooms 4 [] ≡ replicate 512 0
unfolding rooms padded
rooms-none = refl

pub sizes-none : sizes 4 [] ≡ replicate 4 0
unfolding sizes
sizes-none = refl

-- one address more
pub rooms-more : (n : ℕ) (l : List (List ℕ)) (a : List ℕ) → length l < n → length a ≤ 128 → rooms n (l ++ (a ∷ [])) ≡ sets (rooms n l) (length l * 128) a
unfolding rooms
rooms-more zero l a h g = absurd (not-suc-le-zero h)
rooms-more (suc n) [] a h g =
    sym (sets-append-left (padded 128 []) (rooms n []) 0 a (omega (arith, length-padded 128 []))
    ∙ ap (λ (s : List ℕ). s ++ rooms n []) (ap (λ (s : List ℕ). sets s 0 a) (padded-none 128) ∙ sets-zeros 128 a))
rooms-more (suc n) (x ∷ l) a h g =
    let e : suc (length l) * 128 ≡ length (padded 128 x) + length l * 128 = omega (arith, length-padded 128 x) in
    ap (λ (s : List ℕ). padded 128 x ++ s) (rooms-more n l a (omega arith) g)
    ∙ sym (ap (λ (k : ℕ). sets (padded 128 x ++ rooms n l) k a) e ∙ sets-append-add (padded 128 x) (rooms n l) (length l * 128) a)

pub sizes-more : (n : ℕ) (l : List (List ℕ)) (a : List ℕ) → length l < n → sizes n (l ++ (a ∷ [])) ≡ set (sizes n l) (length l) (length a)
unfolding sizes
sizes-more zero l a h = absurd (not-suc-le-zero h)
sizes-more (suc n) [] a h = refl
sizes-more (suc n) (x ∷ l) a h = ap (λ (s : List ℕ). length x ∷ s) (sizes-more n l a (omega arith))

-- the address in a room, and its length
pub size_in : (n : ℕ) (l : List (List ℕ)) (k : ℕ) → k < length l → k < n → get_or (sizes n l) k 0 ≡ length (get_or l k [])
unfolding sizes
size_in zero l k h g = absurd (not-suc-le-zero g)
size_in (suc n) [] k h g = absurd (not-suc-le-zero h)
size_in (suc n) (a ∷ l) zero h g = refl
size_in (suc n) (a ∷ l) (suc k) h g = size_in n l k (omega arith) (omega arith)

room_in : (n : ℕ) (l : List (List ℕ)) (k : ℕ) → k < length l → k < n → length (get_or l k []) ≤ 128 → take (length (get_or l k [])) (drop (k * 128) (rooms n l)) ≡ get_or l k []
unfolding rooms
room_in zero l k h g f = absurd (not-suc-le-zero g)
room_in (suc n) [] k h g f = absurd (not-suc-le-zero h)
room_in (suc n) (a ∷ l) zero h g f = padded-part 128 a (rooms n l) f
room_in (suc n) (a ∷ l) (suc k) h g f =
    let e : suc k * 128 ≡ length (padded 128 a) + k * 128 = omega (arith, length-padded 128 a) in
    ap (take (length (get_or l k []))) (ap (λ (m : ℕ). drop m (padded 128 a ++ rooms n l)) e ∙ drop-append-add (padded 128 a) (rooms n l) (k * 128))
    ∙ room_in n l k (omega arith) (omega arith) f

pub room-part : (n : ℕ) (l : List (List ℕ)) (k : ℕ) → k < length l → k < n → length (get_or l k []) ≤ 128
    → part (rooms n l) (k * 128) (k * 128 + get_or (sizes n l) k 0) ≡ get_or l k []
room-part n l k h g f =
    part-is (rooms n l) (k * 128) (get_or (sizes n l) k 0) ∙ ap (λ (m : ℕ). take m (drop (k * 128) (rooms n l))) (size_in n l k h g) ∙ room_in n l k h g f

-- ---- addresses that fit into their rooms
abbrev pub Short : List (List ℕ) → Type 0
Short l = (k : ℕ) → length (get_or l k []) ≤ 128

pub short_none : Short []
short_none k = omega arith

pub short-more : (l : List (List ℕ)) (a : List ℕ) → Short l → length a ≤ 128 → Short (l ++ (a ∷ []))
short-more [] a h g zero = g
short-more [] a h g (suc k) = short_none k
short-more (x ∷ l) a h g zero = h zero
short-more (x ∷ l) a h g (suc k) = short-more l a (λ i. h (suc i)) g k

pub sizes-most : (n : ℕ) (l : List (List ℕ)) → Short l → (k : ℕ) → get_or (sizes n l) k 0 ≤ 128
unfolding sizes
sizes-most zero l h k = omega arith
sizes-most (suc n) [] h zero = omega arith
sizes-most (suc n) [] h (suc k) = sizes-most n [] short_none k
sizes-most (suc n) (a ∷ l) h zero = h zero
sizes-most (suc n) (a ∷ l) h (suc k) = sizes-most n l (λ i. h (suc i)) k
