-- Sorting by insertion, the slots that are shown sorted, and the twenty nearest as `pass` keeps them. Assumes nothing.
use mathlib.Core.Path.{◌≡◌, refl, sym, ap, ap₂, ◌∙◌, subst}
use mathlib.Core.Bool.{Bool, true, false, cond}
use mathlib.Core.List.{List, [], ◌∷◌, ◌++◌, append-nil}
use Prim.Native.Nat.{ℕ, zero, suc, ◌+◌, ◌-◌, ◌≤◌, ◌<◌, min}
use native.Mathlib.Numerals.{add-one}
use native.Mathlib.Nat.{le_of_lt, le_trans}
use native.Mathlib.Omega.{arith}
use borrow.Author.Tests.{ltb-true, ltb-false, le-ltb, lt-ltb, eq-eqb, ne_eqb}
use Rattle.octets.proofs.Bools.{cond_yes, cond_no}
use Rattle.limits.specs.Limits.{most_near}
use Rattle.place.specs.Place.{is_place}
use Rattle.contacts.specs.declared.Closest.{Closest}
use lib.Dec.{ltb}
use lib.ListN.{length, get_or, take, drop, replicate, length-take, length-append, length-replicate, get_or-append}
use lib.Seq.{take-take, take-append_seam, take_at, length-take-le, get_or-take}
use Rattle.contacts.specs.Table.{slots_of, slot, place}
use Rattle.contacts.specs.Near.{far, shown, insert, sort_onto, shown_below, sorted, filled, nearest_slots, nearest_of}
use Rattle.contacts.specs.Inner.{kept, Held}

module _ (d : ℕ → ℕ) (k : ℕ) where
  -- one step past an element that is not farther
  pub insert-on : (y : ℕ) (l : List ℕ) → ltb (d k) (d y) ≡ false → insert d k (y ∷ l) ≡ y ∷ insert d k l
  unfolding insert
  insert-on y l e = ap (λ (b : Bool). cond b (k ∷ y ∷ l) (y ∷ insert d k l)) e

  pub insert-here : (y : ℕ) (l : List ℕ) → ltb (d k) (d y) ≡ true → insert d k (y ∷ l) ≡ k ∷ y ∷ l
  unfolding insert
  insert-here y l e = ap (λ (b : Bool). cond b (k ∷ y ∷ l) (y ∷ insert d k l)) e

  pub length-insert : (l : List ℕ) → length (insert d k l) ≡ suc (length l)
  unfolding insert
  length-insert [] = refl
  length-insert (y ∷ l) =
      elim (ltb (d k) (d y)) as (λ b. length (cond b (k ∷ y ∷ l) (y ∷ insert d k l)) ≡ suc (suc (length l))) [ true ↦ refl | false ↦ ap suc (length-insert l) ]

  take-over : (m : ℕ) (y : ℕ) (s : List ℕ) → take m (y ∷ take m s) ≡ take m (y ∷ s)
  take-over zero y s = refl
  take-over (suc m) y s = ap (λ (l : List ℕ). y ∷ l) (take-take m (suc m) s (omega arith))

  -- what was cut off does not come back
  pub insert-take : (m : ℕ) (s : List ℕ) → take m (insert d k (take m s)) ≡ take m (insert d k s)
  unfolding insert
  insert-take zero s = refl
  insert-take (suc m) [] = refl
  insert-take (suc m) (y ∷ s) =
      elim (ltb (d k) (d y)) as (λ b. take (suc m) (cond b (k ∷ y ∷ take m s) (y ∷ insert d k (take m s))) ≡ take (suc m) (cond b (k ∷ y ∷ s) (y ∷ insert d k s)))
      [ true ↦ ap (λ (l : List ℕ). k ∷ l) (take-over m y s) | false ↦ ap (λ (l : List ℕ). y ∷ l) (insert-take m s) ]

  -- the place where k goes: after those that are no farther, before the first that is farther
  pub insert-at : (l : List ℕ) (r : ℕ) → r ≤ length l → ((j : ℕ) → j < r → d (get_or l j 0) ≤ d k) → (r < length l → d k < d (get_or l r 0))
      → insert d k l ≡ take r l ++ k ∷ drop r l
  unfolding insert
  insert-at [] zero h f g = refl
  insert-at [] (suc r) h f g = absurd (omega arith)
  insert-at (y ∷ l) zero h f g = insert-here y l (lt-ltb (d k) (d y) (g (omega arith)))
  insert-at (y ∷ l) (suc r) h f g =
      insert-on y l (le-ltb (d k) (d y) (f 0 (omega arith)))
      ∙ ap (λ (z : List ℕ). y ∷ z) (insert-at l r (omega arith) (λ j q. f (suc j) (omega arith)) (λ q. g (omega arith)))

-- ---- every element of a list
pub data All (P : ℕ → Type 0) : List ℕ → Type 0 where
  none : All P []
  more : {y : ℕ} {l : List ℕ} → P y → All P l → All P (y ∷ l)

pub all-at : {P : ℕ → Type 0} {l : List ℕ} → All P l → (j : ℕ) → j < length l → P (get_or l j 0)
all-at none j h = absurd (omega arith)
all-at (more p a) zero h = p
all-at (more p a) (suc j) h = all-at a j (omega arith)

pub all_map : {P Q : ℕ → Type 0} {l : List ℕ} → ((y : ℕ) → P y → Q y) → All P l → All Q l
all_map f none = none
all_map f (more p a) = more (f _ p) (all_map f a)

pub all_take : {P : ℕ → Type 0} {l : List ℕ} (m : ℕ) → All P l → All P (take m l)
all_take zero a = none
all_take (suc m) none = none
all_take (suc m) (more p a) = more p (all_take m a)

pub all_insert : {P : ℕ → Type 0} {l : List ℕ} (d : ℕ → ℕ) (k : ℕ) → P k → All P l → All P (insert d k l)
unfolding insert
all_insert d k p none = more p none
all_insert {P} d k p (more {y} {l} q a) =
    elim (ltb (d k) (d y)) as (λ b. All P (cond b (k ∷ y ∷ l) (y ∷ insert d k l))) [ true ↦ more p (more q a) | false ↦ more q (all_insert d k p a) ]

-- ---- nearest first
pub data Asc (d : ℕ → ℕ) : List ℕ → Type 0 where
  empty : Asc d []
  next : {y : ℕ} {l : List ℕ} → All (λ z. d y ≤ d z) l → Asc d l → Asc d (y ∷ l)

asc-take : {d : ℕ → ℕ} {l : List ℕ} (m : ℕ) → Asc d l → Asc d (take m l)
asc-take zero a = empty
asc-take (suc m) empty = empty
asc-take (suc m) (next p a) = next (all_take m p) (asc-take m a)

asc-insert : {d : ℕ → ℕ} {l : List ℕ} (k : ℕ) → Asc d l → Asc d (insert d k l)
unfolding insert
asc-insert k empty = next none empty
asc-insert {d} k (next {y} {l} p a) = go (asc-insert k a) (ltb (d k) (d y)) refl
  where
    go : Asc d (insert d k l) → (b : Bool) → ltb (d k) (d y) ≡ b → Asc d (cond b (k ∷ y ∷ l) (y ∷ insert d k l))
    go i true e =
        let h : d k < d y = ltb-true _ _ e in
        next (more (le_of_lt h) (all_map (λ z q. le_trans (le_of_lt h) q) p)) (next p a)
    go i false e = next (all_insert d k (ltb-false _ _ e) p) i

pub asc-at : {d : ℕ → ℕ} {l : List ℕ} → Asc d l → (i j : ℕ) → i ≤ j → j < length l → d (get_or l i 0) ≤ d (get_or l j 0)
asc-at empty i j h l = absurd (omega arith)
asc-at (next p a) zero zero h l = omega arith
asc-at (next p a) zero (suc j) h l = all-at p j (omega arith)
asc-at (next p a) (suc i) zero h l = absurd (omega arith)
asc-at (next p a) (suc i) (suc j) h l = asc-at a i j (omega arith) (omega arith)

-- one that is no nearer than the last of a list in order goes to its end
pub insert-last : {d : ℕ → ℕ} {l : List ℕ} (k m : ℕ) → Asc d l → length l ≡ suc m → d (get_or l m 0) ≤ d k → insert d k l ≡ l ++ (k ∷ [])
unfolding insert
insert-last k m empty e h = absurd (omega arith)
insert-last {d} k zero (next {y} empty' empty) e h = insert-on d k y [] (le-ltb _ _ h)
insert-last {d} k zero (next {y} p (next q a)) e h = absurd (omega arith)
insert-last {d} k (suc m) (next {y} p empty) e h = absurd (omega arith)
insert-last {d} k (suc m) (next {y} p (next {y = z} {l} q a)) e h =
    insert-on d k y (z ∷ l) (le-ltb _ _ (le_trans (all-at p m (omega arith)) h))
    ∙ ap (λ (r : List ℕ). y ∷ r) (insert-last k m (next q a) (omega arith) h)

-- ---- the sorted slots
sort-last : (d : ℕ → ℕ) (done l : List ℕ) (k : ℕ) → sort_onto d done (l ++ (k ∷ [])) ≡ insert d k (sort_onto d done l)
unfolding sort_onto
sort-last d done [] k = refl
sort-last d done (i ∷ l) k = sort-last d (insert d i done) l k

-- one slot more: the step that the pass takes
pub sorted_suc : (t x : List ℕ) (k : ℕ) → sorted t x (suc k) ≡ cond (shown (slot t k)) (insert (far t x) k (sorted t x k)) (sorted t x k)
unfolding sorted shown_below
sorted_suc t x k =
    elim (shown (slot t k)) as (λ b. sort_onto (far t x) [] (shown_below t k ++ cond b (k ∷ []) []) ≡ cond b (insert (far t x) k (sort_onto (far t x) [] (shown_below t k))) (sort_onto (far t x) [] (shown_below t k)))
    [ true ↦ sort-last (far t x) [] (shown_below t k) k | false ↦ ap (sort_onto (far t x) []) (append-nil (shown_below t k)) ]

sorted-below : (t x : List ℕ) (k : ℕ) → All (λ z. z < k) (sorted t x k)
unfolding sorted shown_below sort_onto
sorted-below t x zero = none
sorted-below t x (suc k) =
    let h : All (λ z. z < suc k) (sorted t x k) = all_map (λ z q. omega arith) (sorted-below t x k) in
    rw (sorted_suc t x k) (elim (shown (slot t k)) as (λ b. All (λ z. z < suc k) (cond b (insert (far t x) k (sorted t x k)) (sorted t x k)))
    [ true ↦ all_insert (far t x) k (omega arith) h | false ↦ h ])

pub sorted-asc : (t x : List ℕ) (k : ℕ) → Asc (far t x) (sorted t x k)
unfolding sorted shown_below sort_onto
sorted-asc t x zero = empty
sorted-asc t x (suc k) =
    let h = sorted-asc t x k in
    rw (sorted_suc t x k) (elim (shown (slot t k)) as (λ b. Asc (far t x) (cond b (insert (far t x) k (sorted t x k)) (sorted t x k)))
    [ true ↦ asc-insert k h | false ↦ h ])

pub kept-below : (t x : List ℕ) (k j : ℕ) → j < length (kept t x k) → get_or (kept t x k) j 0 < k
unfolding kept
kept-below t x k j h = all-at (all_take 20 (sorted-below t x k)) j h

pub kept-asc : (t x : List ℕ) (k : ℕ) → Asc (far t x) (kept t x k)
unfolding kept
kept-asc t x k = asc-take 20 (sorted-asc t x k)

pub length-kept : (t x : List ℕ) (k : ℕ) → length (kept t x k) ≤ 20
unfolding kept
length-kept t x k = simp length-take (omega arith)

-- a slot that is shown goes into what is kept, any other does not
pub kept-shown : (t x : List ℕ) (k : ℕ) → shown (slot t k) ≡ true → kept t x (k + 1) ≡ take 20 (insert (far t x) k (kept t x k))
unfolding kept
kept-shown t x k e =
    rw (add-one, sorted_suc t x k) (ap (λ (b : Bool). take 20 (cond b (insert (far t x) k (sorted t x k)) (sorted t x k))) e ∙ sym (insert-take (far t x) k 20 (sorted t x k)))

pub kept-hidden : (t x : List ℕ) (k : ℕ) → shown (slot t k) ≡ false → kept t x (k + 1) ≡ kept t x k
unfolding kept
kept-hidden t x k e = rw (add-one, sorted_suc t x k) (ap (λ (b : Bool). take 20 (cond b (insert (far t x) k (sorted t x k)) (sorted t x k))) e)

-- ---- as an array of twenty
fill-at : (m r k : ℕ) (l z : List ℕ) → r ≤ length l
    → take m (take r (take m (l ++ z)) ++ k ∷ drop r (take m (l ++ z))) ≡ take m ((take r l ++ k ∷ drop r l) ++ z)
fill-at zero r k l z h = refl
fill-at (suc m) zero k l z h = ap (λ (s : List ℕ). k ∷ s) (take-take m (suc m) (l ++ z) (omega arith))
fill-at (suc m) (suc r) k [] z h = absurd (omega arith)
fill-at (suc m) (suc r) k (y ∷ l) z h = ap (λ (s : List ℕ). y ∷ s) (fill-at m r k l z (omega arith))

fill-cut : (m : ℕ) (l z : List ℕ) → take m (take m l ++ z) ≡ take m (l ++ z)
fill-cut zero l z = refl
fill-cut (suc m) [] z = refl
fill-cut (suc m) (y ∷ l) z = ap (λ (s : List ℕ). y ∷ s) (fill-cut m l z)

-- k put at place r of the array is k inserted into the list, where r is its place there
pub filled_put : (r k : ℕ) (l i : List ℕ) → r ≤ length l → i ≡ take r l ++ k ∷ drop r l
    → take 20 (take r (filled l) ++ k ∷ drop r (filled l)) ≡ filled (take 20 i)
unfolding filled
filled_put r k l i h e =
    fill-at 20 r k l (replicate 20 0) h ∙ ap (λ (s : List ℕ). take 20 (s ++ replicate 20 0)) (sym e) ∙ sym (fill-cut 20 i (replicate 20 0))

pub take-filled : (l : List ℕ) → length l ≤ 20 → take (length l) (filled l) ≡ l
unfolding filled
take-filled l h = take-take (length l) 20 (l ++ replicate 20 0) h ∙ take-append_seam l (replicate 20 0)

pub length-filled : (l : List ℕ) → length (filled l) ≡ 20
unfolding filled
length-filled l = length-take-le 20 (l ++ replicate 20 0) (simp (length-append, length-replicate) (omega arith))

pub filled_at : (l : List ℕ) (j : ℕ) → length l ≤ 20 → j < length l → get_or (filled l) j 0 ≡ get_or l j 0
unfolding filled
filled_at l j h i = get_or-take 20 (l ++ replicate 20 0) j 0 (omega arith) ∙ get_or-append l (replicate 20 0) 0 j i

-- ---- the search by halves for the place of k: between low and high
pub record Halving (t x at : List ℕ) (n k low high : ℕ) : Type 0 where
  pub ordered : low ≤ high
  pub within : high ≤ n
  pub below : 0 < low → far t x (get_or at (low - 1) 0) ≤ far t x k
  pub above : high < n → far t x k < far t x (get_or at high 0)

-- ---- what a turn of the pass starts from, and what it comes to
module _ {t x at : List ℕ} {n k : ℕ} (h : Held t x at n k) where
  pub held-length : length at ≡ 20
  held-length = ap length h.list ∙ length-filled (kept t x k)

  pub held-count : n ≤ 20
  held-count = omega (arith, h.count, length-kept t x k)

  held_at : (j : ℕ) → j < n → get_or at j 0 ≡ get_or (kept t x k) j 0
  held_at j i = ap (λ (l : List ℕ). get_or l j 0) h.list ∙ filled_at (kept t x k) j (length-kept t x k) (omega (arith, h.count))

  pub held_below : (j : ℕ) → j < n → get_or at j 0 < k
  held_below j i = rw (held_at j i) (kept-below t x k j (omega (arith, h.count)))

  held-take : take n at ≡ kept t x k
  held-take = ap₂ take h.count h.list ∙ take-filled (kept t x k) (length-kept t x k)

  -- k put at its place
  pub held-put : (r : ℕ) → r ≤ n → insert (far t x) k (take n at) ≡ take r (take n at) ++ k ∷ drop r (take n at)
      → take 20 (take r at ++ k ∷ drop r at) ≡ filled (kept t x (k + 1))
  held-put r i e =
      ap (λ (l : List ℕ). take 20 (take r l ++ k ∷ drop r l)) h.list
      ∙ filled_put r k (kept t x k) (insert (far t x) k (kept t x k)) (omega (arith, h.count)) (rw held-take at e)
      ∙ ap filled (sym (kept-shown t x k h.taken))

  length-next : length (kept t x (k + 1)) ≡ min 20 (suc n)
  length-next =
      ap length (kept-shown t x k h.taken) ∙ length-take 20 (insert (far t x) k (kept t x k))
      ∙ ap (λ (m : ℕ). min 20 m) (length-insert (far t x) k (kept t x k) ∙ ap suc (sym h.count))

  pub held_more : n < 20 → n + 1 ≡ length (kept t x (k + 1))
  held_more i = omega (arith, length-next)

  pub held-full : 20 ≤ n → 20 ≡ length (kept t x (k + 1))
  held-full i = omega (arith, length-next)

  -- k is no nearer than the last of twenty
  pub held-far : 20 ≤ n → ltb (far t x k) (far t x (get_or at 19 0)) ≡ false → at ≡ filled (kept t x (k + 1))
  held-far i e =
      let l : length (kept t x k) ≡ 20 = omega (arith, h.count, length-kept t x k) in
      let f : far t x (get_or (kept t x k) 19 0) ≤ far t x k = rw (held_at 19 (omega arith)) at (ltb-false (far t x k) (far t x (get_or at 19 0)) e) in
      let g : insert (far t x) k (kept t x k) ≡ kept t x k ++ (k ∷ []) = insert-last k 19 (kept-asc t x k) (omega arith) f in
      h.list
      ∙ ap filled (sym (kept-shown t x k h.taken ∙ ap (λ (s : List ℕ). take 20 s) g ∙ take_at (kept t x k) (k ∷ []) 20 l))

  pub halving : Halving t x at n k 0 n
  halving = record {
    ordered = omega arith;
    within = omega arith;
    below = λ l. absurd (no l);
    above = λ l. absurd (no l);
  }
    where
      no : {m : ℕ} → m < m → ⊥
      no l = omega arith

  module _ (low high mid : ℕ) (v : Halving t x at n k low high) (p : low ≤ mid) (q : mid < high) where
    pub halve-left : ltb (far t x k) (far t x (get_or at mid 0)) ≡ true → Halving t x at n k low mid
    halve-left e = record { ordered = p; within = omega (arith, v.within); below = v.below; above = λ _. ltb-true (far t x k) (far t x (get_or at mid 0)) e }

    pub halve-right : ltb (far t x k) (far t x (get_or at mid 0)) ≡ false → Halving t x at n k (mid + 1) high
    halve-right e =
        let z : mid + 1 - 1 ≡ mid = omega arith in
        record {
          ordered = omega arith;
          within = v.within;
          below = λ _. subst (λ (m : ℕ). far t x (get_or at m 0) ≤ far t x k) (sym z) (ltb-false (far t x k) (far t x (get_or at mid 0)) e);
          above = v.above;
        }

  pub halved : (low high : ℕ) → Halving t x at n k low high → high ≤ low
      → (low ≤ n) × (insert (far t x) k (take n at) ≡ take low (take n at) ++ k ∷ drop low (take n at))
  halved low high v l = (omega (arith, v.within), rw held-take (insert-at (far t x) k (kept t x k) low (omega (arith, v.within, h.count)) under over))
    where
      e : high ≡ low
      e = omega (arith, v.ordered)

      under : (j : ℕ) → j < low → far t x (get_or (kept t x k) j 0) ≤ far t x k
      under j lj =
          let b : far t x (get_or at (low - 1) 0) ≤ far t x k = v.below (omega arith) in
          let w : far t x (get_or (kept t x k) j 0) ≤ far t x (get_or (kept t x k) (low - 1) 0) = asc-at (kept-asc t x k) j (low - 1) (omega arith) (omega (arith, v.within, h.count)) in
          le_trans w (subst (λ (m : ℕ). far t x m ≤ far t x k) (held_at (low - 1) (omega (arith, v.within))) b)

      over : low < length (kept t x k) → far t x k < far t x (get_or (kept t x k) low 0)
      over ll =
          let b : far t x k < far t x (get_or at high 0) = v.above (omega (arith, h.count)) in
          subst (λ (m : ℕ). far t x k < far t x m) (ap (λ (m : ℕ). get_or at m 0) e ∙ held_at low (omega (arith, h.count))) b

-- ---- the answer
module _ (t x : List ℕ) where
  pub nearest-kept : length x ≡ 32 → nearest_slots t x ≡ kept t x (slots_of t)
  unfolding nearest_slots is_place kept
  nearest-kept h = cond_yes (is_place x) (take most_near (sorted t x (slots_of t))) [] (eq-eqb (length x) 32 h)

  pub nearest-none : (length x ≡ 32 → ⊥) → nearest_slots t x ≡ []
  unfolding nearest_slots is_place
  nearest-none h = cond_no (is_place x) (take most_near (sorted t x (slots_of t))) [] (ne_eqb (length x) 32 h)

  pub nearest-as : (l at : List ℕ) (n : ℕ) → nearest_slots t x ≡ l → at ≡ filled l → n ≡ length l → ◌≡◌ {A = Closest} (record { at = at; n = n }) (nearest_of t x)
  unfolding nearest_of
  nearest-as l at n e p q =
      ap₂ {A = List ℕ} {B = ℕ} {C = Closest} (λ a m. record { at = a; n = m }) (p ∙ ap filled (sym e)) (q ∙ ap length (sym e))
