-- What the twenty nearest are: contacts of the table that aren't doubtful, none twice, nearest first, none nearer left out, and twenty or all. Assumes nothing.
use Prim.Native.Nat.{ℕ, zero, suc, ◌+◌, ◌<◌, ◌≤◌, min}
use mathlib.Core.Path.{◌≡◌, refl, sym, ap, ◌∙◌, subst}
use mathlib.Core.Logic.{⊎_elim}
use mathlib.Core.Bool.{Bool, true, false, cond}
use mathlib.Core.List.{List, [], ◌∷◌}
use native.Mathlib.Nat.{eq-or-lt_of_le, le_of_suc-le-suc, not-suc-le-zero}
use native.Mathlib.Omega.{arith}
use lib.Dec.{ltb}
use lib.ListN.{length, get_or, take, length-take}
use lib.Seq.{get_or-take}
use borrow.Author.Tests.{ltb-true, ltb-false}
use Rattle.octets.specs.Octets.{Bytes}
use Rattle.octets.specs.Search.{count}
use Rattle.octets.proofs.Bools.{either, not-both, cond_ind}
use Rattle.limits.specs.Limits.{most_near}
use Rattle.place.specs.Place.{is_place, distance}
use Rattle.place.proofs.Distance.{distance_self, distance-zero, distance-inj}
use Rattle.contacts.specs.Table.{slots_of, slot, used, doubtful, place}
use Rattle.contacts.specs.Near.{far, shown, insert, sort_onto, shown_below, sorted, nearest_slots}
use Rattle.contacts.specs.Inner.{kept}
use Rattle.contact_table.proofs.Cuts.{slot_whole, place-size, bytes-place}
use Rattle.contact_form.specs.Claims.{InForm}
use Rattle.contacts.specs.Claims.{AreNearest, Gives, GivesFirst}
use Rattle.contacts.proofs.Shown.{shown-used, shown-trusted}
use Rattle.contacts.proofs.Sorting.{All, none, more, all-at, all_map, all_take, all_insert, asc-at, sorted-asc, sorted_suc, length-insert, nearest-kept}

-- ---- an element of a list
data In (k : ℕ) : List ℕ → Type 0 where
  here : {l : List ℕ} → In k (k ∷ l)
  there : {y : ℕ} {l : List ℕ} → In k l → In k (y ∷ l)

in-at : {k : ℕ} {l : List ℕ} → In k l → (i : ℕ) × (i < length l) × (get_or l i 0 ≡ k)
in-at here = (0, omega arith, refl)
in-at (there m) = let r = in-at m in (suc r.0, omega (arith, r.1), r.2)

module _ (d : ℕ → ℕ) (k : ℕ) where
  in-new : (l : List ℕ) → In k (insert d k l)
  unfolding insert
  in-new [] = here
  in-new (y ∷ l) = cond_ind (In k) (ltb (d k) (d y)) (k ∷ y ∷ l) (y ∷ insert d k l) (λ _. here) (λ _. there (in-new l))

  in-old : {z : ℕ} {l : List ℕ} → In z l → In z (insert d k l)
  unfolding insert
  in-old {z} (here {l}) = cond_ind (In z) (ltb (d k) (d z)) (k ∷ z ∷ l) (z ∷ insert d k l) (λ _. there here) (λ _. here)
  in-old {z} (there {y} {l} m) = cond_ind (In z) (ltb (d k) (d y)) (k ∷ y ∷ l) (y ∷ insert d k l) (λ _. there (there m)) (λ _. there (in-old m))

-- ---- none twice
data Once : List ℕ → Type 0 where
  empty : Once []
  next : {y : ℕ} {l : List ℕ} → All (λ z. z ≡ y → ⊥) l → Once l → Once (y ∷ l)

once-insert : (d : ℕ → ℕ) (k : ℕ) {l : List ℕ} → All (λ z. z ≡ k → ⊥) l → Once l → Once (insert d k l)
unfolding insert
once-insert d k none empty = next none empty
once-insert d k (more {y} {l} q a) (next p o) =
    cond_ind Once (ltb (d k) (d y)) (k ∷ y ∷ l) (y ∷ insert d k l) (λ _. next (more q a) (next p o)) (λ _. next (all_insert d k (λ e. q (sym e)) p) (once-insert d k a o))

once-take : {l : List ℕ} (m : ℕ) → Once l → Once (take m l)
once-take zero o = empty
once-take (suc m) empty = empty
once-take (suc m) (next p o) = next (all_take m p) (once-take m o)

once-at : {l : List ℕ} → Once l → (i j : ℕ) → i < length l → j < length l → get_or l i 0 ≡ get_or l j 0 → i ≡ j
once-at empty i j hi hj e = absurd (not-suc-le-zero hi)
once-at (next p o) zero zero hi hj e = refl
once-at (next p o) zero (suc j) hi hj e = absurd (all-at p j (omega arith) (sym e))
once-at (next p o) (suc i) zero hi hj e = absurd (all-at p i (omega arith) e)
once-at (next p o) (suc i) (suc j) hi hj e = ap suc (once-at o i j (omega arith) (omega arith) e)

-- ---- the sorted slots below k
module _ (t x : List ℕ) where
  abbrev Below : ℕ → ℕ → Type 0
  Below k z = (z < k) × (shown (slot t z) ≡ true)

  -- one slot more
  step : (P : List ℕ → Type 0) (k : ℕ) → (shown (slot t k) ≡ true → P (insert (far t x) k (sorted t x k))) → (shown (slot t k) ≡ false → P (sorted t x k)) → P (sorted t x (suc k))
  step P k f g = rw (sorted_suc t x k) (cond_ind P (shown (slot t k)) (insert (far t x) k (sorted t x k)) (sorted t x k) f g)

  sorted-held : (k : ℕ) → All (Below k) (sorted t x k)
  unfolding sorted shown_below sort_onto
  sorted-held zero = none
  sorted-held (suc k) =
      let h : All (Below (suc k)) (sorted t x k) = all_map (λ z q. (omega (arith, q.0), q.1)) (sorted-held k) in
      step (All (Below (suc k))) k (λ u. all_insert (far t x) k (omega arith, u) h) (λ _. h)

  sorted-once : (k : ℕ) → Once (sorted t x k)
  unfolding sorted shown_below sort_onto
  sorted-once zero = empty
  sorted-once (suc k) = step Once k (λ u. once-insert (far t x) k (all_map (λ z q. off q) (sorted-held k)) (sorted-once k)) (λ _. sorted-once k)
    where
      off : {z : ℕ} → Below k z → z ≡ k → ⊥
      off q e = omega (arith, q.0)

  sorted_all : (k z : ℕ) → z < k → shown (slot t z) ≡ true → In z (sorted t x k)
  sorted_all zero z l u = absurd (not-suc-le-zero l)
  sorted_all (suc k) z l u =
      step (In z) k
      (λ _. ⊎_elim (λ e. subst (λ (y : ℕ). In y (insert (far t x) k (sorted t x k))) (sym e) (in-new (far t x) k (sorted t x k))) (λ lt. in-old (far t x) k (sorted_all k z lt u)) (eq-or-lt_of_le (le_of_suc-le-suc l)))
      (λ f. ⊎_elim (λ e. absurd (not-both (shown (slot t k)) (subst (λ (y : ℕ). shown (slot t y) ≡ true) e u) f)) (λ lt. sorted_all k z lt u) (eq-or-lt_of_le (le_of_suc-le-suc l)))

  length-sorted : (k : ℕ) → length (sorted t x k) ≡ count k (λ i. shown (slot t i))
  unfolding sorted shown_below sort_onto count
  length-sorted zero = refl
  length-sorted (suc k) = step (λ l. length l ≡ count k (λ i. shown (slot t i)) + cond (shown (slot t k)) 1 0) k (λ u. yes (length-sorted k) u) (λ u. no (length-sorted k) u)
    where
      yes : length (sorted t x k) ≡ count k (λ i. shown (slot t i)) → shown (slot t k) ≡ true → length (insert (far t x) k (sorted t x k)) ≡ count k (λ i. shown (slot t i)) + cond (shown (slot t k)) 1 0
      yes e u = rw u (omega (arith, length-insert (far t x) k (sorted t x k)))

      no : length (sorted t x k) ≡ count k (λ i. shown (slot t i)) → shown (slot t k) ≡ false → length (sorted t x k) ≡ count k (λ i. shown (slot t i)) + cond (shown (slot t k)) 1 0
      no e u = rw u (omega arith)

  -- ---- the first twenty of all
  abbrev Whole : List ℕ
  Whole = sorted t x (slots_of t)

  first-lt : (i : ℕ) → i < length (take most_near Whole) → (i < most_near) × (i < length Whole)
  first-lt i l = (omega (arith, length-take most_near Whole), omega (arith, length-take most_near Whole))

  first-at : (i : ℕ) → i < length (take most_near Whole) → get_or (take most_near Whole) i 0 ≡ get_or Whole i 0
  first-at i l = get_or-take most_near Whole i 0 (first-lt i l).0

  left_out : (k : ℕ) → k < slots_of t → shown (slot t k) ≡ true → ((i : ℕ) → i < length (take most_near Whole) → get_or (take most_near Whole) i 0 ≡ k → ⊥)
      → (i : ℕ) → i < length (take most_near Whole) → far t x (get_or (take most_near Whole) i 0) ≤ far t x k
  left_out k l u out i li =
      let r = in-at (sorted_all (slots_of t) k l u) in
      ⊎_elim (λ h. absurd (out r.0 (inside r.0 (ltb-true r.0 most_near h) r.1) (first-at r.0 (inside r.0 (ltb-true r.0 most_near h) r.1) ∙ r.2)))
      (λ h. beyond r.0 (ltb-false r.0 most_near h) r.1 r.2) (either (ltb r.0 most_near))
    where
      inside : (j : ℕ) → j < most_near → j < length Whole → j < length (take most_near Whole)
      inside j a b = omega (arith, length-take most_near Whole)

      beyond : (j : ℕ) → most_near ≤ j → j < length Whole → get_or Whole j 0 ≡ k → far t x (get_or (take most_near Whole) i 0) ≤ far t x k
      beyond j a b e =
          subst (λ (z : ℕ). far t x z ≤ far t x k) (sym (first-at i li))
          (subst (λ (z : ℕ). far t x (get_or Whole i 0) ≤ far t x z) e (asc-at (sorted-asc t x (slots_of t)) i j (omega (arith, (first-lt i li).0)) b))

  first-twenty : AreNearest t x (take most_near Whole)
  first-twenty = record {
    held = λ i l. all-at (all_take most_near (sorted-held (slots_of t))) i l;
    once = once-at (once-take most_near (sorted-once (slots_of t)));
    order = λ i j h l. asc-first i j h l;
    nearer = left_out;
    size = length-take most_near Whole ∙ ap (min most_near) (length-sorted (slots_of t));
  }
    where
      asc-first : (i j : ℕ) → i ≤ j → j < length (take most_near Whole) → far t x (get_or (take most_near Whole) i 0) ≤ far t x (get_or (take most_near Whole) j 0)
      asc-first i j h l =
          let li : i < length (take most_near Whole) = omega arith in
          subst (λ (z : ℕ). far t x z ≤ far t x (get_or (take most_near Whole) j 0)) (sym (first-at i li))
          (subst (λ (z : ℕ). far t x (get_or Whole i 0) ≤ far t x z) (sym (first-at j l)) (asc-at (sorted-asc t x (slots_of t)) i j h (first-lt j l).1))

-- the answer to a place is the list of the twenty nearest
pub nearest-are : (t x : List ℕ) → length x ≡ 32 → AreNearest t x (nearest_slots t x)
unfolding kept
nearest-are t x h = subst (AreNearest t x) (sym (nearest-kept t x h)) (first-twenty t x)

-- contacts of the table that aren't doubtful, also where x is no place: then there is nobody
pub nearest-shown : (t x : List ℕ) (k : ℕ) → k < length (nearest_slots t x) → (get_or (nearest_slots t x) k 0 < slots_of t) × (shown (slot t (get_or (nearest_slots t x) k 0)) ≡ true)
unfolding nearest_slots
nearest-shown t x = each (is_place x)
  where
    each : (c : Bool) (k : ℕ) → k < length (cond c (take most_near (Whole t x)) [])
        → (get_or (cond c (take most_near (Whole t x)) []) k 0 < slots_of t) × (shown (slot t (get_or (cond c (take most_near (Whole t x)) []) k 0)) ≡ true)
    each true k l = (first-twenty t x).held k l
    each false k l = absurd (not-suc-le-zero l)

pub nearest-held : (t x : List ℕ) (k : ℕ) → k < length (nearest_slots t x) → (get_or (nearest_slots t x) k 0 < slots_of t) × (used (slot t (get_or (nearest_slots t x) k 0)) ≡ true)
nearest-held t x k l = let r = nearest-shown t x k l in (r.0, shown-used (slot t (get_or (nearest_slots t x) k 0)) r.1)

-- a doubtful contact is passed over
pub passed_over : (t x : List ℕ) (i : ℕ) → doubtful (slot t i) ≡ true → Gives t x i → ⊥
passed_over t x i d g =
    not-both (doubtful (slot t i)) d (shown-trusted (slot t i) (subst (λ (j : ℕ). shown (slot t j) ≡ true) g.2 (nearest-shown t x g.0 g.1).1))

-- in a table in form no two are equally far
pub nearest-strict : (t o x : List ℕ) → length x ≡ 32 → Bytes t → InForm t o → (i j : ℕ) → i < j → j < length (nearest_slots t x)
    → far t x (get_or (nearest_slots t x) i 0) < far t x (get_or (nearest_slots t x) j 0)
unfolding far
nearest-strict t o x hx ht f i j l lj = strict (a.order i j (omega arith) lj) apart
  where
    a : AreNearest t x (nearest_slots t x)
    a = nearest-are t x hx

    li : i < length (nearest_slots t x)
    li = omega arith

    p : ℕ
    p = get_or (nearest_slots t x) i 0

    q : ℕ
    q = get_or (nearest_slots t x) j 0

    apart : distance (place (slot t p)) x ≡ distance (place (slot t q)) x → ⊥
    apart e =
        let w : i ≡ j = a.once i j li lj (f.once p q (a.held i li).0 (a.held j lj).0 (shown-used (slot t p) (a.held i li).1) (shown-used (slot t q) (a.held j lj).1)
        (distance-inj (place (slot t p)) (place (slot t q)) x
        (place-size t p (slot_whole t p (a.held i li).0) ∙ sym (place-size t q (slot_whole t q (a.held j lj).0))) (bytes-place t p ht) (bytes-place t q ht) e)) in
        bad w
      where
        bad : i ≡ j → ⊥
        bad z = omega arith

    strict : {m n : ℕ} → m ≤ n → (m ≡ n → ⊥) → m < n
    strict h g = omega arith

-- ---- a contact that is shown is the first for its own place
module _ (t o : List ℕ) (i : ℕ) (ht : Bytes t) (f : InForm t o) (l : i < slots_of t) (u : shown (slot t i) ≡ true) where
  abbrev x : List ℕ
  x = place (slot t i)

  long : (j : ℕ) → j < slots_of t → length (place (slot t j)) ≡ 32
  long j lj = place-size t j (slot_whole t j lj)

  -- nobody else is as near
  alone : (j : ℕ) → Below t x (slots_of t) j → far t x j ≤ far t x i → j ≡ i
  unfolding far
  alone j b n =
      f.once j i b.0 l (shown-used (slot t j) b.1) (shown-used (slot t i) u)
      (distance-zero (place (slot t j)) x (long j b.0 ∙ sym (long i l)) (bytes-place t j ht) (bytes-place t i ht) (omega (arith, n, distance_self x)))

  -- so the first of all is this one
  heads : 0 < length (Whole t x) → (r : ℕ) → r < length (Whole t x) → get_or (Whole t x) r 0 ≡ i → get_or (Whole t x) 0 0 ≡ i
  heads some r lr e =
      alone (get_or (Whole t x) 0 0) (all-at (sorted-held t x (slots_of t)) 0 some)
      (subst (λ (z : ℕ). far t x (get_or (Whole t x) 0 0) ≤ far t x z) e (asc-at (sorted-asc t x (slots_of t)) 0 r (omega arith) lr))

  pub own_first : GivesFirst t x i
  unfolding kept
  own_first =
      let r = in-at (sorted_all t x (slots_of t) i l u) in
      let some : 0 < length (Whole t x) = omega (arith, r.1) in
      let one : 0 < length (take most_near (Whole t x)) = omega (arith, some, length-take most_near (Whole t x)) in
      rw (nearest-kept t x (long i l)) (one, first-at t x 0 one ∙ heads some r.0 r.1 r.2)
