-- Laws of the table's slots: what is read from one, and what a slot written leaves. Assumes nothing.
use Prim.Native.Nat.{ℕ, suc, ◌+◌, ◌*◌, ◌-◌, ◌<◌, ◌≤◌}
use mathlib.Core.Path.{◌≡◌, sym, ap, ap₂, ◌∙◌}
use mathlib.Core.Logic.{◌⊎◌, inl, inr, ⊎_elim}
use mathlib.Core.List.{List, [], ◌∷◌, ◌++◌, append_assoc}
use native.Mathlib.Nat.{eq-or-lt_of_le}
use native.Mathlib.Omega.{arith}
use lib.Dec.{ltb}
use lib.ListN.{length, get_or, take, drop, set, length-set, take-append-drop}
use lib.Seq.{sets, length-sets, sets-eq, take_at, drop_at, drop-drop, set-append_left, length-take-le}
use borrow.Author.Tests.{ltb-true, ltb-false}
use Rattle.octets.specs.Octets.{part}
use Rattle.octets.proofs.Bools.{either}
use Rattle.octets.proofs.Parts.{part-is, part_at, part-part}
use Rattle.octets.proofs.Stores.{take-sets, drop-sets, set-append-add}
use Rattle.contact_table.proofs.Cuts.{slot_whole, slot-size}
use Rattle.contacts.specs.Table.{slot_size, slots_of, slot, put_slot}

pub sides : (j i : ℕ) → (j ≡ i → ⊥) → (j < i) ⊎ (i < j)
sides j i ne = ⊎_elim (λ e. inl (ltb-true j i e)) (λ e. ⊎_elim (λ q. absurd (ne (sym q))) (λ q. inr q) (eq-or-lt_of_le (ltb-false j i e))) (either (ltb j i))

-- ---- reading
module _ (t : List ℕ) (i : ℕ) where
  pub few : i < slots_of t → i < 5120
  unfolding slots_of
  few l = omega arith

  slot_is : slot t i ≡ take slot_size (drop (i * slot_size) t)
  unfolding slot
  slot_is = part-is t (i * slot_size) slot_size

  pub slot-long : i < slots_of t → length (slot t i) ≡ slot_size
  slot-long l = slot-size t i (slot_whole t i l)

  pub slot-byte : (k : ℕ) → k < slot_size → get_or (slot t i) k 0 ≡ get_or t (i * slot_size + k) 0
  unfolding slot
  slot-byte k h = part_at t (i * slot_size) (i * slot_size + slot_size) k (omega arith)

-- ---- writing
module _ (t : List ℕ) (i : ℕ) (s : List ℕ) where
  pub length-put : length (put_slot t i s) ≡ length t
  unfolding put_slot
  length-put = length-sets t (i * slot_size) s

  pub slots-put : slots_of (put_slot t i s) ≡ slots_of t
  unfolding slots_of
  slots-put = rw length-put

front_long : (t : List ℕ) (i : ℕ) → i < slots_of t → length (take (i * slot_size) t) ≡ i * slot_size
front_long t i l = let g : i * slot_size ≤ length t = omega (arith, slot_whole t i l) in length-take-le (i * slot_size) t g

module _ (t : List ℕ) (i : ℕ) (s : List ℕ) (l : i < slots_of t) (h : length s ≡ slot_size) where
  put-split : put_slot t i s ≡ take (i * slot_size) t ++ (s ++ drop (i * slot_size + slot_size) t)
  unfolding put_slot
  put-split =
      let g : i * slot_size + length s ≤ length t = omega (arith, slot_whole t i l) in
      sets-eq s t (i * slot_size) g ∙ append_assoc (take (i * slot_size) t) s (drop (i * slot_size + length s) t) ∙ rw h

  pub slot-put : slot (put_slot t i s) i ≡ s
  slot-put =
      slot_is (put_slot t i s) i ∙ ap (λ (x : List ℕ). take slot_size (drop (i * slot_size) x)) put-split
      ∙ ap (take slot_size) (drop_at (take (i * slot_size) t) (s ++ drop (i * slot_size + slot_size) t) (i * slot_size) (front_long t i l)) ∙ take_at s (drop (i * slot_size + slot_size) t) slot_size h

  pub slot-other : (j : ℕ) → (j ≡ i → ⊥) → slot (put_slot t i s) j ≡ slot t j
  unfolding slot put_slot
  slot-other j ne = ⊎_elim (λ lt. under lt) (λ gt. over gt) (sides j i ne)
    where
      -- a slot is a part of all that stands up to its end
      within : (x : List ℕ) → part (part x 0 (j * slot_size + slot_size)) (j * slot_size) (j * slot_size + slot_size) ≡ part x (j * slot_size) (j * slot_size + slot_size)
      within x =
          let z : 0 + (j * slot_size) ≡ j * slot_size = omega arith in
          let y : 0 + (j * slot_size + slot_size) ≡ j * slot_size + slot_size = omega arith in
          part-part x 0 (j * slot_size + slot_size) (j * slot_size) (j * slot_size + slot_size) (omega arith) ∙ ap₂ (part x) z y

      under : j < i → part (sets t (i * slot_size) s) (j * slot_size) (j * slot_size + slot_size) ≡ part t (j * slot_size) (j * slot_size + slot_size)
      under lt =
          sym (within (sets t (i * slot_size) s)) ∙ ap (λ (x : List ℕ). part x (j * slot_size) (j * slot_size + slot_size)) (take-sets (j * slot_size + slot_size - 0) t (i * slot_size) s (omega arith)) ∙ within t

      over : i < j → part (sets t (i * slot_size) s) (j * slot_size) (j * slot_size + slot_size) ≡ part t (j * slot_size) (j * slot_size + slot_size)
      over gt = ap (take (j * slot_size + slot_size - j * slot_size)) (drop-sets (j * slot_size) t (i * slot_size) s (omega arith))

  put_front : take (i * slot_size) (put_slot t i s) ≡ take (i * slot_size) t
  unfolding put_slot
  put_front = take-sets (i * slot_size) t (i * slot_size) s (omega arith)

  put_back : drop (i * slot_size + slot_size) (put_slot t i s) ≡ drop (i * slot_size + slot_size) t
  unfolding put_slot
  put_back = drop-sets (i * slot_size + slot_size) t (i * slot_size) s (omega arith)

  -- no byte outside the slots changes
  pub put-outside : drop (slots_of t * slot_size) (put_slot t i s) ≡ drop (slots_of t * slot_size) t
  unfolding put_slot
  put-outside = drop-sets (slots_of t * slot_size) t (i * slot_size) s (omega arith)

pub put-put : (t : List ℕ) (i : ℕ) (s : List ℕ) → i < slots_of t → length s ≡ slot_size → (r : List ℕ) → length r ≡ slot_size → put_slot (put_slot t i s) i r ≡ put_slot t i r
put-put t i s l h r g =
    put-split (put_slot t i s) i r (rw (slots-put t i s) l) g ∙ rw (put_front t i s l h, put_back t i s l h) (sym (put-split t i r l g))

slot-rest : (t : List ℕ) (i : ℕ) → take (i * slot_size) t ++ (slot t i ++ drop (i * slot_size + slot_size) t) ≡ t
slot-rest t i = rw (slot_is t i, ← drop-drop slot_size (i * slot_size) t, take-append-drop slot_size (drop (i * slot_size) t), take-append-drop (i * slot_size) t)

pub put_self : (t : List ℕ) (i : ℕ) → i < slots_of t → put_slot t i (slot t i) ≡ t
put_self t i l = put-split t i (slot t i) l (slot-long t i l) ∙ slot-rest t i

-- stores within a slot
pub put-set : (t : List ℕ) (i k v : ℕ) → i < slots_of t → k < slot_size → put_slot t i (set (slot t i) k v) ≡ set t (i * slot_size + k) v
put-set t i k v l h =
    put-split t i (set (slot t i) k v) l (length-set (slot t i) k v ∙ slot-long t i l)
    ∙ ap (λ (x : List ℕ). take (i * slot_size) t ++ x) (sym (set-append_left (slot t i) (drop (i * slot_size + slot_size) t) k v (omega (arith, slot-long t i l))))
    ∙ sym (ap (λ (x : List ℕ). set x (i * slot_size + k) v) (sym (put_self t i l) ∙ put-split t i (slot t i) l (slot-long t i l))
    ∙ ap (λ (a : ℕ). set (take (i * slot_size) t ++ (slot t i ++ drop (i * slot_size + slot_size) t)) (a + k) v) (sym (front_long t i l))
    ∙ set-append-add (take (i * slot_size) t) (slot t i ++ drop (i * slot_size + slot_size) t) k v)

pub put-sets : (t : List ℕ) (i k : ℕ) (vs : List ℕ) → i < slots_of t → k + length vs ≤ slot_size → put_slot t i (sets (slot t i) k vs) ≡ sets t (i * slot_size + k) vs
put-sets t i k [] l h = put_self t i l
put-sets t i k (v ∷ vs) l h =
    let u : List ℕ = put_slot t i (set (slot t i) k v) in
    let lu : i < slots_of u = rw (slots-put t i (set (slot t i) k v)) l in
    let ls : length (set (slot t i) k v) ≡ slot_size = length-set (slot t i) k v ∙ slot-long t i l in
    let e : slot u i ≡ set (slot t i) k v = slot-put t i (set (slot t i) k v) l ls in
    let f : i * slot_size + suc k ≡ suc (i * slot_size + k) = omega arith in
    sym (put-put t i (set (slot t i) k v) l ls (sets (set (slot t i) k v) (suc k) vs) (length-sets (set (slot t i) k v) (suc k) vs ∙ ls))
    ∙ ap (λ (x : List ℕ). put_slot u i (sets x (suc k) vs)) (sym e)
    ∙ put-sets u i (suc k) vs lu (omega arith)
    ∙ ap (λ (x : List ℕ). sets x (i * slot_size + suc k) vs) (put-set t i k v l (omega arith))
    ∙ ap (λ (n : ℕ). sets (set t (i * slot_size + k) v) n vs) f
