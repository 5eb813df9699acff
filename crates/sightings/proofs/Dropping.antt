-- A slot that has been dropped: what it holds then, and what the others do. Assumes nothing.
use Prim.Native.Nat.{ℕ, ◌-◌, ◌<◌, ◌≤◌}
use mathlib.Core.Path.{◌≡◌, refl, sym, ap, ◌∙◌, subst}
use mathlib.Core.Logic.{⊎_elim}
use mathlib.Core.Bool.{true, false}
use mathlib.Core.List.{List}
use native.Mathlib.Omega.{arith}
use lib.ListN.{length, take}
use lib.Seq.{drop-set-lt, get_or-set_same}
use Rattle.octets.proofs.Bools.{not-both}
use Rattle.place.specs.Place.{bucket_of}
use Rattle.contact_table.proofs.Cuts.{mark-used, used-mark}
use Rattle.contacts.specs.Table.{slot_size, slots_of, slot, mark, used, place}
use Rattle.contact_order.specs.Order.{of_bucket, free_at, tail_of, with_mark, lowered, leave}
use Rattle.sightings.specs.Order.{free_bytes, dropped}
use Rattle.contact_order.proofs.Slots.{slots-put, slot-put, slot-other, slot-long}
use Rattle.contact_order.proofs.Tests.{of-used, of_is, of-make, free-there, tail-ge, tail-le}
use Rattle.contact_order.proofs.Closing.{lowered_is, leave-slots, leave-at, leave-in}
use Rattle.sightings.proofs.Moves.{free-long}

-- ---- a changed mark
pub place-mark : (m : ℕ) (s : List ℕ) → place (with_mark m s) ≡ place s
unfolding place with_mark
place-mark m s = ap (take 32) (drop-set-lt 8 s 0 m (omega arith))

pub mark-mark : (m : ℕ) (s : List ℕ) → length s ≡ slot_size → mark (with_mark m s) ≡ m
unfolding mark with_mark
mark-mark m s h = get_or-set_same s 0 m 0 (omega arith)

pub none_free : used free_bytes ≡ false
unfolding used mark free_bytes
none_free = refl

-- one of bucket b after others have moved was so before, and has not moved back
module _ (o : List ℕ) (b c m : ℕ) (s : List ℕ) (h : length s ≡ slot_size) where
  was : of_bucket o b (with_mark (mark s - 1) s) ≡ true → (of_bucket o b s ≡ true) × (mark (with_mark (mark s - 1) s) ≤ mark s)
  was f =
      let e : mark (with_mark (mark s - 1) s) ≡ mark s - 1 = mark-mark (mark s - 1) s h in
      let u : 1 ≤ mark (with_mark (mark s - 1) s) = used-mark (with_mark (mark s - 1) s) (of-used o b (with_mark (mark s - 1) s) f) in
      (of-make o b s (mark-used s (λ z. no z u e)) (ap (λ (x : List ℕ). bucket_of x o) (sym (place-mark (mark s - 1) s)) ∙ of_is o b (with_mark (mark s - 1) s) f), omega arith)
    where
      no : mark s ≡ 0 → 1 ≤ mark (with_mark (mark s - 1) s) → mark (with_mark (mark s - 1) s) ≡ mark s - 1 → ⊥
      no z u e = omega arith

  pub lowered-was : of_bucket o b (lowered o c m s) ≡ true → (of_bucket o b s ≡ true) × (mark (lowered o c m s) ≤ mark s)
  lowered-was =
      ⊎_elim (λ e. subst (λ (x : List ℕ). of_bucket o b x ≡ true → (of_bucket o b s ≡ true) × (mark x ≤ mark s)) (sym e) (λ f. (f, omega arith)))
      (λ e. subst (λ (x : List ℕ). of_bucket o b x ≡ true → (of_bucket o b s ≡ true) × (mark x ≤ mark s)) (sym e) was) (lowered_is o c m s)

module _ (t o : List ℕ) (i : ℕ) (l : i < slots_of t) where
  pub drop-slots : slots_of (dropped t o i) ≡ slots_of t
  unfolding dropped
  drop-slots = slots-put (leave t o i) i free_bytes ∙ leave-slots t o i

  pub drop-self : slot (dropped t o i) i ≡ free_bytes
  unfolding dropped
  drop-self = slot-put (leave t o i) i free_bytes (leave-in t o i l) free-long

  pub drop-other : (j : ℕ) → j < slots_of t → (j ≡ i → ⊥) → slot (dropped t o i) j ≡ lowered o (bucket_of (place (slot t i)) o) (mark (slot t i)) (slot t j)
  unfolding dropped
  drop-other j lj ne = slot-other (leave t o i) i free_bytes (leave-in t o i l) free-long j ne ∙ leave-at t o i j lj

  pub drop-in : (j : ℕ) → j < slots_of t → j < slots_of (dropped t o i)
  drop-in j lj = subst (λ (n : ℕ). j < n) (sym drop-slots) lj

  pub drop-freed : used (slot (dropped t o i) i) ≡ false
  drop-freed = ap used drop-self ∙ none_free

  -- a free slot is there afterwards
  pub drop-free : free_at (dropped t o i) < slots_of (dropped t o i)
  drop-free = free-there (dropped t o i) i (drop-in i l) drop-freed

  -- no tail grows
  pub drop-tail : (b : ℕ) → tail_of (dropped t o i) o b ≤ tail_of t o b
  drop-tail b = tail-le (dropped t o i) o b (tail_of t o b) (λ j lj f. one j (subst (λ (n : ℕ). j < n) drop-slots lj) f)
    where
      one : (j : ℕ) → j < slots_of t → of_bucket o b (slot (dropped t o i) j) ≡ true → mark (slot (dropped t o i) j) ≤ tail_of t o b
      one j lj f =
          let ne : j ≡ i → ⊥ = λ e. not-both (used (slot (dropped t o i) j)) (of-used o b (slot (dropped t o i) j) f) (ap (λ (k : ℕ). used (slot (dropped t o i) k)) e ∙ drop-freed) in
          let r = lowered-was o b (bucket_of (place (slot t i)) o) (mark (slot t i)) (slot t j) (slot-long t j lj) (sym (ap (of_bucket o b) (drop-other j lj ne)) ∙ f) in
          subst (λ (s : List ℕ). mark s ≤ tail_of t o b) (sym (drop-other j lj ne)) (omega (arith, r.1, tail-ge t o b j lj r.0))
