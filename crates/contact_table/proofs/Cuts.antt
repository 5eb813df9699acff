-- Slots of a table and the parts of a slot, as the code cuts them out. Assumes nothing.
use Prim.Native.Nat.{ℕ, ◌+◌, ◌-◌, ◌*◌, ◌/◌, ◌<◌, ◌≤◌, min}
use mathlib.Core.Path.{◌≡◌, sym, ap, ap₂, ◌∙◌}
use mathlib.Core.Bool.{true, false, not}
use mathlib.Core.List.{List}
use native.Mathlib.Omega.{arith}
use mathlib.Core.Logic.{⊎_elim}
use lib.Dec.{ltb, eqb}
use lib.ListN.{length, get_or, take, drop, length-take, length-drop, drop_of_length-le}
use lib.Seq.{take_all, take-nil, take-take}
use borrow.Author.Tests.{eq-eqb, ne_eqb, eqb-false, not-true, ltb-true, ltb-false}
use Rattle.octets.proofs.Parts.{take_part, part-part, part_at, part-size, bytes-part}
use Rattle.octets.specs.Octets.{Bytes, part}
use Rattle.octets.proofs.Bools.{either}
use Rattle.limits.specs.Limits.{most_id, most_address}
use Rattle.contact_table.specs.Table.{slot_size, slots_of, slot, mark, used, doubt, doubtful, id_size, address_size, place, id, address}
use Rattle.contact_table.specs.Contact.{entry_id, entry_address}

-- ---- whole slots
pub slots-most : (t : List ℕ) → slots_of t ≤ 5120
unfolding slots_of
slots-most t = omega arith

pub slot_whole : (t : List ℕ) (i : ℕ) → i < slots_of t → i * slot_size + slot_size ≤ length t
unfolding slots_of
slot_whole t i l = omega arith

pub slot-size : (t : List ℕ) (i : ℕ) → i * slot_size + slot_size ≤ length t → length (slot t i) ≡ slot_size
unfolding slot
slot-size t i l = part-size t (i * slot_size) slot_size l

pub slot-most : (t : List ℕ) (i : ℕ) → length (slot t i) ≤ slot_size
unfolding slot
slot-most t i = simp (length-take, length-drop) (omega arith)

pub place-size : (t : List ℕ) (i : ℕ) → i * slot_size + slot_size ≤ length t → length (place (slot t i)) ≡ 32
unfolding place
place-size t i l = part-size (slot t i) 8 32 (omega (arith, slot-size t i l))

pub bytes-place : (t : List ℕ) (i : ℕ) → Bytes t → Bytes (place (slot t i))
unfolding place slot
bytes-place t i h = bytes-part (part t (i * slot_size) (i * slot_size + slot_size)) 8 40 (bytes-part t (i * slot_size) (i * slot_size + slot_size) h)

-- the place, cut out of the table at once
pub place-cut : (t : List ℕ) (i : ℕ) → part t (i * slot_size + 8) (i * slot_size + 8 + 32) ≡ place (slot t i)
unfolding place slot
place-cut t i =
    let e : i * slot_size + 8 + 32 ≡ i * slot_size + 40 = omega arith in
    ap (λ (n : ℕ). part t (i * slot_size + 8) n) e ∙ sym (part-part t (i * slot_size) (i * slot_size + slot_size) 8 40 (omega arith))

-- ---- used and free
pub mark-cut : (t : List ℕ) (i : ℕ) → get_or t (i * slot_size) 0 ≡ mark (slot t i)
unfolding mark slot
mark-cut t i =
    let z : i * slot_size + 0 ≡ i * slot_size = omega arith in
    sym (part_at t (i * slot_size) (i * slot_size + slot_size) 0 (omega arith) ∙ ap (λ (n : ℕ). get_or t n 0) z)

pub used-mark : (s : List ℕ) → used s ≡ true → 1 ≤ mark s
unfolding used
used-mark s e = let h : mark s ≡ 0 → ⊥ = eqb-false (mark s) 0 (not-true (eqb (mark s) 0) e) in omega arith

pub mark-used : (s : List ℕ) → (mark s ≡ 0 → ⊥) → used s ≡ true
unfolding used
mark-used s h = ap not (ne_eqb (mark s) 0 h)

pub mark-free : (s : List ℕ) → mark s ≡ 0 → used s ≡ false
unfolding used
mark-free s h = ap not (eq-eqb (mark s) 0 h)

-- ---- doubtful or not
pub doubt-cut : (t : List ℕ) (i : ℕ) → get_or t (i * slot_size + 1) 0 ≡ doubt (slot t i)
unfolding doubt slot
doubt-cut t i = sym (part_at t (i * slot_size) (i * slot_size + slot_size) 1 (omega arith))

pub doubt-yes : (s : List ℕ) → (doubt s ≡ 0 → ⊥) → doubtful s ≡ true
unfolding doubtful
doubt-yes s h = ap not (ne_eqb (doubt s) 0 h)

pub doubt-no : (s : List ℕ) → doubt s ≡ 0 → doubtful s ≡ false
unfolding doubtful
doubt-no s h = ap not (eq-eqb (doubt s) 0 h)

-- ---- a slot that the table does not have whole
pub slot-none : (t : List ℕ) (i n : ℕ) → length t / slot_size < i → n ≡ length t → drop n t ≡ slot t i
unfolding slot
slot-none t i n h e =
    let l : length t ≤ i * slot_size = omega arith in
    let m : length t ≤ n = omega arith in
    drop_of_length-le t m ∙ sym (ap (take (i * slot_size + slot_size - i * slot_size)) (drop_of_length-le t l) ∙ take-nil (i * slot_size + slot_size - i * slot_size))

pub slot-short : (t : List ℕ) (i : ℕ) → length t / slot_size ≤ i → drop (i * slot_size) t ≡ slot t i
unfolding slot
slot-short t i h = sym (take_all (i * slot_size + slot_size - i * slot_size) (drop (i * slot_size) t) (simp length-drop (omega arith)))

-- ---- what a reply gives of a slot
pub entry-id : (s : List ℕ) (n : ℕ) → n ≡ min (id_size s) most_id → take n (drop 40 s) ≡ entry_id s
unfolding entry_id id
entry-id s n e = ap (λ (k : ℕ). take k (drop 40 s)) e ∙ sym (take_part s 40 (id_size s) most_id)

pub entry-address : (s : List ℕ) (k a n : ℕ) → a ≡ 104 + k * 128 → n ≡ min (address_size s k) most_address → take n (drop a s) ≡ entry_address s k
unfolding entry_address address
entry-address s k a n p e = ap₂ (λ (x y : ℕ). take x (drop y s)) e p ∙ sym (take_part s (104 + k * 128) (address_size s k) most_address)

-- past the fourth there is no room
pub entry-no-address : (s : List ℕ) (k n : ℕ) → length s ≤ slot_size → 4 ≤ k → length s ≤ n → drop n s ≡ entry_address s k
unfolding entry_address address
entry-no-address s k n h l m =
    let far : length s ≤ 104 + k * 128 = omega arith in
    drop_of_length-le s m
    ∙ sym (ap (λ (l : List ℕ). take most_address (take (104 + k * 128 + address_size s k - (104 + k * 128)) l)) (drop_of_length-le s far)
    ∙ ap (take most_address) (take-nil (104 + k * 128 + address_size s k - (104 + k * 128))) ∙ take-nil most_address)
