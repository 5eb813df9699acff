-- Laws of the layout of slots, and of the tests on one. Assumes nothing.
use mathlib.Core.Path.{◌≡◌, refl, sym, ap, ◌∙◌}
use mathlib.Core.Bool.{Bool, true, false}
use mathlib.Core.List.{List}
use Prim.Native.Nat.{ℕ, zero, suc, ◌+◌, ◌*◌, ◌-◌, ◌/◌, ◌<◌, ◌≤◌}
use native.Mathlib.Nat.{div-zero, div-mul-le_self, mul-le-mul_right, suc-mul}
use native.Mathlib.Omega.{arith}
use lib.ListN.{length, get_or, take, drop, length-drop, drop_of_length-le}
use lib.Seq.{take_all, take-nil}
use borrow.Author.Tests.{eq-eqb, ne_eqb}
use Rattle.octets.specs.Octets.{part, same}
use Rattle.octets.proofs.Parts.{part-size}
use Rattle.limits.specs.Limits.{most_records}
use Rattle.keyed_slots.specs.Slots.{key_at, slots_of, slot, used, key_of, holds, alone, is_free}

-- ---- slots of any size
pub slots-none : (t : List ℕ) {z : ℕ} → z ≡ 0 → 0 ≡ slots_of z t
unfolding slots_of
slots-none t e = let q : length t / 0 ≡ 0 = div-zero (length t) in rw e (omega arith)

pub slots-few : (z : ℕ) (t : List ℕ) {m : ℕ} → m ≡ length t / z → m < most_records → m ≡ slots_of z t
unfolding slots_of
slots-few z t e h = omega arith

pub slots-many : (z : ℕ) (t : List ℕ) {m : ℕ} → m ≡ length t / z → most_records ≤ m → most_records ≡ slots_of z t
unfolding slots_of
slots-many z t e h = omega arith

pub slots-most : (z : ℕ) (t : List ℕ) → slots_of z t ≤ most_records
unfolding slots_of
slots-most z t = omega arith

-- the slots before one end where it begins
pub slot-order : (z j i : ℕ) → j < i → j * z + z ≤ i * z
slot-order z j i h = rw (suc-mul j z) at (mul-le-mul_right {m = suc j} {n = i} z h)

pub slot-in : (z : ℕ) (t : List ℕ) (i : ℕ) → i < slots_of z t → i * z + z ≤ length t
unfolding slots_of
slot-in z t i h =
    let a : i * z + z ≤ length t / z * z = slot-order z i (length t / z) (omega arith) in
    let b : length t / z * z ≤ length t = div-mul-le_self (length t) z in
    omega arith

pub slot-some : (z : ℕ) (t : List ℕ) (i : ℕ) → i < slots_of z t → 1 ≤ z
unfolding slots_of
slot-some zero t i h = let q : length t / 0 ≡ 0 = div-zero (length t) in omega arith
slot-some (suc z) t i h = omega arith

pub slot-long : (z : ℕ) (t : List ℕ) (i : ℕ) → i < slots_of z t → length (slot z t i) ≡ z
unfolding slot
slot-long z t i h = part-size t (i * z) z (slot-in z t i h)

pub slot-cut : (z : ℕ) (t : List ℕ) (i : ℕ) → part t (i * z) (i * z + z) ≡ slot z t i
unfolding slot
slot-cut z t i = refl

-- ---- a key: none, cut at the end of its slot, or whole
module _ (s : List ℕ) where
  pub key-none : length s < key_at → part s (length s) (length s) ≡ key_of s
  unfolding key_of
  key-none h =
      let m : length s ≤ key_at = omega arith in
      let z : length s - length s ≡ 0 = omega arith in
      rw z (sym (ap (take (key_at + get_or s 0 0 - key_at)) (drop_of_length-le s m) ∙ take-nil (key_at + get_or s 0 0 - key_at)))

  pub key-short : length s - key_at < get_or s 0 0 → part s key_at (length s) ≡ key_of s
  unfolding key_of
  key-short h =
      take_all (length s - key_at) (drop key_at s) (simp length-drop (omega arith)) ∙ sym (take_all (key_at + get_or s 0 0 - key_at) (drop key_at s) (simp length-drop (omega arith)))

  pub key-cut : part s key_at (key_at + get_or s 0 0) ≡ key_of s
  unfolding key_of
  key-cut = refl

-- ---- a used slot
pub unused : (s : List ℕ) → get_or s 0 0 < 1 → used s ≡ false
unfolding used
unused s h = rw (eq-eqb (get_or s 0 0) 0 (omega arith))

pub is-used : (s : List ℕ) → 1 ≤ get_or s 0 0 → used s ≡ true
unfolding used
is-used s h = let z : get_or s 0 0 ≡ 0 → ⊥ = λ e. omega arith in rw (ne_eqb (get_or s 0 0) 0 z)

-- ---- slot i of a store
module _ (z : ℕ) (t k : List ℕ) (i : ℕ) {s : List ℕ} (e : s ≡ slot z t i) where
  pub holds-free : get_or s 0 0 < 1 → false ≡ holds z t k i
  unfolding holds
  holds-free h = rw (← e, unused s h)

  pub holds-used : 1 ≤ get_or s 0 0 → {y : List ℕ} → y ≡ key_of s → {r : Bool} → r ≡ same y k → r ≡ holds z t k i
  unfolding holds
  holds-used h a b = b ∙ rw (← e, is-used s h, a)

module _ (z : ℕ) (t : List ℕ) (i : ℕ) {s : List ℕ} (e : s ≡ slot z t i) where
  pub alone-free : get_or s 0 0 < 1 → true ≡ alone z t i
  unfolding alone
  alone-free h = rw (← e, unused s h)

  pub free-yes : get_or s 0 0 < 1 → is_free z t i ≡ true
  unfolding is_free
  free-yes h = rw (← e, unused s h)

  pub free-no : 1 ≤ get_or s 0 0 → is_free z t i ≡ false
  unfolding is_free
  free-no h = rw (← e, is-used s h)
