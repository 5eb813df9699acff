-- Laws of the stores that write a slot, and of what a put does to a held record. Assumes nothing.
use mathlib.Core.Path.{◌≡◌, refl, sym, ap, ◌∙◌}
use mathlib.Core.Bool.{Bool, true, false}
use mathlib.Core.List.{List, [], ◌∷◌, ◌++◌}
use Prim.Native.Nat.{ℕ, suc, ◌+◌, ◌-◌, ◌/◌, ◌%◌, ◌<◌, ◌≤◌}
use native.Mathlib.Omega.{arith}
use lib.ListN.{length, set, replicate, length-append, length-replicate, length-set}
use lib.Seq.{sets}
use Rattle.octets.specs.Octets.{same}
use Rattle.octets.specs.Search.{all_of}
use Rattle.octets.proofs.Bools.{all-on, all-off, all_none}
use Rattle.octets.proofs.Stores.{sets-append}
use Rattle.limits.specs.Limits.{most_key, most_value}
use Rattle.recipe.specs.Recipe.{outranks}
use Rattle.refusal.specs.declared.Refusal.TheVariants.{Outranked}
use Rattle.record_slots.specs.Limits.{key_at, value_at}
use Rattle.record_slots.specs.Slots.{padded, header, slot_bytes}
use Rattle.records.specs.Store.{held_plan}
use Rattle.std.specs.Prelude.{Ok, Err, Some, None}

-- one test that is left of a list of them
only : (b : Bool) → all_of (b ∷ []) ≡ b
only true = all-on true [] refl ∙ all_none
only false = all-off false [] refl

-- ---- what a put does to a held record
module _ (held v : List ℕ) (i : ℕ) {b : Bool} (e : b ≡ same held v) where
  pub held_same : b ≡ true → (Ok None) ≡ held_plan held v i
  unfolding held_plan
  held_same z = rw (← e, z)

  module _ (z : b ≡ false) {c : Bool} (f : c ≡ outranks held v) where
    pub held-higher : c ≡ true → Err Outranked ≡ held_plan held v i
    unfolding held_plan
    held-higher y = rw (← e, z, ← f, y)

    pub held-lower : c ≡ false → (Ok (Some i)) ≡ held_plan held v i
    unfolding held_plan
    held-lower y = rw (← e, z, ← f, y)

-- ---- writing a slot
pub padded-size : (n : ℕ) (s : List ℕ) → length s ≤ n → length (padded n s) ≡ n
unfolding padded
padded-size n s h = simp (length-append, length-replicate) (omega arith)

pub header-size : (k v : ℕ) → length (header k v) ≡ key_at
unfolding header
header-size k v = refl

pub header_is : (k v : ℕ) → k ∷ 0 ∷ v % 256 ∷ v / 256 ∷ 0 ∷ 0 ∷ 0 ∷ 0 ∷ [] ≡ header k v
unfolding header
header_is k v = refl

-- the loop of `clear`: what is left to clear from i on
pub record Clearing (buf₀ : List ℕ) (at n : ℕ) (buf : List ℕ) (i : ℕ) : Type 0 where
  pub within : i ≤ n
  pub kept : length buf ≡ length buf₀
  pub rest : sets buf (at + i) (replicate (n - i) 0) ≡ sets buf₀ at (replicate n 0)

pub clearing : (buf : List ℕ) (at n : ℕ) → Clearing buf at n buf 0
clearing buf at n =
    let e : at + 0 ≡ at = omega arith in
    let m : n - 0 ≡ n = omega arith in
    record { within = omega arith; kept = refl; rest = rw (e, m) }

pub clear-on : (buf₀ : List ℕ) (at n : ℕ) (buf : List ℕ) (i : ℕ) → Clearing buf₀ at n buf i → i < n → Clearing buf₀ at n (set buf (at + i) 0) (i + 1)
clear-on buf₀ at n buf i g h =
    let e : at + (i + 1) ≡ suc (at + i) = omega arith in
    let m : n - i ≡ suc (n - (i + 1)) = omega arith in
    record { within = omega arith; kept = length-set buf (at + i) 0 ∙ g.kept; rest = rw e (rw m at g.rest) }

pub cleared : (buf₀ : List ℕ) (at n : ℕ) (buf : List ℕ) (i : ℕ) → Clearing buf₀ at n buf i → n ≤ i → buf ≡ sets buf₀ at (replicate n 0)
cleared buf₀ at n buf i g h = let m : n - i ≡ 0 = omega arith in rw m at g.rest

-- the two stores of `put_padded`
pub pad-write : (t : List ℕ) (at : ℕ) (s : List ℕ) (n : ℕ) {x y : List ℕ} → x ≡ sets t at s → y ≡ sets x (at + length s) (replicate (n - length s) 0) → y ≡ sets t at (padded n s)
unfolding padded
pad-write t at s n {x} {y} ex ey =
    ey ∙ ap (λ (l : List ℕ). sets l (at + length s) (replicate (n - length s) 0)) ex ∙ sym (sets-append t at s (replicate (n - length s) 0))

-- the three stores of `write_slot`
pub slot-write : (t : List ℕ) (at : ℕ) (k v h : List ℕ) {x y z : List ℕ} → length k ≤ most_key → h ≡ header (length k) (length v)
    → x ≡ sets t at h → y ≡ sets x (at + key_at) (padded most_key k) → z ≡ sets y (at + value_at) (padded most_value v) → z ≡ sets t at (slot_bytes k v)
unfolding slot_bytes
slot-write t at k v h {x} {y} {z} lk eh ex ey ez =
    let hd : List ℕ = header (length k) (length v) in
    let l1 : at + length (header (length k) (length v)) ≡ at + key_at = ap (λ (n : ℕ). at + n) (header-size (length k) (length v)) in
    let l2 : at + key_at + length (padded most_key k) ≡ at + value_at = omega (arith, padded-size most_key k lk) in
    let ex' : x ≡ sets t at (header (length k) (length v)) = ex ∙ ap (λ (l : List ℕ). sets t at l) eh in
    let a : sets t at (header (length k) (length v) ++ (padded most_key k ++ padded most_value v)) ≡ sets (sets t at (header (length k) (length v))) (at + key_at) (padded most_key k ++ padded most_value v) =
    sets-append t at (header (length k) (length v)) (padded most_key k ++ padded most_value v)
    ∙ ap (λ (n : ℕ). sets (sets t at (header (length k) (length v))) n (padded most_key k ++ padded most_value v)) l1 in
    let b : sets (sets t at (header (length k) (length v))) (at + key_at) (padded most_key k ++ padded most_value v) ≡ sets (sets (sets t at (header (length k) (length v))) (at + key_at) (padded most_key k)) (at + value_at) (padded most_value v) =
    sets-append (sets t at (header (length k) (length v))) (at + key_at) (padded most_key k) (padded most_value v)
    ∙ ap (λ (n : ℕ). sets (sets (sets t at (header (length k) (length v))) (at + key_at) (padded most_key k)) n (padded most_value v)) l2 in
    ez ∙ ap (λ (l : List ℕ). sets l (at + value_at) (padded most_value v)) (ey ∙ ap (λ (l : List ℕ). sets l (at + key_at) (padded most_key k)) ex') ∙ sym (a ∙ b)
