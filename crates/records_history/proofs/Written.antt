-- What a store holds once a slot of it is written anew. Assumes nothing.
use mathlib.Core.Path.{◌≡◌, refl, sym, ap, ◌∙◌}
use mathlib.Core.Bool.{true}
use mathlib.Core.List.{List, ◌++◌, append_assoc}
use Prim.Native.Nat.{ℕ, ◌+◌, ◌*◌, ◌-◌, ◌<◌, ◌≤◌}
use native.Mathlib.Omega.{arith}
use lib.ListN.{length, take, drop, replicate, length-append}
use lib.Seq.{sets, take_at, drop_at}
use Rattle.octets.specs.Octets.{part}
use Rattle.limits.specs.Limits.{most_key, most_value}
use Rattle.keyed_slots.specs.Slots as keyed
use Rattle.keyed_slots.proofs.Laying.{is-used}
use Rattle.keyed_slots.proofs.Writing as writing
use Rattle.records.specs.Limits.{key_at, value_at, slot_size}
use Rattle.records.specs.Store.{slots_of, slot, used, key_of, size_of, value_of, padded, header, slot_bytes}
use Rattle.records.proofs.Writing.{padded-size, header-size}

-- ---- the bytes of a slot, read back
module _ (k v : List ℕ) (lk : length k ≤ most_key) (lv : length v ≤ most_value) where
  pub bytes-size : length (slot_bytes k v) ≡ slot_size
  unfolding slot_bytes
  bytes-size =
      let a = header-size (length k) (length v) in
      let b = padded-size most_key k lk in
      let c = padded-size most_value v lv in
      simp (length-append) (omega arith)

  pub bytes-used : 1 ≤ length k → used (slot_bytes k v) ≡ true
  unfolding slot_bytes header
  bytes-used h = is-used (slot_bytes k v) h

  pub bytes-key : key_of (slot_bytes k v) ≡ k
  unfolding slot_bytes header key_of padded
  bytes-key =
      let e : key_at + length k - key_at ≡ length k = omega arith in
      rw e (ap (λ (x : List ℕ). take (length k) x) (append_assoc k (replicate (most_key - length k) 0) (padded most_value v))
      ∙ take_at k (replicate (most_key - length k) 0 ++ padded most_value v) (length k) refl)

  pub bytes_count : size_of (slot_bytes k v) ≡ length v
  unfolding slot_bytes header size_of
  bytes_count = omega arith

  rest : drop value_at (slot_bytes k v) ≡ padded most_value v
  unfolding slot_bytes
  rest =
      let a = header-size (length k) (length v) in
      let b = padded-size most_key k lk in
      let e : length (header (length k) (length v) ++ padded most_key k) ≡ value_at = simp (length-append) (omega arith) in
      ap (λ (x : List ℕ). drop value_at x) (sym (append_assoc (header (length k) (length v)) (padded most_key k) (padded most_value v)))
      ∙ drop_at (header (length k) (length v) ++ padded most_key k) (padded most_value v) value_at e

  pub bytes-value : value_of (slot_bytes k v) ≡ v
  unfolding value_of padded
  bytes-value =
      let e : value_at + length v - value_at ≡ length v = omega arith in
      ap (λ (n : ℕ). part (slot_bytes k v) value_at (value_at + n)) bytes_count
      ∙ ap (λ (n : ℕ). take n (drop value_at (slot_bytes k v))) e ∙ ap (λ (x : List ℕ). take (length v) x) rest
      ∙ take_at v (replicate (most_value - length v) 0) (length v) refl

-- ---- a slot written
module _ (t s : List ℕ) (i : ℕ) (h : i < slots_of t) (es : length s ≡ slot_size) where
  pub written-slots : slots_of (sets t (i * slot_size) s) ≡ slots_of t
  unfolding keyed.slots_of slots_of
  written-slots = writing.written-slots slot_size t s i h es

  pub written_same : slot (sets t (i * slot_size) s) i ≡ s
  unfolding keyed.slots_of keyed.slot slots_of slot
  written_same = writing.written_same slot_size t s i h es

  pub written-other : (j : ℕ) → (j ≡ i → ⊥) → slot (sets t (i * slot_size) s) j ≡ slot t j
  unfolding keyed.slots_of keyed.slot slots_of slot
  written-other = writing.written-other slot_size t s i h es
