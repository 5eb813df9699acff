-- The bytes of a lookup that calls leave: how many there are, and whose they are. Assumes nothing.
use Prim.Native.Nat.{ℕ, ◌≤◌}
use mathlib.Core.Path.{◌≡◌, sym, ap, ◌∙◌}
use mathlib.Core.List.{List}
use native.Mathlib.Omega.{arith}
use lib.ListN.{length}
use lib.Seq.{sets, length-sets}
use Rattle.octets.proofs.Bools.{cond_ind}
use Rattle.lookup.specs.Lookup.{start_of}
use Rattle.lookup.specs.Value.{Lookup, Step}
use Rattle.lookup_runs.specs.Runs.{Call, step}
use Rattle.flat_lookup.specs.FlatLookup.{flat_size, lookup_in, lookup_bytes}
use Rattle.flat_lookup.proofs.Theorems.{flat-length}
use Rattle.lookup_in_place.specs.InPlace.{is_refused, step_memory, started_memory}
use Rattle.lookup_in_place.proofs.ReadBack.{Storable, shaped-sized, reads-back, start-storable}
use Rattle.lookup_value.proofs.ReadBack.{read-shaped, step-storable}
use Rattle.host_demands.proofs.Overwriting.{over}

-- ---- memory keeps its length
pub start-length : (m : List ℕ) (s : Step) → flat_size ≤ length m → flat_size ≤ length (started_memory m s)
start-length m s n = omega (arith, n, length-sets m 0 (lookup_bytes s.lookup))

pub step-length : (m : List ℕ) (s : Step) → flat_size ≤ length m → flat_size ≤ length (step_memory m s)
step-length m s n =
    cond_ind (λ (x : List ℕ). flat_size ≤ length x) (is_refused s.answer) m (sets m 0 (lookup_bytes s.lookup)) (λ e. n) (λ e. start-length m s n)

-- ---- the bytes that a step leaves are those of the lookup that they stand for, over what stood there at first
abbrev pub Wrote : List ℕ → List ℕ → Type 0
Wrote b m = m ≡ sets b 0 (lookup_bytes (lookup_in m))

write-over : (b m : List ℕ) (l : Lookup) → flat_size ≤ length b → flat_size ≤ length m → Wrote b m → Storable l → Wrote b (sets m 0 (lookup_bytes l))
write-over b m l k n w h =
    let old : length (lookup_bytes (lookup_in m)) ≡ flat_size = flat-length (lookup_in m) (shaped-sized (lookup_in m) (read-shaped m)) in
    let new : length (lookup_bytes l) ≡ flat_size = flat-length l (shaped-sized l h.shape) in
    ap (λ (x : List ℕ). sets x 0 (lookup_bytes l)) w ∙ over b 0 (lookup_bytes (lookup_in m)) (lookup_bytes l) (old ∙ sym new) (omega arith)
    ∙ ap (λ (x : Lookup). sets b 0 (lookup_bytes x)) (sym (reads-back m l n h))

pub step-wrote : (b m : List ℕ) (c : Call) → flat_size ≤ length b → flat_size ≤ length m → Wrote b m → Wrote b (step_memory m (step c (lookup_in m)))
step-wrote b m c k n w =
    let s : Step = step c (lookup_in m) in
    cond_ind (Wrote b) (is_refused s.answer) m (sets m 0 (lookup_bytes s.lookup)) (λ e. w)
    (λ e. write-over b m s.lookup k n w (step-storable c (lookup_in m) (read-shaped m) e))

pub start-wrote : (b m t own ours key : List ℕ) (limit : ℕ) → flat_size ≤ length b → flat_size ≤ length m → Wrote b m
    → Wrote b (started_memory m (start_of t own ours key limit))
start-wrote b m t own ours key limit k n w = write-over b m (start_of t own ours key limit).lookup k n w (start-storable t own ours key limit)
