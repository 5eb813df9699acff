-- What a step on a copy of a value's bytes gave is what the step gives. Assumes nothing.
use Prim.Native.Nat.{ℕ, ◌+◌, ◌≤◌}
use mathlib.Core.Path.{◌≡◌, ap, ◌∙◌}
use mathlib.Core.List.{List, ◌++◌, append-nil}
use native.Mathlib.Omega.{arith}
use lib.Dec.{ltb}
use lib.ListN.{length, drop_of_length-le}
use lib.Seq.{sets, sets-eq}
use borrow.Author.Tests.{le-ltb}
use Rattle.octets.proofs.Bools.{cond_no}
use Rattle.refusal.specs.declared.Refusal.TheVariants.{OutOfForm}
use Rattle.lookup.specs.Lookup.{refuses, next_of, reply_of, failure_of, start_of}
use Rattle.message.specs.declared.Fields.{Fields}
use Rattle.lookup.specs.Value as lookup
use Rattle.lookup_runs.specs.Runs.{Call, go_next, go_reply, go_fail, step}
use Rattle.flat_lookup.specs.FlatLookup.{flat_size, lookup_in, lookup_bytes}
use Rattle.flat_lookup.proofs.Theorems.{flat-length}
use Rattle.lookup_in_place.specs.declared.Outcome.{Outcome}
use Rattle.lookup_in_place.specs.InPlace.{outcome_of, step_in, step_memory, next_in, reply_in, failure_in, start_in, started_memory, start_memory}
use Rattle.lookup_in_place.proofs.ReadBack.{shaped-sized, start-storable, start-reads}
use Rattle.lookup_value.specs.declared.Lookup.{Lookup}
use Rattle.lookup_value.specs.declared.Step.{Step}
use Rattle.lookup_value.specs.Value.{lookup_of, Gives, Starts}
use Rattle.lookup_value.proofs.ReadBack.{step-reads}

abbrev given : Outcome → List ℕ → Step
given o m = record { lookup = record { bytes = m }; found = o.found; answer = o.answer }

-- memory of enough bytes
there : (m : List ℕ) (s : lookup.Step) → length m ≡ flat_size → step_in m s ≡ s
there m s n = cond_no (ltb (length m) flat_size) (refuses (lookup_in m) OutOfForm) s (le-ltb (length m) flat_size (omega arith))

-- what was read and said is the step
whole : (m : List ℕ) (o : Outcome) (s : lookup.Step) → lookup_in m ≡ s.lookup → o ≡ outcome_of s
    → ◌≡◌ {A = lookup.Step} (record { lookup = lookup_in m; found = o.found; answer = o.answer }) s
whole m o s e q =
    ap (λ (x : lookup.Lookup). record { lookup = x; found = o.found; answer = o.answer }) e
    ∙ ap (λ (x : Outcome). record { lookup = s.lookup; found = x.found; answer = x.answer }) q

module _ (l : Lookup) (n : length l.bytes ≡ flat_size) (o : Outcome) (m : List ℕ) where
  gives : (c : Call)
      → (o ≡ outcome_of (step_in l.bytes (step c (lookup_of l)))) × (m ≡ step_memory l.bytes (step_in l.bytes (step c (lookup_of l))))
      → Gives l (step c (lookup_of l)) (given o m)
  gives c (eo, em) =
      let s : lookup.Step = step c (lookup_of l) in
      let said : o ≡ outcome_of s = eo ∙ ap outcome_of (there l.bytes s n) in
      let left : m ≡ step_memory l.bytes s = em ∙ ap (step_memory l.bytes) (there l.bytes s n) in
      let read : lookup_in m ≡ s.lookup = ap lookup_in left ∙ step-reads l.bytes c (omega arith) in
      record { means = whole m o s read said; bytes = left }

  pub next-gives : (o ≡ outcome_of (next_in l.bytes)) × (m ≡ step_memory l.bytes (next_in l.bytes)) → Gives l (next_of (lookup_of l)) (given o m)
  unfolding step
  next-gives h = gives go_next h

  pub reply-gives : (own ours id body : List ℕ) (v : Fields)
      → (o ≡ outcome_of (reply_in l.bytes own ours id body v)) × (m ≡ step_memory l.bytes (reply_in l.bytes own ours id body v))
      → Gives l (reply_of (lookup_of l) own ours id body v) (given o m)
  unfolding step
  reply-gives own ours id body v h = gives (go_reply own ours id body v) h

  pub failure-gives : (own ours id : List ℕ) → (o ≡ outcome_of (failure_in l.bytes own ours id)) × (m ≡ step_memory l.bytes (failure_in l.bytes own ours id))
      → Gives l (failure_of (lookup_of l) own ours id) (given o m)
  unfolding step
  failure-gives own ours id h = gives (go_fail own ours id) h

-- a start, on bytes of which none is left
all-over : (z b : List ℕ) → length z ≡ flat_size → length b ≡ flat_size → sets z 0 b ≡ b
all-over z b n k =
    let e : length z ≤ 0 + length b = omega arith in
    sets-eq b z 0 (omega arith) ∙ ap (λ (x : List ℕ). b ++ x) (drop_of_length-le z e) ∙ append-nil b

pub start_gives : (z : List ℕ) → length z ≡ flat_size → (o : Outcome) (m t own ours key : List ℕ) (limit : ℕ)
    → (o ≡ outcome_of (start_in z t own ours key limit)) × (m ≡ start_memory z (start_of t own ours key limit)) → Starts (start_of t own ours key limit) (given o m)
start_gives z n o m t own ours key limit (eo, em) =
    let s : lookup.Step = start_of t own ours key limit in
    let said : o ≡ outcome_of s = eo ∙ ap outcome_of (there z s n) in
    let left : m ≡ started_memory z s = em ∙ cond_no (ltb (length z) flat_size) z (started_memory z s) (le-ltb (length z) flat_size (omega arith)) in
    let read : lookup_in m ≡ s.lookup = ap lookup_in left ∙ start-reads z t own ours key limit (omega arith) in
    let long : length (lookup_bytes s.lookup) ≡ flat_size = flat-length s.lookup (shaped-sized s.lookup (start-storable t own ours key limit).shape) in
    record { means = whole m o s read said; bytes = left ∙ all-over z (lookup_bytes s.lookup) n long }
