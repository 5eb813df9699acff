-- What a refusal leaves as it was: for every lookup, in form or not, and any call. Proved in proofs/Refusals.antt.
use Rattle.std.specs.Prelude.{ℕ, ◌≡◌, List}
use Rattle.refusal.specs.declared.Refusal.{Refusal}
use Rattle.refusal.specs.declared.Refusal.TheVariants.{OutOfForm}
use Rattle.lookup.specs.Lookup.{refuses, no_lookup, start_of}
use Rattle.lookup.specs.Value.{Lookup}
use Rattle.lookup_runs.specs.Runs.{Call, step, outcome}
use Rattle.std.specs.Prelude.{Err}

pub record Refusals : Type 0 where
  -- a refused call leaves the lookup as it was
  pub untouched : (c : Call) (l : Lookup) (r : Refusal) → (step c l).answer ≡ Err r → (step c l).lookup ≡ l
  -- "A refused start hands back an empty one with limit 0, so later steps give 0."
  pub empty : (t own ours key : List ℕ) (limit : ℕ) (r : Refusal) → (start_of t own ours key limit).answer ≡ Err r → (start_of t own ours key limit).lookup ≡ no_lookup
  pub later : (t own ours key : List ℕ) (limit : ℕ) (r : Refusal) → (start_of t own ours key limit).answer ≡ Err r → (cs : List Call) (c : Call)
      → step c (outcome step (start_of t own ours key limit) cs).lookup ≡ refuses no_lookup OutOfForm
