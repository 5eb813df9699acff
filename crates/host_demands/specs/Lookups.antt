-- Each lookup of a program is a run of its own start and calls: `demands`' specs/Lookups.antt, of exported calls and of bytes. Proved in proofs/Traced.antt.
use Rattle.std.specs.Prelude.{ℕ, ◌≡◌, List, [], ◌∷◌, ◌++◌}
use Rattle.lookup.specs.Value.{Step}
use Rattle.cutting.specs.World.{Ready, AllFit}
use Rattle.flat.specs.Flat.{peer_in}
use Rattle.flat_lookup.specs.FlatLookup.{lookup_in}
use Rattle.host_steps.specs.Steps.{step_number, step_numbers}
use Rattle.demands.specs.Box.{Fits, Allowed, Good}
use Rattle.demands.specs.Lookups.{Trace, trace_with, part_of, IsRun}
use Rattle.host_demands.specs.Calls.{Memory, Export, lookup_starts, Enough, History, Seen, told, leaves, meant, sees_of, leaves_all, meant_all, world_in}
use Rattle.std.specs.Prelude.{Some, None, Option}

-- what a program sees of a step: the number that the call returns, and what it makes of out
abbrev pub step_seen : Step → Seen
step_seen g = told (step_number g.answer) (λ out. step_numbers out g)

module _ (me : List ℕ) where
  -- what happened to lookup j, with what the program saw, after any calls on the memory m, if it was x before them
  unfoldable pub traced_in : ℕ → Memory → Option (Trace Seen) → List Export → Option (Trace Seen)
  traced_in j m x [] = x
  traced_in j m x (c ∷ cs) = traced_in j (leaves me m c) (trace_with m.lent.contacts (sees_of me m c) (part_of (peer_in me) j m.inbox (meant me m c)) x) cs

  pub record LookupBytesAreRuns : Type 0 where
    -- once started, the bytes of lookup j hold what its own start and calls give, and the program saw of each what it gave
    pub runs : (m : Memory) (h : History) (cs : List Export) → Enough m → Ready (Allowed (peer_in me)) (Good (peer_in me)) (world_in m h) → AllFit Fits (meant_all me m cs)
        → (j : ℕ) (x : Trace Seen) → traced_in j m None cs ≡ Some x → IsRun (peer_in me) step_seen x (lookup_in ((leaves_all me m cs).lookups j))
    -- a lookup that was started has a trace, whatever came before and after
    pub begins : (m : Memory) (before after : List Export) (j : ℕ) (key : List ℕ) (limit : ℕ)
        → (x : Trace Seen) × (traced_in j m None (before ++ (lookup_starts j key limit ∷ after)) ≡ Some x)
