-- What the inner functions of the crate ensure. No reader of the public contracts needs these.
use Rattle.std.specs.Prelude.{ℕ, List, Bool, true, false, cond, drop, eqb}
use Rattle.stream.specs.declared.Held.{Held}
use Rattle.stream.specs.declared.Held.TheVariants.{Nothing}
use Rattle.stream.specs.declared.Lead.{Lead}
use Rattle.stream.specs.declared.Lead.TheVariants.{On, Length}
use Rattle.stream.specs.declared.Framing.TheVariants.{Body}
use Rattle.stream.specs.Stream.{Out, out, shift, run_of, fresh}
use Rattle.std.specs.Prelude.{Ok, Err, Some, Result}
use Rattle.refusal.specs.declared.Refusal.{Refusal}

abbrev pub goes_on : Result Lead Refusal → Bool
goes_on (Ok (On h)) = true
goes_on (Ok (Length n)) = false
goes_on (Err r) = false

abbrev pub held_of : Result Lead Refusal → Held
held_of (Ok (On h)) = h
held_of (Ok (Length n)) = Nothing
held_of (Err r) = Nothing

-- the length n is whole after k bytes of bs
abbrev pub begun_of : ℕ → ℕ → List ℕ → List ℕ → Out
begun_of n k m bs = cond (eqb n 0) (out fresh k (Ok (Some 0)) m) (shift k (run_of (Body n 0) m (drop k bs)))
