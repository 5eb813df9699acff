-- The slot that C sees beside the number of what a sighting answers.
use Rattle.std.specs.Prelude.{ℕ}
use Rattle.sightings.specs.declared.Sighting.{Sighting}
use Rattle.sightings.specs.declared.Sighting.TheVariants.{Moved, Joined, Probe}
use Rattle.std.specs.Prelude.{Ok, Err, Result}
use Rattle.refusal.specs.declared.Refusal.{Refusal}

-- the slot that the answer names; 0 where it names none
abbrev pub named_by : Result Sighting Refusal → ℕ
named_by (Ok (Moved i)) = i
named_by (Ok (Joined i)) = i
named_by (Ok (Probe h)) = h
named_by (Err r) = 0
