-- A lookup by value: RULES, Lookup, "Each step takes the lookup in and hands the next one back". What its bytes stand for, and what a step gives.
use Rattle.std.specs.Prelude.{◌≡◌}
use Rattle.lookup.specs.Value as lookup
use Rattle.flat_lookup.specs.FlatLookup.{lookup_in, lookup_bytes}
use Rattle.lookup_in_place.specs.InPlace.{step_memory}
use Rattle.lookup_value.specs.declared.Lookup.{Lookup}
use Rattle.lookup_value.specs.declared.Step.{Step}

-- the lookup that a value stands for
abbrev pub lookup_of : Lookup → lookup.Lookup
lookup_of l = lookup_in l.bytes

-- the step that a step by value stands for
abbrev pub step_of : Step → lookup.Step
step_of s = record { lookup = lookup_of s.lookup; found = s.found; answer = s.answer }

-- from the value l the step r is s, and so are its bytes
pub record Gives (l : Lookup) (s : lookup.Step) (r : Step) : Type 0 where
  pub means : step_of r ≡ s
  pub bytes : r.lookup.bytes ≡ step_memory l.bytes s

-- the same of a start, which comes from no value
pub record Starts (s : lookup.Step) (r : Step) : Type 0 where
  pub means : step_of r ≡ s
  pub bytes : r.lookup.bytes ≡ lookup_bytes s.lookup
