-- `put_little` writes byte after byte.
use Prim.Native.Nat.{◌-◌}
use Rattle.recipe_fields.specs.Fields.{little_bytes}
use Rattle.recipe_fields.proofs.Steps.{Putting}
use Rattle.recipe_fields.proofs.put_little.Given as goal

abbrev pub invariant-loop : goal.invariant-loop
invariant-loop l = Putting l.initial.buf l.at (little_bytes l.n l.x) l.buf l.next (little_bytes (l.n - l.counter) l.rest)
