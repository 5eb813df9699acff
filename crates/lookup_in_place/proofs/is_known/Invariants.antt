-- `is_known`: none before i. Assumes nothing.
use Rattle.lookup_in_place.proofs.Arrivals.{any-hit, any-miss, any-end}
use Rattle.lookup_candidates.specs.Candidates.{lies_at}
use Rattle.octets.specs.Search.{any_in}
use Rattle.lookup_in_place.proofs.Parts.{all_there}
use borrow.Author.Rules.{rules}
use Rattle.flat_lookup.specs.FlatLookup.{lookup_in}
use native.Mathlib.Omega.{arith}
use lib.ListN.{take, drop}
use mathlib.Core.Path.{◌≡◌, refl}
use Prim.Native.Nat.{◌≤◌, ◌-◌}
use Rattle.lookup_in_place.proofs.lies_at.Reads as lies-at-reads
use Rattle.lookup_in_place.proofs.is_known.Given as goal

abbrev pub invariant-loop-i : goal.invariant-loop-i
invariant-loop-i l = (l.i ≤ l.n) × (any_in (lies_at l.place) (drop l.i (take l.n (lookup_in l.m).candidates)) ≡ any_in (lies_at l.place) (take l.n (lookup_in l.m).candidates))
