-- `flyer`: from i on. Assumes nothing.
use Rattle.lookup_in_place.proofs.Parts.{all_there}
use Rattle.flat_lookup.specs.FlatLookup.{lookup_in}
use Rattle.octets.proofs.Finding.{seek_hit, seek-miss, seek-end}
use Rattle.lookup_candidates.specs.Candidates.{flies}
use Rattle.octets.specs.Search.{first_in}
use native.Mathlib.Omega.{arith}
use lib.ListN.{take, drop}
use mathlib.Core.Path.{◌≡◌}
use Prim.Native.Nat.{◌≤◌, ◌-◌, ◌+◌}
use borrow.Author.Rules.{rules}
use Rattle.lookup_in_place.proofs.flies_at.Reads as flies-at-reads
use Rattle.lookup_in_place.proofs.flyer.Given as goal

abbrev pub invariant-loop-i : goal.invariant-loop-i
invariant-loop-i l = (l.i ≤ l.n) × (l.i + first_in (flies l.place) (drop l.i (take l.n (lookup_in l.m).candidates)) ≡ first_in (flies l.place) (take l.n (lookup_in l.m).candidates))
