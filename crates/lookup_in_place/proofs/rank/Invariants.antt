-- `rank`: all before i are nearer. Assumes nothing.
use Rattle.octets.proofs.Finding.{seek_hit, seek-miss, seek-end}
use Rattle.lookup.specs.Inner.{beyond}
use Rattle.octets.specs.Search.{first_in}
use Rattle.lookup_in_place.proofs.Parts.{all_there}
use borrow.Author.Rules.{rules}
use Rattle.flat_lookup.specs.FlatLookup.{lookup_in}
use native.Mathlib.Omega.{arith}
use lib.ListN.{take, drop}
use mathlib.Core.Path.{◌≡◌}
use Prim.Native.Nat.{◌≤◌, ◌-◌, ◌+◌}
use Rattle.lookup_in_place.proofs.is_beyond.Reads as is-beyond-reads
use Rattle.lookup_in_place.proofs.rank.Given as goal

abbrev pub invariant-loop-i : goal.invariant-loop-i
invariant-loop-i l = (l.i ≤ l.n) × (l.i + first_in (beyond (lookup_in l.m).target l.place) (drop l.i (take l.n (lookup_in l.m).candidates)) ≡ first_in (beyond (lookup_in l.m).target l.place) (take l.n (lookup_in l.m).candidates))
