-- `in_order`: the candidates after rank i follow the one of rank i. Assumes nothing.
use Rattle.flat_lookup.specs.FlatLookup.{lookup_in, candidate_at}
use Rattle.lookup.specs.Lookup.{follow, nearest_first}
use lib.ListN.{take, drop}
use mathlib.Core.Path.{◌≡◌}
use Prim.Native.Nat.{◌+◌}
use Rattle.lookup_in_place.proofs.in_order.Given as goal

abbrev pub invariant-loop-i : goal.invariant-loop-i
invariant-loop-i l = follow (lookup_in l.m).target (candidate_at l.m l.i) (drop (l.i + 1) (take l.n (lookup_in l.m).candidates)) ≡ nearest_first (lookup_in l.m).target (take l.n (lookup_in l.m).candidates)
