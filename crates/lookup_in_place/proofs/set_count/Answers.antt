-- `set_count`: two bytes anew. Assumes nothing.
use Prim.Native.Nat.{◌%◌}
use Rattle.lookup_in_place.proofs.Arrivals.{counted}
use native.Mathlib.Omega.{arith}
use lib.ListN.{length-set}
use borrow.Author.Rules.{rules}
use Rattle.lookup_in_place.proofs.set_count.Goals as goal

pub bounds-m : goal.bounds-m
bounds-m c = omega (arith, c.requires.0, length-set c.args.m.now 0 (c.args.n % 256))

pub returns : goal.returns
returns c = counted c.args.m.now c.args.n c.requires.0 c.requires.1
