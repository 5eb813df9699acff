-- `Lookup::start`: the start on fresh bytes. Assumes nothing.
use Prim.Native.Nat.{ℕ}
use lib.ListN.{replicate, length-replicate}
use Rattle.flat_lookup.specs.FlatLookup.{flat_size}
use Rattle.lookup_value.proofs.Giving.{start_gives}
use borrow.Author.Rules.{rules}
use Rattle.lookup_value.proofs.Lookup.start.Goals as goal

pub returns : goal.returns
returns c = let a = c.args in start_gives (replicate {A = ℕ} flat_size 0) (length-replicate {A = ℕ} flat_size 0) _ _ a.table.now a.own.now a.ours a.key.now a.limit c.start-o.ensures
