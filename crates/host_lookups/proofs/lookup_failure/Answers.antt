-- `lookup_failure`: the step, with the id that the box goes by. Assumes nothing.
use native.Mathlib.Omega.{arith}
use mathlib.Core.Path.{◌≡◌}
use lib.ListN.{length}
use Rattle.connections.proofs.Bounds.{prefix-length}
use Rattle.host_lookups.proofs.Hosting.{failure-by}
use borrow.Author.Rules.{rules}
use Rattle.host_lookups.proofs.lookup_failure.Goals as goal

pub slice_bounds-own-end : goal.slice_bounds-own-end
slice_bounds-own-end c = let a : length c.args.me.id ≡ 64 = search rules in omega arith

pub slice_bounds-failure-end : goal.slice_bounds-failure-end
slice_bounds-failure-end c = let a : length c.args.me.id ≡ 64 = search rules in prefix-length c.own_size-n.result c.args.me.id (omega arith)

pub returns : goal.returns
returns c = let a = c.args in failure-by a.me c.own_size-n.result c.own_size-n.ensures.0 a.memory.now _ _ a.id.now c.failure.ensures
