-- `nearest` has none for what isn't a place.
use mathlib.Core.Path.{refl}
use mathlib.Core.List.{[]}
use lib.ListN.{replicate}
use Rattle.contacts.specs.Near.{filled}
use Rattle.contacts.proofs.Sorting.{nearest-none, nearest-as}
use borrow.Author.Rules.{rules}
use Rattle.contacts.proofs.nearest.Goals as goal

pub returns-then-target-ne-PLACE : goal.returns-then-target-ne-PLACE
unfolding filled
returns-then-target-ne-PLACE c = nearest-as c.args.table.now c.args.target.now [] (replicate 20 0) 0 (nearest-none c.args.table.now c.args.target.now c.if-target-ne-PLACE.true) refl refl
