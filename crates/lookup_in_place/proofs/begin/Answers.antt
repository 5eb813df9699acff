-- `begin`: the nearest contacts, and the lookup written whole. Assumes nothing.
use Rattle.lookup_in_place.proofs.Starting.{near-few, begins}
use borrow.Author.Rules.{rules}
use Rattle.lookup_in_place.proofs.begin.Goals as goal

pub put_lookup-requires : goal.put_lookup-requires
put_lookup-requires c = near-few _ _ _ c.nearest-near.ensures

pub returns : goal.returns
returns c = begins _ _ c.args.table.now c.args.key.now _ _ c.args.limit _ c.requires.0 c.requires.1 c.requires.2 c.hash-target.ensures c.nearest-near.ensures c.copy.ensures c.put_lookup.ensures
