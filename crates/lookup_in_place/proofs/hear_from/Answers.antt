-- `hear_from`: by the type. Assumes nothing.
use Rattle.lookup_in_place.proofs.Steps.{still-long, count_kept, from-found-in, from-other-in}
use borrow.Author.Rules.{rules}
use Rattle.lookup_in_place.proofs.hear_all.Reads as hear-all-reads
use Rattle.lookup_in_place.proofs.set_mark.Reads as set-mark-reads
use Rattle.lookup_in_place.proofs.hear_from.Goals as goal

pub hear_all-requires : goal.hear_all-requires
hear_all-requires c = (still-long _ _ _ c.set_mark.ensures c.requires.0, count_kept _ _ _ c.set_mark.ensures c.requires.2)

pub returns-then-kind-eq-FIND_NODE : goal.returns-then-kind-eq-FIND_NODE
returns-then-kind-eq-FIND_NODE c = from-found-in c.args.m.now _ _ _ _ c.requires.2 _ _ c.if-kind-eq-FIND_NODE.true c.set_mark.ensures c.hear_all.ensures

pub returns : goal.returns
returns c = from-other-in c.args.m.now _ _ _ _ c.requires.2 _ c.if-kind-eq-FIND_NODE.false c.set_mark-2.ensures
