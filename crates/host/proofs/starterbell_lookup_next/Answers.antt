-- `starterbell_lookup_next` meets its contract. Assumes nothing.
use Rattle.host.proofs.Stepping.{next-told}
use borrow.Author.Rules.{rules}
use Rattle.host.proofs.starterbell_lookup_next.Goals as goal

pub returns : goal.returns
returns c = let a = c.args in next-told a.memory.now a.out.now _ _ _ _ c.tell.ensures c.lookup_next-o.ensures
