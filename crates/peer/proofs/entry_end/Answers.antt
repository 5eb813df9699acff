-- `peer::entry_end` meets its contract. Assumes nothing.
use Rattle.peer.proofs.Lists.{end_short, end-cut, end-there}
use borrow.Author.Rules.{rules}
use Rattle.peer.proofs.entry_end.Goals as goal

pub returns-then-left-lt2 : goal.returns-then-left-lt2
returns-then-left-lt2 c = end_short c.args.list.now c.args.at c.requires c.if-left-lt2.true

pub returns-then-left-n : goal.returns-then-left-n
returns-then-left-n c = end-cut c.args.list.now c.args.at c.requires c.size_at-n.result c.size_at-n.ensures.0 c.if-left-lt2.false c.if-left-n.true

pub returns : goal.returns
returns c = end-there c.args.list.now c.args.at c.requires c.size_at-n.result c.size_at-n.ensures.0 c.if-left-lt2.false c.if-left-n.false
