-- `put_view` meets its contract. Assumes nothing.
use Rattle.host_numbers.proofs.Handing.{view-written}
use borrow.Author.Rules.{rules}
use Rattle.host_numbers.proofs.put_view.Goals as goal

pub returns : goal.returns
returns c = view-written c.args.out.now _ c.args.at _ c.args.m c.flag.ensures c.put_numbers.ensures
