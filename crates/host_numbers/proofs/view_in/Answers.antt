-- `view_in` meets its contract. Assumes nothing.
use Rattle.host_numbers.proofs.Handing.{view-read}
use borrow.Author.Rules.{rules}
use Rattle.host_numbers.proofs.view_in.Goals as goal

pub returns : goal.returns
returns c = view-read c.args.view.now _ _ _ _ _ _ _ _ c.number-kind.ensures c.position.ensures c.position-2.ensures c.number-there.ensures c.position-3.ensures c.position-4.ensures c.position-5.ensures c.position-6.ensures
