-- `put_framing` meets its contract. Assumes nothing.
use Rattle.flat.proofs.Writing.{framing-written}
use borrow.Author.Rules.{rules}
use Rattle.flat.proofs.put_framing.Goals as goal

pub returns : goal.returns
returns c = framing-written c.args.out.now _ _ c.args.f c.framing_bytes-bytes.ensures c.copy.ensures
