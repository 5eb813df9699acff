-- `peer_in` meets its contract. Assumes nothing.
use Rattle.flat.proofs.Reading.{field-read, peer-read}
use borrow.Author.Rules.{rules}
use Rattle.flat.proofs.peer_in.Goals as goal

pub returns : goal.returns
returns c = peer-read c.args.bytes.now _ _ _ _ _ _ (field-read 104 512 c.args.bytes.now _ c.fill.ensures) (field-read 40 64 c.args.bytes.now _ c.fill-2.ensures) (field-read 8 32 c.args.bytes.now _ c.fill-3.ensures) (field-read 4 4 c.args.bytes.now _ c.fill-4.ensures) c.byte-size.ensures c.byte-count.ensures
