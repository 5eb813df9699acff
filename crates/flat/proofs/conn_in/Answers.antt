-- `conn_in` meets its contract. Assumes nothing.
use Rattle.flat.proofs.Reading.{conn-read}
use borrow.Author.Rules.{rules}
use Rattle.flat.proofs.conn_in.Goals as goal

pub returns : goal.returns
returns c = conn-read c.args.bytes.now _ _ _ _ _ _ c.peer_in-peer.ensures c.framing_in-framing.ensures c.byte.ensures c.says_yes-server.ensures c.byte-2.ensures c.says_yes-asking.ensures
