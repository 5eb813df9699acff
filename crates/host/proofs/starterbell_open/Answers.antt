-- `starterbell_open` meets its contract. Assumes nothing.
use Rattle.host.proofs.Handing.{open-short, open-second, open_done}
use borrow.Author.Rules.{rules}
use Rattle.host.proofs.starterbell_open.Goals as goal

pub returns-then-me-lt-PEER : goal.returns-then-me-lt-PEER
returns-then-me-lt-PEER c = let a = c.args in open-short a.me.now a.conn.now a.id.now a.server a.asking a.addresses.now c.if-me-lt-PEER.true

pub returns-then-conn-lt-CONN : goal.returns-then-conn-lt-CONN
returns-then-conn-lt-CONN c = let a = c.args in open-second a.me.now a.conn.now a.id.now a.server a.asking a.addresses.now c.if-me-lt-PEER.false c.if-conn-lt-CONN.true

pub returns : goal.returns
returns c = let a = c.args in open_done a.me.now a.conn.now a.id.now a.server a.asking a.addresses.now _ _ _ _ _ _ c.if-me-lt-PEER.false c.if-conn-lt-CONN.false c.peer_in.ensures c.says_yes.ensures c.says_yes-2.ensures c.open-o.ensures c.told_code.ensures c.put_conn.ensures
