-- `starterbell_end` meets its contract. Assumes nothing.
use Rattle.host.proofs.Handing.{end_short, end-second, end-done}
use borrow.Author.Rules.{rules}
use Rattle.host.proofs.starterbell_end.Goals as goal

pub returns-then-me-lt-PEER : goal.returns-then-me-lt-PEER
returns-then-me-lt-PEER c = let a = c.args in end_short a.me.now a.conn.now c.if-me-lt-PEER.true

pub returns-then-conn-lt-CONN : goal.returns-then-conn-lt-CONN
returns-then-conn-lt-CONN c = let a = c.args in end-second a.me.now a.conn.now c.if-me-lt-PEER.false c.if-conn-lt-CONN.true

pub returns : goal.returns
returns c = let a = c.args in end-done a.me.now a.conn.now _ _ _ _ _ c.if-me-lt-PEER.false c.if-conn-lt-CONN.false c.peer_in.ensures c.conn_in-c.ensures c.end.ensures c.keep_end.ensures
