-- `starterbell_receive` meets its contract. Assumes nothing.
use Rattle.host.proofs.Receiving.{receive-short, receive-second, receive-done}
use borrow.Author.Rules.{rules}
use Rattle.host.proofs.starterbell_receive.Goals as goal

pub returns-then-me-lt-PEER : goal.returns-then-me-lt-PEER
returns-then-me-lt-PEER c = let a = c.args in receive-short a.me.now a.conn.now a.buffer.now a.piece.now a.contacts.now a.records.now a.reply.now a.out.now _ _ c.if-me-lt-PEER.true c.nothing_taken.ensures

pub returns-then-conn-lt-CONN : goal.returns-then-conn-lt-CONN
returns-then-conn-lt-CONN c = let a = c.args in receive-second a.me.now a.conn.now a.buffer.now a.piece.now a.contacts.now a.records.now a.reply.now a.out.now _ _ c.if-me-lt-PEER.false c.if-conn-lt-CONN.true c.nothing_taken-then-conn-lt-CONN.ensures

pub returns : goal.returns
returns c = let a = c.args in receive-done a.me.now a.conn.now a.buffer.now a.piece.now a.contacts.now a.records.now a.reply.now a.out.now _ _ _ _ _ _ _ _ _ _ c.if-me-lt-PEER.false c.if-conn-lt-CONN.false c.peer_in-p.ensures c.conn_in-c.ensures c.receive-got.ensures c.keep_received.ensures
