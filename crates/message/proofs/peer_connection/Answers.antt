-- `peer_connection` reads the peer in place, and judges the number.
use borrow.Author.Tests.{le-leb, lt-leb}
use Rattle.wire.specs.Wire.{fields_in}
use Rattle.message.specs.View.{connection_at}
use Rattle.message.specs.Message.{connection_of}
use borrow.Author.Rules.{rules}
use Rattle.message.proofs.peer_connection.Goals as goal

pub returns-then-v-le-MOST_CONNECTION : goal.returns-then-v-le-MOST_CONNECTION
returns-then-v-le-MOST_CONNECTION c = unfold connection_at connection_of fields_in in rw (← c.front.ensures, ← c.last_number-v.ensures, le-leb _ _ c.if-v-le-MOST_CONNECTION.true)

pub returns : goal.returns
returns c = unfold connection_at connection_of fields_in in rw (← c.front.ensures, ← c.last_number-v.ensures, lt-leb _ _ c.if-v-le-MOST_CONNECTION.false)
