-- `node::take_bytes` meets its contract. Assumes nothing.
use native.Mathlib.Omega.{arith}
use Rattle.connections.proofs.Bounds.{message-there, prefix-length}
use Rattle.replies.specs.Lent.{lent}
use Rattle.node.specs.Node.{linked}
use Rattle.node.proofs.Receiving.{take-message, take-refused, take_more}
use borrow.Author.Rules.{rules}
use Rattle.node.proofs.take_bytes.Goals as goal
use mathlib.Core.Path.{ap, ◌∙◌}
use Rattle.std.specs.Prelude.{Ok}

pub slice_bounds-whole-end : goal.slice_bounds-whole-end
slice_bounds-whole-end c = let a = c.args in
    let w = message-there a.conn.framing a.buffer.now a.piece.now _ c.in-Ok-Some.n c.receive-got.ensures.got (c.in-Ok-Some.is ∙ ap Ok (rw c.in-Ok-Some.is at c.in-Ok-Some.field-0-is)) in
    omega arith

pub slice_bounds-whole-end-in-Ok-Some : goal.slice_bounds-whole-end-in-Ok-Some
slice_bounds-whole-end-in-Ok-Some c = let a = c.args in
    let n = c.in-Ok-Some.n in
    let w = message-there a.conn.framing a.buffer.now a.piece.now _ n c.receive-got.ensures.got (c.in-Ok-Some.is ∙ ap Ok (rw c.in-Ok-Some.is at c.in-Ok-Some.field-0-is)) in
    prefix-length n c.receive-got.new.buffer (omega arith)

pub returns-in-Ok-Some : goal.returns-in-Ok-Some
returns-in-Ok-Some c = let a = c.args in take-message a.me (linked a.conn a.buffer.now) a.piece.now (lent a.contacts.now a.records.now a.reply.now) _ _ c.receive-got.ensures _ c.with_framing-c.ensures _ _ _ _ _ (c.in-Ok-Some.is ∙ ap Ok (rw c.in-Ok-Some.is at c.in-Ok-Some.field-0-is)) c.whole.ensures

pub returns-in-Err : goal.returns-in-Err
returns-in-Err c = let a = c.args in take-refused a.me (linked a.conn a.buffer.now) a.piece.now (lent a.contacts.now a.records.now a.reply.now) _ _ c.receive-got.ensures _ c.with_framing-c.ensures _ _ c.in-Err.is c.refuse.ensures

pub returns-in-Ok-None : goal.returns-in-Ok-None
returns-in-Ok-None c = let a = c.args in take_more a.me (linked a.conn a.buffer.now) a.piece.now (lent a.contacts.now a.records.now a.reply.now) _ _ c.receive-got.ensures _ c.with_framing-c.ensures _ (c.in-Ok-None.is ∙ ap Ok (rw c.in-Ok-None.is at c.in-Ok-None.field-0-is)) c.hand_back.ensures
