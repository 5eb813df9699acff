-- `put_contact` meets its contract. Assumes nothing.
use native.Mathlib.Omega.{arith}
use Rattle.contact_slots.proofs.Laws.{put-past, put-end, put-done}
use borrow.Author.Rules.{rules}
use Rattle.contact_slots.proofs.put_contact.Goals as goal

pub returns-then-n-i : goal.returns-then-n-i
returns-then-n-i c = put-past c.args.bytes.now c.args.i c.args.c c.if-n-i.true

pub returns-then-at-n : goal.returns-then-at-n
returns-then-at-n c = put-end c.args.bytes.now c.args.i c.args.c c.if-at-n.true

pub returns : goal.returns
returns c = put-done c.args.bytes.now c.put_peer.new.out c.args.i c.args.c (omega arith) c.put_peer.ensures _ c.copy.ensures
