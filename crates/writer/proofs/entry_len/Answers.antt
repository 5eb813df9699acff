-- `entry_len`: the peer at the start of a list, with its addresses one by one.
use mathlib.Core.Path.{sym, ap, ◌∙◌}
use native.Mathlib.Omega.{arith}
use lib.ListN.{length}
use Rattle.message.specs.Message.{Peer}
use Rattle.pieces.specs.Writable.{peer_piece}
use Rattle.writer.proofs.Entries.{peer-five}
use Rattle.writer.proofs.Counting.{entry-many, entry-few}
use borrow.Author.Rules.{rules}
use Rattle.writer.proofs.entry_len.Goals as goal

pub slice_bounds-list-count : goal.slice_bounds-list-count
slice_bounds-list-count c = omega (arith, c.entry_size-end.ensures.0, c.two_at-i.ensures.0, peer-five c.args.s.now)

pub slice_bounds-list-start : goal.slice_bounds-list-start
slice_bounds-list-start c = omega (arith, c.entry_size-end.ensures.0, c.two_at-i.ensures.0, peer-five c.args.s.now)

pub returns-then-n-gt4 : goal.returns-then-n-gt4
returns-then-n-gt4 c = ap length (sym (entry-many _ _ c.two_at-i.ensures.0 _ c.entry_size-end.ensures.0 _ c.address_count-n.ensures c.if-n-gt4.true _))

pub slice_bounds-peer_len-end : goal.slice_bounds-peer_len-end
slice_bounds-peer_len-end c = omega (arith, c.two_at-i.ensures.0, peer-five c.args.s.now, c.requires)

pub bounds-s-id_end : goal.bounds-s-id_end
bounds-s-id_end c = omega (arith, c.two_at-i.ensures.0, peer-five c.args.s.now, c.requires)

pub returns : goal.returns
returns c = c.peer_len.ensures ∙ ap (λ (p : Peer). length (peer_piece c.args.field p)) (entry-few _ _ c.two_at-i.ensures.0 _ c.entry_size-end.ensures.0 _ c.address_count-n.ensures c.if-n-gt4.false _ _ _ _ c.address_at.ensures c.address_at-2.ensures c.address_at-3.ensures c.address_at-4.ensures)
