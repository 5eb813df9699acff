-- `put_peer`: head, id, addresses and connection, or nothing.
use mathlib.Core.Path.{sym, ◌∙◌}
use Rattle.wire_put.proofs.Putting.{put-start, put_is}
use Rattle.pieces.proofs.Pieces.{peer-put, peer-none}
use borrow.Author.Rules.{rules}
use Rattle.pieces.proofs.put_peer.Goals as goal

pub peer_body_len-size-requires : goal.peer_body_len-size-requires
peer_body_len-size-requires c = sym c.peer_fits.ensures ∙ c.if-peer_fits.true

pub returns-then-peer_fits : goal.returns-then-peer_fits
returns-then-peer_fits c = peer-put _ _ _ _ _ _ _ (sym c.peer_fits.ensures ∙ c.if-peer_fits.true) _ _ _ _ c.peer_body_len-size.ensures _ _ _ _ _ _ _ _ c.put_head-p.ensures c.put_single-q.ensures c.put_addresses-r.ensures c.put_number.ensures

pub returns : goal.returns
returns c = put_is _ _ _ _ _ _ (sym (peer-none _ _ _ _ _ _ _ (sym c.peer_fits.ensures ∙ c.if-peer_fits.false) _)) (put-start _ _)
