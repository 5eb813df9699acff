-- `peer_len`: the peer as a field, or nothing.
use mathlib.Core.Path.{sym, ap, ◌∙◌}
use lib.ListN.{length}
use native.Mathlib.Omega.{arith}
use Rattle.pieces.proofs.Pieces.{peer-short, peer-size, peer-none}
use borrow.Author.Rules.{rules}
use Rattle.pieces.proofs.peer_len.Goals as goal

pub peer_body_len-requires : goal.peer_body_len-requires
peer_body_len-requires c = sym c.peer_fits.ensures ∙ c.if-peer_fits.true

pub field_len-requires : goal.field_len-requires
field_len-requires c = omega (arith, c.peer_body_len.ensures, peer-short _ _ _ _ _ _ _ (sym c.peer_fits.ensures ∙ c.if-peer_fits.true))

pub returns-then-peer_fits : goal.returns-then-peer_fits
returns-then-peer_fits c = peer-size _ _ _ _ _ _ _ (sym c.peer_fits.ensures ∙ c.if-peer_fits.true) _ _ _ c.peer_body_len.ensures c.field_len.ensures

pub returns : goal.returns
returns c = ap length (sym (peer-none _ _ _ _ _ _ _ (sym c.peer_fits.ensures ∙ c.if-peer_fits.false) _))
