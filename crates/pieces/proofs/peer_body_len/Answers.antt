-- `peer_body_len`: id, addresses and connection.
use native.Mathlib.Omega.{arith}
use Rattle.pieces.proofs.Pieces.{id-short, four-fit, peer-sum}
use borrow.Author.Rules.{rules}
use Rattle.pieces.proofs.peer_body_len.Goals as goal

pub single_len-requires : goal.single_len-requires
single_len-requires c = (omega arith, omega (arith, id-short _ _ _ _ _ _ _ c.requires))

pub addresses_len-requires : goal.addresses_len-requires
addresses_len-requires c = four-fit _ _ _ _ _ _ _ c.requires

pub returns : goal.returns
returns c = peer-sum _ _ _ _ _ _ _ c.requires _ _ c.single_len.ensures.0 c.addresses_len.ensures.0
