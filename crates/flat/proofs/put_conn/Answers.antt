-- `put_conn` meets its contract. Assumes nothing.
use lib.ListN.{length-map}
use Rattle.flat.specs.Promises.{Whole}
use Rattle.flat.proofs.Writing.{conn-written}
use borrow.Author.Rules.{rules}
use Rattle.std.proofs.Common.{arith}
use Rattle.flat.proofs.put_conn.Goals as goal
use Rattle.flat.proofs.put_conn.Goals.{Start}

whole : (c : Start) → Whole c.args.c.peer
whole c =
    record {
      addrs = omega arith;
      id = omega arith;
      place = omega arith;
      lens = omega arith;
    }

pub returns : goal.returns
returns c = conn-written c.args.out.now _ _ _ _ c.args.c _ _ (whole (goal.at.returns c).Start) c.bit_of.ensures c.bit_of-2.ensures c.put_peer.ensures c.copy.ensures c.put_framing.ensures c.copy-2.ensures
