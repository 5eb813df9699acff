-- `put_peer` meets its contract. Assumes nothing.
use lib.ListN.{length-map}
use Rattle.flat.specs.Promises.{Whole}
use Rattle.flat.proofs.Writing.{peer-written}
use borrow.Author.Rules.{rules}
use Rattle.std.proofs.Common.{arith}
use Rattle.flat.proofs.put_peer.Goals as goal
use Rattle.flat.proofs.put_peer.Goals.{Start}

whole : (c : Start) → Whole c.args.p
whole c =
    record {
      addrs = omega arith;
      id = omega arith;
      place = omega arith;
      lens = omega arith;
    }

pub returns : goal.returns
returns c = peer-written c.args.out.now c.args.p _ _ _ _ _ (whole (goal.at.returns c).Start) c.copy.ensures c.copy-2.ensures c.copy-3.ensures c.copy-4.ensures c.copy-5.ensures
