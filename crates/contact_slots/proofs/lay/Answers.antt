-- `lay` meets its contract. Assumes nothing.
use mathlib.Core.Path.{refl}
use lib.ListN.{length-map}
use Rattle.flat.specs.Promises.{Whole}
use Rattle.contact_slots.proofs.Laws.{if-enough, if-short}
use Rattle.contact_slots.proofs.Back.{length-slot}
use borrow.Author.Rules.{rules}
use Rattle.std.proofs.Common.{arith}
use Rattle.contact_slots.proofs.lay.Goals as goal
use Rattle.contact_slots.proofs.lay.Goals.{Start}

whole : (c : Start) → Whole c.args.c.peer
whole c =
    record {
      addrs = omega arith;
      id = omega arith;
      place = omega arith;
      lens = omega arith;
    }

pub returns-then-has_slots : goal.returns-then-has_slots
returns-then-has_slots c = (if-enough c.args.n c.args.room.now _ c.has_slots.ensures _ _ _ c.if-has_slots.true c.put_contact.ensures, length-slot c.args.c (whole (goal.at.returns-then-has_slots c).Start))

pub returns-else-has_slots : goal.returns-else-has_slots
returns-else-has_slots c = (if-short c.args.n c.args.room.now _ c.has_slots.ensures _ _ _ c.if-has_slots.false refl, length-slot c.args.c (whole (goal.at.returns-else-has_slots c).Start))
