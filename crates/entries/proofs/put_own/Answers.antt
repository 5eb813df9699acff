-- `put_own`: the bytes of a peer by value.
-- the room for the id has 64 bytes
use native.Mathlib.Omega.{arith}
use mathlib.Core.Path.{◌≡◌, refl, sym, ◌∙◌}
use lib.ListN.{length, length-map}
use lib.Seq.{length-take-le}
use Rattle.peer.specs.Peers.{address_in}
use Rattle.entries.proofs.Entries.{lens-most, id-long, id-cut, own_put}
use borrow.Author.Rules.{rules}
use Rattle.entries.proofs.put_own.Goals as goal
use Rattle.entries.proofs.put_own.Goals.{Start}

own-long : (c : Start) → length c.args.p.id ≡ 64
own-long c = omega arith

pub slice_bounds-id-end : goal.slice_bounds-id-end
slice_bounds-id-end c = omega (arith, c.id_size-size.ensures, id-long _ _ c.tidied-q.ensures (own-long (goal.at.slice_bounds-id-end c).Start))

pub slice_bounds-put_peer-end : goal.slice_bounds-put_peer-end
slice_bounds-put_peer-end c = sym (length-take-le c.id_size-size.result _ (omega (arith, c.id_size-size.ensures, id-long _ _ c.tidied-q.ensures (own-long (goal.at.slice_bounds-put_peer-end c).Start))))

pub room-requires : goal.room-requires
room-requires c = (search rules, omega arith, lens-most _ _ c.tidied-q.ensures 0)

pub room-requires-2 : goal.room-requires-2
room-requires-2 c = (search rules, omega arith, lens-most _ _ c.tidied-q.ensures 1)

pub room-requires-3 : goal.room-requires-3
room-requires-3 c = (search rules, omega arith, lens-most _ _ c.tidied-q.ensures 2)

pub room-requires-4 : goal.room-requires-4
room-requires-4 c = (search rules, omega arith, lens-most _ _ c.tidied-q.ensures 3)

pub returns : goal.returns
unfolding address_in
returns c = own_put c.args.p _ c.tidied-q.ensures (own-long (goal.at.returns c).Start) _ _ _ _ _ _
    (id-cut _ _ c.tidied-q.ensures (own-long (goal.at.returns c).Start) _ c.id_size-size.ensures) refl c.room.ensures c.room-2.ensures c.room-3.ensures c.room-4.ensures _ _ _ _ c.put_peer.ensures
