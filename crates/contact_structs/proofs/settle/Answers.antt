-- `settle` meets its contract: the contacts are laid out in the room, the core works on their bytes there, and they are taken from the room.
use Rattle.std.proofs.Common.{ℕ, List}
use Rattle.refusal.specs.declared.Refusal.TheVariants.{OutOfForm}
use Rattle.host_calls.specs.Hosts.{settle_of, settle_after}
use Rattle.contact_slots.specs.Slots.{settle_in}
use Rattle.contact_structs.specs.Structs.{settle_on}
use Rattle.contact_structs.proofs.Calls.{all_after}
use Rattle.contact_structs.proofs.settle.Goals as goal
use Rattle.std.specs.Prelude.{Err}

pub returns : goal.returns
unfolding settle_on settle_in
returns c =
    all_after c.args.t.now c.args.room.now c.pack.new.room c.pack.ensures.1 c.pack.auto.room c.pack.ensures.0
    (λ (s : List ℕ). settle_after c.args.me s c.args.head.now c.args.id.now c.args.client c.args.addresses.now c.args.answered) c.settle_in-r.new.room c.settle_in-r.auto.room c.settle_in-r.ensures.1
    (λ (s : List ℕ). settle_of c.args.me s c.args.head.now c.args.id.now c.args.client c.args.addresses.now c.args.answered) (Err OutOfForm) c.unpack.new.t c.settle_in-r.result c.settle_in-r.ensures.0 c.unpack.ensures
