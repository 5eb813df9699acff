-- `remove` meets its contract: the contacts are laid out in the room, the core works on their bytes there, and they are taken from the room.
use Rattle.std.proofs.Common.{ℕ, List}
use Rattle.refusal.specs.declared.Refusal.TheVariants.{OutOfForm}
use Rattle.host_calls.specs.Hosts.{remove_of, remove_after}
use Rattle.contact_slots.specs.Slots.{remove_in}
use Rattle.contact_structs.specs.Structs.{remove_on}
use Rattle.contact_structs.proofs.Calls.{all_after}
use Rattle.contact_structs.proofs.remove.Goals as goal
use Rattle.std.specs.Prelude.{Err}

pub returns : goal.returns
unfolding remove_on remove_in
returns c =
    all_after c.args.t.now c.args.room.now c.pack.new.room c.pack.ensures.1 c.pack.auto.room c.pack.ensures.0
    (λ (s : List ℕ). remove_after c.args.me s c.args.id.now) c.remove_in-r.new.room c.remove_in-r.auto.room c.remove_in-r.ensures.1
    (λ (s : List ℕ). remove_of c.args.me s c.args.id.now) (Err OutOfForm) c.unpack.new.t c.remove_in-r.result c.remove_in-r.ensures.0 c.unpack.ensures
