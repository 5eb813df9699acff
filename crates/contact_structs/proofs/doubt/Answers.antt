-- `doubt` meets its contract: the contacts are laid out in the room, the core works on their bytes there, and they are taken from the room.
use Rattle.std.proofs.Common.{ℕ, List}
use Rattle.refusal.specs.declared.Refusal.TheVariants.{OutOfForm}
use Rattle.host_calls.specs.Hosts.{doubt_of, doubt_after}
use Rattle.contact_slots.specs.Slots.{doubt_in}
use Rattle.contact_structs.specs.Structs.{doubt_on}
use Rattle.contact_structs.proofs.Calls.{all_after}
use Rattle.contact_structs.proofs.doubt.Goals as goal
use Rattle.std.specs.Prelude.{Err}

pub returns : goal.returns
unfolding doubt_on doubt_in
returns c =
    all_after c.args.t.now c.args.room.now c.pack.new.room c.pack.ensures.1 c.pack.auto.room c.pack.ensures.0
    (λ (s : List ℕ). doubt_after c.args.me s c.args.id.now) c.doubt_in-r.new.room c.doubt_in-r.auto.room c.doubt_in-r.ensures.1
    (λ (s : List ℕ). doubt_of c.args.me s c.args.id.now) (Err OutOfForm) c.unpack.new.t c.doubt_in-r.result c.doubt_in-r.ensures.0 c.unpack.ensures
