-- `slots` counts the whole slots, up to 256; there is none of 0 bytes.
use native.Mathlib.Omega.{arith}
use mathlib.Core.Path.{refl}
use Rattle.keyed_slots.proofs.Laying.{slots-none, slots-few, slots-many}
use Rattle.keyed_slots.proofs.slots.Goals as goal

pub returns-then-size-eq0 : goal.returns-then-size-eq0
returns-then-size-eq0 c = slots-none c.args.store.now (omega arith)

pub returns-then-m-lt-MOST_RECORDS : goal.returns-then-m-lt-MOST_RECORDS
returns-then-m-lt-MOST_RECORDS c = slots-few c.args.size c.args.store.now refl (omega arith)

pub returns : goal.returns
returns c = slots-many c.args.size c.args.store.now refl (omega arith)
