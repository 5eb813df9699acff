-- `slot_holds`: a free slot holds nothing, a used one the key that it has.
use native.Mathlib.Omega.{arith}
use Rattle.keyed_slots.proofs.Laying.{holds-free, holds-used}
use Rattle.keyed_slots.proofs.slot_holds.Goals as goal

pub returns-then-s-lt1 : goal.returns-then-s-lt1
returns-then-s-lt1 c = holds-free c.args.size c.args.store.now c.args.key.now c.args.i c.slot_at-s.ensures.0 (omega arith)

pub returns : goal.returns
returns c = holds-used c.args.size c.args.store.now c.args.key.now c.args.i c.slot_at-s.ensures.0 (omega arith) c.key_of.ensures c.same_bytes.ensures
