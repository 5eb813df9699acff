-- `sound_at`: a free slot is sound, a used one if it holds a record.
use native.Mathlib.Omega.{arith}
use Rattle.record_slots.proofs.Keyed.{sound-free, sound-used}
use borrow.Author.Rules.{rules}
use Rattle.record_slots.proofs.sound_at.Goals as goal

pub returns-then-s-lt1 : goal.returns-then-s-lt1
returns-then-s-lt1 c = sound-free c.args.store.now c.args.i c.slot_at-s.ensures.0 (omega arith)

pub returns : goal.returns
returns c = sound-used c.args.store.now c.args.i c.slot_at-s.ensures.0 (omega arith) c.is_record.ensures
