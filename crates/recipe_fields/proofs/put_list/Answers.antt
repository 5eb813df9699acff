use mathlib.Core.Path.{refl}
use native.Mathlib.Omega.{arith}
use lib.ListN.{get_or}
use lib.IntN.{pos}
use Rattle.recipe_fields.proofs.Steps.{zigzag-held, listing, listed-all, listed-on}
use Rattle.recipe_fields.proofs.put_list.Goals as goal

pub loop-i-init : goal.loop-i-init
loop-i-init c = listing _ _ _ _

pub overflow_cast-turn : goal.overflow_cast-turn
overflow_cast-turn c = record { fits = omega (arith, c.type_inv.turns c.loop-i.i) }

pub loop-i-preserved : goal.loop-i-preserved
loop-i-preserved c = listed-on c.args.buf.now c.args.at c.args.turns.now c.args.trims.now c.loop-i.buf c.loop-i.next c.loop-i.i c.loop-i.invariant (omega arith) (omega arith) (get_or c.args.turns.now c.loop-i.i 0) c.zigzag_of-z.result refl (zigzag-held (get_or c.args.trims.now c.loop-i.i (pos 0)) c.trim-1.given c.zigzag_of-z.ensures) c.put_varint-next.new.buf c.put_varint-next.result c.put_varint-next-in-loop-i.new.buf c.put_varint-next-in-loop-i.result c.put_varint-next.ensures c.put_varint-next-in-loop-i.ensures

pub shape_of-buf : goal.shape_of-buf
shape_of-buf c = c.loop-i.invariant.put.kept

pub returns : goal.returns
returns c = listed-all c.args.buf.now c.args.at c.args.turns.now c.args.trims.now c.loop-i.buf c.loop-i.next c.loop-i.i c.loop-i.invariant (omega arith)
