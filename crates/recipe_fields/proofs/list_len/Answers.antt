use mathlib.Core.Path.{refl}
use native.Mathlib.Omega.{arith}
use lib.ListN.{get_or}
use lib.IntN.{pos}
use Rattle.recipe_fields.proofs.Steps.{zigzag-held, counting, counted-all, counted-on, counted-less}
use Rattle.recipe_fields.proofs.list_len.Goals as goal

pub loop-i-init : goal.loop-i-init
loop-i-init c = counting c.args.turns.now c.args.trims.now

pub overflow_cast-turn : goal.overflow_cast-turn
overflow_cast-turn c = record { fits = omega (arith, c.type_inv.turns c.loop-i.i) }

pub overflow_add-n : goal.overflow_add-n
overflow_add-n c = record { fits = omega (arith, counted-less c.args.turns.now c.args.trims.now c.loop-i.n c.loop-i.i c.loop-i.invariant (omega arith) (omega arith) (get_or c.args.turns.now c.loop-i.i 0) c.zigzag_of-z.result refl (zigzag-held (get_or c.args.trims.now c.loop-i.i (pos 0)) c.trim-1.given c.zigzag_of-z.ensures) (omega (arith, c.type_inv.turns c.loop-i.i)) (omega arith) c.varint_len.ensures c.varint_len-in-loop-i.ensures c.requires.1) }

pub overflow_add-n-in-loop-i : goal.overflow_add-n-in-loop-i
overflow_add-n-in-loop-i c = record { fits = omega (arith, counted-less c.args.turns.now c.args.trims.now c.loop-i.n c.loop-i.i c.loop-i.invariant (omega arith) (omega arith) (get_or c.args.turns.now c.loop-i.i 0) c.zigzag_of-z.result refl (zigzag-held (get_or c.args.trims.now c.loop-i.i (pos 0)) c.trim-1.given c.zigzag_of-z.ensures) (omega (arith, c.type_inv.turns c.loop-i.i)) (omega arith) c.varint_len.ensures c.varint_len-in-loop-i.ensures c.requires.1) }

pub loop-i-preserved : goal.loop-i-preserved
loop-i-preserved c = counted-on c.args.turns.now c.args.trims.now c.loop-i.n c.loop-i.i c.loop-i.invariant (omega arith) (omega arith) (get_or c.args.turns.now c.loop-i.i 0) c.zigzag_of-z.result refl (zigzag-held (get_or c.args.trims.now c.loop-i.i (pos 0)) c.trim-1.given c.zigzag_of-z.ensures) (omega (arith, c.type_inv.turns c.loop-i.i)) (omega arith) c.varint_len.ensures c.varint_len-in-loop-i.ensures

pub returns : goal.returns
returns c = counted-all c.args.turns.now c.args.trims.now c.loop-i.n c.loop-i.i c.loop-i.invariant (omega arith) c.requires.1
