use Prim.Native.Nat.{◌+◌, ◌-◌, ◌%◌}
use mathlib.Core.Path.{◌≡◌, refl}
use native.Mathlib.Omega.{arith}
use Rattle.recipe_fields.proofs.Steps.{little-put, little-on, little-all}
use Rattle.recipe_fields.proofs.put_little.Goals as goal

pub loop-init : goal.loop-init
loop-init c = little-put _ _ _ _

pub overflow_cast-b : goal.overflow_cast-b
overflow_cast-b c = record { fits = omega arith }

pub slice_bounds-put_raw-end : goal.slice_bounds-put_raw-end
slice_bounds-put_raw-end c = refl

pub loop-preserved : goal.loop-preserved
loop-preserved c =
    let less : c.args.n - (c.loop.counter + 1) ≡ c.args.n - c.loop.counter - 1 = omega arith in
    rw less
    (little-on c.args.buf.now c.args.at _ c.loop.buf c.loop.next (c.args.n - c.loop.counter) c.loop.rest c.loop.invariant (omega arith) (c.loop.rest % 256) refl c.put_raw-next.new.buf c.put_raw-next.result
    c.put_raw-next.ensures)

pub shape_of-buf : goal.shape_of-buf
shape_of-buf c = c.loop.invariant.kept

pub returns : goal.returns
returns c = little-all c.args.buf.now c.args.at _ c.loop.buf c.loop.next (c.args.n - c.loop.counter) c.loop.rest c.loop.invariant (omega arith)
