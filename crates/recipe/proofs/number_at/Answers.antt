-- `number_at` cuts the number out.
use native.Mathlib.Omega.{arith}
use Rattle.recipe.proofs.Trailer.{number-few, number-here}
use Rattle.recipe.proofs.number_at.Goals as goal

pub slice_bounds-little-count : goal.slice_bounds-little-count
slice_bounds-little-count c = omega (arith, c.back-b.ensures, c.back-a.ensures)

pub slice_bounds-little-start : goal.slice_bounds-little-start
slice_bounds-little-start c = omega (arith, c.back-b.ensures, c.back-a.ensures)

pub slice_bounds-little-end : goal.slice_bounds-little-end
slice_bounds-little-end c = omega (arith, c.back-b.ensures)

pub little-requires : goal.little-requires
little-requires c = number-few c.args.value.now c.args.d c.args.e c.requires.1 c.back-a.ensures c.back-b.ensures

pub returns : goal.returns
returns c = number-here c.args.value.now c.args.d c.args.e c.back-a.ensures c.back-b.ensures c.little.ensures
