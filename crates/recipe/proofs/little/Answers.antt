use native.Mathlib.Omega.{arith}
use borrow.Author.Rules.{rules}
use Rattle.recipe.proofs.Trailer.{little-start, little-fits, little-on, little-done}
use Rattle.recipe.proofs.little.Goals as goal

pub loop-b-init : goal.loop-b-init
loop-b-init c = little-start (search rules)

pub overflow_mul-n : goal.overflow_mul-n
overflow_mul-n c = record { fits = omega (arith, little-fits c.loop-b.invariant (λ k. (c.type_inv.s k).fits) c.requires _ _ c.in-Some.ensures.steps) }

pub overflow_add-n : goal.overflow_add-n
overflow_add-n c = record { fits = omega (arith, little-fits c.loop-b.invariant (λ k. (c.type_inv.s k).fits) c.requires _ _ c.in-Some.ensures.steps) }

pub loop-b-preserved : goal.loop-b-preserved
loop-b-preserved c = little-on c.loop-b.invariant c.next.new.self.iter.rest.now c.in-Some.b.now c.in-Some.ensures.steps

pub returns : goal.returns
returns c = little-done c.loop-b.invariant c.in-None.ensures.steps.0
