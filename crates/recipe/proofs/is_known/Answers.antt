-- `is_known`: 1 or 2.
use borrow.Author.Tests.{eq-eqb, ne_eqb}
use Rattle.recipe.specs.Limits.{format_one}
use Rattle.recipe.specs.Faults.{is_known}
use Rattle.recipe.proofs.is_known.Goals as goal

pub returns-then-format-eq-FORMAT_ONE : goal.returns-then-format-eq-FORMAT_ONE
unfolding is_known
returns-then-format-eq-FORMAT_ONE c = rw (eq-eqb c.args.format format_one c.if-format-eq-FORMAT_ONE.true)

pub returns : goal.returns
unfolding is_known
returns c = rw (ne_eqb c.args.format format_one c.if-format-eq-FORMAT_ONE.false)
