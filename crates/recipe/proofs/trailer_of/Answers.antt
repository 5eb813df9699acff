-- `trailer_of`: 24 bytes in format 2.
use borrow.Author.Tests.{eq-eqb, ne_eqb}
use Rattle.recipe.specs.Limits.{format_two}
use Rattle.recipe.specs.Recipe.{trailer_of}
use Rattle.recipe.proofs.trailer_of.Goals as goal

pub returns-then-format-eq-FORMAT_TWO : goal.returns-then-format-eq-FORMAT_TWO
unfolding trailer_of
returns-then-format-eq-FORMAT_TWO c = rw (eq-eqb c.args.format format_two c.if-format-eq-FORMAT_TWO.true)

pub returns : goal.returns
unfolding trailer_of
returns c = rw (ne_eqb c.args.format format_two c.if-format-eq-FORMAT_TWO.false)
