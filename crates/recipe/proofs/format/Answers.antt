-- `format`: the format has its place before a value's end.
use borrow.Author.Rules.{rules}
use Rattle.recipe.specs.Recipe.{format_of}
use Rattle.recipe.proofs.format.Goals as goal

pub returns : goal.returns
unfolding format_of
returns c = search rules
