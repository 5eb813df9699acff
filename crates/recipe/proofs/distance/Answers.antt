-- `distance`: the first distance has its place before a value's end.
use borrow.Author.Rules.{rules}
use Rattle.recipe.specs.Recipe.{distance_of}
use Rattle.recipe.proofs.distance.Goals as goal

pub returns : goal.returns
unfolding distance_of
returns c = search rules
