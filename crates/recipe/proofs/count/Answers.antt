-- `count`: the first count has its place before a value's end.
use borrow.Author.Rules.{rules}
use Rattle.recipe.specs.Recipe.{count_of}
use Rattle.recipe.proofs.count.Goals as goal

pub returns : goal.returns
unfolding count_of
returns c = search rules
