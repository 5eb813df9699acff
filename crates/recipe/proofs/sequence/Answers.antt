-- `sequence`: the sequence has its place before a value's end.
use borrow.Author.Rules.{rules}
use Rattle.recipe.specs.Recipe.{sequence_of}
use Rattle.recipe.proofs.sequence.Goals as goal

pub returns : goal.returns
unfolding sequence_of
returns c = search rules
