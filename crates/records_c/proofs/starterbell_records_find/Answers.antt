-- `starterbell_records_find` hands over what `find` gives.
use mathlib.Core.Path.{ap, ◌∙◌}
use Rattle.records_c.specs.Codes.{start_of}
use borrow.Author.Rules.{rules}
use Rattle.records_c.proofs.starterbell_records_find.Goals as goal

pub returns : goal.returns
returns c = c.start_of.ensures ∙ ap start_of c.find.ensures
