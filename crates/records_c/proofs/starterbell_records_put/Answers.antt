-- `starterbell_records_put` hands over what `put` gives.
use mathlib.Core.Path.{ap, ◌∙◌}
use Rattle.records_c.specs.Codes.{code_of}
use borrow.Author.Rules.{rules}
use Rattle.records_c.proofs.starterbell_records_put.Goals as goal

pub returns : goal.returns
returns c = (c.code_of.ensures ∙ ap code_of c.put.ensures.0, c.put.ensures.1)
