-- `starterbell_message_write` hands over what `write` gives.
use mathlib.Core.Path.{ap, ◌∙◌}
use Rattle.message_c.specs.Codes.{write_code}
use borrow.Author.Rules.{rules}
use Rattle.message_c.proofs.starterbell_message_write.Goals as goal

pub returns : goal.returns
returns c = (c.write_code.ensures ∙ ap write_code c.write.ensures.0, c.write.ensures.1)
