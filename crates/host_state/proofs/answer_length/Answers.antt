-- `answer_length` meets its contract. Assumes nothing.
use Rattle.host_state.specs.State.{answer_length}
use Rattle.host_numbers.proofs.Handing.{by-case}
use mathlib.Core.Path.{refl}
use borrow.Author.Rules.{rules}
use Rattle.host_state.proofs.answer_length.Goals as goal
use mathlib.Core.Path.{ap, ◌∙◌}
use Rattle.std.specs.Prelude.{Ok}

pub returns-in-Ok-Heard : goal.returns-in-Ok-Heard
returns-in-Ok-Heard c = by-case answer_length _ _ _ (c.in-Ok-Heard.is ∙ ap Ok (rw c.in-Ok-Heard.is at c.in-Ok-Heard.field-0-is)) refl
