-- `put_heard` meets its contract. Assumes nothing.
use Rattle.host_state.specs.State.{answer_view}
use Rattle.host_numbers.proofs.Handing.{by-case}
use lib.Seq.{sets}
use Rattle.node.specs.declared.Answer.{Answer}
use borrow.Author.Rules.{rules}
use Rattle.host_state.proofs.put_heard.Goals as goal
use Rattle.std.specs.Prelude.{Result}
use Rattle.refusal.specs.declared.Refusal.{Refusal}
use mathlib.Core.Path.{ap, ◌∙◌}
use Rattle.std.specs.Prelude.{Ok}

pub returns-in-Ok-Heard : goal.returns-in-Ok-Heard
returns-in-Ok-Heard c = by-case (λ (a : Result Answer Refusal). sets c.args.out.now 4 (answer_view a)) _ _ _ (c.in-Ok-Heard.is ∙ ap Ok (rw c.in-Ok-Heard.is at c.in-Ok-Heard.field-0-is)) c.put_view.ensures
