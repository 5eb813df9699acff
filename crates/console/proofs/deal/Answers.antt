-- `console::deal` meets its contract. Assumes nothing.
use mathlib.Core.Path.{refl}
use Rattle.console.proofs.Going.{follows}
use Rattle.console.proofs.deal.Goals as goal
use mathlib.Core.Path.{ap, ◌∙◌}
use Rattle.std.specs.Prelude.{Ok}

pub returns-in-Ok-Reply : goal.returns-in-Ok-Reply
returns-in-Ok-Reply c = follows _ _ _ (c.in-Ok-Reply.is ∙ ap Ok (rw c.in-Ok-Reply.is at c.in-Ok-Reply.field-0-is)) c.send.ensures

pub returns-in-Ok-Heard : goal.returns-in-Ok-Heard
returns-in-Ok-Heard c = follows _ _ _ (c.in-Ok-Heard.is ∙ ap Ok (rw c.in-Ok-Heard.is at c.in-Ok-Heard.field-0-is)) refl

pub returns-in-Err : goal.returns-in-Err
returns-in-Err c = follows _ _ _ c.in-Err.is refl

pub returns-in-Ok-More : goal.returns-in-Ok-More
returns-in-Ok-More c = follows _ _ _ (c.in-Ok-More.is ∙ ap Ok (rw c.in-Ok-More.is at c.in-Ok-More.field-0-is)) refl
