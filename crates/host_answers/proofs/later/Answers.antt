-- `later` meets its contract. Assumes nothing.
use Rattle.host_answers.proofs.Handing.{later_second, later_first}
use Rattle.host_answers.proofs.later.Goals as goal

pub returns-then-a-b : goal.returns-then-a-b
returns-then-a-b c = later_second _ _ c.if-a-b.true

pub returns : goal.returns
returns c = later_first _ _ c.if-a-b.false
