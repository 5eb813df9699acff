-- `number_if`: the two cases.
use Rattle.parts.proofs.number_if.Goals as goal

pub returns-then-ok : goal.returns-then-ok
returns-then-ok c = rw c.if-ok.true

pub returns : goal.returns
returns c = rw c.if-ok.false
