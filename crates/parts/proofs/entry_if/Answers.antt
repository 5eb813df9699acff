-- `entry_if`: the three cases.
use Rattle.parts.proofs.entry_if.Goals as goal

pub returns-then-there : goal.returns-then-there
returns-then-there c = rw (c.if-ok.true, c.if-there.true)

pub returns-then-ok : goal.returns-then-ok
returns-then-ok c = rw (c.if-ok.true, c.if-there.false)

pub returns : goal.returns
returns c = rw c.if-ok.false
