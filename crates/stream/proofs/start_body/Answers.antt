-- `start_body`: an empty message is whole at once. Assumes nothing.
use Rattle.stream.proofs.Runs.{gives-empty, gives-begun}
use borrow.Author.Rules.{rules}
use Rattle.stream.proofs.start_body.Goals as goal

pub returns-then-n-eq0 : goal.returns-then-n-eq0
returns-then-n-eq0 c = gives-empty _ _ _ _ _ c.if-n-eq0.true c.open-f.ensures

pub returns : goal.returns
returns c = gives-begun _ _ _ _ _ _ c.if-n-eq0.false c.read_body.ensures
