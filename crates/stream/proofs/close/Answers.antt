-- `close` refuses a prefix that isn't minimal. Assumes nothing.
use Rattle.stream.proofs.Steps.{zero-last, some-last}
use borrow.Author.Rules.{rules}
use Rattle.stream.proofs.close.Goals as goal

pub returns-then-z-eq0 : goal.returns-then-z-eq0
returns-then-z-eq0 c = zero-last _ _ c.if-z-eq0.true

pub returns : goal.returns
returns c = some-last _ _ _ c.if-z-eq0.false c.limit.ensures
