-- `total`: a body of at most 16,384 bytes.
use borrow.Author.Tests.{le-leb, lt-leb}
use borrow.Author.Rules.{rules}
use Rattle.writer.proofs.total.Goals as goal

pub returns-then-n-le-MOST_BODY : goal.returns-then-n-le-MOST_BODY
returns-then-n-le-MOST_BODY c = rw (le-leb _ _ c.if-n-le-MOST_BODY.true)

pub returns : goal.returns
returns c = rw (lt-leb _ _ c.if-n-le-MOST_BODY.false)
