-- `limit` refuses a length over the largest. Assumes nothing.
use Rattle.stream.proofs.Steps.{over-limit, in-limit}
use Rattle.stream.proofs.limit.Goals as goal

pub returns-then-n-gt-MOST_BODY : goal.returns-then-n-gt-MOST_BODY
returns-then-n-gt-MOST_BODY c = over-limit _ c.if-n-gt-MOST_BODY.true

pub returns : goal.returns
returns c = in-limit _ c.if-n-gt-MOST_BODY.false
