-- `in_form` goes by the framing's case. Assumes nothing.
use Rattle.stream.proofs.Steps.{body-long, body-fits}
use borrow.Author.Rules.{rules}
use Rattle.stream.proofs.in_form.Goals as goal

pub returns-then-want-gt-MOST_BODY : goal.returns-then-want-gt-MOST_BODY
returns-then-want-gt-MOST_BODY c = body-long _ _ _ c.in-Body.is c.if-want-gt-MOST_BODY.true

pub returns-else-want-gt-MOST_BODY : goal.returns-else-want-gt-MOST_BODY
returns-else-want-gt-MOST_BODY c = body-fits _ _ _ c.in-Body.is c.if-want-gt-MOST_BODY.false
