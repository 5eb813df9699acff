-- `prefix_step` goes by the bytes held and the top bit. Assumes nothing.
use Rattle.stream.proofs.Steps.{closes-first, closes-second, closes-third, holds-first, holds-second, holds-third}
use borrow.Author.Rules.{rules}
use Rattle.stream.proofs.prefix_step.Goals as goal

pub returns-then-z-lt128 : goal.returns-then-z-lt128
returns-then-z-lt128 c = closes-first _ _ _ _ c.in-Nothing.is c.if-z-lt128.true c.wide.ensures.0 c.limit.ensures

pub returns-then-z-lt128-2 : goal.returns-then-z-lt128-2
returns-then-z-lt128-2 c = closes-second _ _ _ _ _ _ c.in-One.is c.if-z-lt128-2.true c.wide-then-z-lt128-2.ensures.0 c.wide-then-z-lt128-2-2.ensures.0 c.close.ensures

pub returns-then-z-lt128-3 : goal.returns-then-z-lt128-3
returns-then-z-lt128-3 c = closes-third _ _ _ _ _ _ _ _ c.in-Two.is c.if-z-lt128-3.true c.wide-then-z-lt128-3.ensures.0 c.wide-then-z-lt128-3-2.ensures.0 c.wide-then-z-lt128-3-3.ensures.0 c.close-then-z-lt128-3.ensures

pub returns-else-z-lt128 : goal.returns-else-z-lt128
returns-else-z-lt128 c = holds-first _ _ c.in-Nothing.is c.if-z-lt128.false

pub returns-else-z-lt128-2 : goal.returns-else-z-lt128-2
returns-else-z-lt128-2 c = holds-second _ _ _ c.in-One.is c.if-z-lt128-2.false

pub returns-else-z-lt128-3 : goal.returns-else-z-lt128-3
returns-else-z-lt128-3 c = holds-third _ _ _ _ c.in-Two.is c.if-z-lt128-3.false
