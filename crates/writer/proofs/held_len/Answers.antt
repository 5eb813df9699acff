-- `held_len`: a record that fits, one that doesn't, or none.
use Rattle.writer.proofs.Whole.{held-no, held-unfit, held-fit}
use borrow.Author.Rules.{rules}
use Rattle.writer.proofs.held_len.Goals as goal

pub returns-then-n-eq0 : goal.returns-then-n-eq0
returns-then-n-eq0 c = held-unfit _ _ _ c.if-held.true _ c.record_len-n.ensures c.if-n-eq0.true

pub returns-then-held : goal.returns-then-held
returns-then-held c = held-fit _ _ _ c.if-held.true _ c.record_len-n.ensures c.if-n-eq0.false

pub returns : goal.returns
returns c = held-no _ _ _ c.if-held.false
