-- `prefix_of` goes by how many bytes are held. Assumes nothing.
use Rattle.flat.proofs.Reading.{none-held, one-held, two-held, too-many-held}
use borrow.Author.Rules.{rules}
use Rattle.flat.proofs.prefix_of.Goals as goal

pub returns-then-held-eq0 : goal.returns-then-held-eq0
returns-then-held-eq0 c = none-held c.args.held c.args.a c.args.b c.if-held-eq0.true

pub returns-then-held-eq1 : goal.returns-then-held-eq1
returns-then-held-eq1 c = one-held c.args.held c.args.a c.args.b c.if-held-eq0.false c.if-held-eq1.true

pub returns-then-held-eq2 : goal.returns-then-held-eq2
returns-then-held-eq2 c = two-held c.args.held c.args.a c.args.b c.if-held-eq0.false c.if-held-eq1.false c.if-held-eq2.true

pub returns : goal.returns
returns c = too-many-held c.args.held c.args.a c.args.b c.if-held-eq0.false c.if-held-eq1.false _ c.unread_framing.ensures c.if-held-eq2.false
