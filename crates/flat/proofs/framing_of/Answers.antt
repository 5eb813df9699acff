-- `framing_of` goes by the kind. Assumes nothing.
use Rattle.flat.proofs.Reading.{kind-shut, kind-prefix, kind-body, kind-other}
use borrow.Author.Rules.{rules}
use Rattle.flat.proofs.framing_of.Goals as goal

pub returns-then-kind-eq0 : goal.returns-then-kind-eq0
returns-then-kind-eq0 c = kind-shut c.args.kind c.args.held c.args.a c.args.b c.args.want c.args.have c.if-kind-eq0.true

pub returns-then-kind-eq1 : goal.returns-then-kind-eq1
returns-then-kind-eq1 c = kind-prefix c.args.kind c.args.held c.args.a c.args.b c.args.want c.args.have c.if-kind-eq0.false _ c.prefix_of.ensures c.if-kind-eq1.true

pub returns-then-kind-eq2 : goal.returns-then-kind-eq2
returns-then-kind-eq2 c = kind-body c.args.kind c.args.held c.args.a c.args.b c.args.want c.args.have c.if-kind-eq0.false c.if-kind-eq1.false c.if-kind-eq2.true

pub returns : goal.returns
returns c = kind-other c.args.kind c.args.held c.args.a c.args.b c.args.want c.args.have c.if-kind-eq0.false c.if-kind-eq1.false _ c.unread_framing.ensures c.if-kind-eq2.false
