-- `nearer` refuses what isn't three places, and else compares.
use mathlib.Core.Path.{sym, ◌∙◌}
use Rattle.place.proofs.Distance.{nearer-no, nearer-is}
use Rattle.place.proofs.nearer.Goals as goal

pub returns-then-target-ne32 : goal.returns-then-target-ne32
returns-then-target-ne32 c = sym (nearer-no c.args.target.now c.args.a.now c.args.b.now (λ x y z. c.if-target-ne32.true x))

pub returns-then-a-ne32 : goal.returns-then-a-ne32
returns-then-a-ne32 c = sym (nearer-no c.args.target.now c.args.a.now c.args.b.now (λ x y z. c.if-a-ne32.true y))

pub returns-then-b-ne32 : goal.returns-then-b-ne32
returns-then-b-ne32 c = sym (nearer-no c.args.target.now c.args.a.now c.args.b.now (λ x y z. c.if-b-ne32.true z))

pub returns : goal.returns
returns c = c.nearer_place.ensures ∙ sym (nearer-is c.args.target.now c.args.a.now c.args.b.now c.if-target-ne32.false c.if-a-ne32.false c.if-b-ne32.false)
