-- `fill` meets its contract. Assumes nothing.
use mathlib.Core.Path.{refl}
use Rattle.flat.proofs.Reading.{fill_none, fill-some}
use borrow.Author.Rules.{rules}
use Rattle.flat.proofs.fill.Goals as goal

pub returns-then-s-at : goal.returns-then-s-at
returns-then-s-at c = fill_none c.args.field.now c.args.s.now c.args.at c.if-s-at.true

pub returns : goal.returns
returns c = fill-some c.args.field.now c.args.s.now _ c.args.at _ c.if-s-at.false refl c.copy.ensures
