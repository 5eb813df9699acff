-- `single_len`: nothing for an empty field.
use Rattle.pieces.proofs.Pieces.{single-none, single-size}
use borrow.Author.Rules.{rules}
use Rattle.pieces.proofs.single_len.Goals as goal

pub returns-then-src-eq0 : goal.returns-then-src-eq0
returns-then-src-eq0 c = single-none _ _ c.if-src-eq0.true

pub returns : goal.returns
returns c = single-size _ _ c.requires.0 c.requires.1 c.if-src-eq0.false _ c.field_len.ensures
