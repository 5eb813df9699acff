-- `read_body` copies what is there of a body. Assumes nothing.
use Rattle.stream.proofs.Runs.{gives_part, gives_whole}
use borrow.Author.Rules.{rules}
use Rattle.stream.proofs.read_body.Goals as goal

pub returns-then-there-left : goal.returns-then-there-left
returns-then-there-left c = gives_part _ _ _ _ _ c.requires.0 c.requires.1 _ c.if-there-left.true c.copy.ensures

pub returns : goal.returns
returns c = gives_whole _ _ _ _ _ c.requires.0 c.requires.1 _ _ c.if-there-left.false c.open-f.ensures c.copy-2.ensures
