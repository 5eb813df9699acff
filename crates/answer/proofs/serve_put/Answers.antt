-- `serve_put`: the parts of the body that the reader found.
use Rattle.replies.specs.Lent.{lent}
use Rattle.answer.proofs.Serving.{key-inside, record-key-inside, value-inside, put-with, put-without}
use borrow.Author.Rules.{rules}
use Rattle.answer.proofs.serve_put.Goals as goal

pub cut-requires : goal.cut-requires
cut-requires c = key-inside _ _ c.requires

pub cut-requires-then-held : goal.cut-requires-then-held
cut-requires-then-held c = record-key-inside _ _ c.requires

pub cut-requires-then-held-2 : goal.cut-requires-then-held-2
cut-requires-then-held-2 c = value-inside _ _ c.requires

pub returns-then-held : goal.returns-then-held
returns-then-held c = λ t. put-with _ _ c.requires (lent t _ _) c.if-held.true _ _ _ c.cut.ensures c.cut-then-held.ensures c.cut-then-held-2.ensures _ _ _ (c.answer_put.ensures t)

pub returns : goal.returns
returns c = λ t. put-without _ _ c.requires (lent t _ _) c.if-held.false
