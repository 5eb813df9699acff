-- `answer_find`: the key first.
use Rattle.replies.proofs.Serving.{told-yes, told-no}
use borrow.Author.Rules.{rules}
use Rattle.replies.proofs.answer_find.Goals as goal

pub returns-then-key_fits : goal.returns-then-key_fits
returns-then-key_fits c = told-yes _ _ c.key_fits.ensures c.if-key_fits.true _ _ _ _ c.find_node.ensures

pub returns : goal.returns
returns c = told-no _ _ c.key_fits.ensures c.if-key_fits.false _ _
