-- `answer_get`: the key first.
use Rattle.replies.proofs.Serving.{fits-most, told-yes, told-no}
use borrow.Author.Rules.{rules}
use Rattle.replies.proofs.answer_get.Goals as goal

pub get_value-requires : goal.get_value-requires
get_value-requires c = fits-most _ _ c.key_fits.ensures c.if-key_fits.true

pub returns-then-key_fits : goal.returns-then-key_fits
returns-then-key_fits c = told-yes _ _ c.key_fits.ensures c.if-key_fits.true _ _ _ _ c.get_value.ensures

pub returns : goal.returns
returns c = told-no _ _ c.key_fits.ensures c.if-key_fits.false _ _
