-- `words_of` reads four words.
use Rattle.contact_form.proofs.Pairs.{words-as}
use borrow.Author.Rules.{rules}
use Rattle.contact_form.proofs.words_of.Goals as goal

pub returns : goal.returns
returns c = words-as c.args.p.now c.word-a.ensures c.word-b.ensures c.word-c.ensures c.word-d.ensures
