-- `word` is the number of eight bytes, or of as many as there are.
use mathlib.Core.Path.{refl, sym, ◌∙◌}
use Rattle.octets.proofs.Numbers.{word_none, word-few}
use Rattle.octets.proofs.word.Goals as goal

pub returns-then-n-at : goal.returns-then-n-at
returns-then-n-at c = sym (word_none c.args.s.now c.args.at c.if-n-at.true)

pub returns-then-n-at-lt8 : goal.returns-then-n-at-lt8
returns-then-n-at-lt8 c = c.short_word.ensures ∙ word-few c.args.s.now c.args.at _ c.if-n-at.false c.if-n-at-lt8.true refl
