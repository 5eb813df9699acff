-- `sha256::word_at` meets its contract. The number of four bytes. Assumes nothing.
use Rattle.std.proofs.Common.{◌∙◌, rules}
use Rattle.sha256.proofs.Words.{number-four}
use Rattle.sha256.proofs.word_at.Goals as goal

pub returns : goal.returns
returns c = c.word_of.ensures ∙ number-four c.args.src.now c.args.at c.requires
