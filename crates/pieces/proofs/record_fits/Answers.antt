-- `record_fits`: the key, then the value.
use Rattle.pieces.proofs.Pieces.{record-no-key, record-by-value}
use Rattle.pieces.proofs.record_fits.Goals as goal

pub returns-then-key-gt-MOST_KEY : goal.returns-then-key-gt-MOST_KEY
returns-then-key-gt-MOST_KEY c = record-no-key _ _ c.if-key-gt-MOST_KEY.true

pub returns : goal.returns
returns c = record-by-value _ _ c.if-key-gt-MOST_KEY.false
