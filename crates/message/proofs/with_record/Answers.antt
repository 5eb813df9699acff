-- `with_record` reads the occurrence in place.
use Rattle.message.proofs.Gathering.{record-sound, record-broken}
use borrow.Author.Rules.{rules}
use Rattle.message.proofs.with_record.Goals as goal

pub returns-then-well_formed : goal.returns-then-well_formed
returns-then-well_formed c = record-sound _ _ _ _ c.front-part.ensures _ c.well_formed-2.ensures c.if-well_formed.true _ _ c.last_bytes-key.ensures c.last_bytes-value.ensures

pub returns : goal.returns
returns c = record-broken _ _ _ _ c.front-part.ensures _ c.well_formed-2.ensures c.if-well_formed.false
