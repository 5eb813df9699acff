-- `keep_next`: refused, asked or neither. Assumes nothing.
use Rattle.lookup_in_place.proofs.Steps.{next-asked, next-stayed}
use borrow.Author.Rules.{rules}
use Rattle.lookup_in_place.proofs.ask.Reads as ask-reads
use Rattle.lookup_in_place.proofs.asked.Reads as asked-reads
use Rattle.lookup_in_place.proofs.is_refused.Reads as is-refused-reads
use Rattle.lookup_in_place.proofs.tidy.Reads as tidy-reads
use Rattle.lookup_in_place.proofs.keep_next.Goals as goal

pub returns-then-i-lt-ROOM : goal.returns-then-i-lt-ROOM
returns-then-i-lt-ROOM c = next-asked c.args.m.now _ _ c.requires.1 _ c.is_refused.ensures c.if-is_refused.false _ c.asked-i.ensures c.if-i-lt-ROOM.true c.ask.ensures

pub returns : goal.returns
returns c = next-stayed c.args.m.now _ _ c.requires.1 _ c.is_refused.ensures c.if-is_refused.false _ c.asked-i.ensures c.if-i-lt-ROOM.false c.tidy.ensures
