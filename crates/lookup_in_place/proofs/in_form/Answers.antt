-- `in_form`: test by test. Assumes nothing.
use Rattle.lookup_in_place.proofs.Steps.{no_key, long-key, no-limit, high-limit, too_many, in-order-then}
use borrow.Author.Rules.{rules}
use Rattle.flat_lookup.proofs.number.Reads as number-reads
use Rattle.flat_lookup.proofs.count_in.Reads as count-in-reads
use Rattle.lookup_in_place.proofs.in_order.Reads as in-order-reads
use Rattle.lookup_in_place.proofs.in_form.Goals as goal

pub returns-then-size-lt1 : goal.returns-then-size-lt1
returns-then-size-lt1 c = no_key c.args.m.now _ _ _ c.number-size.ensures.0 c.number-limit.ensures.0 c.count_in-n.ensures c.if-size-lt1.true

pub returns-then-size-gt-MOST_KEY : goal.returns-then-size-gt-MOST_KEY
returns-then-size-gt-MOST_KEY c = long-key c.args.m.now _ _ _ c.number-size.ensures.0 c.number-limit.ensures.0 c.count_in-n.ensures c.if-size-lt1.false c.if-size-gt-MOST_KEY.true

pub returns-then-limit-lt1 : goal.returns-then-limit-lt1
returns-then-limit-lt1 c = no-limit c.args.m.now _ _ _ c.number-size.ensures.0 c.number-limit.ensures.0 c.count_in-n.ensures c.if-size-lt1.false c.if-size-gt-MOST_KEY.false c.if-limit-lt1.true

pub returns-then-limit-gt-LIMIT_MOST : goal.returns-then-limit-gt-LIMIT_MOST
returns-then-limit-gt-LIMIT_MOST c = high-limit c.args.m.now _ _ _ c.number-size.ensures.0 c.number-limit.ensures.0 c.count_in-n.ensures c.if-size-lt1.false c.if-size-gt-MOST_KEY.false c.if-limit-lt1.false c.if-limit-gt-LIMIT_MOST.true

pub returns-then-n-gt-ROOM : goal.returns-then-n-gt-ROOM
returns-then-n-gt-ROOM c = too_many c.args.m.now _ _ _ c.number-size.ensures.0 c.number-limit.ensures.0 c.count_in-n.ensures c.if-size-lt1.false c.if-size-gt-MOST_KEY.false c.if-limit-lt1.false c.if-limit-gt-LIMIT_MOST.false c.if-n-gt-ROOM.true

pub returns : goal.returns
returns c = in-order-then c.args.m.now _ _ _ c.number-size.ensures.0 c.number-limit.ensures.0 c.count_in-n.ensures c.if-size-lt1.false c.if-size-gt-MOST_KEY.false c.if-limit-lt1.false c.if-limit-gt-LIMIT_MOST.false _ c.if-n-gt-ROOM.false c.in_order.ensures
