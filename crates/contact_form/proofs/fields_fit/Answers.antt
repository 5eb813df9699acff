-- `fields_fit` tests one field after the other.
use mathlib.Core.Path.{◌∙◌}
use native.Mathlib.Omega.{arith}
use Rattle.contact_table.specs.Table.{mark, doubt, id_size, address_count}
use Rattle.contact_form.proofs.FieldTests.{rank-over, doubt-over, id-empty, id-long, many-addresses, addresses-left}
use borrow.Author.Rules.{rules}
use Rattle.contact_form.proofs.fields_fit.Goals as goal

pub overflow_cast-mark : goal.overflow_cast-mark
overflow_cast-mark c = omega (arith, c.type_inv.s 0)

pub returns-then-mark-gt-BUCKET : goal.returns-then-mark-gt-BUCKET
unfolding mark
returns-then-mark-gt-BUCKET c = rank-over c.args.s.now c.if-mark-gt-BUCKET.true

pub returns-then-s-gt1 : goal.returns-then-s-gt1
unfolding mark doubt
returns-then-s-gt1 c = doubt-over c.args.s.now c.if-mark-gt-BUCKET.false c.if-s-gt1.true

pub overflow_cast-id : goal.overflow_cast-id
overflow_cast-id c = omega (arith, c.type_inv.s 2)

pub returns-then-id-lt1 : goal.returns-then-id-lt1
unfolding mark doubt id_size
returns-then-id-lt1 c = id-empty c.args.s.now c.if-mark-gt-BUCKET.false c.if-s-gt1.false c.if-id-lt1.true

pub returns-then-id-gt-MOST_ID : goal.returns-then-id-gt-MOST_ID
unfolding mark doubt id_size
returns-then-id-gt-MOST_ID c = id-long c.args.s.now c.if-mark-gt-BUCKET.false c.if-s-gt1.false c.if-id-lt1.false c.if-id-gt-MOST_ID.true

pub overflow_cast-count : goal.overflow_cast-count
overflow_cast-count c = omega (arith, c.type_inv.s 3)

pub returns-then-count-gt-MOST_ADDRESSES : goal.returns-then-count-gt-MOST_ADDRESSES
unfolding mark doubt id_size address_count
returns-then-count-gt-MOST_ADDRESSES c = many-addresses c.args.s.now c.if-mark-gt-BUCKET.false c.if-s-gt1.false c.if-id-lt1.false c.if-id-gt-MOST_ID.false c.if-count-gt-MOST_ADDRESSES.true

pub returns : goal.returns
unfolding mark doubt id_size address_count
returns c = c.addresses_fit.ensures ∙ addresses-left c.args.s.now c.if-mark-gt-BUCKET.false c.if-s-gt1.false c.if-id-lt1.false c.if-id-gt-MOST_ID.false c.if-count-gt-MOST_ADDRESSES.false
