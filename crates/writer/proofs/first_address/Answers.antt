-- `first_address`: after its two bytes of length.
use native.Mathlib.Omega.{arith}
use Rattle.writer.proofs.Entries.{first-none, first-is, address-two}
use borrow.Author.Rules.{rules}
use Rattle.writer.proofs.first_address.Goals as goal

pub returns-then-list-size : goal.returns-then-list-size
returns-then-list-size c = first-none _ _ c.address_size-size.ensures.0 c.if-list-size.true

pub slice_bounds-result-count-2 : goal.slice_bounds-result-count-2
slice_bounds-result-count-2 c = omega (arith, c.address_size-size.ensures.0, address-two c.args.list.now)

pub slice_bounds-result-start-2 : goal.slice_bounds-result-start-2
slice_bounds-result-start-2 c = omega (arith, c.address_size-size.ensures.0, address-two c.args.list.now)

pub returns : goal.returns
returns c = first-is _ _ c.address_size-size.ensures.0 (omega arith)
