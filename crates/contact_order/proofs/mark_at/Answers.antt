-- `contact_order::mark_at` meets its contract. Assumes nothing.
use native.Mathlib.Omega.{arith}
use Rattle.contacts.specs.Table.{slots_of}
use Rattle.contact_table.proofs.Cuts.{mark-cut}
use Rattle.contact_order.proofs.mark_at.Goals as goal

pub overflow_mul-result : goal.overflow_mul-result
unfolding slots_of
overflow_mul-result c = omega arith

pub bounds-table-i : goal.bounds-table-i
unfolding slots_of
bounds-table-i c = omega arith

pub returns : goal.returns
returns c = mark-cut c.args.table.now c.args.i
