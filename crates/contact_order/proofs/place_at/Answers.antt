-- `contact_order::place_at` cuts the place out of the table. Assumes nothing.
use native.Mathlib.Omega.{arith}
use mathlib.Core.Path.{◌∙◌, ap}
use lib.ListN.{length}
use Rattle.contacts.specs.Table.{slots_of}
use Rattle.contact_table.proofs.Cuts.{place-cut, place-size, slot_whole}
use borrow.Author.Rules.{rules}
use Rattle.contact_order.proofs.place_at.Goals as goal

pub overflow_mul-from : goal.overflow_mul-from
unfolding slots_of
overflow_mul-from c = omega arith

pub overflow_add-from : goal.overflow_add-from
unfolding slots_of
overflow_add-from c = omega arith

pub overflow_add-to : goal.overflow_add-to
unfolding slots_of
overflow_add-to c = omega arith

pub slice_bounds-result-count : goal.slice_bounds-result-count
unfolding slots_of
slice_bounds-result-count c = search rules

pub slice_bounds-result-start : goal.slice_bounds-result-start
unfolding slots_of
slice_bounds-result-start c = search rules

pub slice_bounds-result-end : goal.slice_bounds-result-end
unfolding slots_of
slice_bounds-result-end c = omega arith

pub returns : goal.returns
returns c = (place-cut c.args.table.now c.args.i, ap length (place-cut c.args.table.now c.args.i) ∙ place-size c.args.table.now c.args.i (slot_whole c.args.table.now c.args.i c.requires))
