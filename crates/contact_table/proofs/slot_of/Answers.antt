-- `slot_of` cuts at the table's end where the slot isn't whole.
use mathlib.Core.Path.{◌∙◌}
use lib.ListN.{length}
use Prim.Native.Nat.{◌*◌}
use native.Mathlib.Omega.{arith}
use Rattle.contact_table.proofs.Cuts.{slot-none, slot-short}
use Rattle.octets.proofs.Parts.{cut-end}
use borrow.Author.Rules.{rules}
use Rattle.contact_table.specs.Table.{slot_size}
use Rattle.contact_table.proofs.slot_of.Goals as goal

pub returns-then-whole-i : goal.returns-then-whole-i
returns-then-whole-i c = cut-end c.args.table.now (length c.args.table.now) ∙ slot-none c.args.table.now c.args.i (length c.args.table.now) c.if-whole-i.true (omega arith)

pub returns : goal.returns
returns c = cut-end c.args.table.now (c.args.i * slot_size) ∙ slot-short c.args.table.now c.args.i c.if-i-whole.false
