-- `id_of` cuts the id at its length, or at 64.
use mathlib.Core.Path.{◌∙◌, ap}
use native.Mathlib.Omega.{arith}
use Rattle.contact_table.specs.Table.{id_size}
use Rattle.contact_table.specs.Contact.{entry_id}
use Rattle.contact_table.proofs.Cuts.{entry-id}
use borrow.Author.Rules.{rules}
use Rattle.contact_table.proofs.id_of.Goals as goal

pub returns : goal.returns
unfolding id_size
returns c = c.up_to.ensures ∙ entry-id c.slot_of-s.result.now c.at_most.result (omega arith) ∙ ap entry_id c.slot_of-s.ensures
