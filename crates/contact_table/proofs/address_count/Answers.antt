-- `address_count` caps byte 3.
use mathlib.Core.Path.{◌∙◌, ap}
use Prim.Native.Nat.{ℕ, min}
use mathlib.Core.List.{List}
use lib.ListN.{get_or}
use Rattle.contact_table.specs.Table.{address_count}
use Rattle.contact_table.specs.Contact.{entry_count}
use borrow.Author.Rules.{rules}
use Rattle.contact_table.proofs.address_count.Goals as goal

pub returns : goal.returns
unfolding entry_count address_count
returns c = c.at_most.ensures ∙ ap (λ (n : ℕ). min n 4) (c.byte.ensures.0 ∙ ap (λ (s : List ℕ). get_or s 3 0) c.slot_of.ensures)
