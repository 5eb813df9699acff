-- `mark_of` reads byte 0.
use mathlib.Core.Path.{◌∙◌, ap}
use Prim.Native.Nat.{ℕ}
use mathlib.Core.List.{List}
use lib.ListN.{get_or}
use Rattle.contact_table.specs.Table.{mark}
use borrow.Author.Rules.{rules}
use Rattle.contact_table.proofs.mark_of.Goals as goal

pub returns : goal.returns
unfolding mark
returns c = c.byte.ensures.0 ∙ ap (λ (s : List ℕ). get_or s 0 0) c.slot_of.ensures
