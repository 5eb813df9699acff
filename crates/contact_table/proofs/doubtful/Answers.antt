-- `doubtful` reads byte 1.
use mathlib.Core.Path.{◌∙◌, ap}
use mathlib.Core.Bool.{not}
use Prim.Native.Nat.{ℕ}
use mathlib.Core.List.{List}
use lib.Dec.{eqb}
use lib.ListN.{get_or}
use Rattle.contact_table.specs.Table.{doubt, doubtful}
use borrow.Author.Rules.{rules}
use Rattle.contact_table.proofs.doubtful.Goals as goal

pub returns : goal.returns
unfolding doubtful doubt
returns c = ap (λ (n : ℕ). not (eqb n 0)) (c.byte.ensures.0 ∙ ap (λ (s : List ℕ). get_or s 1 0) c.slot_of.ensures)
