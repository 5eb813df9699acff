-- `place_of` cuts the place out of the slot.
use mathlib.Core.Path.{◌∙◌, ap}
use Prim.Native.Nat.{ℕ}
use mathlib.Core.List.{List}
use lib.ListN.{take, drop}
use Rattle.contact_table.specs.Table.{place}
use borrow.Author.Rules.{rules}
use Rattle.contact_table.proofs.place_of.Goals as goal

pub returns : goal.returns
unfolding place
returns c = c.up_to.ensures ∙ ap (λ (s : List ℕ). take 32 (drop 8 s)) c.slot_of.ensures
