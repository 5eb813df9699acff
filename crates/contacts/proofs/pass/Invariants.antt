-- `pass` keeps the nearest of the slots that it has passed.
use borrow.Author.Rules.{rules}
use native.Mathlib.Omega.{arith}
use Prim.Native.Nat.{◌+◌, ◌-◌, ◌≤◌}
use mathlib.Core.Path.{◌≡◌, refl, sym, ap, ◌∙◌}
use mathlib.Core.Logic.{⊎_elim}
use lib.ListN.{length}
use Rattle.contacts.specs.Table.{slots_of}
use Rattle.contacts.specs.Near.{sort_onto, shown_below, sorted, filled}
use Rattle.contacts.specs.Inner.{kept}
use Rattle.contact_table.proofs.Cuts.{slots-most, slot_whole}
use Rattle.contacts.proofs.Sorting.{kept-hidden, nearest-kept, nearest-as}
use Rattle.contacts.proofs.pass.Given as goal

abbrev pub invariant-loop-k : goal.invariant-loop-k
invariant-loop-k l = (l.k ≤ l.end) × (l.n ≡ length (kept l.table l.target l.k)) × (l.at ≡ filled (kept l.table l.target l.k))
