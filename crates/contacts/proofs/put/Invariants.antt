-- `put` moves each entry from p on up by one.
use native.Mathlib.Omega.{arith}
use borrow.Author.Rules.{rules}
use mathlib.Core.Path.{◌≡◌}
use mathlib.Core.List.{◌++◌, ◌∷◌}
use Prim.Native.Nat.{◌-◌, ◌≤◌}
use lib.ListN.{get_or, take, drop}
use Rattle.contacts.proofs.Shifts.{start-list, start-next, step-list, step-next, ends}
use Rattle.contacts.proofs.put.Given as goal

abbrev pub invariant-loop-i : goal.invariant-loop-i
invariant-loop-i l = (l.p ≤ l.i) × (l.i ≤ 20) × (l.at ≡ take l.i (take l.p l.initial.at ++ l.k ∷ drop l.p l.initial.at) ++ drop l.i l.initial.at) × (l.x ≡ get_or (take l.p l.initial.at ++ l.k ∷ drop l.p l.initial.at) l.i 0)
