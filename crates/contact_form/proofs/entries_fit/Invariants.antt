-- `entries_fit` goes on while the entries fit.
use native.Mathlib.Omega.{arith}
use Prim.Native.Nat.{ℕ, ◌-◌, ◌≤◌}
use mathlib.Core.Path.{◌≡◌, sym, ◌∙◌, subst}
use mathlib.Core.Bool.{true}
use borrow.Author.Tests.{not-true, not-false}
use Rattle.octets.specs.Search.{all}
use Rattle.octets.proofs.Searching.{all-zero, all_more, all-fails}
use Rattle.contact_form.specs.Inner.{entry_fits}
use Rattle.contact_form.proofs.entries_fit.Given as goal

abbrev pub invariant-loop-k : goal.invariant-loop-k
invariant-loop-k l = (l.k ≤ 5120) × (all l.k (entry_fits l.table l.at) ≡ true)
